-- Which places have members, and on which sides of links members are.
use Rattle.std.proofs.Common.{◌≡◌, ℕ, zero, suc, ◌+◌, ◌<◌, ◌≤◌, min, Bool, true, false, not, cond, List, [], ◌∷◌, ◌++◌, length, Some}
use Rattle.std.proofs.Common.{refl, sym, ap, ◌∙◌, subst, inl, inr, arith, slice_get, slice_index, slice_set, take}
use Rattle.std.proofs.lemmas.Bool.{cases_Bool, cases_eq, false≢true, or_right}
use Rattle.std.proofs.lemmas.List.{get_or-set_same, get_or-set_other, take_more}
use Rattle.srm_net.specs.declared.link.LinkSpec.{LinkSpec}
use Rattle.srm_net.specs.declared.occupied.Occupied.{Occupied}
use Rattle.srm_net.specs.declared.position.Position.{Position}
use Rattle.srm_net.specs.declared.sides.Sides.{Sides}
use Rattle.srm_net.specs.Network.{Network}
use Rattle.srm_net.specs.Occupancy.{places_of, IsNextFree, TellsNext, TellsAny, TellsOther, IsOccupied}
use Rattle.srm_net.specs.Paths.{is_in, host, some_below}
use Rattle.srm_net.specs.Rooting.{at, IsRooted, IsHeld}
use Rattle.srm_net.specs.Tables.{is_beyond, TellsSides}
use Rattle.srm_net.proofs.Beyond.{a_holds, b_holds}
use Rattle.srm_net.proofs.DropLemmas.{any_push}
use Rattle.srm_net.proofs.Numbers.{in_head, in_tail, in_cases}
use Rattle.srm_net.proofs.PathLaws.{LinkOf, ends_below, host_below}

-- ---- places outside of a span

pub other_before : (places : List ℕ) (q : Position) (b : Bool) → TellsAny places 0 q.place b → b ≡ true → TellsOther places q b
other_before places q b t e = grind arith

pub other_after : (places : List ℕ) (size : ℕ) (next : List ℕ) (q : Position) (a b : Bool) → TellsNext places size next
    → TellsAny places 0 q.place a → a ≡ false → TellsAny places q.end size b → TellsOther places q b
other_after places size next q a b n t e u = grind arith

-- ---- the first place from each on

-- one place earlier
pub next_before : (places : List ℕ) (size i own later first : ℕ) → i < size → own ≡ cond (is_in places i) i size
    → IsNextFree places size (i + 1) later → first ≡ min own later → IsNextFree places size i first
next_before places size i own later first lt e n f = grind arith

-- ---- marks at places

abbrev pub MarksAt : List ℕ → ℕ → List ℕ → Type 0
MarksAt places size next = (i : ℕ) → i ≤ size → slice_index next i ≡ cond (is_in places i) i size

pub mark_place : (places : List ℕ) (size p : ℕ) (next : List ℕ) → length next ≡ size + 1 → p < size → MarksAt places size next
    → MarksAt (places ++ p ∷ []) size (slice_set next p p)
mark_place places size p next long lt m i h = grind (arith, get_or-set_same, any_push, get_or-set_other)

pub places_more : (ps : List Position) (hosts : List ℕ) (i : ℕ) → i < length hosts
    → places_of ps (take (i + 1) hosts) ≡ places_of ps (take i hosts) ++ (at ps (slice_index hosts i)).place ∷ []
places_more ps hosts i h = ap (places_of ps) (take_more hosts i 0 h) ∙ places_push (take i hosts) (slice_index hosts i)
  where
    places_push : (us : List ℕ) (u : ℕ) → places_of ps (us ++ u ∷ []) ≡ places_of ps us ++ (at ps u).place ∷ []
    places_push [] u = refl
    places_push (v ∷ us) u = ap (λ t. (at ps v).place ∷ t) (places_push us u)

-- ---- places of members

pub place_in_places : (ps : List Position) (hosts : List ℕ) (m : ℕ) → m < length hosts
    → is_in (places_of ps hosts) (at ps (slice_index hosts m)).place ≡ true
place_in_places ps [] m h = absurd (omega arith)
place_in_places ps (u ∷ us) zero h = in_head (at ps u).place (places_of ps us)
place_in_places ps (u ∷ us) (suc m) h =
    in_tail (at ps u).place (at ps (slice_index us m)).place (places_of ps us) (place_in_places ps us m (omega arith))

pub member_at : (ps : List Position) (hosts : List ℕ) (p : ℕ) → is_in (places_of ps hosts) p ≡ true
    → (m : ℕ) × (m < length hosts) × ((at ps (slice_index hosts m)).place ≡ p)
member_at ps [] p i = absurd (false≢true i)
member_at ps (u ∷ us) p i =
    elim (in_cases (at ps u).place p (places_of ps us) i) [
      | inl e ↦ (0, omega arith, e)
      | inr j ↦ (let r = member_at ps us p j in let lt : r.0 < length us = r.1 in (suc r.0, omega arith, r.2))
    ]

-- ---- some of the members

pub some_found : (f : ℕ → Bool) (n m : ℕ) → m < n → f m ≡ true → some_below f n ≡ true
some_found f zero m h e = absurd (omega arith)
some_found f (suc n) m h e =
    elim (cases_eq m n) [
      | inl q ↦ (let here : f n ≡ true = subst (λ k. f k ≡ true) q e in rw here refl)
      | inr q ↦ (let rest = some_found f n m (omega arith) e in or_right (f n) (some_below f n) rest)
    ]

none_found : (f : ℕ → Bool) (n : ℕ) → ((m : ℕ) → m < n → f m ≡ false) → some_below f n ≡ false
none_found f zero h = refl
none_found f (suc n) h =
    let here : f n ≡ false = h n (omega arith) in
    let rest = none_found f n (λ m lt. h m (omega arith)) in
    rw here rest

module _ (ps : List Position) (hosts : List ℕ) (q : Position) (f : ℕ → Bool) (b : Bool) where
  inner_is : ((m : ℕ) → m < length hosts → IsHeld q (at ps (slice_index hosts m)) → f m ≡ true)
      → ((m : ℕ) → m < length hosts → (IsHeld q (at ps (slice_index hosts m)) → ⊥) → f m ≡ false)
      → TellsAny (places_of ps hosts) q.place q.end b → b ≡ some_below f (length hosts)
  inner_is held apart t =
      elim (cases_Bool b) [
        | inl e ↦ (let s = t.some e in
            let m = member_at ps hosts s.0 s.1 in
            let is : (at ps (slice_index hosts m.0)).place ≡ s.0 = m.2 in
            let s2 : q.place ≤ s.0 = s.2 in
            let s3 : s.0 < q.end = s.3 in
            e ∙ sym (some_found f (length hosts) m.0 m.1 (held m.0 m.1 (omega arith, omega arith))))
        | inr e ↦ e ∙ sym (none_found f (length hosts) (λ m lt. apart m lt (λ h.
            t.none e (at ps (slice_index hosts m)).place (place_in_places ps hosts m lt) h.0 h.1)))
      ]

  outer_is : ((m : ℕ) → m < length hosts → IsHeld q (at ps (slice_index hosts m)) → f m ≡ false)
      → ((m : ℕ) → m < length hosts → (IsHeld q (at ps (slice_index hosts m)) → ⊥) → f m ≡ true)
      → TellsOther (places_of ps hosts) q b → b ≡ some_below f (length hosts)
  outer_is apart held t =
      elim (cases_Bool b) [
        | inl e ↦ (let s = t.some e in
            let m = member_at ps hosts s.0 s.1 in
            let is : (at ps (slice_index hosts m.0)).place ≡ s.0 = m.2 in
            e ∙ sym (some_found f (length hosts) m.0 m.1 (held m.0 m.1 (λ h.
            let h0 : q.place ≤ (at ps (slice_index hosts m.0)).place = h.0 in
            let h1 : (at ps (slice_index hosts m.0)).place < q.end = h.1 in
            s.2 (omega arith) (omega arith)))))
        | inr e ↦ e ∙ sym (none_found f (length hosts) (λ m lt. apart m lt
            (t.none e (at ps (slice_index hosts m)).place (place_in_places ps hosts m lt))))
      ]

-- ---- the ends of subtrees

ends_most : (w : Network) (ps : List Position) (r : IsRooted w ps) (n u : ℕ) → r.place u ≤ n → u < w.nodes → (at ps u).end ≤ (at ps 0).end
ends_most w ps r zero u h hu =
    let root : r.place 0 ≡ 0 = r.root in
    let same : u ≡ 0 = r.apart u 0 hu r.tree.some_nodes (omega arith) in
    subst (λ v. (at ps v).end ≤ (at ps 0).end) (sym same) (omega arith)
ends_most w ps r (suc n) u h hu =
    elim (cases_eq (r.place u) 0) [
      | inl z ↦ ends_most w ps r n u (omega arith) hu
      | inr z ↦ (let one : 1 ≤ r.place u = omega arith in
          let up = (r.each u hu).parent one in
          let low : r.place (at ps u).parent < r.place u = up.earlier in
          let above = ends_most w ps r n (at ps u).parent (omega arith) up.node in
          let nested : (at ps u).end ≤ (at ps (at ps u).parent).end = r.nested u hu one in
          omega arith)
    ]

pub end_within : (w : Network) (ps : List Position) → IsRooted w ps → (u : ℕ) → u < w.nodes → (at ps u).end ≤ (at ps 0).end
end_within w ps r u hu = ends_most w ps r (r.place u) u (omega arith) hu

pub end_fits : (w : Network) (ps : List Position) (o : Occupied) → IsOccupied w ps o → (u : ℕ) → u < w.nodes → (q : Position)
    → q ≡ at ps u → (q.end ≤ o.size) × (q.end < length o.next.items)
end_fits w ps o i u hu q e =
    let most : (at ps u).end ≤ (at ps 0).end = end_within w ps i.rooted u hu in
    let is : q.end ≡ (at ps u).end = ap (λ (p : Position). p.end) e in
    let size : o.size ≡ (at ps 0).end = i.size in
    let long : length o.next.items ≡ o.size + 1 = i.told.long in
    (omega arith, omega arith)

pub place_within : (w : Network) (ps : List Position) → IsRooted w ps → (u : ℕ) → u < w.nodes → (at ps u).place < (at ps 0).end
place_within w ps r u hu = subst (λ p. p < (at ps 0).end) (sym (r.each u hu).place_is) (r.whole u hu)

pub place_fits : (w : Network) (ps : List Position) (o : Occupied) → IsOccupied w ps o → (u : ℕ) → u < w.nodes → (q : Position)
    → q ≡ at ps u → (q.place ≤ o.size) × (q.place < length o.next.items)
place_fits w ps o i u hu q e = grind arith

-- ---- the sides of a link

module _ (w : Network) (ps : List Position) (o : Occupied) (i : IsOccupied w ps o) (l : ℕ) (k : LinkSpec)
    (g : slice_get w.links l ≡ Some k) where
  link_of : LinkOf w l k
  link_of = record { tree = i.rooted.tree; link = g }

  pub ends_there : (k.a < w.nodes) × (k.b < w.nodes)
  ends_there = ends_below w l k link_of

  here : (m : ℕ) → m < length w.hosts → host w m < w.nodes
  here m lt = host_below w i.network m lt

  pub b_lower : (a b : Position) → a ≡ at ps k.a → b ≡ at ps k.b → a.place < b.place → (outer inner : Bool)
      → TellsOther (places_of ps w.hosts) b outer → TellsAny (places_of ps w.hosts) b.place b.end inner
      → TellsSides w l k (record { a = outer; b = inner })
  b_lower a b ea eb lt outer inner to ti =
      let lt1 : (at ps k.a).place < b.place = subst (λ (q : Position). q.place < b.place) ea lt in
      let lt2 : (at ps k.a).place < (at ps k.b).place = subst (λ (q : Position). (at ps k.a).place < q.place) eb lt1 in
      let held : (m : ℕ) → m < length w.hosts → IsHeld b (at ps (host w m)) → is_beyond w l k (host w m) ≡ true =
      λ m hm h. sym (b_holds w ps i.rooted l k g lt2 (host w m) (here m hm) true
      (λ _. subst (λ (q : Position). IsHeld q (at ps (host w m))) eb h) (λ _ _. refl)) in
      let apart : (m : ℕ) → m < length w.hosts → (IsHeld b (at ps (host w m)) → ⊥) → is_beyond w l k (host w m) ≡ false =
      λ m hm n. sym (b_holds w ps i.rooted l k g lt2 (host w m) (here m hm) false
      (λ t. absurd (false≢true t)) (λ p q. absurd (n (subst (λ (q : Position). IsHeld q (at ps (host w m))) (sym eb) (p, q))))) in
      record {
        a = outer_is ps w.hosts b (λ m. not (is_beyond w l k (host w m))) outer
            (λ m hm h. ap not (held m hm h)) (λ m hm n. ap not (apart m hm n)) to;
        b = inner_is ps w.hosts b (λ m. is_beyond w l k (host w m)) inner held apart ti;
      }

  pub a_lower : (a b : Position) → a ≡ at ps k.a → b ≡ at ps k.b → b.place ≤ a.place → (inner outer : Bool)
      → TellsAny (places_of ps w.hosts) a.place a.end inner → TellsOther (places_of ps w.hosts) a outer
      → TellsSides w l k (record { a = inner; b = outer })
  a_lower a b ea eb le inner outer ti to =
      let le1 : b.place ≤ (at ps k.a).place = subst (λ (q : Position). b.place ≤ q.place) ea le in
      let le2 : (at ps k.b).place ≤ (at ps k.a).place = subst (λ (q : Position). q.place ≤ (at ps k.a).place) eb le1 in
      let held : (m : ℕ) → m < length w.hosts → IsHeld a (at ps (host w m)) → is_beyond w l k (host w m) ≡ false =
      λ m hm h. sym (a_holds w ps i.rooted l k g le2 (host w m) (here m hm) true
      (λ _. subst (λ (q : Position). IsHeld q (at ps (host w m))) ea h) (λ _ _. refl)) in
      let apart : (m : ℕ) → m < length w.hosts → (IsHeld a (at ps (host w m)) → ⊥) → is_beyond w l k (host w m) ≡ true =
      λ m hm n. sym (a_holds w ps i.rooted l k g le2 (host w m) (here m hm) false
      (λ t. absurd (false≢true t)) (λ p q. absurd (n (subst (λ (q : Position). IsHeld q (at ps (host w m))) (sym ea) (p, q))))) in
      record {
        a = inner_is ps w.hosts a (λ m. not (is_beyond w l k (host w m))) inner
            (λ m hm h. ap not (held m hm h)) (λ m hm n. ap not (apart m hm n)) ti;
        b = outer_is ps w.hosts a (λ m. is_beyond w l k (host w m)) outer held apart to;
      }

-- the same at the network that callers see
pub sides_seen : (v w : Network) → v ≡ w → (l : ℕ) (j k : LinkSpec) (s : Sides) → slice_get w.links l ≡ Some j
    → slice_get w.links l ≡ Some k → TellsSides v l j s → TellsSides w l k s
sides_seen v w e l j k s g h t =
    let same : j ≡ k = (let q : Some j ≡ Some k = sym g ∙ h in cc) in
    subst (λ (i : LinkSpec). TellsSides w l i s) same (subst (λ (n : Network). TellsSides n l j s) e t)
