-- Packets with a scope: of each of their ways the first links count.
use Rattle.std.proofs.Common.{◌≡◌, ◌≢◌, ℕ, zero, suc, ◌+◌, ◌<◌, ◌≤◌, Bool, true, false, not, cond, ◌&&◌, ◌||◌, List, [], ◌∷◌, ◌++◌, length}
use Rattle.std.proofs.Common.{Option, Some, None, refl, sym, ap, ◌∙◌, subst, inl, inr, arith, take, max, nat_le, ◌==◌, eq-eqb, slice_get}
use Rattle.std.specs.List.{list_any}
use Rattle.std.proofs.lemmas.Bool.{cases_Bool, and_parts, and_from, or_cases, or_left, or_right, or_parts, or_from, ne_eqb, false≢true}
use Rattle.std.proofs.lemmas.Bool.{le-leb, lt-leb, leb-true}
use Rattle.std.proofs.lemmas.List.{take_all, take-append-drop, length-take}
use Rattle.srm_net.specs.declared.link.LinkSpec.{LinkSpec}
use Rattle.srm_net.specs.declared.packet.PacketId.{PacketId}
use Rattle.srm_net.specs.Network.{Network, IsNetwork}
use Rattle.srm_net.specs.Paths.{delay_of, delay_along, end_of, host, route, hops_between, hops, is_in, is_within, first, Stop, stop, stops}
use Rattle.srm_net.specs.Paths.{takes_out, member_stops, crossed_on, dropped_on, some_below, reaches, crosses, drops_at}
use Rattle.srm_net.specs.DropRules.{DropRules}
use Rattle.srm_net.specs.Spreads.{PlainSpread, IsSpread, FitsIn}
use Rattle.srm_net.specs.Tables.{is_beyond, near_end, far_from, covers}
use Rattle.srm_net.specs.Laws.{ScopesLeaveTheFirst, NoScopeEndsNoWay, IsNoWider, NarrowScopesTakePart, WideScopesDecideNothing}
use Rattle.srm_net.proofs.Lists.{below_get}
use Rattle.srm_net.proofs.PathLaws.{LinkOf, ends_below, host_below, stops_at, stops_in, split_at, crossed_absent, dropped_absent}
use Rattle.srm_net.proofs.PathLaws.{reached, some_same}
use Rattle.srm_net.proofs.OnePaths.{joins_others}
use Rattle.srm_net.proofs.SpreadLemmas.{ends_told}
use Rattle.srm_net.proofs.HopLemmas.{links_turn}

-- ---- a way that is cut off

absent_first : (ss : List Stop) (l g : ℕ) → stops_at ss l ≡ false → stops_at (take g ss) l ≡ false
absent_first ss l zero n = refl
absent_first [] l (suc g) n = refl
absent_first (s ∷ ss) l (suc g) n =
    let p = or_parts (s.link == l) (stops_at ss l) n in
    or_from (s.link == l) (stops_at (take g ss) l) p.0 (absent_first ss l g p.1)

one_more : (n g : ℕ) → nat_le (suc (suc n)) (suc g) ≡ nat_le (suc n) g
one_more n g = grind arith

and_turn : (a b c : Bool) → (a && (b && c)) ≡ (b && (a && c))
and_turn true b c = refl
and_turn false true c = refl
and_turn false false c = refl

module _ (f : Stop → Bool) where
  crossed_first : (xs : List Stop) (s : Stop) (ys : List Stop) (g : ℕ) → stops_at xs s.link ≡ false
      → crossed_on f (take g (xs ++ s ∷ ys)) s.link ≡ (nat_le (suc (length xs)) g && crossed_on f (xs ++ s ∷ ys) s.link)
  crossed_first xs s ys zero n = ap (λ b. b && crossed_on f (xs ++ s ∷ ys) s.link) (sym (lt-leb (suc (length xs)) 0 (omega arith)))
  crossed_first [] s ys (suc g) n = rw (le-leb 1 (suc g) (omega arith), eq-eqb s.link s.link refl) refl
  crossed_first (x ∷ xs) s ys (suc g) n =
      let p = or_parts (x.link == s.link) (stops_at xs s.link) n in
      rw (p.0, crossed_first xs s ys g p.1, one_more (length xs) g)
      (and_turn (not (f x)) (nat_le (suc (length xs)) g) (crossed_on f (xs ++ s ∷ ys) s.link))

  dropped_first : (xs : List Stop) (s : Stop) (ys : List Stop) (g : ℕ) → stops_at xs s.link ≡ false → stops_at ys s.link ≡ false
      → dropped_on f (take g (xs ++ s ∷ ys)) s.link ≡ (nat_le (suc (length xs)) g && dropped_on f (xs ++ s ∷ ys) s.link)
  dropped_first xs s ys zero n m = ap (λ b. b && dropped_on f (xs ++ s ∷ ys) s.link) (sym (lt-leb (suc (length xs)) 0 (omega arith)))
  dropped_first [] s ys (suc g) n m =
      rw (le-leb 1 (suc g) (omega arith)) (ap (λ b. cond (f s) (s.link == s.link) b)
      (dropped_absent f (take g ys) s.link (absent_first ys s.link g m) ∙ sym (dropped_absent f ys s.link m)))
  dropped_first (x ∷ xs) s ys (suc g) n m =
      let p = or_parts (x.link == s.link) (stops_at xs s.link) n in
      rw (p.0, dropped_first xs s ys g p.1 m, one_more (length xs) g)
      (turn (f x) (nat_le (suc (length xs)) g) (dropped_on f (xs ++ s ∷ ys) s.link))
    where
      turn : (a b c : Bool) → cond a false (b && c) ≡ (b && cond a false c)
      turn true true c = refl
      turn true false c = refl
      turn false b c = refl

length_stops : (links : List LinkSpec) (u t : ℕ) (ls : List ℕ) → length (stops links u t ls) ≡ length ls
length_stops links u t [] = refl
length_stops links u t (l ∷ ls) = ap suc (length_stops links (end_of u (slice_get links l)) (t + delay_of u (slice_get links l)) ls)

and_false : (b : Bool) → false ≡ (b && false)
and_false true = refl
and_false false = refl

module _ (w : Network) (l : ℕ) (k : LinkSpec) (o : LinkOf w l k) (f : Stop → Bool) (u v t : ℕ) (hu : u < w.nodes) (hv : v < w.nodes)
    (g : ℕ) where
  -- whether the far end of the link is within the scope
  abbrev far_within : Bool
  far_within = nat_le (suc (hops_between w u (near_end w l k u))) g

  crossed_within : crossed_on f (take g (stops w.links u t (route w u v))) l
      ≡ (far_within && crossed_on f (stops w.links u t (route w u v)) l)
  crossed_within =
      elim (cases_Bool (is_in (route w u v) l)) [
        | inl i ↦ (let r = reached w l k o u v hu hv i in
            let s = split_at w.links u t r.before r.after l in
            let n = stops_in w.links u t r.before l ∙ r.fresh in
            subst (λ ss. crossed_on f (take g ss) l ≡ (far_within && crossed_on f ss l)) (sym (ap (stops w.links u t) r.is ∙ s.is))
            (crossed_first f (stops w.links u t r.before) (stop l (t + delay_along w.links u r.before)) s.after g n
            ∙ ap (λ d. nat_le (suc d) g
            && crossed_on f (stops w.links u t r.before ++ stop l (t + delay_along w.links u r.before) ∷ s.after) l)
            (length_stops w.links u t r.before ∙ ap length r.before_is)))
        | inr n ↦ (let none = stops_in w.links u t (route w u v) l ∙ n in
            crossed_absent f (take g (stops w.links u t (route w u v))) l (absent_first _ l g none)
            ∙ and_false far_within ∙ ap (λ b. far_within && b) (sym (crossed_absent f (stops w.links u t (route w u v)) l none)))
      ]

  dropped_within : dropped_on f (take g (stops w.links u t (route w u v))) l
      ≡ (far_within && dropped_on f (stops w.links u t (route w u v)) l)
  dropped_within =
      elim (cases_Bool (is_in (route w u v) l)) [
        | inl i ↦ (let r = reached w l k o u v hu hv i in
            let s = split_at w.links u t r.before r.after l in
            let n = stops_in w.links u t r.before l ∙ r.fresh in
            let m = s.in_after l ∙ r.fresh_after in
            subst (λ ss. dropped_on f (take g ss) l ≡ (far_within && dropped_on f ss l)) (sym (ap (stops w.links u t) r.is ∙ s.is))
            (dropped_first f (stops w.links u t r.before) (stop l (t + delay_along w.links u r.before)) s.after g n m
            ∙ ap (λ d. nat_le (suc d) g
            && dropped_on f (stops w.links u t r.before ++ stop l (t + delay_along w.links u r.before) ∷ s.after) l)
            (length_stops w.links u t r.before ∙ ap length r.before_is)))
        | inr n ↦ (let none = stops_in w.links u t (route w u v) l ∙ n in
            dropped_absent f (take g (stops w.links u t (route w u v))) l (absent_first _ l g none)
            ∙ and_false far_within ∙ ap (λ b. far_within && b) (sym (dropped_absent f (stops w.links u t (route w u v)) l none)))
      ]

-- ---- a link within a scope

some_both : (b : Bool) (f : ℕ → Bool) (n : ℕ) → some_below (λ m. b && f m) n ≡ (b && some_below f n)
some_both true f n = refl
some_both false f zero = refl
some_both false f (suc n) = some_both false f n

-- the farther end of a link is the one beyond it
covers_is : (w : Network) (l : ℕ) (k : LinkSpec) → LinkOf w l k → (scope : Option ℕ) (u : ℕ) → u < w.nodes
    → covers w scope u k ≡ is_within scope (suc (hops_between w u (near_end w l k u)))
covers_is w l k o scope u hu =
    let ends = ends_below w l k o in
    let apart : k.a ≢ k.b = joins_others w o.tree l k o.link in
    let back : route w (far_from k (near_end w l k u)) u ≡ l ∷ route w (near_end w l k u) u = (ends_told w l k o u hu).back in
    elim (cases_Bool (is_beyond w l k u)) [
      | inl e ↦ (let b : route w (far_from k k.b) u ≡ l ∷ route w k.b u = rw e at back in
          let c : route w k.a u ≡ l ∷ route w k.b u = rw (ne_eqb k.a k.b apart) at b in
          let farther : hops_between w u k.a ≡ suc (hops_between w u k.b) =
          links_turn w o.tree u k.a hu ends.0 ∙ ap length c ∙ ap suc (links_turn w o.tree k.b u ends.1 hu) in
          let most : max (hops_between w u k.a) (hops_between w u k.b) ≡ suc (hops_between w u k.b) = omega arith in
          rw e (ap (is_within scope) most))
      | inr e ↦ (let b : route w (far_from k k.a) u ≡ l ∷ route w k.a u = rw e at back in
          let c : route w k.b u ≡ l ∷ route w k.a u = rw (eq-eqb k.a k.a refl) at b in
          let farther : hops_between w u k.b ≡ suc (hops_between w u k.a) =
          links_turn w o.tree u k.b hu ends.1 ∙ ap length c ∙ ap suc (links_turn w o.tree k.a u ends.0 hu) in
          let most : max (hops_between w u k.a) (hops_between w u k.b) ≡ suc (hops_between w u k.a) = omega arith in
          rw e (ap (is_within scope) most))
    ]

module _ (w : Network) (n : IsNetwork w) (l : ℕ) (k : LinkSpec) (got : slice_get w.links l ≡ Some k) (rules : DropRules) (p : PacketId)
    (sent : ℕ) (h : p.sender < length w.hosts) where
  abbrev near : ℕ
  near = near_end w l k (host w p.sender)

  crosses_within : (scope : Option ℕ) → crosses w rules p sent scope l
      ≡ (is_within scope (suc (hops_between w (host w p.sender) near)) && crosses w rules p sent None l)
  unfolding crosses
  crosses_within None = refl
  crosses_within (Some g) =
      some_same (λ m. crossed_on (takes_out rules p) (take g (member_stops w p.sender sent m)) l)
      (λ m. nat_le (suc (hops_between w (host w p.sender) near)) g && crossed_on (takes_out rules p) (member_stops w p.sender sent m) l)
      (length w.hosts)
      (λ m lt. crossed_within w l k (record { tree = n.tree; link = got }) (takes_out rules p) (host w p.sender) (host w m) sent
      (host_below w n p.sender h) (host_below w n m lt) g)
      ∙ some_both (nat_le (suc (hops_between w (host w p.sender) near)) g)
      (λ m. crossed_on (takes_out rules p) (member_stops w p.sender sent m) l) (length w.hosts)

  drops_within : (scope : Option ℕ) → drops_at w rules p sent scope l
      ≡ (is_within scope (suc (hops_between w (host w p.sender) near)) && drops_at w rules p sent None l)
  unfolding drops_at
  drops_within None = refl
  drops_within (Some g) =
      some_same (λ m. dropped_on (takes_out rules p) (take g (member_stops w p.sender sent m)) l)
      (λ m. nat_le (suc (hops_between w (host w p.sender) near)) g && dropped_on (takes_out rules p) (member_stops w p.sender sent m) l)
      (length w.hosts)
      (λ m lt. dropped_within w l k (record { tree = n.tree; link = got }) (takes_out rules p) (host w p.sender) (host w m) sent
      (host_below w n p.sender h) (host_below w n m lt) g)
      ∙ some_both (nat_le (suc (hops_between w (host w p.sender) near)) g)
      (λ m. dropped_on (takes_out rules p) (member_stops w p.sender sent m) l) (length w.hosts)

-- what is told of whether a scope covers a link decides, and else what becomes of the packet without scope
pub covered : (t w : Network) → t ≡ w → IsNetwork w → (l : ℕ) → l < length w.links → (scope : Option ℕ) (m : ℕ) (b : Bool)
    → ((k : LinkSpec) → slice_get t.links l ≡ Some k → b ≡ covers t scope (host t m) k)
    → (rules : DropRules) (p : PacketId) (sent : ℕ) → p.sender < length w.hosts → m ≡ p.sender
    → (crosses w rules p sent scope l ≡ (b && crosses w rules p sent None l))
    × (drops_at w rules p sent scope l ≡ (b && drops_at w rules p sent None l))
covered t w same n l lt scope m b told rules p sent h e =
    let k = below_get w.links l lt in
    let is : is_within scope (suc (hops_between w (host w p.sender) (near_end w l k.0 (host w p.sender)))) ≡ b =
    sym (covers_is w l k.0 (record { tree = n.tree; link = k.1 }) scope (host w p.sender) (host_below w n p.sender h))
    ∙ ap (λ a. covers w scope (host w a) k.0) (sym e) ∙ ap (λ (v : Network). covers v scope (host v m) k.0) (sym same)
    ∙ sym (told k.0 (ap (λ (v : Network). slice_get v.links l) same ∙ k.1)) in (
      crosses_within w n l k.0 k.1 rules p sent h scope ∙ ap (λ c. c && crosses w rules p sent None l) is,
      drops_within w n l k.0 k.1 rules p sent h scope ∙ ap (λ c. c && drops_at w rules p sent None l) is,
    )

-- and so it is with the scope of a spread
pub covered_spread : (w : Network) → IsNetwork w → (l : ℕ) → l < length w.links → (s : PlainSpread) → FitsIn w s → (b : Bool)
    → (rules : DropRules) (p : PacketId) (sent : ℕ) (scope : Option ℕ) → IsSpread w rules p sent scope s
    → ((k : LinkSpec) → slice_get w.links l ≡ Some k → b ≡ covers w scope (host w p.sender) k)
    → (crosses w rules p sent scope l ≡ (b && crosses w rules p sent None l))
    × (drops_at w rules p sent scope l ≡ (b && drops_at w rules p sent None l))
covered_spread w n l lt s fits b rules p sent scope is told =
    covered w w refl n l lt scope p.sender b told rules p sent (subst (λ a. a < length w.hosts) is.sender fits.sender) refl

-- ---- narrower and wider scopes

pub scopes_leave_the_first : ScopesLeaveTheFirst
scopes_leave_the_first ls g = (take-append-drop g ls, length-take g ls)

pub no_scope_ends_no_way : NoScopeEndsNoWay
unfolding reaches crosses drops_at
no_scope_ends_no_way w rules p sent = (λ m. refl, λ l. refl, λ l. refl)

module _ (f : Stop → Bool) (l : ℕ) where
  crossed_grows : (ss : List Stop) (a b : ℕ) → a ≤ b → crossed_on f (take a ss) l ≡ true → crossed_on f (take b ss) l ≡ true
  crossed_grows ss zero b q h = absurd (false≢true h)
  crossed_grows [] (suc a) b q h = absurd (false≢true h)
  crossed_grows (s ∷ ss) (suc a) zero q h = absurd (omega arith)
  crossed_grows (s ∷ ss) (suc a) (suc b) q h =
      let less : a ≤ b = omega arith in
      let p = and_parts (not (f s)) ((s.link == l) || crossed_on f (take a ss) l) h in
      and_from (not (f s)) ((s.link == l) || crossed_on f (take b ss) l) p.0
      (elim (or_cases (s.link == l) (crossed_on f (take a ss) l) p.1) [
        | inl e ↦ or_left (s.link == l) (crossed_on f (take b ss) l) e
        | inr e ↦ or_right (s.link == l) (crossed_on f (take b ss) l) (crossed_grows ss a b less e)
      ])

  dropped_grows : (ss : List Stop) (a b : ℕ) → a ≤ b → dropped_on f (take a ss) l ≡ true → dropped_on f (take b ss) l ≡ true
  dropped_grows ss zero b q h = absurd (false≢true h)
  dropped_grows [] (suc a) b q h = absurd (false≢true h)
  dropped_grows (s ∷ ss) (suc a) zero q h = absurd (omega arith)
  dropped_grows (s ∷ ss) (suc a) (suc b) q h =
      elim (cases_Bool (f s)) [
        | inl e ↦ rw e (rw e at h)
        | inr e ↦ rw e (dropped_grows ss a b (omega arith) (rw e at h))
      ]

-- what is so of the first stops of a way is so of more of them
module _ (P : List Stop → Bool) (grows : (ss : List Stop) (a b : ℕ) → a ≤ b → P (take a ss) ≡ true → P (take b ss) ≡ true) where
  widened : (g h : Option ℕ) → IsNoWider g h → (ss : List Stop) → P (first g ss) ≡ true → P (first h ss) ≡ true
  widened None None wide ss is = is
  widened None (Some b) wide ss is =
      subst (λ xs. P xs ≡ true) (sym (take_all b ss (leb-true (length ss) b (wide (length ss) refl)))) is
  widened (Some a) None wide ss is =
      subst (λ xs. P xs ≡ true) (take_all (a + length ss) ss (omega arith)) (grows ss a (a + length ss) (omega arith) is)
  widened (Some a) (Some b) wide ss is = grows ss a b (leb-true a b (wide a (le-leb a a (omega arith)))) is

some_more : (f g : ℕ → Bool) (n : ℕ) → ((m : ℕ) → f m ≡ true → g m ≡ true) → some_below f n ≡ true → some_below g n ≡ true
some_more f g zero more h = h
some_more f g (suc n) more h =
    elim (or_cases (f n) (some_below f n) h) [
      | inl e ↦ or_left (g n) (some_below g n) (more n e)
      | inr e ↦ or_right (g n) (some_below g n) (some_more f g n more e)
    ]

pub narrow_scopes_take_part : NarrowScopesTakePart
unfolding reaches crosses drops_at
narrow_scopes_take_part w rules p sent g h wide =
    let f = takes_out rules p in
    let way = member_stops w p.sender sent in (
      λ m is. (let q = and_parts (is_within g (hops w p.sender m)) (not (list_any f (way m))) is in
          and_from (is_within h (hops w p.sender m)) (not (list_any f (way m))) (wide (hops w p.sender m) q.0) q.1),
      λ l is. some_more (λ m. crossed_on f (first g (way m)) l) (λ m. crossed_on f (first h (way m)) l) (length w.hosts)
          (λ m c. widened (λ ss. crossed_on f ss l) (crossed_grows f l) g h wide (way m) c) is,
      λ l is. some_more (λ m. dropped_on f (first g (way m)) l) (λ m. dropped_on f (first h (way m)) l) (length w.hosts)
          (λ m c. widened (λ ss. dropped_on f ss l) (dropped_grows f l) g h wide (way m) c) is,
    )

-- a link that no packet comes to without scope, none comes to with one
pub none_narrower : (w : Network) (rules : DropRules) (p : PacketId) (sent : ℕ) (scope : Option ℕ) (l : ℕ)
    → (crosses w rules p sent None l ≡ false) × (drops_at w rules p sent None l ≡ false)
    → (crosses w rules p sent scope l ≡ false) × (drops_at w rules p sent scope l ≡ false)
none_narrower w rules p sent scope l none =
    let part = narrow_scopes_take_part w rules p sent scope None (λ n h. refl) in (
      elim (cases_Bool (crosses w rules p sent scope l)) [
        | inl e ↦ absurd (false≢true (sym none.0 ∙ part.1 l e))
        | inr e ↦ e
      ],
      elim (cases_Bool (drops_at w rules p sent scope l)) [
        | inl e ↦ absurd (false≢true (sym none.1 ∙ part.2 l e))
        | inr e ↦ e
      ],
    )

whole : (scope : Option ℕ) (ss : List Stop) → is_within scope (length ss) ≡ true → first scope ss ≡ ss
whole None ss h = refl
whole (Some g) ss h = take_all g ss (leb-true (length ss) g h)

pub wide_scopes_decide_nothing : WideScopesDecideNothing
unfolding reaches crosses drops_at hops
wide_scopes_decide_nothing w rules p sent scope wide =
    let f = takes_out rules p in
    let way = member_stops w p.sender sent in
    let all : (m : ℕ) → m < length w.hosts → first scope (way m) ≡ way m =
    λ m lt. whole scope (way m)
    (ap (is_within scope) (length_stops w.links (host w p.sender) sent (route w (host w p.sender) (host w m))) ∙ wide m lt) in (
      λ m lt. ap (λ b. b && not (list_any f (way m))) (wide m lt),
      λ l. some_same (λ m. crossed_on f (first scope (way m)) l) (λ m. crossed_on f (way m) l) (length w.hosts)
          (λ m lt. ap (λ ss. crossed_on f ss l) (all m lt)),
      λ l. some_same (λ m. dropped_on f (first scope (way m)) l) (λ m. dropped_on f (way m) l) (length w.hosts)
          (λ m lt. ap (λ ss. dropped_on f ss l) (all m lt)),
    )
