-- The nearest members of each node, found from below and then from above.
use Rattle.std.proofs.lemmas.Grind.{common_steps}
use Rattle.std.proofs.Common.{◌≡◌, ◌≢◌, ◌⊎◌, ℕ, zero, suc, ◌+◌, ◌-◌, ◌<◌, ◌≤◌, List, [], ◌∷◌, length, Option, Some, None, refl}
use Rattle.std.proofs.Common.{sym, ap, ◌∙◌, subst, inl, inr, arith, slice_get, slice_index, slice_index_or, slice_set}
use Rattle.std.proofs.Common.{take, drop, ◌++◌}
use Rattle.std.proofs.lemmas.Bool.{cases_eq}
use Rattle.std.proofs.lemmas.List.{get_or-set_same, get_or-set_other, get_or_default, take_all, take-append-le}
use Rattle.srm_net.specs.declared.near.Near.{Near}
use Rattle.srm_net.specs.declared.nearest.Nearest.{Nearest}
use Rattle.srm_net.specs.declared.nearest.Nearest.TheVariants.{Nobody, One, Two}
use Rattle.srm_net.specs.declared.position.Position.{Position}
use Rattle.srm_net.specs.Least.{out}
use Rattle.srm_net.specs.Nearness.{second_ticks, IsOneOf, IsNearestFirst, Covers, Takes, nearest_of, IsSound, TellsOwn, TellsBelow}
use Rattle.srm_net.specs.Nearness.{TellsNearest, IsBelowRoot, TellsUpTo, TellsDownTo}
use Rattle.srm_net.specs.Network.{Network, IsNetwork}
use Rattle.srm_net.specs.Paths.{host, distance, delay_of}
use Rattle.srm_net.specs.Rooting.{takes, at, IsRooted, IsInOrder, IsFirstLink, IsHeld, IsChildAbove}
use Rattle.srm_net.proofs.Arrivals.{ordered, same_place}
use Rattle.srm_net.proofs.Firsts.{first_down, first_up, held_itself, held_later, held_by_parent, parent_held}
use Rattle.srm_net.proofs.LawProofs.{out_fits, out_of_the_only_one}
use Rattle.srm_net.proofs.Lists.{get_below, get_push_old, get_push_new}
use Rattle.srm_net.proofs.PathLaws.{delay_bounded, distance_apart, host_below}
use Rattle.srm_net.proofs.Rootings.{takes_nothing, parent_there, parent_back}
use Rattle.srm_net.proofs.ToldLemmas.{OutsBelow}

-- a member at its own node
abbrev pub at_own : ℕ → Near
at_own m = record { member = m; ticks = 0 }

-- ---- the least distance from a member is that to the second of the nearest

to_itself : (w : Network) (m : ℕ) → distance w m m ≡ 0
unfolding distance
to_itself w m = takes_nothing w (host w m)

out_from : (w : Network) → IsNetwork w → (m : ℕ) → m < length w.hosts → (p : Nearest) → IsNearestFirst p
    → ((n : Near) → IsOneOf p n → n.member < length w.hosts) → ((n : Near) → IsOneOf p n → distance w m n.member ≤ n.ticks)
    → ((b : ℕ) → b < length w.hosts → Covers p b (distance w m b)) → (o : Option ℕ) → out w m ≡ o → second_ticks p ≡ o
out_from w n m hm Nobody order member ticks all o e = absurd (all m hm)
out_from w n m hm (One a) order member ticks all None e = refl
out_from w n m hm (One a) order member ticks all (Some d) e =
    let f = (out_fits w m d e).0 in
    let here = (all m hm).0 in
    let there = (all f.0 f.1).0 in
    absurd (f.2 (sym there ∙ here))
out_from w n m hm (Two a b) order member ticks all o e =
    let ha = member a (inl refl) in
    let hb = member b (inr refl) in
    let order1 : a.ticks ≤ b.ticks = order.1 in
    let own : a.member ≡ m = elim (cases_eq a.member m) [
      | inl q ↦ q
      | inr q ↦ (let ta : distance w m a.member ≤ a.ticks = ticks a (inl refl) in
          let far : 1 ≤ distance w m a.member = distance_apart w n m a.member hm ha (λ s. q (sym s)) in
          let none = to_itself w m in
          elim (all m hm) [
            | inl c ↦ c.0
            | inr c ↦ absurd (let c1 : b.ticks ≤ distance w m m = c in omega arith)
          ])
    ] in
    let other : b.member ≢ m = λ q. order.0 (own ∙ sym q) in
    let tb : distance w m b.member ≤ b.ticks = ticks b (inr refl) in
    let most : (x : ℕ) → x < length w.hosts → x ≢ m → b.ticks ≤ distance w m x =
    λ x hx d. elim (all x hx) [ inl c ↦ absurd (d (sym c.0 ∙ own)) | inr c ↦ c ] in
    by_out own other tb (most b.member hb other) most o e
  where
    by_out : a.member ≡ m → b.member ≢ m → distance w m b.member ≤ b.ticks → b.ticks ≤ distance w m b.member
        → ((x : ℕ) → x < length w.hosts → x ≢ m → b.ticks ≤ distance w m x) → (o : Option ℕ) → out w m ≡ o → Some b.ticks ≡ o
    by_out own other tb bt most None e = absurd (other (out_of_the_only_one w m e b.member (member b (inr refl))))
    by_out own other tb bt most (Some d) e =
        let f = out_fits w m d e in
        let is : distance w m f.0.0 ≡ d = f.0.3 in
        let one : b.ticks ≤ distance w m f.0.0 = most f.0.0 f.0.1 f.0.2 in
        let two : d ≤ distance w m b.member = f.1 b.member (member b (inr refl)) other in
        ap Some (omega arith)

pub out_is_second : (w : Network) (table : List Nearest) → IsNetwork w → IsSound w table → TellsNearest w table → (m : ℕ)
    → m < length w.hosts → second_ticks (nearest_of table (host w m)) ≡ out w m
unfolding distance
out_is_second w table n s t m hm = grind (arith, out_from)

pub outs_push : (w : Network) (i : ℕ) (outs : List (Option ℕ)) (x : Option ℕ) → length outs ≡ i → OutsBelow w i outs → x ≡ out w i
    → OutsBelow w (i + 1) (outs ++ x ∷ [])
outs_push w i outs x long old new m h =
    elim (cases_eq m i) [
      | inl e ↦ subst (λ k. slice_get (outs ++ x ∷ []) k ≡ Some (out w k)) (sym e) (get_push_new outs x i long ∙ ap Some new)
      | inr d ↦ get_push_old outs x m (omega arith) ∙ old m (omega arith)
    ]

-- ---- tables that are lent and come back

pub written_back : (old new : List Nearest) (k : ℕ) → length new ≡ k → take k (new ++ drop (length new) old) ≡ new
written_back old new k e = grind (arith, take-append-le, take_all)

pub read_nearest : (table : List Nearest) (i u : ℕ) (x : Nearest) → i ≡ u → u < length table → x ≡ slice_index_or table i x
    → x ≡ nearest_of table u
read_nearest table i u x e h g = g ∙ ap (λ j. slice_index_or table j x) e ∙ sym (get_or_default table u Nobody x h)

-- ---- one node's members are taken into account at another

module _ (w : Network) (n : IsNetwork w) (table : List Nearest) (s : IsSound w table) (from to d : ℕ) (new : Nearest) (hf : from < w.nodes)
    (ht : to < w.nodes) (t : Takes (nearest_of table to) (nearest_of table from) d new) where
  there : to < length table
  there = subst (λ k. to < k) (sym s.long) ht

  at_new : nearest_of (slice_set table to new) to ≡ new
  at_new = get_or-set_same table to new Nobody there

  at_old : (u : ℕ) → to ≢ u → nearest_of (slice_set table to new) u ≡ nearest_of table u
  at_old u q = get_or-set_other table to u new Nobody (λ e. q (sym e))

  -- what holds of the new ones, and of the others
  at_each : (P : ℕ → Nearest → Type 0) → P to new → ((u : ℕ) → u < w.nodes → P u (nearest_of table u)) → (u : ℕ) → u < w.nodes
      → P u (nearest_of (slice_set table to new) u)
  at_each P here old u hu =
      elim (cases_eq to u) [
        | inl e ↦ subst (λ v. P v (nearest_of (slice_set table to new) v)) e (subst (P to) (sym at_new) here)
        | inr q ↦ subst (P u) (sym (at_old u q)) (old u hu)
      ]

  pub step_sound : ((x : ℕ) → x < w.nodes → takes w to x ≤ takes w from x + d) → IsSound w (slice_set table to new)
  step_sound near = grind (arith, common_steps, delay_bounded)

  pub step_keeps : (u m ticks : ℕ) → u < w.nodes → Covers (nearest_of table u) m ticks
      → Covers (nearest_of (slice_set table to new) u) m ticks
  step_keeps u m ticks hu =
      at_each (λ v p. Covers (nearest_of table v) m ticks → Covers p m ticks) (t.keeps (s.ordered to ht) m ticks) (λ v hv c. c) u hu

  pub step_takes : (m ticks : ℕ) → Covers (nearest_of table from) m ticks
      → Covers (nearest_of (slice_set table to new) to) m (ticks + d)
  step_takes m ticks c =
      subst (λ p. Covers p m (ticks + d)) (sym at_new) (t.brings (s.ordered to ht) (s.ordered from hf) m ticks c)

-- ---- a node and its parent

module _ (w : Network) (ps : List Position) (r : IsRooted w ps) where
  held_or_not : (q p : Position) → IsHeld q p ⊎ (IsHeld q p → ⊥)
  held_or_not q p = grind arith

  -- over the link of a node from its parent, and back
  abbrev pub over_down : ℕ → ℕ
  over_down c = delay_of (at ps c).parent (slice_get w.links (at ps c).link)

  abbrev pub over_up : ℕ → ℕ
  over_up c = delay_of c (slice_get w.links (at ps c).link)

  by_first : (u v l x : ℕ) → IsFirstLink w u v l x → takes w u v ≡ delay_of u (slice_get w.links l) + takes w x v
  by_first u v l x f = grind arith

  module _ (c : ℕ) (hc : c < w.nodes) (one : 1 ≤ (at ps c).place) where
    one_at : 1 ≤ r.place c
    one_at = let e = (r.each c hc).place_is in omega arith

    pub parent_there_below : (at ps c).parent < w.nodes
    parent_there_below = ((r.each c hc).parent one_at).node

    pub parent_before : (at ps (at ps c).parent).place < (at ps c).place
    parent_before =
        let up = (r.each c hc).parent one_at in
        let low : r.place (at ps c).parent < r.place c = up.earlier in
        let e = (r.each c hc).place_is in
        let f = (r.each (at ps c).parent up.node).place_is in
        omega arith

    pub from_parent : (x : ℕ) → x < w.nodes → IsHeld (at ps c) (at ps x) → takes w (at ps c).parent x ≡ takes w c x + over_down c
    from_parent x hx h =
        let child : IsChildAbove w ps (at ps c).parent x c = record { node = hc; parent = refl; below = parent_before; held = h } in
        let e = by_first (at ps c).parent x (at ps c).link c (first_down w ps r (at ps c).parent x c parent_there_below hx child) in
        omega arith

    pub to_parent : (x : ℕ) → x < w.nodes → (IsHeld (at ps c) (at ps x) → ⊥) → takes w c x ≡ takes w (at ps c).parent x + over_up c
    to_parent x hx h =
        let e = by_first c x (at ps c).link (at ps c).parent (first_up w ps r c x hc hx h) in
        omega arith

    pub parent_near : (x : ℕ) → x < w.nodes → takes w (at ps c).parent x ≤ takes w c x + over_down c
    parent_near x hx = grind (arith, from_parent, to_parent)

    pub child_near : (x : ℕ) → x < w.nodes → takes w c x ≤ takes w (at ps c).parent x + over_up c
    child_near x hx = grind (arith, from_parent, to_parent)

    pub down_more : (at ps c).down ≡ (at ps (at ps c).parent).down + over_down c
    down_more =
        let root : r.place 0 ≡ 0 = r.root in
        let k = one_at in
        (r.each c hc).down
        ∙ parent_back w r.tree r.place c (at ps c).parent (at ps c).link hc ((r.each c hc).parent one_at) 0 r.tree.some_nodes (omega arith)
        ∙ ap (λ d. d + over_down c) (sym (r.each (at ps c).parent parent_there_below).down)

    pub up_more : (at ps c).up ≡ over_up c + (at ps (at ps c).parent).up
    up_more =
        let root : r.place 0 ≡ 0 = r.root in
        let k = one_at in
        (r.each c hc).up
        ∙ parent_there w r.place c (at ps c).parent (at ps c).link ((r.each c hc).parent one_at) 0 r.tree.some_nodes (omega arith)
        ∙ ap (λ d. over_up c + d) (sym (r.each (at ps c).parent parent_there_below).up)

  -- the node next below one on the way to another that is below it
  child_from : (u v : ℕ) → u < w.nodes → v < w.nodes → (n x : ℕ) → (at ps x).place ≤ n → x < w.nodes → u ≢ x
      → IsHeld (at ps u) (at ps x) → IsHeld (at ps x) (at ps v) → (y : ℕ) × IsChildAbove w ps u v y
  child_from u v hu hv zero x le hx d below held =
      let lt : (at ps u).place < (at ps x).place = held_later w ps r u x hu hx d below in absurd (omega arith)
  child_from u v hu hv (suc n) x le hx d below held =
      let lt : (at ps u).place < (at ps x).place = held_later w ps r u x hu hx d below in
      elim (cases_eq (at ps x).parent u) [
        | inl e ↦ (x, record { node = hx; parent = e; below = lt; held = held })
        | inr e ↦ (let p = parent_held w ps r u x hu hx d below in
            let one : 1 ≤ r.place x = p.0 in
            let low : (at ps (at ps x).parent).place < (at ps x).place = p.3 in
            child_from u v hu hv n (at ps x).parent (omega arith) p.1 (λ q. e (sym q)) p.2 (held_by_parent w ps r x v hx hv one held))
      ]

  pub child_over : (u v : ℕ) → u < w.nodes → v < w.nodes → u ≢ v → IsHeld (at ps u) (at ps v) → (y : ℕ) × IsChildAbove w ps u v y
  child_over u v hu hv d h = child_from u v hu hv (at ps v).place v (omega arith) hv d h (held_itself w ps r v hv)

  pub root_holds : (u x : ℕ) → u < w.nodes → x < w.nodes → (at ps u).place ≡ 0 → IsHeld (at ps u) (at ps x)
  root_holds u x hu hx z =
      let root : r.place 0 ≡ 0 = r.root in
      let e = (r.each u hu).place_is in
      let same : u ≡ 0 = r.apart u 0 hu r.tree.some_nodes (sym e ∙ z ∙ sym root) in
      let most : (at ps x).place < (at ps 0).end = subst (λ p. p < (at ps 0).end) (sym (r.each x hx).place_is) (r.whole x hx) in
      (omega arith, subst (λ v. (at ps x).place < (at ps v).end) (sym same) most)

-- ---- members at their own nodes

abbrev pub IsHome : List ℕ → List Nearest → ℕ → Type 0
IsHome hosts table i = (m : ℕ) → m < i → nearest_of table (slice_index hosts m) ≡ One (at_own m)

abbrev pub IsAlone : List ℕ → List Nearest → ℕ → Type 0
IsAlone hosts table i = (u : ℕ) → (nearest_of table u ≡ Nobody)
    ⊎ ((m : ℕ) × (m < i) × (slice_index hosts m ≡ u) × (nearest_of table u ≡ One (at_own m)))

pub home_more : (hosts : List ℕ) (table : List Nearest) (i : ℕ) → slice_index hosts i < length table
    → ((m : ℕ) → m < i → slice_index hosts m ≢ slice_index hosts i) → IsHome hosts table i
    → IsHome hosts (slice_set table (slice_index hosts i) (One (at_own i))) (i + 1)
home_more hosts table i lt apart old m h = grind (arith, get_or-set_same, get_or-set_other)

pub alone_more : (hosts : List ℕ) (table : List Nearest) (i : ℕ) → slice_index hosts i < length table → IsAlone hosts table i
    → IsAlone hosts (slice_set table (slice_index hosts i) (One (at_own i))) (i + 1)
alone_more hosts table i lt old u = grind (arith, get_or-set_same, get_or-set_other)

pub home_sound : (w : Network) (table : List Nearest) (i : ℕ) → length table ≡ w.nodes → i ≤ length w.hosts → IsAlone w.hosts table i
    → IsSound w table
home_sound w table i long few alone = grind (arith, takes_nothing)

-- ---- from below, and from above

module _ (w : Network) (ps : List Position) (n : IsNetwork w) (r : IsRooted w ps) (table : List Nearest) where
  -- a node at whose place that has come has all members below it
  complete : (i : ℕ) → TellsUpTo w ps i table → (u m : ℕ) → u < w.nodes → m < length w.hosts → i ≤ (at ps u).place + 1
      → IsHeld (at ps u) (at ps (host w m)) → Covers (nearest_of table u) m (takes w u (host w m))
  complete i up u m hu hm le held =
      elim (cases_eq u (host w m)) [
        | inl e ↦ subst (λ t. Covers (nearest_of table u) m t)
            (sym (takes_nothing w u) ∙ ap (takes w u) e)
            (subst (λ v. Covers (nearest_of table v) m 0) (sym e) (up.own m hm))
        | inr d ↦ (let y = child_over w ps r u (host w m) hu (host_below w n m hm) d held in
            let lower : (at ps u).place < (at ps y.0).place = y.1.below in
            subst (λ v. Covers (nearest_of table v) m (takes w v (host w m))) y.1.parent
            (up.below y.0 m y.1.node hm (omega arith) (omega arith) y.1.held))
      ]

  -- no node has a place after all
  pub up_none : (order : List ℕ) (i : ℕ) → IsInOrder w ps order → length order ≤ i → IsSound w table → TellsOwn w table
      → TellsUpTo w ps i table
  up_none order i o le s own = record {
    sound = s;
    own = own;
    below = λ u m hu hm first one held. let k = get_below order (at ps u).place u (o.each u hu) in absurd (omega arith);
  }

  -- once all nodes told their parents, all is told of the root
  pub up_done : (i : ℕ) → i ≤ 1 → TellsUpTo w ps i table → TellsDownTo w ps 1 table
  up_done i le up =
      let below : TellsBelow w ps table = λ u m hu hm held. complete i up u m hu hm (omega arith) held in
      record {
        sound = up.sound;
        below = below;
        all = λ u m hu hm first. below u m hu hm (root_holds w ps r u (host w m) hu (host_below w n m hm) (omega arith));
      }

  pub down_done : (order : List ℕ) (i : ℕ) → IsInOrder w ps order → length order ≤ i → TellsDownTo w ps i table → TellsNearest w table
  down_done order i o le down u m hu hm =
      let k = get_below order (at ps u).place u (o.each u hu) in
      down.all u m hu hm (omega arith)

-- the node at a place of the order that is not the first
pub placed : (w : Network) (ps : List Position) → IsNetwork w → IsRooted w ps → (order items : List ℕ) (i : ℕ) → IsInOrder w ps order
    → items ≡ order → 1 ≤ i → i < length items → IsBelowRoot w ps (slice_index items i) × ((at ps (slice_index items i)).place ≡ i)
placed w ps n r order items i o e one lt =
    let k = ordered w ps r o e lt in
    (record { network = n; rooted = r; node = k.0; place = subst (λ j. 1 ≤ j) (sym k.1) one }, k.1)

-- a node and its parent, as they are read
module _ {w : Network} {ps : List Position} {c : ℕ} {here there : Position} (b : IsBelowRoot w ps c) (e : here ≡ at ps c)
    (f : there ≡ at ps here.parent) where
  abbrev n : IsNetwork w
  n = b.network

  abbrev r : IsRooted w ps
  r = b.rooted

  parent_is : here.parent ≡ (at ps c).parent
  parent_is = ap (λ (p : Position). p.parent) e

  there_is : there ≡ at ps (at ps c).parent
  there_is = f ∙ ap (at ps) parent_is

  pub parent_node : here.parent < w.nodes
  parent_node = subst (λ p. p < w.nodes) (sym parent_is) (parent_there_below w ps r c b.node b.place)

  pub down_is : here.down ≡ there.down + over_down w ps r c
  down_is =
      ap (λ (p : Position). p.down) e ∙ down_more w ps r c b.node b.place
      ∙ ap (λ (p : Position). p.down + over_down w ps r c) (sym there_is)

  pub up_is : here.up ≡ over_up w ps r c + there.up
  up_is =
      ap (λ (p : Position). p.up) e ∙ up_more w ps r c b.node b.place ∙ ap (λ (p : Position). over_up w ps r c + p.up) (sym there_is)

  down_ticks : here.down - there.down ≡ over_down w ps r c
  down_ticks = let k = down_is in omega arith

  up_ticks : here.up - there.up ≡ over_up w ps r c
  up_ticks = let k = up_is in omega arith

  -- the members on or below it are taken into account at its parent
  pub offered_up : {table : List Nearest} {new : Nearest} → TellsUpTo w ps ((at ps c).place + 1) table
      → Takes (nearest_of table here.parent) (nearest_of table c) (here.down - there.down) new
      → TellsUpTo w ps (at ps c).place (slice_set table here.parent new)
  offered_up {table} {new} up t =
      let p = here.parent in
      let d = here.down - there.down in
      let set = slice_set table p new in
      let keeps = step_keeps w n table up.sound c p d new b.node parent_node t in
      record {
        sound = step_sound w n table up.sound c p d new b.node parent_node t
            (λ x hx. rw (down_ticks, parent_is) (parent_near w ps r c b.node b.place x hx));
        own = λ m hm. keeps (host w m) m 0 (host_below w n m hm) (up.own m hm);
        below = λ u m hu hm le first held. elim (cases_eq (at ps u).place (at ps c).place) [
          | inl same ↦ (let is : c ≡ u = same_place w ps r c u b.node hu (sym same) in
              let own : IsHeld (at ps c) (at ps (host w m)) = subst (λ v. IsHeld (at ps v) (at ps (host w m))) (sym is) held in
              let far : takes w c (host w m) + d ≡ takes w p (host w m) =
              rw (down_ticks, parent_is) (sym (from_parent w ps r c b.node b.place (host w m) (host_below w n m hm) own)) in
              subst (λ q. Covers (nearest_of set q) m (takes w q (host w m))) (parent_is ∙ ap (λ v. (at ps v).parent) is)
              (subst (Covers (nearest_of set p) m) far (step_takes w n table up.sound c p d new b.node parent_node t m
              (takes w c (host w m)) (complete w ps n r table ((at ps c).place + 1) up c m b.node hm (omega arith) own))))
          | inr other ↦ keeps (at ps u).parent m (takes w (at ps u).parent (host w m)) (parent_there_below w ps r u hu first)
              (up.below u m hu hm (omega arith) first held)
        ];
      }

  -- the members that its parent knows are taken into account at it
  pub offered_down : {table : List Nearest} {new : Nearest} → TellsDownTo w ps (at ps c).place table
      → Takes (nearest_of table c) (nearest_of table here.parent) (here.up - there.up) new
      → TellsDownTo w ps ((at ps c).place + 1) (slice_set table c new)
  offered_down {table} {new} down t =
      let p = here.parent in
      let d = here.up - there.up in
      let set = slice_set table c new in
      let keeps = step_keeps w n table down.sound p c d new parent_node b.node t in
      record {
        sound = step_sound w n table down.sound p c d new parent_node b.node t
            (λ x hx. rw (up_ticks, parent_is) (child_near w ps r c b.node b.place x hx));
        below = λ u m hu hm held. keeps u m (takes w u (host w m)) hu (down.below u m hu hm held);
        all = λ u m hu hm le. elim (cases_eq (at ps u).place (at ps c).place) [
          | inl same ↦ subst (λ x. Covers (nearest_of set x) m (takes w x (host w m))) (same_place w ps r c u b.node hu (sym same))
              (elim (held_or_not w ps r (at ps c) (at ps (host w m))) [
                | inl h ↦ keeps c m (takes w c (host w m)) b.node (down.below c m b.node hm h)
                | inr h ↦ (let far : takes w p (host w m) + d ≡ takes w c (host w m) =
                    rw (up_ticks, parent_is) (sym (to_parent w ps r c b.node b.place (host w m) (host_below w n m hm) h)) in
                    subst (Covers (nearest_of set c) m) far (step_takes w n table down.sound p c d new parent_node b.node t m
                    (takes w p (host w m)) (down.all p m parent_node hm (rw parent_is (parent_before w ps r c b.node b.place)))))
              ])
          | inr other ↦ keeps u m (takes w u (host w m)) hu (down.all u m hu hm (omega arith))
        ];
      }
