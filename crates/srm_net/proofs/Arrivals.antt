-- When a packet comes to the nodes of a tree.
use Rattle.std.proofs.Common.{◌≡◌, ◌≢◌, ℕ, ◌+◌, ◌-◌, ◌^◌, ◌<◌, ◌≤◌, Bool, true, false, not, ◌&&◌, List, Option, Some, None, length}
use Rattle.std.proofs.Common.{refl, sym, ap, ◌∙◌, subst, inl, inr, arith, slice_get, slice_set, slice_index_or, if◌then◌else◌, IfSome}
use Rattle.std.proofs.lemmas.Bool.{cases_eq, cases_lt}
use Rattle.std.proofs.lemmas.List.{length-set}
use Rattle.srm_net.specs.declared.position.Position.{Position}
use Rattle.srm_net.specs.Limits.{end_of_time}
use Rattle.srm_net.specs.Network.{Network, IsTree, IsNetwork}
use Rattle.srm_net.specs.Paths.{route, delay_of, delay_along, Stop, stop}
use Rattle.srm_net.specs.Rooting.{takes, at, IsRooted, IsFirstLink, IsHeld, IsInOrder}
use Rattle.srm_net.specs.Spreads.{comes_to, arrival, past_link, TellsArrivals, TellsAbove, TellsFirst}
use Rattle.srm_net.proofs.Lists.{get_below, get_index, index_get, get_set_same, get_set_other}
use Rattle.srm_net.proofs.RouteLemmas.{route_path}
use Rattle.srm_net.proofs.PathLaws.{delay_bounded}
use Rattle.srm_net.proofs.TreeWays.{delay_push}
use Rattle.srm_net.proofs.Rootings.{takes_nothing, parent_back}
use Rattle.srm_net.proofs.SpreadLemmas.{comes_home, comes_next, route_there}
use Rattle.srm_net.proofs.Firsts.{parent_held, held_by_parent, held_itself, first_down, first_up, up_held}

-- ---- from one node to the next

turned_over : (o : Bool) (n : ℕ) → (if not o then Some n else None) ≡ (if o then None else Some n)
turned_over true n = refl
turned_over false n = refl

passed : (b : Bool) (out : Stop → Bool) (l n ticks : ℕ) → (if b && not (out (stop l n)) then Some (n + ticks) else None)
    ≡ past_link out l ticks (if b then Some n else None)
passed true out l n ticks = turned_over (out (stop l n)) (n + ticks)
passed false out l n ticks = refl

-- the packet comes to node x from node y, over link l in so many ticks
pub record Comes (w : Network) (out : Stop → Bool) (u t y x l ticks : ℕ) : Type 0 where
  pub takes_is : takes w u x ≡ takes w u y + ticks
  pub arrival_is : arrival w out u t x ≡ past_link out l ticks (arrival w out u t y)

comes_over : (w : Network) → IsTree w → (out : Stop → Bool) (u t y x l ticks : ℕ) → u < w.nodes → x < w.nodes → IsFirstLink w x u l y
    → takes w u x ≡ takes w u y + ticks → Comes w out u t y x l ticks
comes_over w n out u t y x l ticks hu hx f e =
    let come = comes_to w out u t y && not (out (stop l (t + takes w u y))) in
    let next : comes_to w out u t x ≡ come = comes_next w n out u t x y l hu hx f.node f.route f.leads in
    let later : t + takes w u x ≡ (t + takes w u y) + ticks = omega arith in
    record {
      takes_is = e;
      arrival_is = ap (λ b. if b then Some (t + takes w u x) else None) next
          ∙ ap (λ k. if comes_to w out u t y && not (out (stop l (t + takes w u y))) then Some k else None) later
          ∙ passed (comes_to w out u t y) out l (t + takes w u y) ticks;
    }

pub home : (w : Network) (out : Stop → Bool) (u t : ℕ) → arrival w out u t u ≡ Some t
home w out u t = grind (arith, takes_nothing, comes_home)

pub less_of : (n i : ℕ) → n ≢ i → n < i + 1 → n < i
less_of n i d h = elim (cases_lt n i) [ inl e ↦ e | inr e ↦ absurd (d (omega arith)) ]

-- it comes in time
pub soon : (w : Network) → IsNetwork w → (out : Stop → Bool) (u t y x l ticks : ℕ) → u < w.nodes → x < w.nodes → t < end_of_time
    → Comes w out u t y x l ticks → IfSome (arrival w out u t y) (λ k. k + ticks < 2 ^ 64)
soon w n out u t y x l ticks hu hx ht c = grind (arith, delay_bounded)

-- a position is held by another, or not, as they are read
pub held_read : (ps : List Position) (x u : ℕ) (here from : Position) → here ≡ at ps x → from ≡ at ps u → IsHeld here from
    → IsHeld (at ps x) (at ps u)
held_read ps x u here from e f h = subst (λ (q : Position). IsHeld q (at ps u)) e (subst (λ (q : Position). IsHeld here q) f h)

pub not_held_read : (ps : List Position) (x u : ℕ) (here from : Position) (b : Bool) → here ≡ at ps x → from ≡ at ps u
    → (here.place ≤ from.place → from.place < here.end → b ≡ true) → b ≡ false → IsHeld (at ps x) (at ps u) → ⊥
not_held_read ps x u here from b e f whole n held = grind arith

module _ (w : Network) (ps : List Position) (r : IsRooted w ps) where
  -- a node but the root, and its parent
  pub record Above (n : ℕ) : Type 0 where
    pub node : (at ps n).parent < w.nodes
    pub lower : (at ps (at ps n).parent).place < (at ps n).place

  above_of : (n : ℕ) → n < w.nodes → 1 ≤ r.place n → Above n
  above_of n hn h =
      let p = (r.each n hn).parent h in
      let en = (r.each n hn).place_is in
      let ep = (r.each (at ps n).parent p.node).place_is in
      let low : r.place (at ps n).parent < r.place n = p.earlier in
      record { node = p.node; lower = omega arith }

  -- from a node that is above the sender to its parent
  pub record Up (out : Stop → Bool) (u t n : ℕ) : Type 0 where
    pub node : (at ps n).parent < w.nodes
    pub lower : (at ps (at ps n).parent).place < (at ps n).place
    pub held : IsHeld (at ps (at ps n).parent) (at ps u)
    pub less : (at ps (at ps n).parent).up ≤ (at ps n).up
    pub comes : Comes w out u t n (at ps n).parent (at ps n).link ((at ps n).up - (at ps (at ps n).parent).up)

  pub upwards : (out : Stop → Bool) (u t n : ℕ) → u < w.nodes → n < w.nodes → n ≢ 0 → IsHeld (at ps n) (at ps u) → Up out u t n
  upwards out u t n hu hn d held =
      let some : 1 ≤ w.nodes = r.tree.some_nodes in
      let root : r.place 0 ≡ 0 = r.root in
      let h : 1 ≤ r.place n = elim (cases_eq (r.place n) 0)
      [ inl z ↦ absurd (d (r.apart n 0 hn some (z ∙ sym root))) | inr z ↦ omega arith ] in
      let a = above_of n hn h in
      let p = (at ps n).parent in
      let over = held_by_parent w ps r n u hn hu h held in
      let own = held_by_parent w ps r n n hn hn h (held_itself w ps r n hn) in
      let x : (at ps u).up ≡ takes w u n + (at ps n).up = up_held w ps r n u hn hu held in
      let y : (at ps u).up ≡ takes w u p + (at ps p).up = up_held w ps r p u a.node hu over in
      let z : (at ps n).up ≡ takes w n p + (at ps p).up = up_held w ps r p n a.node hn own in
      let first = first_down w ps r p u n a.node hu (record { node = hn; parent = refl; below = a.lower; held = held }) in
      record {
        node = a.node;
        lower = a.lower;
        held = over;
        less = omega arith;
        comes = comes_over w r.tree out u t n p (at ps n).link ((at ps n).up - (at ps p).up) hu a.node first (omega arith);
      }

  -- from its parent to a node that is not above the sender
  pub record Down (out : Stop → Bool) (u t x : ℕ) : Type 0 where
    pub node : (at ps x).parent < w.nodes
    pub lower : (at ps (at ps x).parent).place < (at ps x).place
    pub less : (at ps (at ps x).parent).down ≤ (at ps x).down
    pub comes : Comes w out u t (at ps x).parent x (at ps x).link ((at ps x).down - (at ps (at ps x).parent).down)

  pub downwards : (out : Stop → Bool) (u t x : ℕ) → u < w.nodes → x < w.nodes → (IsHeld (at ps x) (at ps u) → ⊥) → Down out u t x
  downwards out u t x hu hx n =
      let some : 1 ≤ w.nodes = r.tree.some_nodes in
      let root : r.place 0 ≡ 0 = r.root in
      let eu = (r.each u hu).place_is in
      let ex = (r.each x hx).place_is in
      let h : 1 ≤ r.place x = elim (cases_eq (r.place x) 0) [
        | inl z ↦ (let same : x ≡ 0 = r.apart x 0 hx some (z ∙ sym root) in
            let all : r.place u < (at ps x).end = subst (λ y. r.place u < (at ps y).end) (sym same) (r.whole u hu) in
            absurd (n (omega arith, omega arith)))
        | inr z ↦ omega arith
      ] in
      let a = above_of x hx h in
      let p = (at ps x).parent in
      let l = (at ps x).link in
      let f = first_up w ps r x u hx hu n in
      let way = route_path w r.tree u p hu a.node in
      let last : takes w u x ≡ takes w u p + delay_of p (slice_get w.links l) =
      ap (delay_along w.links u) (route_there w r.tree u x p l hu hx a.node f.route f.leads)
      ∙ delay_push w.links u (route w u p) p way.0 l way.1.0 in
      let low : r.place p < r.place x = ((r.each x hx).parent h).earlier in
      let back : takes w 0 x ≡ takes w 0 p + delay_of p (slice_get w.links l) =
      parent_back w r.tree r.place x p l hx ((r.each x hx).parent h) 0 some (omega arith) in
      let dx : (at ps x).down ≡ takes w 0 x = (r.each x hx).down in
      let dp : (at ps p).down ≡ takes w 0 p = (r.each p a.node).down in
      record {
        node = a.node;
        lower = a.lower;
        less = omega arith;
        comes = comes_over w r.tree out u t p x l ((at ps x).down - (at ps p).down) hu hx f (omega arith);
      }

  -- the same as it is read, where it is told of the nodes at earlier places
  pub record DownRead (out : Stop → Bool) (u t x : ℕ) (arrivals : List (Option ℕ)) (here there : Position) : Type 0 where
    pub node : here.parent < w.nodes
    pub less : there.down ≤ here.down
    pub in_time : IsNetwork w → t < end_of_time
        → IfSome (slice_index_or arrivals here.parent None) (λ k. k + (here.down - there.down) < 2 ^ 64)
    pub arrival_is : past_link out here.link (here.down - there.down) (slice_index_or arrivals here.parent None) ≡ arrival w out u t x

  pub downwards_read : {out : Stop → Bool} {u t x : ℕ} {arrivals : List (Option ℕ)} {here there : Position} → u < w.nodes → x < w.nodes
      → (IsHeld (at ps x) (at ps u) → ⊥) → TellsFirst w ps out u t (at ps x).place arrivals → here ≡ at ps x → there ≡ at ps here.parent
      → DownRead out u t x arrivals here there
  downwards_read {out} {u} {t} {x} {arrivals} {here} {there} hu hx n first e f =
      let down = downwards out u t x hu hx n in
      let p = (at ps x).parent in
      let l = (at ps x).link in
      let ticks = (at ps x).down - (at ps p).down in
      let read : slice_index_or arrivals p None ≡ arrival w out u t p =
      get_index arrivals p (arrival w out u t p) None (first.told p down.node down.lower) in
      let P : Position → Type 0 = λ h. (q : Position) → q ≡ at ps h.parent → DownRead out u t x arrivals h q in
      let at_x : P (at ps x) = λ q g. subst (λ (k : Position). DownRead out u t x arrivals (at ps x) k) (sym g) (record {
        node = down.node;
        less = down.less;
        in_time = λ k ht. subst (λ (a : Option ℕ). IfSome a (λ m. m + ticks < 2 ^ 64)) (sym read)
            (soon w k out u t p x l ticks hu hx ht down.comes);
        arrival_is = ap (past_link out l ticks) read ∙ sym down.comes.arrival_is;
      }) in
      subst P (sym e) at_x there f

  -- ---- the climb from the sender

  -- it is told of node n and of those between it and the sender
  pub record Climbed (out : Stop → Bool) (u t n : ℕ) (arrivals : List (Option ℕ)) : Type 0 where
    pub node : n < w.nodes
    pub held : IsHeld (at ps n) (at ps u)
    pub size : length arrivals ≡ w.nodes
    pub told : (x : ℕ) → x < w.nodes → IsHeld (at ps x) (at ps u) → (at ps n).place ≤ (at ps x).place
        → slice_get arrivals x ≡ Some (arrival w out u t x)

  pub same_place : (x y : ℕ) → x < w.nodes → y < w.nodes → (at ps x).place ≡ (at ps y).place → x ≡ y
  same_place x y hx hy e = r.apart x y hx hy (sym (r.each x hx).place_is ∙ e ∙ (r.each y hy).place_is)

  pub climbed_none : (out : Stop → Bool) (u t : ℕ) (arrivals : List (Option ℕ)) → u < w.nodes → length arrivals ≡ w.nodes
      → slice_get arrivals u ≡ Some (Some t) → Climbed out u t u arrivals
  climbed_none out u t arrivals hu e g = record {
    node = hu;
    held = held_itself w ps r u hu;
    size = e;
    told = λ x hx held le.
        let low : (at ps x).place ≤ (at ps u).place = held.0 in
        let same : x ≡ u = same_place x u hx hu (omega arith) in
        subst (λ y. slice_get arrivals y ≡ Some (arrival w out u t y)) (sym same) (g ∙ ap Some (sym (home w out u t)));
  }

  pub climbed_more : (out : Stop → Bool) (u t n : ℕ) (arrivals : List (Option ℕ)) (v : Option ℕ) → u < w.nodes → n ≢ 0
      → Climbed out u t n arrivals → v ≡ arrival w out u t (at ps n).parent
      → Climbed out u t (at ps n).parent (slice_set arrivals (at ps n).parent v)
  climbed_more out u t n arrivals v hu d c e =
      let p = (at ps n).parent in
      let up = upwards out u t n hu c.node d c.held in
      let size : length arrivals ≡ w.nodes = c.size in
      let hp : p < w.nodes = up.node in
      record {
        node = up.node;
        held = up.held;
        size = length-set arrivals p v ∙ size;
        told = λ x hx held le.
            elim (cases_eq p x) [
              | inl same ↦ subst (λ y. slice_get (slice_set arrivals p v) y ≡ Some (arrival w out u t y)) same
                  (get_set_same arrivals p v (omega arith) ∙ ap Some e)
              | inr other ↦ get_set_other arrivals p x v other ∙ c.told x hx held (elim (cases_lt (at ps x).place (at ps n).place) [
                | inl less ↦ absurd (let n0 : (at ps n).place ≤ (at ps u).place = c.held.0 in
                    let x1 : (at ps u).place < (at ps x).end = held.1 in
                    let apart : x ≢ n = λ s. (let q = ap (λ y. (at ps y).place) s in absurd (omega arith)) in
                    let below = parent_held w ps r x n hx c.node apart (omega arith, omega arith) in
                    let x0 : (at ps x).place ≤ (at ps p).place = below.2.0 in
                    other (same_place p x up.node hx (omega arith)))
                | inr more ↦ more
              ])
            ];
      }

  -- a step of the climb as it is read
  pub record UpRead (out : Stop → Bool) (u t n : ℕ) (arrivals : List (Option ℕ)) (here there : Position) : Type 0 where
    pub node : here.parent < w.nodes
    pub lower : (at ps here.parent).place < (at ps n).place
    pub less : there.up ≤ here.up
    pub in_time : IsNetwork w → t < end_of_time
        → IfSome (slice_index_or arrivals n None) (λ k. k + (here.up - there.up) < 2 ^ 64)
    pub climbed : (v : Option ℕ) → v ≡ past_link out here.link (here.up - there.up) (slice_index_or arrivals n None)
        → Climbed out u t here.parent (slice_set arrivals here.parent v)

  pub upwards_read : {out : Stop → Bool} {u t n : ℕ} {arrivals : List (Option ℕ)} {here there : Position} → u < w.nodes → n ≢ 0
      → Climbed out u t n arrivals → here ≡ at ps n → there ≡ at ps here.parent → UpRead out u t n arrivals here there
  upwards_read {out} {u} {t} {n} {arrivals} {here} {there} hu d c e f =
      let up = upwards out u t n hu c.node d c.held in
      let p = (at ps n).parent in
      let l = (at ps n).link in
      let ticks = (at ps n).up - (at ps p).up in
      let own : (at ps n).place ≤ (at ps n).place = omega arith in
      let read : slice_index_or arrivals n None ≡ arrival w out u t n =
      get_index arrivals n (arrival w out u t n) None (c.told n c.node c.held own) in
      let P : Position → Type 0 = λ h. (q : Position) → q ≡ at ps h.parent → UpRead out u t n arrivals h q in
      let at_n : P (at ps n) = λ q g. subst (λ (k : Position). UpRead out u t n arrivals (at ps n) k) (sym g) (record {
        node = up.node;
        lower = up.lower;
        less = up.less;
        in_time = λ m ht. subst (λ (a : Option ℕ). IfSome a (λ k. k + ticks < 2 ^ 64)) (sym read)
            (soon w m out u t n p l ticks hu up.node ht up.comes);
        climbed = λ v is. climbed_more out u t n arrivals v hu d c (is ∙ ap (past_link out l ticks) read ∙ sym up.comes.arrival_is);
      }) in
      subst P (sym e) at_n there f

  pub climbed_all : (out : Stop → Bool) (u t n : ℕ) (arrivals : List (Option ℕ)) → n ≡ 0 → Climbed out u t n arrivals
      → TellsAbove w ps out u t arrivals
  climbed_all out u t n arrivals e c =
      let some : 1 ≤ w.nodes = r.tree.some_nodes in
      let root : r.place 0 ≡ 0 = r.root in
      let first : (at ps 0).place ≡ r.place 0 = (r.each 0 some).place_is in
      let least : (at ps n).place ≡ (at ps 0).place = ap (λ y. (at ps y).place) e in
      record { nodes = c.size; above = λ x hx held. c.told x hx held (omega arith) }

  -- ---- the pass over all nodes

  -- the i-th node of the order
  pub ordered : {order items : List ℕ} {i : ℕ} → IsInOrder w ps order → items ≡ order → i < length items
      → (slice_index_or items i 0 < w.nodes) × ((at ps (slice_index_or items i 0)).place ≡ i)
  ordered {order} {items} {i} o e lt =
      o.node i (slice_index_or items i 0) (ap (λ ns. slice_get ns i) (sym e) ∙ index_get items i 0 lt)

  pub first_held : {out : Stop → Bool} {u t i x : ℕ} {arrivals : List (Option ℕ)} → x < w.nodes → (at ps x).place ≡ i
      → IsHeld (at ps x) (at ps u) → TellsFirst w ps out u t i arrivals → TellsFirst w ps out u t (i + 1) arrivals
  first_held {out} {u} {t} {i} {x} {arrivals} hx e held f = record {
    above = f.above;
    told = λ y hy lt.
        elim (cases_eq (at ps y).place i) [
          | inl g ↦ subst (λ z. slice_get arrivals z ≡ Some (arrival w out u t z)) (same_place x y hx hy (e ∙ sym g))
              (f.above.above x hx held)
          | inr n ↦ f.told y hy (omega arith)
        ];
  }

  pub first_more : {out : Stop → Bool} {u t x : ℕ} {arrivals : List (Option ℕ)} {v : Option ℕ} → x < w.nodes
      → TellsFirst w ps out u t (at ps x).place arrivals → v ≡ arrival w out u t x
      → TellsFirst w ps out u t ((at ps x).place + 1) (slice_set arrivals x v)
  first_more {out} {u} {t} {x} {arrivals} {v} hx f is =
      let size : length arrivals ≡ w.nodes = f.above.nodes in
      let Told : ℕ → Type 0 = λ y. slice_get (slice_set arrivals x v) y ≡ Some (arrival w out u t y) in
      let here : Told x = get_set_same arrivals x v (omega arith) ∙ ap Some is in
      record {
        above = record {
          nodes = length-set arrivals x v ∙ size;
          above = λ y hy held.
              elim (cases_eq x y) [
                | inl same ↦ subst Told same here
                | inr other ↦ get_set_other arrivals x y v other ∙ f.above.above y hy held
              ];
        };
        told = λ y hy lt.
            elim (cases_eq x y) [
              | inl same ↦ subst Told same here
              | inr other ↦ (let n : (at ps y).place ≢ (at ps x).place = λ g. other (same_place x y hx hy (sym g)) in
                  get_set_other arrivals x y v other ∙ f.told y hy (less_of (at ps y).place (at ps x).place n lt))
            ];
      }

  pub first_all : {out : Stop → Bool} {u t i : ℕ} {order : List ℕ} {arrivals : List (Option ℕ)} → IsInOrder w ps order
      → length order ≤ i → TellsFirst w ps out u t i arrivals → TellsArrivals w out u t arrivals
  first_all {out} {u} {t} {i} {order} {arrivals} o h f = record {
    nodes = f.above.nodes;
    each = λ x hx.
        let within = get_below order (at ps x).place x (o.each x hx) in
        f.told x hx (omega arith);
  }
