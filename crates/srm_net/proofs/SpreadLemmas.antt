-- To which nodes a packet comes, found from node to node.
use Rattle.std.proofs.Common.{◌≡◌, ◌≢◌, ℕ, zero, suc, ◌+◌, ◌<◌, Bool, true, false, not, cond, ◌&&◌, List, [], ◌∷◌, ◌++◌, length}
use Rattle.std.proofs.Common.{Some, refl, sym, ap, ◌∙◌, subst, inl, inr, arith, eq-eqb, eqb-true, slice_get, replicate}
use Rattle.std.proofs.Common.{unwrap_or, Option, None, IfSome, map, is_some, slice_index_or, if◌then◌else◌}
use Rattle.std.specs.List.{list_any}
use Rattle.std.proofs.lemmas.Bool.{cases_Bool, and_parts, both_ways, ne_eqb, false≢true}
use Rattle.std.specs.Option.{option_map}
use Rattle.std.proofs.lemmas.List.{length-replicate, length-map}
use Rattle.std.proofs.lemmas.Option.{slice_get-map}
use Rattle.srm_net.specs.declared.link.LinkSpec.{LinkSpec}
use Rattle.srm_net.specs.declared.packet.PacketId.{PacketId}
use Rattle.srm_net.specs.Network.{Network, Joins, IsWalk, IsTree, IsNetwork}
use Rattle.srm_net.specs.Paths.{is_in, end_of, delay_of, delay_along, distance, host, route, Stop, stop, stops, takes_out}
use Rattle.srm_net.specs.Paths.{hops, is_within, reaches, crosses, drops_at}
use Rattle.srm_net.specs.DropRules.{DropRules, may_drop}
use Rattle.srm_net.specs.Tables.{is_beyond, near_end, far_from, some_beyond}
use Rattle.srm_net.specs.Rooting.{takes}
use Rattle.srm_net.specs.Spreads.{comes_to, arrival, PlainSpread, TellsArrivals, IsSpread, FitsIn, TellsHops}
use Rattle.srm_net.proofs.Lists.{below_get, get_below, get_index}
use Rattle.srm_net.proofs.Numbers.{Apart, in_head, in_tail, in_cases, in_append_cases, not_in, apart_push, apart_from_distinct}
use Rattle.srm_net.proofs.Walks.{turned, walk_last, same_link, same_far}
use Rattle.srm_net.proofs.RouteLemmas.{joins_far, route_path, route_only}
use Rattle.srm_net.proofs.PathLaws.{LinkOf, ends_below, on_route, route_begins, route_nowhere, first_or_never, host_below}
use Rattle.srm_net.proofs.TreeWays.{walk_push}
use Rattle.srm_net.proofs.DropLemmas.{any_push}
use Rattle.srm_net.proofs.OnePaths.{joins_others, link_path}
use Rattle.srm_net.proofs.BuiltLemmas.{told_crossed, told_dropped}
use Rattle.srm_net.proofs.FateLemmas.{spared, none_stops}

-- ---- a walk the other way round

-- a walk from node v to node u by some of these nodes
pub record Back (links : List LinkSpec) (u v : ℕ) (ns : List ℕ) : Type 0 where
  pub path : List ℕ
  pub nodes : List ℕ
  pub walk : IsWalk links v path u nodes
  pub apart : Apart nodes
  pub within : (n : ℕ) → is_in nodes n ≡ true → is_in ns n ≡ true

pub walk_back : (links : List LinkSpec) (u : ℕ) (ls : List ℕ) (v : ℕ) (ns : List ℕ) → IsWalk links u ls v ns → Apart ns → Back links u v ns
walk_back links u [] v ns w a = record {
  path = [];
  nodes = v ∷ [];
  walk = (sym w.0, refl);
  apart = (refl, tt);
  within = λ n i. elim (in_cases v n [] i) [
    | inl e ↦ subst (λ t. is_in ns t ≡ true) e (walk_last links u [] v ns w)
    | inr e ↦
        absurd (false≢true e)
  ];
}
walk_back links u (l ∷ ls) v ns w a =
    let b : Apart (u ∷ w.2) = subst Apart w.5 a in
    let r = walk_back links w.1 ls v w.2 w.6 b.1 in
    let new : is_in r.nodes u ≡ false = not_in r.nodes u (λ i. both_ways _ b.0 (r.within u i)) in
    record {
      path = r.path ++ l ∷ [];
      nodes = r.nodes ++ u ∷ [];
      walk = walk_push links v r.path w.1 r.nodes l w.0 u r.walk w.3 (turned w.0 u w.1 w.4);
      apart = apart_push r.nodes u r.apart new;
      within = λ n i. subst (λ t. is_in t n ≡ true) (sym w.5) (elim (in_append_cases r.nodes (u ∷ []) n i) [
        | inl j ↦ in_tail u n w.2 (r.within n j)
        | inr j ↦ elim (in_cases u n [] j) [
          | inl e ↦ subst (λ t. is_in (u ∷ w.2) t ≡ true) e (in_head u w.2)
          | inr e ↦
              absurd (false≢true e)
        ]
      ]);
    }

pub end_joined : (links : List LinkSpec) (l : ℕ) (k : LinkSpec) (x y : ℕ) → slice_get links l ≡ Some k → Joins k x y
    → end_of x (slice_get links l) ≡ y
end_joined links l k x y g j = ap (end_of x) g ∙ ap (λ o. unwrap_or o x) (joins_far k x y j)

-- where the way back begins with a link, the way there ends with it
pub route_there : (w : Network) → IsTree w → (u x y l : ℕ) → u < w.nodes → x < w.nodes → y < w.nodes → route w x u ≡ l ∷ route w y u
    → end_of x (slice_get w.links l) ≡ y
    → route w u x ≡ route w u y ++ l ∷ []
route_there w t u x y l hu hx hy e f =
    let r = route_path w t x u hx hu in
    let k : IsWalk w.links x (l ∷ route w y u) u r.0 = subst (λ ls. IsWalk w.links x ls u r.0) e r.1.0 in
    let a : Apart (x ∷ k.2) = subst Apart k.5 r.1.1 in
    let next : k.1 ≡ y = sym (end_joined w.links l k.0 x k.1 k.3 k.4) ∙ f in
    let b = walk_back w.links k.1 (route w y u) u k.2 k.6 a.1 in
    let new : is_in b.nodes x ≡ false = not_in b.nodes x (λ i. both_ways _ a.0 (b.within x i)) in
    let near : b.path ≡ route w u y = route_only w t u y hu hy b.path b.nodes (subst (λ z. IsWalk w.links u b.path z b.nodes) next b.walk)
    b.apart in
    let far : b.path ++ l ∷ [] ≡ route w u x =
    route_only w t u x hu hx (b.path ++ l ∷ []) (b.nodes ++ x ∷ [])
    (walk_push w.links u b.path k.1 b.nodes l k.0 x b.walk k.3 (turned k.0 x k.1 k.4)) (apart_push b.nodes x b.apart new) in
    sym far ∙ ap (λ ls. ls ++ l ∷ []) near

-- the last stop of a way is at its last link
stops_push : (links : List LinkSpec) (u t : ℕ) (ls : List ℕ) (l : ℕ) → stops links u t (ls ++ l ∷ []) ≡ stops links u t ls
    ++ stop l (t + delay_along links u ls) ∷ []
stops_push links u t [] l = let e : t ≡ t + 0 = omega arith in ap (λ n. stop l n ∷ []) e
stops_push links u t (x ∷ xs) l =
    let v = end_of u (slice_get links x) in
    let d = delay_of u (slice_get links x) in
    let e : (t + d) + delay_along links v xs ≡ t + (d + delay_along links v xs) = omega arith in
    ap (λ ss. stop x t ∷ ss) (stops_push links v (t + d) xs l ∙ ap (λ n. stops links v (t + d) xs ++ stop l n ∷ []) e)

not_pushed : (a b : Bool) → not (cond a true b) ≡ (not b && not a)
not_pushed true true = refl
not_pushed true false = refl
not_pushed false true = refl
not_pushed false false = refl

-- a packet comes to a node where it comes to the one before and the link between them does not take it out
pub comes_next : (w : Network) → IsTree w → (out : Stop → Bool) (u t x y l : ℕ) → u < w.nodes → x < w.nodes → y < w.nodes → route w x u
    ≡ l ∷ route w y u → end_of x (slice_get w.links l) ≡ y
    → comes_to w out u t x ≡ (comes_to w out u t y && not (out (stop l (t + delay_along w.links u (route w u y)))))
unfolding comes_to
comes_next w n out u t x y l hu hx hy e f =
    let s = stop l (t + delay_along w.links u (route w u y)) in
    ap (λ ls. not (list_any out (stops w.links u t ls))) (route_there w n u x y l hu hx hy e f)
    ∙ ap (λ ss. not (list_any out ss)) (stops_push w.links u t (route w u y) l)
    ∙ ap not (any_push out (stops w.links u t (route w u y)) s)
    ∙ not_pushed (out s) (list_any out (stops w.links u t (route w u y)))

-- ---- the two ends of a link

-- a link at a node that is on the way from it is the first of that
pub first_of : (w : Network) (l : ℕ) (k : LinkSpec) → LinkOf w l k → (u x y : ℕ) → u < w.nodes → x < w.nodes → Joins k x y → (ls : List ℕ)
    → route w x u ≡ ls → is_in ls l ≡ true → route w x u ≡ l ∷ route w y u
first_of w l k o u x y hu hx j [] e i = absurd (false≢true i)
first_of w l k o u x y hu hx j (f ∷ rest) e i =
    let same : f ≡ l = eqb-true f l (sym (first_or_never w o.tree x u hx hu l f y k rest o.link j e) ∙ ap (λ ls. is_in ls l) e ∙ i) in
    let b = route_begins w o.tree x u hx hu f rest e in
    let link : b.spec ≡ k = same_link w.links f l b.spec k same b.link o.link in
    let next : b.next ≡ y = same_far k x b.next y (subst (λ (c : LinkSpec). Joins c x b.next) link b.joins) j in
    e ∙ ap (λ m. m ∷ rest) same ∙ ap (λ ls. l ∷ ls) (b.rest_is ∙ ap (λ z. route w z u) next)

-- what is known of the ends of a link, as seen from a node
pub record EndsOf (w : Network) (l u near far : ℕ) : Type 0 where
  pub near_in : near < w.nodes
  pub far_in : far < w.nodes
  pub back : route w far u ≡ l ∷ route w near u
  pub leads : end_of far (slice_get w.links l) ≡ near

ends_by : (w : Network) (l : ℕ) (k : LinkSpec) → LinkOf w l k → (u x y : ℕ) → u < w.nodes → x < w.nodes → y < w.nodes → Joins k x y
    → is_in (route w x u) l ≡ true → EndsOf w l u y x
ends_by w l k o u x y hu hx hy j i = grind (arith, first_of)

beyond_itself : (w : Network) (l : ℕ) (k : LinkSpec) → LinkOf w l k → is_beyond w l k k.b ≡ true
beyond_itself w l k o =
    let ends = ends_below w l k o in
    let p = link_path w.links l k o.link (joins_others w o.tree l k o.link) in
    let e : l ∷ [] ≡ route w k.a k.b = route_only w o.tree k.a k.b ends.0 ends.1 (l ∷ []) p.0 p.1 (apart_from_distinct p.0 p.2) in
    subst (λ ls. is_in ls l ≡ true) e (in_head l [])

pub ends_told : (w : Network) (l : ℕ) (k : LinkSpec) → LinkOf w l k → (u : ℕ) → u < w.nodes
    → EndsOf w l u (near_end w l k u) (far_from k (near_end w l k u))
ends_told w l k o u hu =
    let ends = ends_below w l k o in
    let apart : k.a ≢ k.b = joins_others w o.tree l k o.link in
    elim (cases_Bool (is_beyond w l k u)) [
      | inl e ↦ rw e (rw (ne_eqb k.a k.b apart) (ends_by w l k o u k.a k.b hu ends.0 ends.1 (inl (refl, refl)) e))
      | inr e ↦ rw e (rw (eq-eqb k.a k.a refl) (ends_by w l k o u k.b k.a hu ends.1 ends.0 (inr (refl, refl))
          (on_route w l k o k.b u ends.1 hu ∙ ap (λ b. cond b (not (is_beyond w l k u)) (is_beyond w l k u)) (beyond_itself w l k o)
          ∙ ap not e)))
    ]

-- ---- what becomes of the packet at a link

-- a link, its ends as seen from the sender of a spread, and whether any member is beyond it
pub record SeenFrom (w : Network) (l u near far : ℕ) (any : Bool) : Type 0 where
  pub link : l < length w.links
  pub nears : (k : LinkSpec) → slice_get w.links l ≡ Some k → near ≡ near_end w l k u
  pub fars : (k : LinkSpec) → slice_get w.links l ≡ Some k → far ≡ far_from k near
  pub anys : (k : LinkSpec) → slice_get w.links l ≡ Some k → any ≡ some_beyond w l k u

pub seen_ends : (w : Network) → IsNetwork w → (l u near far : ℕ) (any : Bool) → u < w.nodes → SeenFrom w l u near far any
    → EndsOf w l u near far
seen_ends w n l u near far any hu s =
    let k = below_get w.links l s.link in
    let e : near ≡ near_end w l k.0 u = s.nears k.0 k.1 in
    let f : far ≡ far_from k.0 (near_end w l k.0 u) = s.fars k.0 k.1 ∙ ap (far_from k.0) e in
    subst (λ z. EndsOf w l u z far) (sym e) (subst (λ z. EndsOf w l u (near_end w l k.0 u) z) (sym f)
    (ends_told w l k.0 (record { tree = n.tree; link = k.1 }) u hu))

module _ (w : Network) (n : IsNetwork w) (l u near far : ℕ) (any : Bool) (seen : SeenFrom w l u near far any) (rules : DropRules)
    (p : PacketId) (sent : ℕ) (hs : p.sender < length w.hosts) (e : u ≡ host w p.sender) where
  hu : u < w.nodes
  hu = subst (λ z. z < w.nodes) (sym e) (host_below w n p.sender hs)

  over : comes_to w (takes_out rules p) u sent far
      ≡ (comes_to w (takes_out rules p) u sent near && not (takes_out rules p (stop l (sent + delay_along w.links u (route w u near)))))
  over =
      let ends = seen_ends w n l u near far any hu seen in
      comes_next w n.tree (takes_out rules p) u sent far near l hu ends.far_in ends.near_in ends.back ends.leads

  crossed_plain : crosses w rules p sent None l ≡ (not (takes_out rules p (stop l (sent + delay_along w.links u (route w u near)))) &&
      (any && comes_to w (takes_out rules p) u sent near))
  unfolding comes_to
  crossed_plain = told_crossed w n l u near sent any rules p seen.link hs e seen.nears seen.anys

  dropped_plain : drops_at w rules p sent None l ≡ (takes_out rules p (stop l (sent + delay_along w.links u (route w u near))) &&
      (any && comes_to w (takes_out rules p) u sent near))
  unfolding comes_to
  dropped_plain = told_dropped w n l u near sent any rules p seen.link hs e seen.nears seen.anys

  pub crossed_in : crosses w rules p sent None l
      ≡ (any && (comes_to w (takes_out rules p) u sent near && comes_to w (takes_out rules p) u sent far))
  crossed_in = grind (arith, crossed_plain, over)

  pub dropped_in : drops_at w rules p sent None l
      ≡ (any && (comes_to w (takes_out rules p) u sent near && not (comes_to w (takes_out rules p) u sent far)))
  dropped_in = grind (arith, dropped_plain, over)

-- what a spread tells of a link
module _ (w : Network) (n : IsNetwork w) (l u near far : ℕ) (any : Bool) (seen : SeenFrom w l u near far any) (s : PlainSpread)
    (fits : FitsIn w s) (e : u ≡ host w s.sender)
    (rules : DropRules) (p : PacketId) (sent : ℕ) (scope : Option ℕ) (is : IsSpread w rules p sent scope s) where
  below : p.sender < length w.hosts
  below = subst (λ m. m < length w.hosts) is.sender fits.sender

  home : u ≡ host w p.sender
  home = e ∙ ap (host w) is.sender

  read : (x : ℕ) (b : Bool) → x < w.nodes → slice_get s.comes x ≡ Some b → comes_to w (takes_out rules p) u sent x ≡ b
  read x b lt g = grind arith

  ends : EndsOf w l u near far
  ends = seen_ends w n l u near far any (subst (λ z. z < w.nodes) (sym home) (host_below w n p.sender below)) seen

  pub not_beyond : any ≡ false → (crosses w rules p sent None l ≡ false) × (drops_at w rules p sent None l ≡ false)
  not_beyond h =
      let c = crossed_in w n l u near far any seen rules p sent below home in
      let d = dropped_in w n l u near far any seen rules p sent below home in (
        c ∙ ap (λ b. b && (comes_to w (takes_out rules p) u sent near && comes_to w (takes_out rules p) u sent far)) h,
        d ∙ ap (λ b. b && (comes_to w (takes_out rules p) u sent near && not (comes_to w (takes_out rules p) u sent far))) h,
      )

  -- by whether it comes to the nearer end, and to the farther, which it comes to from there
  pub by_ends : (a b : Bool) → any ≡ true → slice_get s.comes near ≡ Some a → slice_get s.comes far ≡ Some b
      → (crosses w rules p sent None l ≡ (a && b)) × (drops_at w rules p sent None l ≡ (a && not b)) × (b ≡ true → a ≡ true)
  by_ends a b h g f =
      let q = read near a ends.near_in g in
      let r = read far b ends.far_in f in
      let c = crossed_in w n l u near far any seen rules p sent below home in
      let d = dropped_in w n l u near far any seen rules p sent below home in
      let o = over w n l u near far any seen rules p sent below home in (
        c ∙ ap (λ x. x && (comes_to w (takes_out rules p) u sent near && comes_to w (takes_out rules p) u sent far)) h
            ∙ ap (λ x. x && comes_to w (takes_out rules p) u sent far) q ∙ ap (λ x. a && x) r,
        d ∙ ap (λ x. x && (comes_to w (takes_out rules p) u sent near && not (comes_to w (takes_out rules p) u sent far))) h
            ∙ ap (λ x. x && not (comes_to w (takes_out rules p) u sent far)) q ∙ ap (λ x. a && not x) r,
        λ t. sym q ∙ (and_parts _ _ (sym o ∙ r ∙ t)).0,
      )

-- a link as it is seen from a node
pub seen_of : (w : Network) (l : ℕ) (k : LinkSpec) → slice_get w.links l ≡ Some k → (u : ℕ)
    → SeenFrom w l u (near_end w l k u) (far_from k (near_end w l k u)) (some_beyond w l k u)
seen_of w l k g u =
    let only : (j : LinkSpec) → slice_get w.links l ≡ Some j → k ≡ j = λ j h. (let q : Some k ≡ Some j = sym g ∙ h in cc) in
    record {
      link = get_below w.links l k g;
      nears = λ j h. ap (λ (i : LinkSpec). near_end w l i u) (only j h);
      fars = λ j h. ap (λ (i : LinkSpec). far_from i (near_end w l k u)) (only j h);
      anys = λ j h. ap (λ (i : LinkSpec). some_beyond w l i u) (only j h);
    }

-- where nobody is beyond a link from the sender's node, the packet does not cross it, and is not dropped there
pub nobody_beyond : (w : Network) → IsNetwork w → (l : ℕ) → l < length w.links → (s : PlainSpread) → FitsIn w s
    → ((k : LinkSpec) → slice_get w.links l ≡ Some k → some_beyond w l k (host w s.sender) ≡ false)
    → (rules : DropRules) (p : PacketId) (sent : ℕ) (scope : Option ℕ) → IsSpread w rules p sent scope s
    → (crosses w rules p sent None l ≡ false) × (drops_at w rules p sent None l ≡ false)
nobody_beyond w n l lt s fits none rules p sent scope is =
    let k = below_get w.links l lt in
    let u = host w s.sender in
    not_beyond w n l u _ _ (some_beyond w l k.0 u) (seen_of w l k.0 k.1 u) s fits refl rules p sent scope is (none k.0 k.1)

-- ---- a packet that may not be dropped

pub comes_everywhere : (w : Network) (rules : DropRules) (p : PacketId) (sent u x : ℕ) → may_drop rules p sent ≡ false
    → comes_to w (takes_out rules p) u sent x ≡ true
unfolding comes_to
comes_everywhere w rules p sent u x h = ap not (none_stops (takes_out rules p) sent (spared rules p sent h) w.links u sent (route w u x)
    (omega arith))

-- a packet comes to the node at which it is
pub comes_home : (w : Network) (out : Stop → Bool) (u t : ℕ) → comes_to w out u t u ≡ true
unfolding comes_to
comes_home w out u t = ap (λ ls. not (list_any out (stops w.links u t ls))) (route_nowhere w u)

pub get_all : (n : ℕ) (b : Bool) (x : ℕ) → x < n → slice_get (replicate n b) x ≡ Some b
get_all zero b x h = absurd (omega arith)
get_all (suc n) b zero h = refl
get_all (suc n) b (suc x) h = get_all n b x (omega arith)

pub spread_everywhere : (w : Network) (rules : DropRules) (p : PacketId) (sent : ℕ) (scope : Option ℕ) (n : ℕ)
    → may_drop rules p sent ≡ false → n ≡ w.nodes
    → IsSpread w rules p sent scope (record
    { sender = p.sender; scope = scope; comes = replicate n true; arrivals = None; hops = None })
spread_everywhere w rules p sent scope n h e = record {
  sender = refl;
  scope_is = refl;
  nodes = length-replicate n true ∙ e;
  each = λ x lt.
      get_all n true x (subst (λ m. x < m) (sym e) lt) ∙ ap Some (sym (comes_everywhere w rules p sent (host w p.sender) x h));
  arrivals = tt;
  hops = tt;
}

is_some_if : (b : Bool) (n : ℕ) → is_some (if b then Some n else None) ≡ b
is_some_if true n = refl
is_some_if false n = refl

-- ---- a packet of which it is told when it comes to each node

pub spread_told : (w : Network) (rules : DropRules) (p : PacketId) (sent : ℕ) (scope : Option ℕ) (arrivals : List (Option ℕ))
    (hops : Option (List ℕ))
    → TellsArrivals w (takes_out rules p) (host w p.sender) sent arrivals → IfSome hops (TellsHops w (host w p.sender))
    → IsSpread w rules p sent scope
    (record { sender = p.sender; scope = scope; comes = map is_some arrivals; arrivals = Some arrivals; hops = hops })
spread_told w rules p sent scope arrivals hops told counted = record {
  sender = refl;
  scope_is = refl;
  nodes = length-map arrivals is_some ∙ told.nodes;
  each = λ x lt.
      slice_get-map is_some arrivals x ∙ ap (option_map is_some) (told.each x lt)
      ∙ ap Some (is_some_if (comes_to w (takes_out rules p) (host w p.sender) sent x) (sent + takes w (host w p.sender) x));
  arrivals = told;
  hops = counted;
}

-- ---- what a spread tells of a member

-- a packet reaches a member within its scope where it would without scope
pub reaches_within : (w : Network) (rules : DropRules) (p : PacketId) (sent : ℕ) (scope : Option ℕ) (m : ℕ)
    → reaches w rules p sent scope m ≡ (is_within scope (hops w p.sender m) && reaches w rules p sent None m)
unfolding reaches
reaches_within w rules p sent scope m = refl

-- and so it is told
pub reaches_by : (w : Network) (rules : DropRules) (p : PacketId) (sent : ℕ) (scope : Option ℕ) (m : ℕ) (b : Bool)
    → b ≡ is_within scope (hops w p.sender m) → reaches w rules p sent scope m ≡ (b && reaches w rules p sent None m)
reaches_by w rules p sent scope m b told =
    reaches_within w rules p sent scope m ∙ ap (λ c. c && reaches w rules p sent None m) (sym told)

pub reached_there : (w : Network) (s : PlainSpread) (rules : DropRules) (p : PacketId) (sent : ℕ) (scope : Option ℕ)
    → IsSpread w rules p sent scope s → (m x : ℕ) (b : Bool) → x ≡ host w m → x < w.nodes → slice_get s.comes x ≡ Some b
    → b ≡ reaches w rules p sent None m
unfolding comes_to reaches
reached_there w s rules p sent scope is m x b e lt g = grind arith

pub arrival_told : (w : Network) (s : PlainSpread) (rules : DropRules) (p : PacketId) (sent : ℕ) (scope : Option ℕ)
    → IsSpread w rules p sent scope s → (arrivals : List (Option ℕ)) → s.arrivals ≡ Some arrivals → (m x : ℕ) → x ≡ host w m
    → x < w.nodes
    → slice_index_or arrivals x None ≡ (if reaches w rules p sent None m then Some (sent + distance w p.sender m) else None)
unfolding comes_to reaches distance
arrival_told w s rules p sent scope is arrivals h m x e lt =
    let out = takes_out rules p in
    let u = host w p.sender in
    let told : TellsArrivals w out u sent arrivals = subst (λ o. IfSome o (TellsArrivals w out u sent)) h is.arrivals in
    get_index arrivals x _ None (told.each x lt) ∙ ap (arrival w out u sent) e

pub arrival_everywhere : (w : Network) → IsNetwork w → (s : PlainSpread) (rules : DropRules) (p : PacketId) (sent : ℕ) (scope : Option ℕ)
    → IsSpread w rules p sent scope s → (n : ℕ) → s.comes ≡ replicate n true → (m : ℕ) → m < length w.hosts
    → Some (sent + distance w s.sender m)
    ≡ (if reaches w rules p sent None m then Some (sent + distance w p.sender m) else None)
arrival_everywhere w net s rules p sent scope is n all m lt =
    let x = host w m in
    let below : x < w.nodes = host_below w net m lt in
    let long : n ≡ w.nodes = sym (length-replicate n true) ∙ ap length (sym all) ∙ is.nodes in
    let there = ap (λ bs. slice_get bs x) all ∙ get_all n true x (subst (λ k. x < k) (sym long) below) in
    ap (λ a. Some (sent + distance w a m)) is.sender
    ∙ ap (λ b. if b then Some (sent + distance w p.sender m) else None) (reached_there w s rules p sent scope is m x true refl below there)
