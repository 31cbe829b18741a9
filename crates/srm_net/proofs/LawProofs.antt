-- The laws of distances, of the least of them, and of drops.
use Rattle.std.proofs.lemmas.Grind.{common_steps}
use Rattle.std.proofs.Common.{◌≡◌, ◌≢◌, ◌⊎◌, ◌↔◌, ℕ, zero, suc, ◌+◌, ◌<◌, ◌≤◌, min, true, false, not, cond, ◌==◌, ◌&&◌, List, [], ◌∷◌}
use Rattle.std.proofs.Common.{length, map, filter, fold, Option, Some, None, refl, sym, ap, ◌∙◌, subst, inl, inr, arith, eqb, slice_get}
use Rattle.std.proofs.Common.{All, Contains, Less, Equal, Greater}
use Rattle.std.specs.List.{range_with_len, list_any}
use Rattle.std.specs.Ordering.{ordering_reverse}
use Rattle.std.specs.Cmp.{on_total}
use Rattle.std.specs.Cmp.Lexicographic.{nat_list_cmp_total}
use Rattle.std.proofs.lemmas.Bool.{ne_eqb, eqb-false, cases_Bool, cases_eq, false≢true}
use Rattle.srm_net.specs.declared.packet.Heard.{Heard}
use Rattle.srm_net.specs.declared.packet.PacketId.{PacketId}
use Rattle.srm_net.specs.declared.link.LinkSpec.{LinkSpec}
use Rattle.srm_net.specs.declared.link.DropSpec.{DropSpec}
use Rattle.srm_net.specs.Orders.{AllAfter}
use Rattle.srm_net.specs.Keys.{key_cmp}
use Rattle.srm_net.specs.Names.{name_cmp, page_cmp, id_cmp, heard_cmp}
use Rattle.srm_net.specs.Network.{Network, IsTree, IsWalk, IsAlike, HasDelays, IsNetwork}
use Rattle.srm_net.specs.Paths.{is_in, route, host, member_route, delay_from, delay_along, distance, drop_cmp, is_listed, stops, takes_out}
use Rattle.srm_net.specs.Paths.{hops, is_within, reaches}
use Rattle.srm_net.specs.Least.{least, lesser_delay, least_delay, others, out}
use Rattle.srm_net.specs.Growth.{attached}
use Rattle.srm_net.specs.Laws.{DistancesFit, AlikeBothWays, RoundsTurn, LeastDelayFits, NoLinkNoTwo, OutFits, OutOfTheOnlyOne}
use Rattle.srm_net.specs.Laws.{ReachesItsSender, SameDropsListed, OneListOfDrops, OrdersTotally}
use Rattle.srm_net.proofs.Lists.{all_get}
use Rattle.srm_net.proofs.Numbers.{in_head, in_tail, in_cases, apart_from_distinct}
use Rattle.srm_net.proofs.Growing.{grows_to, all_attached}
use Rattle.srm_net.proofs.RouteLemmas.{route_path, route_only}
use Rattle.srm_net.proofs.PathLaws.{host_below, hosts_apart, along_first, distance_bounded, distance_apart, route_nowhere}
use Rattle.srm_net.proofs.TreeWays.{BothWays, both_ways_grown}
use Rattle.srm_net.proofs.DropLemmas.{contains_listed, listed_contains}
use Rattle.srm_net.proofs.TotalOrders.{drop_total, key_total, tied_keys, name_total, tied_names, page_total, tied_pages}
use Rattle.srm_net.proofs.Basics.{same_tests}

-- ---- distances

turned_by : (w : Network) → IsTree w → All IsAlike w.links → (inside : List ℕ) (u v : ℕ) → u < w.nodes → v < w.nodes
    → BothWays w.links inside u v → delay_along w.links u (route w u v) ≡ delay_along w.links v (route w v u)
turned_by w t alike inside u v hu hv both = grind (arith, route_only)

pub distance_turns : (w : Network) → IsNetwork w → All IsAlike w.links → (a b : ℕ) → a < length w.hosts → b < length w.hosts
    → distance w a b ≡ distance w b a
unfolding distance
distance_turns w n alike a b ha hb =
    let t = n.tree in
    let one : length w.links + 1 ≡ w.nodes = t.one_fewer in
    let grown = grows_to w t (length w.links) (omega arith) in
    let size : length grown.0 ≡ length w.links = grown.2 in
    let all : length grown.0 + 1 ≡ w.nodes = omega arith in
    let hu = host_below w n a ha in
    let hv = host_below w n b hb in
    turned_by w t alike (attached grown.0) (host w a) (host w b) hu hv
    (both_ways_grown w.links grown.0 grown.1 (host w a) (host w b)
    (all_attached w.nodes w.links grown.0 t.some_nodes t.ends grown.1 all (host w a) hu)
    (all_attached w.nodes w.links grown.0 t.some_nodes t.ends grown.1 all (host w b) hv))

pub distances_fit : DistancesFit
distances_fit w n a b ha hb = (λ d. distance_apart w n a b ha hb d, distance_bounded w n a b ha hb)

pub alike_both_ways : AlikeBothWays
alike_both_ways w n alike a b ha hb = grind (arith, distance_turns)

pub rounds_turn : RoundsTurn
rounds_turn w a b = omega arith

-- ---- the least of a list

fold_min_first : (xs : List ℕ) (x : ℕ) → fold min x xs ≤ x
fold_min_first [] x = omega arith
fold_min_first (y ∷ ys) x = let k = fold_min_first ys (min x y) in omega arith

fold_min_each : (xs : List ℕ) (x z : ℕ) → is_in xs z ≡ true → fold min x xs ≤ z
fold_min_each [] x z i = absurd (false≢true i)
fold_min_each (y ∷ ys) x z i =
    elim (in_cases y z ys i) [
      | inl e ↦ (let k = fold_min_first ys (min x y) in omega arith)
      | inr e ↦ fold_min_each ys (min x y) z e
    ]

fold_min_in : (xs : List ℕ) (x : ℕ) → is_in (x ∷ xs) (fold min x xs) ≡ true
fold_min_in [] x = in_head x []
fold_min_in (y ∷ ys) x =
    elim (in_cases (min x y) (fold min (min x y) ys) ys (fold_min_in ys (min x y))) [
      | inl e ↦ (let c : (min x y ≡ x) ⊎ (min x y ≡ y) = grind arith in
          elim c [
            | inl f ↦ subst (λ t. is_in (x ∷ y ∷ ys) t ≡ true) (sym f ∙ e) (in_head x (y ∷ ys))
            | inr f ↦ in_tail x (fold min (min x y) ys) (y ∷ ys) (subst (λ t. is_in (y ∷ ys) t ≡ true) (sym f ∙ e) (in_head y ys))
          ])
      | inr e ↦ in_tail x (fold min (min x y) ys) (y ∷ ys) (in_tail y (fold min (min x y) ys) ys e)
    ]

pub least_in : (xs : List ℕ) (d : ℕ) → least xs ≡ Some d → is_in xs d ≡ true
least_in [] d e = cc
least_in (x ∷ xs) d e = let f : fold min x xs ≡ d = cc in subst (λ t. is_in (x ∷ xs) t ≡ true) f (fold_min_in xs x)

pub least_each : (xs : List ℕ) (d z : ℕ) → least xs ≡ Some d → is_in xs z ≡ true → d ≤ z
least_each xs d z e i = grind (arith, fold_min_first, fold_min_each)

pub least_none : (xs : List ℕ) → least xs ≡ None → xs ≡ []
least_none [] e = refl
least_none (x ∷ xs) e = cc

-- ---- the least delay

in_map : {A : Type 0} (f : A → ℕ) (xs : List A) (i : ℕ) (x : A) → slice_get xs i ≡ Some x → is_in (map f xs) (f x) ≡ true
in_map f [] i x e = cc
in_map f (y ∷ ys) zero x e = let q : y ≡ x = cc in subst (λ t. is_in (f y ∷ map f ys) (f t) ≡ true) q (in_head (f y) (map f ys))
in_map f (y ∷ ys) (suc i) x e = in_tail (f y) (f x) (map f ys) (in_map f ys i x e)

from_map : {A : Type 0} (f : A → ℕ) (xs : List A) (n : ℕ) → is_in (map f xs) n ≡ true → (i : ℕ) × (x : A) × (slice_get xs i ≡ Some x)
    × (f x ≡ n)
from_map f [] n h = absurd (false≢true h)
from_map f (y ∷ ys) n h =
    elim (in_cases (f y) n (map f ys) h) [
      | inl e ↦ (0, y, refl, e)
      | inr e ↦ (let r = from_map f ys n e in (suc r.0, r.1, r.2, r.3))
    ]

-- a link takes no less in any direction
pub lesser_each : (u : ℕ) (k : LinkSpec) → lesser_delay k ≤ delay_from u k
lesser_each u k = elim (eqb k.a u) as (λ b. min k.delay k.back ≤ cond b k.delay k.back) [ true ↦ omega arith | false ↦ omega arith ]

least_along : (w : Network) (d : ℕ) → least_delay w ≡ Some d → (u : ℕ) (ls : List ℕ) (v : ℕ) (ns : List ℕ) → IsWalk w.links u ls v ns
    → u ≢ v → d ≤ delay_along w.links u ls
unfolding least_delay
least_along w d e u [] v ns k n = absurd (n k.0)
least_along w d e u (l ∷ ls) v ns k n =
    let h : d ≤ lesser_delay k.0 = least_each (map lesser_delay w.links) d (lesser_delay k.0) e (in_map lesser_delay w.links l k.0 k.3) in
    let q = lesser_each u k.0 in
    subst (λ n. d ≤ n) (sym (along_first w.links u l k.1 ls k.0 k.3 k.4)) (omega arith)

least_positive : (w : Network) → IsNetwork w → (d : ℕ) → least_delay w ≡ Some d → 1 ≤ d
unfolding least_delay
least_positive w n d e =
    let r = from_map lesser_delay w.links d (least_in (map lesser_delay w.links) d e) in
    let h = all_get HasDelays w.links r.0 r.1 n.delays r.2 in
    let there : 1 ≤ r.1.delay = h.0.0 in
    let back : 1 ≤ r.1.back = h.1.0 in
    subst (λ t. 1 ≤ t) r.3 (omega arith)

least_below_distance : (w : Network) → IsNetwork w → (d : ℕ) → least_delay w ≡ Some d → (a b : ℕ) → a < length w.hosts → b < length w.hosts
    → a ≢ b → d ≤ distance w a b
unfolding distance
least_below_distance w n d e a b ha hb apart =
    let r = route_path w n.tree (host w a) (host w b) (host_below w n a ha) (host_below w n b hb) in
    least_along w d e (host w a) (member_route w a b) (host w b) r.0 r.1.0 (hosts_apart w n a b ha hb apart)

pub least_delay_fits : LeastDelayFits
least_delay_fits w n d e = (least_positive w n d e, least_below_distance w n d e)

no_links : (w : Network) → least_delay w ≡ None → length w.links ≡ 0
unfolding least_delay
no_links w e = none_mapped w.links (least_none (map lesser_delay w.links) e)
  where
    none_mapped : (ks : List LinkSpec) → map lesser_delay ks ≡ [] → length ks ≡ 0
    none_mapped [] h = refl
    none_mapped (k ∷ ks) h = cc

pub no_link_no_two : NoLinkNoTwo
no_link_no_two w n e a b ha hb = grind (arith, common_steps, no_links, apart_from_distinct)

-- ---- the least distance of a member

in_range : (n a b : ℕ) → a ≤ b → b < a + n → is_in (range_with_len a n) b ≡ true
in_range zero a b h g = absurd (omega arith)
in_range (suc n) a b h g =
    elim (cases_eq a b) [
      | inl e ↦ subst (λ t. is_in (a ∷ range_with_len (a + 1) n) t ≡ true) e (in_head a (range_with_len (a + 1) n))
      | inr
          e ↦ in_tail a b (range_with_len (a + 1) n) (in_range n (a + 1) b (omega arith) (omega arith))
    ]

from_range : (n a b : ℕ) → is_in (range_with_len a n) b ≡ true → b < a + n
from_range zero a b h = absurd (false≢true h)
from_range (suc n) a b h = elim (in_cases a b (range_with_len (a + 1) n) h)
    [ inl e ↦ omega arith | inr e ↦ (let k = from_range n (a + 1) b e in omega arith) ]

in_others : (m : ℕ) (xs : List ℕ) (b : ℕ) → is_in xs b ≡ true → b ≢ m → is_in (filter (λ c. not (c == m)) xs) b ≡ true
in_others m [] b i n = absurd (false≢true i)
in_others m (x ∷ xs) b i n =
    elim (in_cases x b xs i) [
      | inl e ↦ rw (ne_eqb x m (λ q. n (sym e ∙ q))) (subst (λ t. is_in (x ∷ filter (λ c. not (c == m)) xs) t ≡ true) e
          (in_head x (filter (λ c. not (c == m)) xs)))
      | inr e ↦ elim (cases_Bool (eqb x m)) [
        | inl q ↦ rw q (in_others m xs b e n)
        | inr q ↦ rw q (in_tail x b (filter (λ c. not (c == m)) xs) (in_others m xs b e n))
      ]
    ]

from_others : (m : ℕ) (xs : List ℕ) (b : ℕ) → is_in (filter (λ c. not (c == m)) xs) b ≡ true → (is_in xs b ≡ true) × (b ≢ m)
from_others m [] b i = absurd (false≢true i)
from_others m (x ∷ xs) b i =
    elim (cases_Bool (eqb x m)) [
      | inl q ↦ (let j : is_in (filter (λ c. not (c == m)) xs) b ≡ true = rw q at i in let r = from_others m xs b j in
          (in_tail x b xs r.0, r.1))
      | inr q ↦ (let j : is_in (x ∷ filter (λ c. not (c == m)) xs) b ≡ true = rw q at i in
          elim (in_cases x b (filter (λ c. not (c == m)) xs) j) [
            | inl e ↦ (subst (λ t. is_in (x ∷ xs) t ≡ true) e (in_head x xs), λ s. eqb-false x m q (e ∙ s))
            | inr e ↦ (let r = from_others m xs b e in (in_tail x b xs r.0, r.1))
          ])
    ]

in_mapped : (f : ℕ → ℕ) (xs : List ℕ) (b : ℕ) → is_in xs b ≡ true → is_in (map f xs) (f b) ≡ true
in_mapped f [] b i = absurd (false≢true i)
in_mapped f (x ∷ xs) b i =
    elim (in_cases x b xs i) [
      | inl e ↦ subst (λ t. is_in (f x ∷ map f xs) (f t) ≡ true) e (in_head (f x) (map f xs))
      | inr e ↦
          in_tail (f x) (f b) (map f xs) (in_mapped f xs b e)
    ]

from_mapped : (f : ℕ → ℕ) (xs : List ℕ) (n : ℕ) → is_in (map f xs) n ≡ true → (b : ℕ) × (is_in xs b ≡ true) × (f b ≡ n)
from_mapped f [] n i = absurd (false≢true i)
from_mapped f (x ∷ xs) n i =
    elim (in_cases (f x) n (map f xs) i) [
      | inl e ↦ (x, in_head x xs, e)
      | inr e ↦
          (let r = from_mapped f xs n e in (r.0, in_tail x r.0 xs r.1, r.2))
    ]

pub out_fits : OutFits
unfolding out
out_fits w m d e =
    let found = from_mapped (distance w m) (others w m) d (least_in (map (distance w m) (others w m)) d e) in
    let other = from_others m (range_with_len 0 (length w.hosts)) found.0 found.1 in
    let below = from_range (length w.hosts) 0 found.0 other.0 in (
      (found.0, (omega arith), other.1, found.2),
      λ b h n. least_each (map (distance w m) (others w m)) d (distance w m b) e
          (in_mapped (distance w m) (others w m) b (in_others m (range_with_len 0 (length w.hosts)) b
          (in_range (length w.hosts) 0 b (omega arith) (omega arith)) n)),
    )

pub out_of_the_only_one : OutOfTheOnlyOne
unfolding out
out_of_the_only_one w m e b h =
    elim (cases_eq b m) [
      | inl q ↦ q
      | inr q ↦
          (let i = in_mapped (distance w m) (others w m) b
          (in_others m (range_with_len 0 (length w.hosts)) b (in_range (length w.hosts) 0 b (omega arith) (omega arith)) q) in
          let none = least_none (map (distance w m) (others w m)) e in
          absurd (false≢true (sym (ap (λ xs. is_in xs (distance w m b)) none) ∙ i)))
    ]

-- ---- reaching

pub reaches_its_sender : ReachesItsSender
unfolding reaches hops
reaches_its_sender w rules p sent scope =
    ap (λ ls. is_within scope (length ls) && not (list_any (takes_out rules p) (stops w.links (host w p.sender) sent ls)))
    (route_nowhere w (host w p.sender))
    ∙ ap (λ b. b && true) (none_within scope)
  where
    none_within : (scope : Option ℕ) → is_within scope 0 ≡ true
    none_within None = refl
    none_within (Some g) = grind arith

-- ---- sets of drops

pub same_drops_listed : SameDropsListed
same_drops_listed ds es h p l =
    let d : DropSpec = record { link = l; id = p } in
    same_tests (is_listed ds p l) (is_listed es p l) (λ t. listed_contains es d ((h d).0 (contains_listed ds d t)))
    (λ t. listed_contains ds d ((h d).1 (contains_listed es d t)))

not_before_itself : (d : DropSpec) → drop_cmp d d ≡ Less → ⊥
not_before_itself d e = let s = drop_total.antisymm d d in let r : Less ≡ Greater = sym e ∙ s ∙ ap ordering_reverse e in cc

after_contained : (d : DropSpec) (ds : List DropSpec) → AllAfter drop_cmp d ds → (e : DropSpec) → Contains ds e → drop_cmp d e ≡ Less
after_contained d [] a e (k, h, q) = absurd (omega arith)
after_contained d (x ∷ ds) a e (zero, h, q) = subst (λ t. drop_cmp d t ≡ Less) q a.0
after_contained d (x ∷ ds) a e (suc k, h, q) = after_contained d ds a.1 e (k, omega arith, q)

not_both_before : (d e : DropSpec) → drop_cmp d e ≡ Less → drop_cmp e d ≡ Less → ⊥
not_both_before d e h g = let s = drop_total.antisymm d e in let r : Less ≡ Greater = sym h ∙ s ∙ ap ordering_reverse g in cc

head_or_later : (x e : DropSpec) (xs : List DropSpec) → Contains (x ∷ xs) e → (x ≡ e) ⊎ Contains xs e
head_or_later x e xs (zero, h, q) = inl q
head_or_later x e xs (suc k, h, q) = inr (k, omega arith, q)

here : (x : DropSpec) (xs : List DropSpec) → Contains (x ∷ xs) x
here x xs = (0, omega arith, refl)

later : (x e : DropSpec) (xs : List DropSpec) → Contains xs e → Contains (x ∷ xs) e
later x e xs (k, h, q) = (suc k, (let g : k < length xs = h in omega arith), q)

same_heads : (x y : DropSpec) (xs ys : List DropSpec) → AllAfter drop_cmp x xs → AllAfter drop_cmp y ys
    → ((d : DropSpec) → Contains (x ∷ xs) d ↔ Contains (y ∷ ys) d) → x ≡ y
same_heads x y xs ys a b h =
    elim (head_or_later x y xs ((h y).1 (here y ys))) [
      | inl e ↦ e
      | inr i ↦ elim (head_or_later y x ys ((h x).0 (here x xs))) [
        | inl e ↦ sym e
        | inr j ↦ absurd (not_both_before x y (after_contained x xs a y i) (after_contained y ys b x j))
      ]
    ]

same_tails : (x y : DropSpec) (xs ys : List DropSpec) → x ≡ y → AllAfter drop_cmp x xs
    → ((d : DropSpec) → Contains (x ∷ xs) d → Contains (y ∷ ys) d) → (d : DropSpec) → Contains xs d → Contains ys d
same_tails x y xs ys e a h d i =
    elim (head_or_later y d ys (h d (later x d xs i))) [
      | inl q ↦ absurd (not_before_itself x (subst (λ t. drop_cmp x t ≡ Less) (sym (e ∙ q)) (after_contained x xs a d i)))
      | inr j ↦ j
    ]

pub one_list_of_drops : OneListOfDrops
one_list_of_drops [] [] a b h = refl
one_list_of_drops [] (y ∷ ys) a b h = let c = (h y).1 (here y ys) in absurd (let k : c.0 < 0 = c.1 in omega arith)
one_list_of_drops (x ∷ xs) [] a b h = let c = (h x).0 (here x xs) in absurd (let k : c.0 < 0 = c.1 in omega arith)
one_list_of_drops (x ∷ xs) (y ∷ ys) a b h =
    let e = same_heads x y xs ys a.0 b.0 h in
    let rest = one_list_of_drops xs ys a.1 b.1
    (λ d. (same_tails x y xs ys e a.0 (λ d. (h d).0) d, same_tails y x ys xs (sym e) b.0 (λ d. (h d).1) d)) in
    ap (λ t. t ∷ xs) e ∙ ap (λ t. y ∷ t) rest

-- ---- keys

pub keys_ordered : OrdersTotally key_cmp
keys_ordered = (key_total, tied_keys)

-- ---- names, pages, identities of packets, and entries of session messages

pub names_ordered : OrdersTotally name_cmp
names_ordered = (name_total, tied_names)

pub pages_ordered : OrdersTotally page_cmp
pages_ordered = (page_total, tied_pages)

same_identity : (p q : PacketId) → id_cmp p q ≡ Equal → p ≡ q
same_identity p q e = grind arith

pub identities_ordered : OrdersTotally id_cmp
identities_ordered = (on_total (λ (p : PacketId). p.sender ∷ p.count ∷ []) nat_list_cmp_total, same_identity)

same_entry : (h j : Heard) → heard_cmp h j ≡ Equal → h ≡ j
same_entry h j e = grind arith

pub entries_ordered : OrdersTotally heard_cmp
entries_ordered = (on_total (λ (h : Heard). h.source ∷ h.page ∷ h.highest ∷ []) nat_list_cmp_total, same_entry)
