-- Windows no wider than the least link delay, and promise windows.
use Rattle.std.proofs.Common.{◌≡◌, ◌≢◌, ℕ, zero, suc, ◌<◌, ◌≤◌, ◌+◌, min, Bool, true, false, cond, not, List, [], ◌∷◌, refl, sym, ap, ◌∙◌}
use Rattle.std.proofs.Common.{subst, ◌⊎◌, inl, inr, arith, Option, Some, None, length, map, filter, fold, slice_get, ◌==◌, eqb-true}
use Rattle.std.proofs.Common.{add-zero, zero-add}
use Rattle.std.proofs.lemmas.Bool.{eqb-false}
use Rattle.std.proofs.lemmas.List.{length-map}
use Rattle.std.proofs.Math.Nat.{min-le_left, min-le_right}
use Rattle.std.specs.List.{range_with_len}
use Rattle.std.proofs.lemmas.Option.{same_Some}
use Rattle.srm_net.specs.declared.link.LinkSpec.{LinkSpec}
use Rattle.srm_net.specs.Network.{IsNetwork, IsWalk}
use Rattle.srm_net.specs.Paths.{host, member_route, distance, delay_along}
use Rattle.srm_net.specs.Least.{least, lesser_delay, least_delay}
use Rattle.srm_net.proofs.RouteLemmas.{route_path}
use Rattle.srm_net.proofs.LawProofs.{lesser_each}
use Rattle.srm_net.proofs.PathLaws.{host_below, hosts_apart, along_first}
use Rattle.srm_scenario.specs.declared.parts.MemberSpec.{MemberSpec}
use Rattle.srm_scenario.specs.Plain.{PlainScenario, network_of}
use Rattle.srm_member.specs.Record.{MemberState}
use Rattle.srm_member.specs.declared.fixed.Fixed.{Fixed as FixedPart}
use Rattle.srm_model.proofs.FixedParts.{HasFixed, KeepFixed, kept_reached}
use Rattle.srm_net.specs.Roles.{is_listener}
use Rattle.srm_member.proofs.AllIn.{AllIn}
use Rattle.srm_member.proofs.FewerTimers.{In}
use Rattle.srm_member.proofs.OrderLemmas.{from_refl}
use Rattle.srm_cell.specs.Setting.{Setting, setting_of}
use Rattle.srm_cell.specs.Cells.{PlainCell, Event, Silent, next_event, time_of}
use Rattle.srm_cell.proofs.CellSteps.{before_some}
use Rattle.srm_cell.proofs.Tidy.{Least, not_before_time}
use Rattle.srm_cell.proofs.FitSettings.{settings_are_fit}
use Rattle.srm_net.specs.Keys.{key_cmp}
use Rattle.srm_net.proofs.TotalOrders.{key_total}
use Rattle.srm_model.specs.World.{World, least_event}
use Rattle.srm_model.specs.Windows.{IsWidth, least_distance, least_with, promise_by, promise_of, least_promise, promise_end, way_of}
use Rattle.srm_model.specs.Laws.{LinkDelaysAreSafe, PromiseEndsAreSafe}
use Rattle.srm_model.proofs.LawProofs.{windows_are_safe, promises_are_safe}
use Rattle.srm_model.proofs.Sequential.{good_reached, least_of_all}

-- ---- the least of a list

fold_le : (a : ℕ) (xs : List ℕ) → fold min a xs ≤ a
fold_le a [] = omega arith
fold_le a (x ∷ xs) = let h = fold_le (min a x) xs in let g = min-le_left a x in omega arith

fold_in : (a x : ℕ) (xs : List ℕ) → In x xs → fold min a xs ≤ x
fold_in a x [] h = absurd h
fold_in a x (y ∷ ys) (inl e) = let h = fold_le (min a y) ys in let g = min-le_right a y in omega arith
fold_in a x (y ∷ ys) (inr h) = fold_in (min a y) x ys h

least_in : (x : ℕ) (xs : List ℕ) → In x xs → (k : ℕ) × (least xs ≡ Some k) × (k ≤ x)
least_in x [] h = absurd h
least_in x (y ∷ ys) (inl e) = let h = fold_le y ys in (fold min y ys, refl, omega arith)
least_in x (y ∷ ys) (inr h) = let g = fold_in y x ys h in (fold min y ys, refl, g)

min_pos : (a b : ℕ) → 0 < a → 0 < b → 0 < min a b
min_pos a b h g = omega arith

fold_pos : (a : ℕ) (xs : List ℕ) → 0 < a → AllIn (λ x. 0 < x) xs → 0 < fold min a xs
fold_pos a [] h g = h
fold_pos a (x ∷ xs) h g = fold_pos (min a x) xs (min_pos a x h g.0) g.1

least_pos : (xs : List ℕ) (k : ℕ) → least xs ≡ Some k → AllIn (λ x. 0 < x) xs → 0 < k
least_pos [] k h a = let y : ⊥ = cc in absurd y
least_pos (x ∷ xs) k h a = subst (λ n. 0 < n) (same_Some _ _ h) (fold_pos x xs a.0 a.1)

in_mapped : {A B : Type 0} (f : A → B) (x : A) (xs : List A) → In x xs → In (f x) (map f xs)
in_mapped f x [] h = h
in_mapped f x (y ∷ ys) (inl e) = inl (ap f e)
in_mapped f x (y ∷ ys) (inr h) = inr (in_mapped f x ys h)

in_kept : {A : Type 0} (x y : A) (b : Bool) (ys : List A) → (y ≡ x → b ≡ true) → (y ≡ x) ⊎ In x ys → In x (cond b (y ∷ ys) ys)
in_kept x y true ys h (inl e) = inl e
in_kept x y true ys h (inr g) = inr g
in_kept x y false ys h (inl e) = let x : false ≡ true = h e in let z : ⊥ = cc in absurd z
in_kept x y false ys h (inr g) = g

in_filtered : {A : Type 0} (p : A → Bool) (x : A) → p x ≡ true → (xs : List A) → In x xs → In x (filter p xs)
in_filtered p x h [] g = g
in_filtered p x h (y ∷ ys) (inl e) = in_kept x y (p y) (filter p ys) (λ q. ap p q ∙ h) (inl e)
in_filtered p x h (y ∷ ys) (inr g) = in_kept x y (p y) (filter p ys) (λ q. ap p q ∙ h) (inr (in_filtered p x h ys g))

in_range : (n a b : ℕ) → a ≤ b → b < a + n → In b (range_with_len a n)
in_range zero a b le lt = absurd (omega arith)
in_range (suc n) a b le lt = elim (a == b) as (λ q. (a == b) ≡ q → In b (range_with_len a (suc n))) [
  | true ↦ λ e. inl (eqb-true _ _ e)
  | false ↦ λ e. inr (let ne = eqb-false _ _ e in in_range n (a + 1) b (omega arith) (omega arith))
] refl

is_other : (b m : ℕ) → b ≢ m → not (b == m) ≡ true
is_other b m ne = elim (b == m) as (λ q. (b == m) ≡ q → not (b == m) ≡ true)
    [ true ↦ λ e. absurd (ne (eqb-true _ _ e)) | false ↦ λ e. ap not e ] refl

-- ---- windows and link delays

some_link : (links : List LinkSpec) (l : ℕ) (k : LinkSpec) → slice_get links l ≡ Some k → In (lesser_delay k) (map lesser_delay links)
some_link [] l k h = let y : ⊥ = cc in absurd y
some_link (x ∷ xs) zero k h = let e : x ≡ k = cc in inl (ap lesser_delay e)
some_link (x ∷ xs) (suc l) k h = inr (some_link xs l k h)

-- a way between two nodes that differ takes as long as its first link
walk_wide : (p : PlainScenario) (width : ℕ) → IsWidth p width → (u : ℕ) (ls : List ℕ) (v : ℕ) (ns : List ℕ) → IsWalk p.links u ls v ns
    → u ≢ v → width ≤ delay_along p.links u ls
unfolding least_delay
walk_wide p width wide u [] v ns w ne = absurd (ne w.0)
walk_wide p width wide u (l ∷ ls) v ns w ne =
    let some = least_in (lesser_delay w.0) (map lesser_delay p.links) (some_link p.links l w.0 w.3) in
    let low = wide some.0 some.1 in
    let le = some.2 in
    let each = lesser_each u w.0 in
    subst (λ n. width ≤ n) (sym (along_first p.links u l w.1 ls w.0 w.3 w.4)) (omega arith)

distance_wide : (p : PlainScenario) → IsNetwork (network_of p) → (width : ℕ) → IsWidth p width → (a b : ℕ)
    → a < length (network_of p).hosts → b < length (network_of p).hosts → a ≢ b → width ≤ distance (network_of p) a b
unfolding distance
distance_wide p n width wide a b ha hb ne =
    let net = network_of p in
    let r = route_path net n.tree (host net a) (host net b) (host_below net n a ha) (host_below net n b hb) in
    walk_wide p width wide (host net a) (member_route net a b) (host net b) r.0 r.1.0 (hosts_apart net n a b ha hb ne)

pub link_delays_are_safe : LinkDelaysAreSafe
link_delays_are_safe p seed accepted w e width till reached least wide within =
    let hosts : length (network_of p).hosts ≡ length p.members = length-map p.members (λ (k : MemberSpec). k.node) in
    windows_are_safe (setting_of p seed) w e width till (settings_are_fit p seed accepted) reached least
    (λ a b ha hb ne. distance_wide p accepted.network width wide a b (subst (λ n. a < n) (sym hosts) ha)
    (subst (λ n. b < n) (sym hosts) hb) ne)
    within

-- ---- promises

pub least_with_le : (n : ℕ) (o : Option ℕ) → least_with n o ≤ n
least_with_le n None = omega arith
least_with_le n (Some k) = min-le_left n k

pub least_with_in : (n k : ℕ) (o : Option ℕ) → o ≡ Some k → least_with n o ≤ k
least_with_in n k None h = let y : ⊥ = cc in absurd y
least_with_in n k (Some x) h = let e = same_Some _ _ h in let g = min-le_right n x in omega arith

module _ (s : Setting) where
  out_near : (m b : ℕ) → b < s.traffic.members → b ≢ m → (k : ℕ) × (least_distance s m ≡ Some k) × (k ≤ s.traffic.distance m b)
  unfolding least_distance
  out_near m b lt ne = least_in (s.traffic.distance m b) _
      (in_mapped (s.traffic.distance m) b _ (in_filtered (λ x. not (x == m)) b (is_other b m ne) _
      (in_range s.traffic.members 0 b (omega arith) (omega arith))))

  pub promise_le : (i : ℕ) (cs : List PlainCell) (j : ℕ) (c : PlainCell) (t : ℕ) → slice_get cs j ≡ Some c → promise_of s (i + j) c ≡ Some t
      → least_promise s i cs ≤ t
  promise_le i [] j c t g h = let y : ⊥ = cc in absurd y
  promise_le i (x ∷ cs) zero c t g h =
      let same : x ≡ c = cc in
      least_with_in (least_promise s (i + 1) cs) t (promise_of s i x) (ap (promise_of s i) same ∙ rw add-zero at h)
  promise_le i (x ∷ cs) (suc j) c t g h =
      let there : promise_of s ((i + 1) + j) c ≡ Some t =
      (let k : i + suc j ≡ (i + 1) + j = omega arith in subst (λ n. promise_of s n c ≡ Some t) k h) in
      let le = promise_le (i + 1) cs j c t g there in
      let first = least_with_le (least_promise s (i + 1) cs) (promise_of s i x) in
      omega arith

  silent_listener : (m : ℕ) (o : Option MemberState) → HasFixed (s.fixed m) o → is_listener (s.fixed m).role ≡ true → Silent o
  silent_listener m (Some k) is h = ap (λ (f : FixedPart). is_listener f.role) is ∙ h
  silent_listener m None is h = tt

  promise_is : (m : ℕ) (c : PlainCell) (e : Event) (k : ℕ) → is_listener (s.fixed m).role ≡ false → next_event m c ≡ Some e
      → least_distance s m ≡ Some k → promise_of s m c ≡ Some (e.key.time + k)
  promise_is m c e k role next way =
      ap (λ b. promise_by (time_of (next_event m c)) (cond b None (least_distance s m))) role ∙ (λ i. promise_by (time_of (next i)) (way i))

  promised : (w : World) → KeepFixed s w.cells → (m : ℕ) (c : PlainCell) (e : Event) → slice_get w.cells m ≡ Some c
      → next_event m c ≡ Some e → Silent c.holds
      ⊎ ((b : ℕ) → b < s.traffic.members → b ≢ m → promise_end s w ≤ e.key.time + s.traffic.distance m b)
  promised w kept m c e g next = elim (is_listener (s.fixed m).role) as
      (λ q. is_listener (s.fixed m).role ≡ q → Silent c.holds
      ⊎ ((b : ℕ) → b < s.traffic.members → b ≢ m → promise_end s w ≤ e.key.time + s.traffic.distance m b)) [
        | true ↦ λ q. inl (silent_listener m c.holds (kept m c g) q)
        | false ↦ λ q. inr (λ b lt ne.
            let way = out_near m b lt ne in
            let at : promise_of s (0 + m) c ≡ Some (e.key.time + way.0) = rw zero-add (promise_is m c e way.0 q next way.1) in
            let le = promise_le 0 w.cells m c (e.key.time + way.0) g at in
            let near = way.2 in
            omega arith)
      ] refl

  -- ---- the end is later than the least pending time

  all_away : (m : ℕ) → ((b : ℕ) → b < s.traffic.members → b ≢ m → 0 < s.traffic.distance m b) → (n a : ℕ) → a + n ≤ s.traffic.members
      → AllIn (λ x. 0 < x) (map (s.traffic.distance m) (filter (λ x. not (x == m)) (range_with_len a n)))
  all_away m away zero a le = tt
  all_away m away (suc n) a le = elim (a == m) as (λ q. (a == m) ≡ q →
      AllIn (λ x. 0 < x) (map (s.traffic.distance m) (cond (not (a == m)) (a ∷ filter (λ x. not (x == m)) (range_with_len (a + 1) n))
      (filter (λ x. not (x == m)) (range_with_len (a + 1) n))))) [
        | true ↦ λ e. rw e (all_away m away n (a + 1) (omega arith))
        | false ↦ λ e. rw e (away a (omega arith) (eqb-false _ _ e), all_away m away n (a + 1) (omega arith))
      ] refl

  out_pos : (m k : ℕ) → ((b : ℕ) → b < s.traffic.members → b ≢ m → 0 < s.traffic.distance m b) → least_distance s m ≡ Some k → 0 < k
  unfolding least_distance
  out_pos m k away h = least_pos _ k h (all_away m away s.traffic.members 0 (omega arith))

  with_later : (t n : ℕ) (o : Option ℕ) → t < n → ((k : ℕ) → o ≡ Some k → t < k) → t < least_with n o
  with_later t n None h g = h
  with_later t n (Some k) h g = let l = g k refl in omega arith

  later_by : (t : ℕ) (x y : Option ℕ) (k : ℕ) → promise_by x y ≡ Some k → ((a : ℕ) → x ≡ Some a → t ≤ a) → ((b : ℕ) → y ≡ Some b → 0 < b)
      → t < k
  later_by t x y k h f g = grind arith

  from_cond : (b : Bool) (o : Option ℕ) (k : ℕ) → cond b None o ≡ Some k → o ≡ Some k
  from_cond true o k h = let z : ⊥ = cc in absurd z
  from_cond false o k h = h

  time_from : (t m : ℕ) (c : PlainCell) (o : Option Event) → ((e : Event) → o ≡ Some e → t ≤ e.key.time) → (a : ℕ) → time_of o ≡ Some a
      → t ≤ a
  time_from t m c None f a h = let z : ⊥ = cc in absurd z
  time_from t m c (Some e) f a h = let q = same_Some _ _ h in let p = f e refl in omega arith

  all_later : (t : ℕ) → t < s.traffic.until → (i : ℕ) (cs : List PlainCell)
      → ((j : ℕ) (c : PlainCell) (e : Event) → slice_get cs j ≡ Some c → next_event (i + j) c ≡ Some e → t ≤ e.key.time)
      → ((m : ℕ) → i ≤ m → m < i + length cs → (k : ℕ) → least_distance s m ≡ Some k → 0 < k) → t < least_promise s i cs
  all_later t lt i [] from away = lt
  all_later t lt i (c ∷ cs) from away =
      let rest = all_later t lt (i + 1) cs (λ j b e g h. from (suc j) b e
      g (let k : (i + 1) + j ≡ i + suc j = omega arith in subst (λ n. next_event n b ≡ Some e) k h))
      (λ m le l k h. away m (omega arith) (omega arith) k h) in
      with_later t (least_promise s (i + 1) cs) (promise_of s i c) rest
      (λ k h. later_by t (time_of (next_event i c)) (way_of s i) k h
      (time_from t i c (next_event i c) (λ e q. from 0 c e refl (rw add-zero q)))
      (λ b q. away i (omega arith) (omega arith) b (from_cond (is_listener (s.fixed i).role) _ b q)))

pub promise_ends_are_safe : PromiseEndsAreSafe
promise_ends_are_safe s w fit reached = (
  promises_are_safe s w (promise_end s w) fit reached (promised s w (kept_reached s fit reached.0 w reached.1)),
  λ e h.
      let good = good_reached s fit reached.0 w reached.1 in
      let b = before_some s.traffic.until (least_event 0 w.cells) e h in
      let least : Least e.key (least_event 0 w.cells) = subst (Least e.key) (sym b.0) (from_refl key_cmp key_total e.key) in
      all_later s e.key.time b.1 0 w.cells
      (λ j c d g next. not_before_time e.key d.key (subst (Least e.key) next (least_of_all e.key 0 w.cells least j c g)))
      (λ m le lt k way. out_pos s m k (λ x xl ne. fit.apart m x (let n = good.members in omega arith) xl (λ q. ne (sym q))) way),
)
