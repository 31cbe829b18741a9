-- The first timer of an index is the earliest of the tables.
use Rattle.std.proofs.Common.{◌≡◌, ℕ, Bool, true, false, cond, ◌&&◌, ◌||◌, T, List, [], ◌∷◌, ◌++◌, map, Option, Some, None, refl, sym}
use Rattle.std.proofs.Common.{ap, ◌∙◌, subst, arith, ◌==◌}
use Rattle.std.specs.Option.{option_map}
use Rattle.std.specs.declared.cmp.Ordering.{Ordering}
use Rattle.std.specs.declared.cmp.Ordering.TheVariants.{Less, Equal, Greater}
use Rattle.std.specs.Ordering.{eq_by_cmp, is_eq, is_gt, is_lt, min_by_ordering, ordering_reverse}
use Rattle.std.specs.FinMap.Entries.{find, is_sorted, below_all}
use Rattle.std.proofs.lemmas.Bool.Decides.{nat_tests}
use Rattle.std.proofs.lemmas.Bool.{or_right}
use Rattle.srm_net.specs.declared.packet.Name.{Name}
use Rattle.srm_net.specs.declared.rank.Rank.{Rank}
use Rattle.srm_net.specs.declared.rank.Rank.TheVariants.{Request, Repair}
use Rattle.srm_net.specs.Keys.{rank_number}
use Rattle.srm_net.specs.Names.{name_cmp}
use Rattle.srm_net.proofs.Basics.{T_first, T_second, is_Equal}
use Rattle.srm_net.proofs.TotalOrders.{tied_names}
use Rattle.srm_member.specs.declared.due.Due.{Due}
use Rattle.srm_member.specs.Record.{Missing, Repairing, due_cmp, earlier_timer, earliest}
use Rattle.srm_member.specs.Pending.{has, RisesByName, IsFirst, IsIndexed, pending_timers, request_timer, repair_timer}
use Rattle.srm_member.specs.Pending.{expiry_of, is_at_time}
use Rattle.srm_member.proofs.Indexes.{due_total, due_same, same, same_rank, due_eq, due_itself}

-- ---- the earliest of a list is its first

not_after : (d e f : Due) → is_gt (due_cmp d e) ≡ false → is_gt (due_cmp e f) ≡ false → is_gt (due_cmp d f) ≡ false
not_after d e f p q =
    elim (due_cmp d e) as (λ o. due_cmp d e ≡ o → is_gt o ≡ false → is_gt (due_cmp d f) ≡ false) [
      | Less ↦ λ a _. elim (due_cmp e f) as (λ o. due_cmp e f ≡ o → is_gt o ≡ false → is_gt (due_cmp d f) ≡ false) [
        | Less ↦ λ b _. ap is_gt (due_total.trans d e f a b)
        | Equal ↦ λ b _. subst (λ x. is_gt (due_cmp d x) ≡ false) (due_same e f b) p
        | Greater ↦ λ _ no. cc
      ] refl q
      | Equal ↦ λ a _. ap is_gt (due_total.congr d e f a) ∙ q
      | Greater ↦ λ _ no. cc
    ] refl p

pub either : (a b : Bool) → (a || b) ≡ true → (P : Type 0) → (a ≡ true → P) → (b ≡ true → P) → P
either true b e P f g = f refl
either false b e P f g = g e

pub at_head : (d : Due) (ds : List Due) → has (d ∷ ds) d ≡ true
at_head d ds = ap (λ b. b || has ds d) (due_itself d)

step_none : (d : Due) (ds : List Due) → ds ≡ [] → IsFirst (d ∷ ds) (Some d)
step_none d ds e = (
  at_head d ds,
  λ x h. either (eq_by_cmp due_cmp x d) (has ds x) h (is_gt (due_cmp d x) ≡ false)
      (λ t. subst (λ y. is_gt (due_cmp d y) ≡ false) (sym (due_same x d (is_Equal _ t))) (ap is_gt (is_Equal _ (due_itself d))))
      (λ t. let no = sym (ap (λ l. has l x) e) ∙ t in cc),
)

step_some : (d m : Due) (ds : List Due) → IsFirst ds (Some m) → (o : Ordering) → due_cmp d m ≡ o
    → IsFirst (d ∷ ds) (Some (min_by_ordering o d m))
step_some d m ds h Less e = (
  at_head d ds,
  λ x k. either (eq_by_cmp due_cmp x d) (has ds x) k (is_gt (due_cmp d x) ≡ false)
      (λ t. subst (λ y. is_gt (due_cmp d y) ≡ false) (sym (due_same x d (is_Equal _ t))) (ap is_gt (is_Equal _ (due_itself d))))
      (λ t. not_after d m x (ap is_gt e) (h.1 x t)),
)
step_some d m ds h Equal e = (
  at_head d ds,
  λ x k. either (eq_by_cmp due_cmp x d) (has ds x) k (is_gt (due_cmp d x) ≡ false)
      (λ t. subst (λ y. is_gt (due_cmp d y) ≡ false) (sym (due_same x d (is_Equal _ t))) (ap is_gt (is_Equal _ (due_itself d))))
      (λ t. not_after d m x (ap is_gt e) (h.1 x t)),
)
step_some d m ds h Greater e = (
  or_right (eq_by_cmp due_cmp m d) (has ds m) h.0,
  λ x k. either (eq_by_cmp due_cmp x d) (has ds x) k (is_gt (due_cmp m x) ≡ false)
      (λ t. subst (λ y. is_gt (due_cmp m y) ≡ false) (sym (due_same x d (is_Equal _ t)))
      (ap is_gt (due_total.antisymm m d ∙ ap ordering_reverse e)))
      (λ t. h.1 x t),
)

first-earliest : (ds : List Due) → IsFirst ds (earliest ds)
first-earliest [] = refl
first-earliest (d ∷ ds) =
    elim (earliest ds) as (λ o. IsFirst ds o → IsFirst (d ∷ ds) (Some (earlier_timer d o))) [
      | None ↦ λ h. step_none d ds h
      | Some m ↦ λ h. step_some d m ds h (due_cmp d m) refl
    ] (first-earliest ds)

both_equal : (o : Ordering) → is_gt o ≡ false → is_gt (ordering_reverse o) ≡ false → o ≡ Equal
both_equal o a b = grind arith

-- of lists with the same timers the first is the same
same_first : (xs ys : List Due) → ((d : Due) → has xs d ≡ has ys d) → (r q : Option Due) → IsFirst xs r → IsFirst ys q → r ≡ q
same_first xs ys h None None f g = refl
same_first xs ys h None (Some e) f g = let no = sym g.0 ∙ sym (h e) ∙ ap (λ l. has l e) f in cc
same_first xs ys h (Some d) None f g = let no = sym f.0 ∙ h d ∙ ap (λ l. has l d) g in cc
same_first xs ys h (Some d) (Some e) f g =
    let a = f.1 e (h e ∙ g.0) in
    let b = g.1 d (sym (h d) ∙ f.0) in
    ap Some (due_same d e (both_equal (due_cmp d e) a (sym (ap is_gt (due_total.antisymm e d)) ∙ b)))

-- ---- the timers of a table, by the test of its elements

has-append : (xs ys : List Due) (d : Due) → has (xs ++ ys) d ≡ (has xs d || has ys d)
has-append [] ys d = refl
has-append (x ∷ xs) ys d = elim (eq_by_cmp due_cmp d x) as (λ b. (b || has (xs ++ ys) d) ≡ ((b || has xs d) || has ys d))
    [ true ↦ refl | false ↦ has-append xs ys d ]

eqb-swap : (a b : ℕ) → (a == b) ≡ (b == a)
eqb-swap a b = grind (arith, nat_tests)

pub below-none : {V : Type 0} (x : Name) (es : List (Name × V)) → T (below_all name_cmp x es) → find name_cmp x es ≡ None
below-none x [] h = refl
below-none x (f ∷ es) h =
    elim (name_cmp x f.0) as (λ o. T (is_lt o && below_all name_cmp x es) → cond (is_eq o) (Some f.1) (find name_cmp x es) ≡ None) [
      | Less ↦ λ t. below-none x es t
      | Equal ↦ λ t. absurd t
      | Greater ↦ λ t. absurd t
    ] h

not_found : {V : Type 0} (q : Name) (e : Name × V) (es : List (Name × V)) → RisesByName (e ∷ es) → same q e.0 ≡ true
    → find name_cmp q es ≡ None
not_found q e es h t = subst (λ n. find name_cmp n es ≡ None) (sym (tied_names q e.0 (is_Equal _ t)))
    (below-none e.0 es (T_first _ (is_sorted name_cmp es) h))

at_entry : (x y b c r t : Bool) → (c ≡ true → t ≡ false) → x ≡ y → (((x && (b && c)) || (b && t)) ≡ (b && cond c y t))
at_entry x y true true r t h e = ap (λ z. (x && true) || z) (h refl) ∙
    elim x as (λ x. ((x && true) || false) ≡ x) [ true ↦ refl | false ↦ refl ] ∙ e
at_entry x y true false r t h e = elim x as (λ x. ((x && false) || t) ≡ t) [ true ↦ refl | false ↦ refl ]
at_entry x y false c r t h e = elim x as (λ x. ((x && false) || false) ≡ false) [ true ↦ refl | false ↦ refl ]

at_time-cond : {V : Type 0} (f : V → ℕ) (t : ℕ) (c : Bool) (v : V) (o : Option V) → is_at_time t (option_map f (cond c (Some v) o))
    ≡ cond c (f v == t) (is_at_time t (option_map f o))
at_time-cond f t true v o = refl
at_time-cond f t false v o = refl

has-map : {V : Type 0} (f : V → ℕ) (r : Rank) (d : Due) (es : List (Name × V)) → RisesByName es
    → has (map (λ e. record { time = f e.1; rank = r; name = e.0 }) es) d
    ≡ (same_rank r d.rank && is_at_time d.time (option_map f (find name_cmp d.name es)))
has-map f r d [] h = elim (same_rank r d.rank) as (λ b. false ≡ (b && false)) [ true ↦ refl | false ↦ refl ]
has-map {V = V} f r d (e ∷ es) h =
    let rest : Bool = is_at_time d.time (option_map f (find name_cmp d.name es)) in
    let c : Bool = same d.name e.0 in
    ap (λ b. b || has (map (λ (e : Name × V). record { time = f e.1; rank = r; name = e.0 }) es) d)
    (due_eq d (record { time = f e.1; rank = r; name = e.0 }))
    ∙ ap (λ b. ((d.time == f e.1) && (same_rank d.rank r && c)) || b) (has-map f r d es (T_second (below_all name_cmp e.0 es) _ h))
    ∙ ap (λ b. ((d.time == f e.1) && (b && c)) || (same_rank r d.rank && rest)) (eqb-swap (rank_number d.rank) (rank_number r))
    ∙ at_entry (d.time == f e.1) (f e.1 == d.time) (same_rank r d.rank) c true rest
    (λ t. ap (λ o. is_at_time d.time (option_map f o)) (not_found d.name e es h t)) (eqb-swap d.time (f e.1))
    ∙ ap (λ b. same_rank r d.rank && b) (sym (at_time-cond f d.time c e.1 (find name_cmp d.name es)))

by_rank : (ms : List (Name × Missing)) (rs : List (Name × Repairing)) (k : Rank) (t : ℕ) (n : Name)
    → ((same_rank Request k && is_at_time t (expiry_of ms rs Request n)) || (same_rank Repair k && is_at_time t (expiry_of ms rs Repair n)))
    ≡ is_at_time t (expiry_of ms rs k n)
unfolding rank_number
by_rank ms rs k t n = grind arith

has-timers : (ms : List (Name × Missing)) (rs : List (Name × Repairing)) → RisesByName ms → RisesByName rs
    → (d : Due) → has (pending_timers ms rs) d
    ≡ is_at_time d.time (expiry_of ms rs d.rank d.name)
has-timers ms rs g h d =
    has-append (map (λ (e : Name × Missing). request_timer e.0 e.1) ms) (map (λ (e : Name × Repairing). repair_timer e.0 e.1) rs) d
    ∙ (λ i. has-map (λ (e : Missing). e.expiry) Request d ms g i || has-map (λ (e : Repairing). e.expiry) Repair d rs h i)
    ∙ by_rank ms rs d.rank d.time d.name

pub index_first : (index : List Due) (ms : List (Name × Missing)) (rs : List (Name × Repairing)) (r : Option Due) → IsIndexed index ms rs
    → IsFirst index r → r ≡ earliest (pending_timers ms rs)
index_first index ms rs r h first = grind (arith, same_first, has-timers, first-earliest)
