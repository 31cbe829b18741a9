-- An index of timers against the tables of timers.
use Rattle.std.proofs.Common.{◌≡◌, ℕ, Bool, true, false, cond, not, ◌&&◌, List, Option, Some, None, refl, sym, ap, ◌∙◌, subst}
use Rattle.std.proofs.Common.{arith, ◌==◌, ◌∷◌, []}
use Rattle.std.specs.Option.{option_map}
use Rattle.std.specs.declared.cmp.Ordering.TheVariants.{Equal}
use Rattle.std.specs.Ordering.{eq_by_cmp}
use Rattle.std.specs.Cmp.{IsTotalOrder, both_ways}
use Rattle.std.specs.Cmp.Lexicographic.{on_texts, texts_ties}
use Rattle.std.specs.FinMap.Entries.{put, find, is_sorted-put, is_sorted-where_key, find-put, find-where_key, same_entries}
use Rattle.std.proofs.lemmas.Bool.Decides.{nat_tests}
use Rattle.srm_net.specs.declared.packet.Name.{Name}
use Rattle.srm_net.specs.declared.rank.Rank.{Rank}
use Rattle.srm_net.specs.declared.rank.Rank.TheVariants.{Request, Repair}
use Rattle.srm_net.specs.Keys.{rank_number}
use Rattle.srm_net.specs.Names.{name_cmp}
use Rattle.srm_net.proofs.Basics.{is_Equal}
use Rattle.srm_net.proofs.TotalOrders.{name_total, tied_names, one_rank}
use Rattle.srm_member.specs.declared.due.Due.{Due}
use Rattle.srm_member.specs.Record.{Missing, Repairing, due_cmp}
use Rattle.srm_member.specs.React.{without}
use Rattle.srm_member.proofs.Maps.{find-lookup, kept}
use Rattle.srm_member.specs.Pending.{has, RisesByName, expiry_of, is_at_time, IsIndexed, request_timer, repair_timer}
use Rattle.srm_member.proofs.TableChanges.{same_names, name_is}

-- ---- names and timers are compared by their numbers

abbrev numbers : Due → List ℕ
numbers d = d.time ∷ rank_number d.rank ∷ d.name.source ∷ d.name.page ∷ d.name.number ∷ []

pub due_total : IsTotalOrder due_cmp
due_total = on_texts numbers

abbrev pub same : Name → Name → Bool
same m n = eq_by_cmp name_cmp m n

abbrev pub same_rank : Rank → Rank → Bool
same_rank r q = rank_number r == rank_number q

pub due_eq : (d e : Due) → eq_by_cmp due_cmp d e ≡ ((d.time == e.time) && (same_rank d.rank e.rank && same d.name e.name))
due_eq d e = grind arith

pub due_itself : (d : Due) → eq_by_cmp due_cmp d d ≡ true
due_itself d = sym (texts_ties (numbers d) (numbers d)) ∙ grind (arith, nat_tests)

pub due_same : (d e : Due) → due_cmp d e ≡ Equal → d ≡ e
due_same d e h = grind (arith, one_rank)

same-swap : (m n : Name) → same m n ≡ same n m
same-swap m n = both_ways (same m n) (same n m) (λ e. let s = same_names m n e in subst (λ k. same k m ≡ true) s (name_is m))
    (λ e. let s = same_names n m e in subst (λ k. same k n ≡ true) s (name_is n))

-- ---- an index by the test of its elements, against when each timer expires

abbrev Ties : (Due → Bool) → (Rank → Name → Option ℕ) → Type 0
Ties c f = (d : Due) → c d ≡ is_at_time d.time (f d.rank d.name)

abbrev timer : ℕ → Rank → Name → Due
timer t r n = record { time = t; rank = r; name = n }

-- when timers expire, but for one of this rank and name
abbrev changed : Option ℕ → Rank → Name → (Rank → Name → Option ℕ) → Rank → Name → Option ℕ
changed v r n f k m = cond (same_rank r k && same n m) v (f k m)

picked : (f : Rank → Name → Option ℕ) (r k : Rank) (n m : Name) → (same_rank r k && same n m) ≡ true → f k m ≡ f r n
picked f r k n m e = grind (arith, one_rank)

-- a timer taken out
ties_less : (c c2 : Due → Bool) (f : Rank → Name → Option ℕ) (t : ℕ) (r : Rank) (n : Name) → Ties c f → f r n ≡ Some t
    → ((d : Due) → c2 d ≡ cond (eq_by_cmp due_cmp (timer t r n) d) false (c d)) → Ties c2 (changed None r n f)
ties_less c c2 f t r n tie was less d =
    let p = picked f r d.rank n d.name in
    less d ∙ ap (λ b. cond b false (c d)) (due_eq (timer t r n) d)
    ∙ elim (same_rank r d.rank && same n d.name) as (λ b. (b ≡ true → f d.rank d.name ≡ f r n) → cond ((t == d.time) && b) false (c d)
    ≡ is_at_time d.time (cond b None (f d.rank d.name))) [
      | true ↦ λ q. ap (cond ((t == d.time) && true) false) (tie d ∙ ap (is_at_time d.time) (q refl ∙ was))
          ∙ elim (t == d.time) as (λ a. cond (a && true) false a ≡ false) [ true ↦ refl | false ↦ refl ]
      | false ↦ λ q. elim (t == d.time) as (λ a. cond (a && false) false (c d) ≡ is_at_time d.time (f d.rank d.name))
          [ true ↦ tie d | false ↦ tie d ]
    ] p

-- a timer put in, where none was
ties_more : (c c2 : Due → Bool) (f : Rank → Name → Option ℕ) (t : ℕ) (r : Rank) (n : Name) → Ties c f → f r n ≡ None
    → ((d : Due) → c2 d ≡ cond (eq_by_cmp due_cmp (timer t r n) d) true (c d)) → Ties c2 (changed (Some t) r n f)
ties_more c c2 f t r n tie was more d =
    let p = picked f r d.rank n d.name in
    more d ∙ ap (λ b. cond b true (c d)) (due_eq (timer t r n) d)
    ∙ elim (same_rank r d.rank && same n d.name) as (λ b. (b ≡ true → f d.rank d.name ≡ f r n) → cond ((t == d.time) && b) true (c d)
    ≡ is_at_time d.time (cond b (Some t) (f d.rank d.name))) [
      | true ↦ λ q. ap (cond ((t == d.time) && true) true) (tie d ∙ ap (is_at_time d.time) (q refl ∙ was))
          ∙ elim (t == d.time) as (λ a. cond (a && true) true false ≡ a) [ true ↦ refl | false ↦ refl ]
      | false ↦ λ q. elim (t == d.time) as (λ a. cond (a && false) true (c d) ≡ is_at_time d.time (f d.rank d.name))
          [ true ↦ tie d | false ↦ tie d ]
    ] p

-- ---- the tables

pub rises-put : {V : Type 0} (n : Name) (v : V) (es : List (Name × V)) → RisesByName es → RisesByName (put name_cmp n v es)
rises-put n v es h = is_sorted-put name_cmp name_total n v es h

pub rises-without : {V : Type 0} (n : Name) (es : List (Name × V)) → RisesByName es → RisesByName (without n es)
rises-without n es h = is_sorted-where_key name_cmp (λ x. not (same n x)) es h

find_put : {V : Type 0} (q n : Name) (v : V) (es : List (Name × V)) → find name_cmp q (put name_cmp n v es)
    ≡ cond (same n q) (Some v) (find name_cmp q es)
find_put q n v es = find-put name_cmp name_total q n v es ∙ ap (λ b. cond b (Some v) (find name_cmp q es)) (same-swap q n)

cond_not : {A : Type 0} (b : Bool) (x y : A) → cond (not b) x y ≡ cond b y x
cond_not true x y = refl
cond_not false x y = refl

find_without : {V : Type 0} (q n : Name) (es : List (Name × V)) → find name_cmp q (without n es) ≡ cond (same n q) None (find name_cmp q es)
find_without q n es =
    find-where_key name_cmp (λ x. not (same n x)) q (λ x e. ap (λ k. not (same n k)) (sym (tied_names q x e))) es
    ∙ cond_not (same n q) (find name_cmp q es) None

cond_twice : {A : Type 0} (b : Bool) (x y z : A) → cond b x (cond b y z) ≡ cond b x z
cond_twice true x y z = refl
cond_twice false x y z = refl

pub put-without : {V : Type 0} (n : Name) (v : V) (es : List (Name × V)) → RisesByName es
    → put name_cmp n v (without n es) ≡ put name_cmp n v es
put-without n v es h =
    same_entries name_cmp name_total tied_names _ _ (rises-put n v _ (rises-without n es h)) (rises-put n v es h)
    (λ q. find_put q n v (without n es) ∙ ap (cond (same n q) (Some v)) (find_without q n es)
    ∙ cond_twice (same n q) (Some v) None (find name_cmp q es) ∙ sym (find_put q n v es))

-- ---- an index and the tables

abbrev request_expiry : Option Missing → Option ℕ
request_expiry o = option_map (λ (e : Missing). e.expiry) o

abbrev repair_expiry : Option Repairing → Option ℕ
repair_expiry o = option_map (λ (e : Repairing). e.expiry) o

expiry-missing : (n : Name) (v : Option Missing) (ms ms2 : List (Name × Missing)) (rs : List (Name × Repairing))
    → ((q : Name) → find name_cmp q ms2 ≡ cond (same n q) v (find name_cmp q ms))
    → (k : Rank) (m : Name) → expiry_of ms2 rs k m ≡ changed (request_expiry v) Request n (expiry_of ms rs) k m
unfolding rank_number
expiry-missing n v ms ms2 rs h k m = grind arith

expiry-repairs : (n : Name) (v : Option Repairing) (ms : List (Name × Missing)) (rs rs2 : List (Name × Repairing))
    → ((q : Name) → find name_cmp q rs2 ≡ cond (same n q) v (find name_cmp q rs))
    → (k : Rank) (m : Name) → expiry_of ms rs2 k m ≡ changed (repair_expiry v) Repair n (expiry_of ms rs) k m
unfolding rank_number
expiry-repairs n v ms rs rs2 h k m = grind arith

ties_by : (c : Due → Bool) (f g : Rank → Name → Option ℕ) → Ties c f → ((k : Rank) (m : Name) → g k m ≡ f k m) → Ties c g
ties_by c f g tie e d = tie d ∙ ap (is_at_time d.time) (sym (e d.rank d.name))

put_and_taken : (b x y z : Bool) → (b ≡ true → x ≡ false) → y ≡ cond b true x → z ≡ cond b false y → z ≡ x
put_and_taken b x y z h more less = grind arith

ties_same : (c c2 c3 : Due → Bool) (f : Rank → Name → Option ℕ) (t : ℕ) (r : Rank) (n : Name) → Ties c f → f r n ≡ None
    → ((d : Due) → c2 d ≡ cond (eq_by_cmp due_cmp (timer t r n) d) true (c d))
    → ((d : Due) → c3 d ≡ cond (eq_by_cmp due_cmp (timer t r n) d) false (c2 d)) → Ties c3 f
ties_same c c2 c3 f t r n tie none more less d =
    put_and_taken (eq_by_cmp due_cmp (timer t r n) d) (c d) (c2 d) (c3 d)
    (λ e. tie d ∙ ap (is_at_time d.time) (subst (λ (x : Due). f x.rank x.name ≡ None) (due_same (timer t r n) d (is_Equal _ e)) none))
    (more d) (less d) ∙ tie d

pub find-none : {V : Type 0} (n : Name) (es : List (Name × V)) → find name_cmp n (without n es) ≡ None
find-none n es = find_without n n es ∙ ap (λ b. cond b None (find name_cmp n es)) (name_is n)

pub without-none : {V : Type 0} (n : Name) (es : List (Name × V)) → find name_cmp n es ≡ None → without n es ≡ es
without-none n es h = kept (λ k. same n k) es (sym (find-lookup name_cmp n es) ∙ h)

-- ---- the steps of the tables

pub found-step : (n : Name) (e : Missing) (index index2 : List Due) (ms : List (Name × Missing)) (rs : List (Name × Repairing))
    → IsIndexed index ms rs → find name_cmp n ms ≡ Some e
    → ((d : Due) → has index2 d ≡ cond (eq_by_cmp due_cmp (request_timer n e) d) false (has index d)) → IsIndexed index2 (without n ms) rs
found-step n e index index2 ms rs h was less = record {
  missing_rise = rises-without n ms h.missing_rise;
  repairs_rise = h.repairs_rise;
  timers = ties_by (has index2) (changed None Request n (expiry_of ms rs)) (expiry_of (without n ms) rs)
      (ties_less (has index) (has index2) (expiry_of ms rs) e.expiry Request n h.timers (ap request_expiry was) less)
      (expiry-missing n None ms (without n ms) rs (λ q. find_without q n ms));
}

pub missed-step : (n : Name) (e : Missing) (index index2 : List Due) (ms : List (Name × Missing)) (rs : List (Name × Repairing))
    → IsIndexed index ms rs → find name_cmp n ms ≡ None
    → ((d : Due) → has index2 d ≡ cond (eq_by_cmp due_cmp (request_timer n e) d) true (has index d))
    → IsIndexed index2 (put name_cmp n e ms) rs
missed-step n e index index2 ms rs h was more = record {
  missing_rise = rises-put n e ms h.missing_rise;
  repairs_rise = h.repairs_rise;
  timers = ties_by (has index2) (changed (Some e.expiry) Request n (expiry_of ms rs)) (expiry_of (put name_cmp n e ms) rs)
      (ties_more (has index) (has index2) (expiry_of ms rs) e.expiry Request n h.timers (ap request_expiry was) more)
      (expiry-missing n (Some e) ms (put name_cmp n e ms) rs (λ q. find_put q n e ms));
}

pub missed-back : (n : Name) (e : Missing) (index index2 index3 : List Due) (ms : List (Name × Missing)) (rs : List (Name × Repairing))
    → IsIndexed index ms rs → find name_cmp n ms ≡ None
    → ((d : Due) → has index2 d ≡ cond (eq_by_cmp due_cmp (request_timer n e) d) true (has index d))
    → ((d : Due) → has index3 d ≡ cond (eq_by_cmp due_cmp (request_timer n e) d) false (has index2 d)) → IsIndexed index3 ms rs
missed-back n e index index2 index3 ms rs h was more less = record {
  missing_rise = h.missing_rise;
  repairs_rise = h.repairs_rise;
  timers = ties_same (has index) (has index2) (has index3) (expiry_of ms rs) e.expiry Request n h.timers (ap request_expiry was) more less;
}

pub answered-step : (n : Name) (e : Repairing) (index index2 : List Due) (ms : List (Name × Missing)) (rs : List (Name × Repairing))
    → IsIndexed index ms rs → find name_cmp n rs ≡ Some e
    → ((d : Due) → has index2 d ≡ cond (eq_by_cmp due_cmp (repair_timer n e) d) false (has index d)) → IsIndexed index2 ms (without n rs)
answered-step n e index index2 ms rs h was less = record {
  missing_rise = h.missing_rise;
  repairs_rise = rises-without n rs h.repairs_rise;
  timers = ties_by (has index2) (changed None Repair n (expiry_of ms rs)) (expiry_of ms (without n rs))
      (ties_less (has index) (has index2) (expiry_of ms rs) e.expiry Repair n h.timers (ap repair_expiry was) less)
      (expiry-repairs n None ms rs (without n rs) (λ q. find_without q n rs));
}

pub planned-step : (n : Name) (e : Repairing) (index index2 : List Due) (ms : List (Name × Missing)) (rs : List (Name × Repairing))
    → IsIndexed index ms rs → find name_cmp n rs ≡ None
    → ((d : Due) → has index2 d ≡ cond (eq_by_cmp due_cmp (repair_timer n e) d) true (has index d))
    → IsIndexed index2 ms (put name_cmp n e rs)
planned-step n e index index2 ms rs h was more = record {
  missing_rise = h.missing_rise;
  repairs_rise = rises-put n e rs h.repairs_rise;
  timers = ties_by (has index2) (changed (Some e.expiry) Repair n (expiry_of ms rs)) (expiry_of ms (put name_cmp n e rs))
      (ties_more (has index) (has index2) (expiry_of ms rs) e.expiry Repair n h.timers (ap repair_expiry was) more)
      (expiry-repairs n (Some e) ms rs (put name_cmp n e rs) (λ q. find_put q n e rs));
}

pub planned-back : (n : Name) (e : Repairing) (index index2 index3 : List Due) (ms : List (Name × Missing)) (rs : List (Name × Repairing))
    → IsIndexed index ms rs → find name_cmp n rs ≡ None
    → ((d : Due) → has index2 d ≡ cond (eq_by_cmp due_cmp (repair_timer n e) d) true (has index d))
    → ((d : Due) → has index3 d ≡ cond (eq_by_cmp due_cmp (repair_timer n e) d) false (has index2 d)) → IsIndexed index3 ms rs
planned-back n e index index2 index3 ms rs h was more less = record {
  missing_rise = h.missing_rise;
  repairs_rise = h.repairs_rise;
  timers = ties_same (has index) (has index2) (has index3) (expiry_of ms rs) e.expiry Repair n h.timers (ap repair_expiry was) more less;
}
