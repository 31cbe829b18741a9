-- The first rows that tell of an operation are the earliest.
use Rattle.std.proofs.Common.{◌≡◌, ◌∙◌, ◌⊎◌, inl, inr, ℕ, zero, suc, ◌≤◌, Bool, true, false, cond, ◌&&◌, ◌||◌, List, [], ◌∷◌, map}
use Rattle.std.proofs.Common.{Option, Some, None, refl, ap, sym, subst, ◌==◌, eq-eqb, true≢false, arith, Less}
use Rattle.std.specs.List.{Contains, find, fold, list_any}
use Rattle.std.specs.Ordering.{eq_by_cmp}
use Rattle.std.proofs.lemmas.List.Elements.{Contains-append_right}
use Rattle.std.proofs.lemmas.Option.{same_Some}
use Rattle.srm_net.specs.declared.key.Key.{Key}
use Rattle.srm_net.specs.declared.packet.Name.{Name}
use Rattle.srm_net.specs.Keys.{key_cmp}
use Rattle.srm_net.specs.Orders.{AllAfter, Ascends}
use Rattle.srm_member.specs.declared.row.Row.{Row}
use Rattle.srm_member.specs.Kinds.{is_ask}
use Rattle.srm_member.proofs.TableChanges.{name_is, same_names}
use Rattle.srm_report.specs.declared.losses.loss.Loss.{Loss}
use Rattle.srm_report.specs.Losses.{detected_at, loss_cmp, losses_in}
use Rattle.srm_report.specs.OperationLaws.{FirstsAreLeast, loses}
use Rattle.srm_report.specs.Operations.{losses_of, sends_for, sooner}
use Rattle.srm_report.specs.Rows.{is_name}
use Rattle.srm_report.proofs.CourseLemmas.{loss_is, loss_total, losses_apart, named_in, second_true}
use Rattle.srm_report.proofs.EntryLemmas.{any_ordered, first_false, second_false}
use Rattle.srm_report.proofs.OperationSums.{any_loss, any_named}
use Rattle.srm_report.proofs.SumLemmas.{any_in}
use Rattle.srm_report.specs.Courses.{detects, row_time}
use Rattle.srm_report.specs.Tallies.{all_losses, named}

-- ---- the least of some times

abbrev AtLeast : ℕ → Option ℕ → Type 0
AtLeast t None = Unit {0}
AtLeast t (Some u) = t ≤ u

abbrev AllAtLeast : ℕ → List (Option ℕ) → Type 0
AllAtLeast t [] = Unit {0}
AllAtLeast t (u ∷ us) = AtLeast t u × AllAtLeast t us

abbrev Has : ℕ → List (Option ℕ) → Type 0
Has t [] = ⊥
Has t (u ∷ us) = (u ≡ Some t) ⊎ Has t us

sooner_least : (t : ℕ) (a b : Option ℕ) → AtLeast t a → AtLeast t b → AtLeast t (sooner a b)
sooner_least t a None h k = h
sooner_least t None (Some b) h k = k
sooner_least t (Some a) (Some b) h k = omega arith

first_stays : (t : ℕ) (b : Option ℕ) → AtLeast t b → sooner (Some t) b ≡ Some t
first_stays t None k = refl
first_stays t (Some b) k = ap Some (omega arith)

second_stays : (t : ℕ) (a : Option ℕ) → AtLeast t a → sooner a (Some t) ≡ Some t
second_stays t None h = refl
second_stays t (Some a) h = ap Some (omega arith)

least : (t : ℕ) (a : Option ℕ) (ts : List (Option ℕ)) → AtLeast t a → AllAtLeast t ts → (a ≡ Some t) ⊎ Has t ts
    → fold sooner a ts ≡ Some t
least t a [] h k (inl e) = e
least t a [] h k (inr f) = absurd f
least t a (u ∷ us) h k (inl e) =
    least t (sooner a u) us (sooner_least t a u h k.0) k.1 (inl (ap (λ x. sooner x u) e ∙ first_stays t u k.0))
least t a (u ∷ us) h k (inr (inl e)) =
    least t (sooner a u) us (sooner_least t a u h k.0) k.1 (inl (ap (sooner a) e ∙ second_stays t a h))
least t a (u ∷ us) h k (inr (inr f)) = least t (sooner a u) us (sooner_least t a u h k.0) k.1 (inr f)

earliest_is : (t : ℕ) (ts : List (Option ℕ)) → AllAtLeast t ts → Has t ts → fold sooner None ts ≡ Some t
earliest_is t ts h k = least t None ts tt h (inr k)

-- ---- rows by rising time

time_rises : (k l : Key) → key_cmp k l ≡ Less → k.time ≤ l.time
time_rises k l h = grind arith

abbrev Rising : List Row → Type 0
Rising rows = Ascends (λ q r. key_cmp q.key r.key) rows

later_rows : (q : Row) (rows : List Row) → AllAfter (λ x y. key_cmp x.key y.key) q rows → (r : Row) → Contains rows r
    → q.key.time ≤ r.key.time
later_rows q [] h r c = absurd (let l = c.1 in omega arith)
later_rows q (x ∷ xs) h r (zero, l, e) = subst (λ (y : Row). q.key.time ≤ y.key.time) e (time_rises q.key x.key h.0)
later_rows q (x ∷ xs) h r (suc i, l, e) = later_rows q xs h.1 r (i, omega arith, e)

-- the first row that passes a test
record IsFirst (p : Row → Bool) (rows : List Row) (q : Row) : Type 0 where
  there : Contains rows q
  passes : p q ≡ true
  earliest : (r : Row) → Contains rows r → p r ≡ true → q.key.time ≤ r.key.time

found_first : (p : Row → Bool) (rows : List Row) → Rising rows → (q : Row) → find p rows ≡ Some q → IsFirst p rows q
found_first p [] o q h = cc
found_first p (x ∷ xs) o q h = elim (p x) as (λ b. p x ≡ b → cond b (Some x) (find p xs) ≡ Some q → IsFirst p (x ∷ xs) q) [
  | true ↦ λ e g. let is : x ≡ q = same_Some _ _ g in subst (IsFirst p (x ∷ xs)) is (here e)
  | false ↦ λ e g. behind e (found_first p xs o.1 q g)
] refl h
  where
    not_before : (r : Row) → Contains (x ∷ xs) r → x.key.time ≤ r.key.time
    not_before r (zero, l, e) = subst (λ (y : Row). x.key.time ≤ y.key.time) e (omega arith)
    not_before r (suc i, l, e) = later_rows x xs o.0 r (i, omega arith, e)

    here : p x ≡ true → IsFirst p (x ∷ xs) x
    here e = record { there = (0, omega arith, refl); passes = e; earliest = λ r c g. not_before r c }

    behind : p x ≡ false → IsFirst p xs q → IsFirst p (x ∷ xs) q
    behind e f = record {
      there = Contains-append_right (x ∷ []) xs q f.there;
      passes = f.passes;
      earliest = λ r c g. after r c g;
    }
      where
        after : (r : Row) → Contains (x ∷ xs) r → p r ≡ true → q.key.time ≤ r.key.time
        after r (zero, l, same) g = absurd (true≢false (sym g ∙ sym (ap p same) ∙ e))
        after r (suc i, l, same) g = f.earliest r (i, omega arith, same) g

none_found : (p : Row → Bool) (rows : List Row) → find p rows ≡ None → list_any p rows ≡ false
none_found p [] h = refl
none_found p (x ∷ xs) h = elim (p x) as (λ b. cond b (Some x) (find p xs) ≡ None → (b || list_any p xs) ≡ false) [
  | true ↦ λ g. cc
  | false ↦ λ g. none_found p xs g
] h

-- ---- the first request

module _ (p : Row → Bool) where
  abbrev time_if : Row → Option ℕ
  time_if r = cond (p r) (Some r.key.time) None

  all_late : (t : ℕ) (rows : List Row) → ((r : Row) → Contains rows r → p r ≡ true → t ≤ r.key.time) → AllAtLeast t (map time_if rows)
  all_late t [] h = tt
  all_late t (x ∷ xs) h = (one (p x) refl, all_late t xs (λ r c g. h r (Contains-append_right (x ∷ []) xs r c) g))
    where
      one : (b : Bool) → p x ≡ b → AtLeast t (cond b (Some x.key.time) None)
      one true e = h x (0, omega arith, refl) e
      one false e = tt

  has_time : (rows : List Row) (q : Row) → Contains rows q → p q ≡ true → Has q.key.time (map time_if rows)
  has_time [] q c h = absurd (let l = c.1 in omega arith)
  has_time (x ∷ xs) q (zero, l, e) h =
      inl (ap (λ b. cond b (Some x.key.time) None) (ap p e ∙ h) ∙ ap (λ (y : Row). Some y.key.time) e)
  has_time (x ∷ xs) q (suc i, l, e) h = inr (has_time xs q (i, omega arith, e) h)

  no_times : (a : Option ℕ) (rows : List Row) → list_any p rows ≡ false → fold sooner a (map time_if rows) ≡ a
  no_times a [] h = refl
  no_times a (x ∷ xs) h =
      ap (λ b. fold sooner (sooner a (cond b (Some x.key.time) None)) (map time_if xs)) (first_false (p x) (list_any p xs) h)
      ∙ no_times a xs (second_false (p x) (list_any p xs) h)

  first_time : (rows : List Row) → Rising rows → fold sooner None (map time_if rows) ≡ row_time (find p rows)
  first_time rows o = by (find p rows) refl
    where
      by : (found : Option Row) → find p rows ≡ found → fold sooner None (map time_if rows) ≡ row_time found
      by None e = no_times None rows (none_found p rows e)
      by (Some q) e =
          let f = found_first p rows o q e in
          earliest_is q.key.time (map time_if rows) (all_late q.key.time rows f.earliest) (has_time rows q f.there f.passes)

-- ---- the first loss

module _ (rows : List Row) (o : Rising rows) (n : Name) where
  -- who detects a loss of the name loses it
  detects_loses : (k : Loss) → is_name n k.name ≡ true → (r : Row) → detects k r ≡ true → loses n r ≡ true
  detects_loses k e r h =
      let same : n ≡ k.name = same_names n k.name e in
      ap (λ x. list_any (is_name x) r.lost) same ∙ second_true (r.key.member == k.member) (list_any (is_name k.name) r.lost) h

  detected_late : (t : ℕ) → ((r : Row) → Contains rows r → loses n r ≡ true → t ≤ r.key.time)
      → (k : Loss) → is_name n k.name ≡ true → AtLeast t (detected_at rows k)
  detected_late t h k e = by (find (detects k) rows) refl
    where
      by : (found : Option Row) → find (detects k) rows ≡ found → AtLeast t (row_time found)
      by None f = tt
      by (Some q) f = let g = found_first (detects k) rows o q f in h q g.there (detects_loses k e q g.passes)

  all_detected : (t : ℕ) → ((r : Row) → Contains rows r → loses n r ≡ true → t ≤ r.key.time)
      → (ks : List Loss) → AllAtLeast t (map (detected_at rows) (named n ks))
  all_detected t h [] = tt
  all_detected t h (k ∷ ks) = one (is_name n k.name) refl (all_detected t h ks)
    where
      one : (b : Bool) → is_name n k.name ≡ b → AllAtLeast t (map (detected_at rows) (named n ks))
          → AllAtLeast t (map (detected_at rows) (cond b (k ∷ named n ks) (named n ks)))
      one true e rest = (detected_late t h k e, rest)
      one false e rest = rest

  has_detected : (t : ℕ) (k : Loss) → is_name n k.name ≡ true → detected_at rows k ≡ Some t → (ks : List Loss)
      → list_any (eq_by_cmp loss_cmp k) ks ≡ true → Has t (map (detected_at rows) (named n ks))
  has_detected t k e d [] h = cc
  has_detected t k e d (j ∷ js) h = elim (losses_apart k j) [
    | inl same ↦ subst (λ b. Has t (map (detected_at rows) (cond b (j ∷ named n js) (named n js))))
        (sym (ap (λ (x : Loss). is_name n x.name) (sym same) ∙ e)) (inl (ap (detected_at rows) (sym same) ∙ d))
    | inr ne ↦ one (is_name n j.name) (has_detected t k e d js (sym (ap (λ b. b || list_any (eq_by_cmp loss_cmp k) js) ne) ∙ h))
  ]
    where
      one : (b : Bool) → Has t (map (detected_at rows) (named n js))
          → Has t (map (detected_at rows) (cond b (j ∷ named n js) (named n js)))
      one true f = inr f
      one false f = f

  none_named : (ks : List Loss) → list_any (λ (k : Loss). is_name n k.name) ks ≡ false → named n ks ≡ []
  none_named [] h = refl
  none_named (k ∷ ks) h =
      ap (λ b. cond b (k ∷ named n ks) (named n ks)) (first_false (is_name n k.name) _ h)
      ∙ none_named ks (second_false (is_name n k.name) _ h)

  first_loss : fold sooner None (map (detected_at rows) (losses_of rows n)) ≡ row_time (find (loses n) rows)
  first_loss = by (find (loses n) rows) refl
    where
      by : (found : Option Row) → find (loses n) rows ≡ found
          → fold sooner None (map (detected_at rows) (losses_of rows n)) ≡ row_time found
      by None e =
          let none : losses_of rows n ≡ [] = none_named (all_losses rows) (any_named n rows ∙ none_found (loses n) rows e) in
          ap (λ ks. fold sooner None (map (detected_at rows) ks)) none
      by (Some q) e = earliest_is q.key.time (map (detected_at rows) (losses_of rows n))
          (all_detected q.key.time first.earliest (all_losses rows))
          (has_detected q.key.time k (name_is n) detected (all_losses rows) among)
        where
          first : IsFirst (loses n) rows q
          first = found_first (loses n) rows o q e

          k : Loss
          k = record { member = q.key.member; name = n }

          own : detects k q ≡ true
          own = ap (λ b. b && loses n q) (eq-eqb q.key.member q.key.member refl) ∙ first.passes

          detected : detected_at rows k ≡ Some q.key.time
          detected = when (find (detects k) rows) refl
            where
              when : (found : Option Row) → find (detects k) rows ≡ found → row_time found ≡ Some q.key.time
              when None f =
                  absurd (true≢false (sym (any_in (detects k) rows q first.there own) ∙ none_found (detects k) rows f))
              when (Some x) f =
                  let g = found_first (detects k) rows o x f in
                  let before = g.earliest q first.there own in
                  let behind = first.earliest x g.there (detects_loses k (name_is n) x g.passes) in
                  ap Some (omega arith)

          among : list_any (eq_by_cmp loss_cmp k) (all_losses rows) ≡ true
          among =
              any_ordered loss_cmp loss_total (eq_by_cmp loss_cmp k) (losses_in rows)
              ∙ any_loss (eq_by_cmp loss_cmp k) rows
              ∙ any_in (λ r. list_any (λ x. eq_by_cmp loss_cmp k (record { member = r.key.member; name = x })) r.lost) rows q first.there
              (any_in (λ x. eq_by_cmp loss_cmp k (record { member = q.key.member; name = x })) q.lost n
              (named_in n q.lost first.passes) (loss_is k))

pub firsts_are_least : FirstsAreLeast
firsts_are_least members rows o n = (first_loss rows o.rise n, first_time (sends_for is_ask n) rows o.rise)
