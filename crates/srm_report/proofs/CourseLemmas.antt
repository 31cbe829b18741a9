-- What became of losses, row by row.
use Rattle.std.proofs.Common.{◌≡◌, ◌∙◌, ℕ, zero, suc, ◌≢◌, ◌⊎◌, inl, inr, Bool, true, false, cond, ◌&&◌, ◌||◌, List, [], ◌∷◌, ◌++◌}
use Rattle.std.proofs.Common.{map, Option, Some, None, is_some, refl, ap, sym, subst, append-nil, append_assoc, ◌==◌, eqb-true}
use Rattle.std.proofs.Common.{eq-eqb, true≢false, arith, Equal}
use Rattle.std.specs.List.{Contains, list_any}
use Rattle.std.specs.List as lists
use Rattle.std.specs.Option.{option_map, option_map_or, option_or}
use Rattle.std.specs.Ordering.{eq_by_cmp, is_eq}
use Rattle.std.specs.Cmp.{IsTotalOrder, on_total}
use Rattle.std.specs.Cmp.Lexicographic.{nat_list_cmp_total}
use Rattle.std.specs.FinMap.Entries.{put, find, find-put, is_some-find, is_sorted-put}
use Rattle.std.proofs.lemmas.List.Folds.{find-append}
use Rattle.std.proofs.lemmas.Grind.{flat_map-append}
use Rattle.std.proofs.lemmas.List.{map-append}
use Rattle.std.proofs.lemmas.List.Elements.{Contains-append_left, Contains-append_right}
use Rattle.std.proofs.lemmas.Map.Views.{Contains-from_any}
use Rattle.std.proofs.lemmas.Bool.{and_from, and_right, or_right, false_from_ne_true}
use Rattle.srm_net.specs.declared.packet.Name.{Name}
use Rattle.srm_net.specs.Orders.{place, ordered}
use Rattle.srm_member.specs.declared.told.Told.{Told}
use Rattle.srm_member.specs.declared.told.Told.TheVariants.{Fixed}
use Rattle.srm_member.specs.declared.row.Row.{Row}
use Rattle.srm_member.specs.Orderly.{LostIn, FixedIn, brought}
use Rattle.srm_member.proofs.TableChanges.{same_names, name_is}
use Rattle.srm_member.specs.Kinds.{is_fixed}
use Rattle.srm_report.specs.declared.losses.course.Course.{Course}
use Rattle.srm_report.specs.declared.losses.loss.Loss.{Loss}
use Rattle.srm_report.specs.Courses.{TellLosses, after_fix, fixed_at, course_of, losing, name_fixed, detects, fixes, row_time}
use Rattle.srm_report.specs.Losses.{loss_cmp, losses_in, detected_at, recovered_at}
use Rattle.srm_report.specs.Rows.{is_name}
use Rattle.srm_report.proofs.EntryLemmas.{any_ordered, keys_put, keys_same, ordered_push}
use Rattle.std.proofs.lemmas.List.Folds.{list_any-append}

-- ---- losses that tie are the same

pub loss_total : IsTotalOrder loss_cmp
loss_total =
    on_total (λ (k : Loss). k.member ∷ k.name.source ∷ k.name.page ∷ k.name.number ∷ []) nat_list_cmp_total

loss_self : (k : Loss) → loss_cmp k k ≡ Equal
loss_self k = grind arith

pub loss_is : (k : Loss) → eq_by_cmp loss_cmp k k ≡ true
loss_is k = ap is_eq (loss_self k)

pub losses_apart : (j k : Loss) → (j ≡ k) ⊎ (eq_by_cmp loss_cmp j k ≡ false)
losses_apart j k = grind arith

differ : (j k : Loss) → eq_by_cmp loss_cmp j k ≡ false → j ≢ k
differ j k h e = true≢false (sym (subst (λ x. eq_by_cmp loss_cmp j x ≡ true) e (loss_is j)) ∙ h)

-- ---- tests

pub first_true : (a b : Bool) → (a && b) ≡ true → a ≡ true
first_true true b h = refl
first_true false b h = absurd (true≢false (sym h))

pub second_true : (a b : Bool) → (a && b) ≡ true → b ≡ true
second_true true b h = h
second_true false b h = absurd (true≢false (sym h))

pub told_is : (t : Told) → is_fixed t ≡ true → t ≡ Fixed
told_is t h = grind arith

brought_is : (n : Name) (o : Option Name) → option_map_or (is_name n) o false ≡ true → o ≡ Some n
brought_is n None h = absurd (true≢false (sym h))
brought_is n (Some x) h = ap (λ y. Some y) (sym (same_names n x h))

-- ---- names in lists

pub named_in : (n : Name) (ns : List Name) → list_any (is_name n) ns ≡ true → Contains ns n
named_in n ns h = Contains-from_any {eq = is_name} same_names n ns h

in_named : (n : Name) (ns : List Name) → Contains ns n → list_any (is_name n) ns ≡ true
in_named n [] c = absurd (let l = c.1 in omega arith)
in_named n (x ∷ xs) (zero, l, e) = ap (λ b. b || list_any (is_name n) xs) (ap (is_name n) e ∙ name_is n)
in_named n (x ∷ xs) (suc i, l, e) = or_right (is_name n x) (list_any (is_name n) xs) (in_named n xs (i, omega arith, e))

-- ---- one row more

-- when the first of the rows is that passes a test
abbrev at : (Row → Bool) → List Row → Option ℕ
at t rows = row_time (lists.find t rows)

abbrev if_so : Bool → Row → Option Row
if_so b q = cond b (Some q) None

at_push : (t : Row → Bool) (rows : List Row) (q : Row) → at t (rows ++ q ∷ []) ≡ row_time (option_or (lists.find t rows) (if_so (t q) q))
at_push t rows q = ap row_time (find-append t rows (q ∷ []))

none_more : (o : Option Row) → row_time (option_or o None) ≡ row_time o
none_more (Some r) = refl
none_more None = refl

at_same : (t : Row → Bool) (rows : List Row) (p q : Row) → p.key.time ≡ q.key.time → t p ≡ t q → at t (rows ++ p ∷ [])
    ≡ at t (rows ++ q ∷ [])
at_same t rows p q e h = grind (arith, at_push)

at_none : (t : Row → Bool) (rows : List Row) (q : Row) → t q ≡ false → at t (rows ++ q ∷ []) ≡ at t rows
at_none t rows q h = at_push t rows q ∙ ap (λ b. row_time (option_or (lists.find t rows) (if_so b q))) h ∙ none_more (lists.find t rows)

at_first : (t : Row → Bool) (rows : List Row) (q : Row) → lists.find t rows ≡ None → t q ≡ true → at t (rows ++ q ∷ []) ≡ Some q.key.time
at_first t rows q none h =
    at_push t rows q ∙ ap (λ b. row_time (option_or (lists.find t rows) (if_so b q))) h ∙ ap (λ o. row_time (option_or o (Some q))) none

find_none : (t : Row → Bool) (rows : List Row) → ((q : Row) → Contains rows q → t q ≡ true → ⊥) → lists.find t rows ≡ None
find_none t [] h = refl
find_none t (q ∷ rows) h =
    ap (λ b. cond b (Some q) (lists.find t rows)) (false_from_ne_true (t q) (h q (0, omega arith, refl)))
    ∙ find_none t rows (λ r c. h r (Contains-append_right (q ∷ []) rows r c))

find_some : (t : Row → Bool) (rows : List Row) (q : Row) → Contains rows q → t q ≡ true → (n : ℕ) × (at t rows ≡ Some n)
find_some t [] q c h = absurd (let l = c.1 in omega arith)
find_some t (r ∷ rows) q (zero, l, e) h = (r.key.time, ap (λ b. row_time (cond b (Some r) (lists.find t rows))) (ap t e ∙ h))
find_some t (r ∷ rows) q (suc i, l, e) h =
    let rest = find_some t rows q (i, omega arith, e) h in
    elim (t r) as (λ b. (n : ℕ) × (row_time (cond b (Some r) (lists.find t rows)) ≡ Some n)) [ true ↦ (r.key.time, refl) | false ↦ rest ]

course_same : (rows more : List Row) (k : Loss) → detected_at rows k ≡ detected_at more k → recovered_at rows k ≡ recovered_at more k
    → course_of rows k ≡ course_of more k
course_same rows more k d r = λ i. option_map (λ at. record { detected = at; recovered = r i }) (d i)

course_is : (rows : List Row) (k : Loss) (n : ℕ) (o : Option ℕ) → detected_at rows k ≡ Some n → recovered_at rows k ≡ o → course_of rows k
    ≡ Some (record { detected = n; recovered = o })
course_is rows k n o d r = λ i. option_map (λ at. record { detected = at; recovered = r i }) (d i)

losses_push : (rows : List Row) (q : Row) → losses_in (rows ++ q ∷ []) ≡ losses_in rows
    ++ map (λ n. record { member = q.key.member; name = n }) q.lost
losses_push rows q = grind (arith, flat_map-append, append-nil)

-- ---- no loss

pub nothing : (rows : List Row) (r : Row) (es : List (Loss × Course)) → TellLosses rows es → TellLosses (rows ++ losing r [] ∷ []) es
nothing rows r es was = grind (arith, losses_push, append-nil, at_none)

-- ---- one loss more

module _ (rows : List Row) (r : Row) (front : List Name) (n : Name) (es : List (Loss × Course))
    (was : TellLosses (rows ++ losing r front ∷ []) es)
    (new : ¬ LostIn r.key.member n rows) (new_here : ¬ Contains front n) (unfixed : ¬ FixedIn r.key.member n rows) where
  abbrev m : ℕ
  m = r.key.member

  abbrev k : Loss
  k = record { member = m; name = n }

  abbrev q0 : Row
  q0 = losing r front

  abbrev q1 : Row
  q1 = losing r (front ++ n ∷ [])

  not_before : lists.find (detects k) rows ≡ None
  not_before = find_none (detects k) rows (λ q c h.
      new (q, c, eqb-true _ _ (first_true (q.key.member == m) _ h), named_in n q.lost (second_true (q.key.member == m) _ h)))

  not_fixed : lists.find (fixes k) rows ≡ None
  not_fixed = grind (arith, find_none, second_true, brought_is)

  detects_not : detects k q0 ≡ false
  detects_not = and_right (m == m) _ (false_from_ne_true _ (λ h. new_here (named_in n front h)))

  none : find loss_cmp k es ≡ None
  none =
      was.courses k
      ∙ (λ i. option_map (λ at. let c : Course = record { detected = at; recovered = recovered_at (rows ++ q0 ∷ []) k } in c)
      ((at_none (detects k) rows q0 detects_not ∙ ap row_time not_before) i))

  grown : losses_in (rows ++ q1 ∷ []) ≡ losses_in (rows ++ q0 ∷ []) ++ k ∷ []
  grown = grind (arith, losses_push, map-append, append_assoc)

  not_among : list_any (eq_by_cmp loss_cmp k) (losses_in (rows ++ q0 ∷ [])) ≡ false
  not_among =
      sym (any_ordered loss_cmp loss_total (eq_by_cmp loss_cmp k) (losses_in (rows ++ q0 ∷ [])))
      ∙ ap (list_any (eq_by_cmp loss_cmp k)) (sym was.losses)
      ∙ sym (is_some-find loss_cmp k es) ∙ ap is_some none

  lost_now : course_of (rows ++ q1 ∷ []) k ≡ Some (record { detected = r.key.time; recovered = None })
  lost_now = grind (arith, at_first, not_before, in_named, Contains-append_right, at_none, not_fixed)

  -- another loss, in the row with one loss more
  other : (j : Loss) → eq_by_cmp loss_cmp j k ≡ false → detects j q1 ≡ detects j q0
  other j ne = elim (m == j.member) as (λ b. (m == j.member) ≡ b → (b && list_any (is_name j.name) (front ++ n ∷ []))
      ≡ (b && list_any (is_name j.name) front)) [
        | true ↦ λ e.
            let name : is_name j.name n ≡ false = false_from_ne_true (is_name j.name n) (λ h.
            (let s = same_names j.name n h in let g = eqb-true m j.member e in
            differ j k ne (λ i. record { member = sym g i; name = s i }))) in
            list_any-append (is_name j.name) front (n ∷ []) ∙ ap (λ b. list_any (is_name j.name) front || (b || false)) name
            ∙ or_false (list_any (is_name j.name) front)
        | false ↦ λ e. refl
      ] refl
    where
      or_false : (b : Bool) → (b || (false || false)) ≡ b
      or_false true = refl
      or_false false = refl

  pub one_more : TellLosses (rows ++ losing r (front ++ n ∷ []) ∷ [])
      (put loss_cmp (record { member = r.key.member; name = n }) (record { detected = r.key.time; recovered = None }) es)
  one_more = record {
    sorted = is_sorted-put loss_cmp loss_total k (record { detected = r.key.time; recovered = None }) es was.sorted;
    losses =
        keys_put loss_cmp loss_total k (record { detected = r.key.time; recovered = None }) es none
        ∙ ap (place loss_cmp k) was.losses
        ∙ sym (ordered_push loss_cmp loss_total (losses_in (rows ++ q0 ∷ [])) k not_among)
        ∙ ap (ordered loss_cmp) (sym grown);
    courses = λ j. find-put loss_cmp loss_total j k (record { detected = r.key.time; recovered = None }) es ∙ elim (losses_apart j k) [
      | inl e ↦ subst (λ x. cond (eq_by_cmp loss_cmp x k) (Some (record { detected = r.key.time; recovered = None })) (find loss_cmp x es)
          ≡ course_of (rows ++ q1 ∷ []) x) (sym e)
          (ap (λ b. cond b (Some (record { detected = r.key.time; recovered = None })) (find loss_cmp k es)) (loss_is k) ∙ sym lost_now)
      | inr ne ↦ ap (λ b. cond b (Some (record { detected = r.key.time; recovered = None })) (find loss_cmp j es)) ne
          ∙ was.courses j
          ∙ sym (course_same (rows ++ q1 ∷ []) (rows ++ q0 ∷ []) j
          (at_same (detects j) rows q1 q0 refl (other j ne)) (at_same (fixes j) rows q1 q0 refl refl))
    ];
  }

-- ---- what was fixed

fixes_by : (f : Name → Bool) (b : Bool) (o : Option Name) → (b && option_map_or f o false) ≡ option_map_or f (cond b o None) false
fixes_by f true o = refl
fixes_by f false o = refl

module _ (rows : List Row) (r : Row) (es : List (Loss × Course)) (was : TellLosses (rows ++ losing r r.lost ∷ []) es) where
  abbrev q : Row
  q = losing r r.lost

  fixes_is : (j : Loss) → fixes j r ≡ ((r.key.member == j.member) && option_map_or (is_name j.name) (name_fixed r) false)
  fixes_is j = ap (λ b. (r.key.member == j.member) && b) (fixes_by (is_name j.name) (is_fixed r.told) (brought r.about))

  unfixed_now : (j : Loss) → fixes j q ≡ false
  unfixed_now j = and_right (r.key.member == j.member) false refl

  -- a loss that the row does not fix
  course_stays : (j : Loss) → fixes j r ≡ false → course_of (rows ++ r ∷ []) j ≡ course_of (rows ++ q ∷ []) j
  course_stays j h = grind (arith, at_same)

  losses_stay : losses_in (rows ++ q ∷ []) ≡ losses_in (rows ++ r ∷ [])
  losses_stay = losses_push rows q ∙ sym (losses_push rows r)

  pub fixed_none : name_fixed r ≡ None → TellLosses (rows ++ r ∷ []) es
  fixed_none h = grind (arith, losses_stay, course_stays)

  module _ (n : Name) (fix : name_fixed r ≡ Some n) (lost : LostIn r.key.member n rows) (unfixed : ¬ FixedIn r.key.member n rows) where
    abbrev k2 : Loss
    k2 = record { member = r.key.member; name = n }

    not_fixed_yet : lists.find (fixes k2) rows ≡ None
    not_fixed_yet = find_none (fixes k2) rows (λ p c h.
        (let g = second_true (p.key.member == r.key.member) _ h in
        unfixed (
          p,
          c,
          eqb-true _ _ (first_true (p.key.member == r.key.member) _ h),
          told_is p.told (first_true (is_fixed p.told) _ g),
          brought_is n (brought p.about) (second_true (is_fixed p.told) _ g),
        )))

    detected : (d : ℕ) × (detected_at (rows ++ q ∷ []) k2 ≡ Some d)
    detected = find_some (detects k2) (rows ++ q ∷ []) lost.0 (Contains-append_left rows (q ∷ []) lost.0 lost.1)
        (and_from (lost.0.key.member == r.key.member) _ (eq-eqb _ _ lost.2) (in_named n lost.0.lost lost.3))

    before_fix : course_of (rows ++ q ∷ []) k2 ≡ Some (record { detected = detected.0; recovered = None })
    before_fix = course_is (rows ++ q ∷ []) k2 detected.0 None detected.1
        (at_none (fixes k2) rows q (unfixed_now k2) ∙ ap row_time not_fixed_yet)

    abbrev mended : Course
    mended = record { detected = detected.0; recovered = Some r.key.time }

    after : course_of (rows ++ r ∷ []) k2 ≡ Some mended
    after = course_is (rows ++ r ∷ []) k2 detected.0 (Some r.key.time) (at_same (detects k2) rows r q refl refl ∙ detected.1)
        (at_first (fixes k2) rows r not_fixed_yet
        (fixes_is k2 ∙ and_from (r.key.member == r.key.member) _ (eq-eqb _ _ refl)
        (ap (λ o. option_map_or (is_name n) o false) fix ∙ name_is n)))

    apart : (j : Loss) → eq_by_cmp loss_cmp j k2 ≡ false → fixes j r ≡ false
    apart j ne = fixes_is j ∙ ap (λ o. (r.key.member == j.member) && option_map_or (is_name j.name) o false) fix
        ∙ false_from_ne_true _ (λ h.
        (let s = same_names j.name n (second_true (r.key.member == j.member) _ h) in
        let g = eqb-true r.key.member j.member (first_true (r.key.member == j.member) _ h) in
        differ j k2 ne (λ i. record { member = sym g i; name = s i })))

    put_now : TellLosses (rows ++ r ∷ []) (put loss_cmp k2 mended es)
    put_now = record {
      sorted = is_sorted-put loss_cmp loss_total k2 mended es was.sorted;
      losses = keys_same loss_cmp loss_total k2 mended es was.sorted _ (was.courses k2 ∙ before_fix) ∙ was.losses
          ∙ ap (ordered loss_cmp) losses_stay;
      courses = λ j. find-put loss_cmp loss_total j k2 mended es ∙ elim (losses_apart j k2) [
        | inl e ↦ subst (λ x. cond (eq_by_cmp loss_cmp x k2) (Some mended) (find loss_cmp x es) ≡ course_of (rows ++ r ∷ []) x) (sym e)
            (ap (λ b. cond b (Some mended) (find loss_cmp k2 es)) (loss_is k2) ∙ sym after)
        | inr ne ↦ ap (λ b. cond b (Some mended) (find loss_cmp j es)) ne ∙ was.courses j ∙ sym (course_stays j (apart j ne))
      ];
    }

    pub fixed_some : TellLosses (rows ++ r ∷ []) (after_fix r.key.time (record { member = r.key.member; name = n }) es)
    fixed_some = subst (λ o. TellLosses (rows ++ r ∷ []) (fixed_at r.key.time k2 es o)) (sym (was.courses k2 ∙ before_fix)) put_now
