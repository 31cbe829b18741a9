-- What was kept of each member's losses, one member after the other, is what all rows tell of losses.
use Rattle.std.proofs.Common.{◌≡◌, ◌∙◌, ℕ, zero, suc, ◌+◌, ◌<◌, ◌≤◌, ◌⊎◌, inl, inr, Bool, true, false, cond, T, ◌&&◌, List, [], ◌∷◌, ◌++◌}
use Rattle.std.proofs.Common.{length, map, Option, Some, None, refl, ap, sym, subst, append-nil, take, get_or, ◌==◌, eqb-true, eq-eqb}
use Rattle.std.proofs.Common.{true≢false, Less, is_lt, arith}
use Rattle.std.proofs.Math.Nat.{eq-or-lt_of_le}
use Rattle.std.proofs.Math.Seq.{take-length}
use Rattle.std.specs.List.{flat_map}
use Rattle.std.specs.Option.{option_or}
use Rattle.std.specs.Ordering.{eq_by_cmp, ordering_reverse, ordering_then, nat_cmp}
use Rattle.std.specs.Cmp.{nat_cmp_is}
use Rattle.std.specs.Cmp.Lexicographic.{slice_cmp}
use Rattle.std.specs.FinMap.Entries.{find, is_sorted, below_all}
use Rattle.std.proofs.lemmas.Bool.{cases_lt}
use Rattle.std.proofs.lemmas.Grind.{flat_map-append}
use Rattle.std.proofs.lemmas.List.{map-append, take_more}
use Rattle.std.proofs.lemmas.List.Elements.{filter-append}
use Rattle.srm_net.specs.Orders.{place, ordered}
use Rattle.srm_net.specs.declared.packet.Name.{Name}
use Rattle.srm_net.proofs.Basics.{T_first, T_second}
use Rattle.srm_member.specs.declared.row.Row.{Row}
use Rattle.srm_member.specs.ByMember.{rows_of_member}
use Rattle.srm_member.specs.Orderly.{IsAmong, IsOrderly, AreLostOnce, AreFixedAfterLoss}
use Rattle.srm_member.proofs.AllIn.{AllIn, AllIn-append, AllIn-at_places, AllIn-each, AllIn-map, AllIn-place, AllIn-weaker}
use Rattle.srm_cell.specs.Crossings.{joined}
use Rattle.srm_interfaces.specs.Watches.{KeepMembers}
use Rattle.srm_model.specs.Laws.{by_member}
use Rattle.srm_model.proofs.StandAlike.{listed_alike}
use Rattle.srm_report.specs.declared.losses.course.Course.{Course}
use Rattle.srm_report.specs.declared.losses.loss.Loss.{Loss}
use Rattle.srm_report.specs.Courses.{LoseInTurn, TellLosses, course_of}
use Rattle.srm_report.specs.Losses.{loss_cmp, losses_in}
use Rattle.srm_report.proofs.ByMemberLemmas.{course_at, orderly_loses, tell_alike}
use Rattle.srm_report.proofs.CourseLemmas.{loss_total}

-- ---- whose rows

own_rows : (i : ℕ) (rows : List Row) → AllIn (λ (r : Row). r.key.member ≡ i) (rows_of_member i rows)
own_rows i [] = tt
own_rows i (r ∷ rows) = elim (r.key.member == i) as (λ b. (r.key.member == i) ≡ b
    → AllIn (λ (q : Row). q.key.member ≡ i) (cond b (r ∷ rows_of_member i rows) (rows_of_member i rows))) [
      | true ↦ λ e. (eqb-true _ _ e, own_rows i rows)
      | false ↦ λ e. own_rows i rows
    ] refl

rows_from : (n i : ℕ) (rows : List Row) → AllIn (λ (r : Row). i ≤ r.key.member) (joined (by_member i n rows))
rows_from zero i rows = tt
rows_from (suc n) i rows =
    AllIn-append (λ (r : Row). i ≤ r.key.member) (rows_of_member i rows) (joined (by_member (suc i) n rows))
    (AllIn-weaker (λ (r : Row). r.key.member ≡ i) (λ (r : Row). i ≤ r.key.member) (λ r e. omega arith) (rows_of_member i rows)
    (own_rows i rows))
    (AllIn-weaker (λ (r : Row). suc i ≤ r.key.member) (λ (r : Row). i ≤ r.key.member) (λ r h. omega arith)
    (joined (by_member (suc i) n rows)) (rows_from n (suc i) rows))

-- where all rows are the member's, and where none is
all_own : (i : ℕ) (rows : List Row) → AllIn (λ (r : Row). r.key.member ≡ i) rows → rows_of_member i rows ≡ rows
all_own i [] h = refl
all_own i (r ∷ rows) h =
    ap (λ b. cond b (r ∷ rows_of_member i rows) (rows_of_member i rows)) (eq-eqb _ _ h.0) ∙ ap (λ l. r ∷ l) (all_own i rows h.1)

none_at : (j : ℕ) (r : Row) (rows : List Row) (b : Bool) → (r.key.member == j) ≡ b → r.key.member < j ⊎ j < r.key.member
    → rows_of_member j rows ≡ [] → cond b (r ∷ rows_of_member j rows) (rows_of_member j rows) ≡ []
none_at j r rows true e (inl l) h = absurd (let same = eqb-true _ _ e in omega arith)
none_at j r rows true e (inr l) h = absurd (let same = eqb-true _ _ e in omega arith)
none_at j r rows false e l h = h

pub none_own : (j : ℕ) (rows : List Row) → AllIn (λ (r : Row). r.key.member < j ⊎ j < r.key.member) rows → rows_of_member j rows ≡ []
none_own j [] h = refl
none_own j (r ∷ rows) h = none_at j r rows (r.key.member == j) refl h.0 (none_own j rows h.1)

no_row : (before after : List Row) (r : Row) → [] ≡ before ++ r ∷ after → ⊥
no_row [] after r e = cc
no_row (q ∷ before) after r e = cc

-- a member's rows alone lose in turn where all do
own_in_turn : (i : ℕ) (rows : List Row) → LoseInTurn rows → LoseInTurn (rows_of_member i rows)
own_in_turn i rows o m =
    let own = rows_of_member i rows in
    let lose = λ (l : List Row). AreLostOnce l × AreFixedAfterLoss l in
    let nothing : AreLostOnce [] × AreFixedAfterLoss [] = (
      λ before after r front back n is lost. absurd (no_row before after r is),
      λ before after r is told. absurd (no_row before after r is),
    ) in
    elim (m == i) as (λ b. (m == i) ≡ b → lose (rows_of_member m own)) [
      | true ↦ λ e.
          let same : i ≡ m = sym (eqb-true _ _ e) in
          subst (λ (k : ℕ). lose (rows_of_member k own)) same (subst lose (sym (all_own i own (own_rows i rows))) (o i))
      | false ↦ λ e.
          subst lose (sym (none_own m own (AllIn-weaker (λ (r : Row). r.key.member ≡ i) (λ (r : Row). r.key.member < m ⊎ m < r.key.member)
          (λ r h. apart m i r.key.member e h) own (own_rows i rows)))) nothing
    ] refl
  where
    apart : (m i k : ℕ) → (m == i) ≡ false → k ≡ i → k < m ⊎ m < k
    apart m i k e h = elim (cases_lt k m) [
      | inl l ↦ inl l
      | inr le ↦ elim (eq-or-lt_of_le le) [
        | inl same ↦ absurd (true≢false (sym (eq-eqb m i (same ∙ h)) ∙ e))
        | inr l ↦ inr l
      ]
    ]

-- ---- whose losses

losses_all : (R : ℕ → Type 0) (rows : List Row) → AllIn (λ (r : Row). R r.key.member) rows
    → AllIn (λ (k : Loss). R k.member) (losses_in rows)
losses_all R [] h = tt
losses_all R (r ∷ rows) h =
    AllIn-append (λ (k : Loss). R k.member) (map (λ n. record { member = r.key.member; name = n }) r.lost) (losses_in rows)
    (AllIn-map (λ (k : Loss). R k.member) (λ n. record { member = r.key.member; name = n }) r.lost
    (AllIn-each (λ (n : Name). R r.key.member) (λ n. h.0) r.lost))
    (losses_all R rows h.1)

ordered_all : (Q : Loss → Type 0) (ks : List Loss) → AllIn Q ks → AllIn Q (ordered loss_cmp ks)
ordered_all Q [] h = tt
ordered_all Q (k ∷ ks) h = AllIn-place Q loss_cmp k (ordered loss_cmp ks) h.0 (ordered_all Q ks h.1)

lesser : (j k : Loss) → j.member < k.member → loss_cmp j k ≡ Less
lesser j k lt = ap (λ o. ordering_then o (slice_cmp nat_cmp
    (j.name.source ∷ j.name.page ∷ j.name.number ∷ []) (k.name.source ∷ k.name.page ∷ k.name.number ∷ [])))
    (sym (nat_cmp_is j.member k.member Less lt))

-- all of these come before all of those
abbrev Apart : List Loss → List Loss → Type 0
Apart js ks = AllIn (λ j. AllIn (λ k. loss_cmp j k ≡ Less) ks) js

apart_at : (i : ℕ) (js ks : List Loss) → AllIn (λ (j : Loss). j.member ≡ i) js → AllIn (λ (k : Loss). suc i ≤ k.member) ks → Apart js ks
apart_at i js ks h g =
    AllIn-weaker (λ (j : Loss). j.member ≡ i) (λ j. AllIn (λ k. loss_cmp j k ≡ Less) ks)
    (λ j e. AllIn-weaker (λ (k : Loss). suc i ≤ k.member) (λ k. loss_cmp j k ≡ Less) (λ k l. lesser j k (omega arith)) ks g) js h

-- ---- in order

place_front : (k : Loss) (ys : List Loss) → AllIn (λ y. loss_cmp k y ≡ Less) ys → place loss_cmp k ys ≡ k ∷ ys
place_front k [] h = refl
place_front k (y ∷ ys) h =
    ap (λ b. cond b (y ∷ place loss_cmp k ys) (k ∷ y ∷ ys)) (ap is_lt (loss_total.antisymm y k ∙ ap ordering_reverse h.0))

place_before : (k : Loss) (zs ys : List Loss) → AllIn (λ y. loss_cmp k y ≡ Less) ys
    → place loss_cmp k (zs ++ ys) ≡ place loss_cmp k zs ++ ys
place_before k [] ys h = place_front k ys h
place_before k (z ∷ zs) ys h = elim (is_lt (loss_cmp z k))
    as (λ b. cond b (z ∷ place loss_cmp k (zs ++ ys)) (k ∷ z ∷ zs ++ ys) ≡ cond b (z ∷ place loss_cmp k zs) (k ∷ z ∷ zs) ++ ys) [
      | true ↦ ap (λ l. z ∷ l) (place_before k zs ys h)
      | false ↦ refl
    ]

ordered_apart : (js ks : List Loss) → Apart js (ordered loss_cmp ks)
    → ordered loss_cmp (js ++ ks) ≡ ordered loss_cmp js ++ ordered loss_cmp ks
ordered_apart [] ks h = refl
ordered_apart (j ∷ js) ks h =
    ap (place loss_cmp j) (ordered_apart js ks h.1) ∙ place_before j (ordered loss_cmp js) (ordered loss_cmp ks) h.0

-- ---- entries

abbrev keys : List (Loss × Course) → List Loss
keys es = map (λ (e : Loss × Course). e.0) es

both : (a b : Bool) → T a → T b → T (a && b)
both true b p q = q
both false b p q = p

below_more : (k : Loss) (es fs : List (Loss × Course)) → T (below_all loss_cmp k es) → AllIn (λ y. loss_cmp k y ≡ Less) (keys fs)
    → T (below_all loss_cmp k (es ++ fs))
below_more k [] [] h g = tt
below_more k [] (f ∷ fs) h g = both _ _ (subst (λ o. T (is_lt o)) (sym g.0) tt) (below_more k [] fs h g.1)
below_more k (e ∷ es) fs h g = both _ _ (T_first _ _ h) (below_more k es fs (T_second _ _ h) g)

sorted_more : (es fs : List (Loss × Course)) → T (is_sorted loss_cmp es) → T (is_sorted loss_cmp fs) → Apart (keys es) (keys fs)
    → T (is_sorted loss_cmp (es ++ fs))
sorted_more [] fs h g a = g
sorted_more (e ∷ es) fs h g a = both _ _ (below_more e.0 es fs (T_first _ _ h) a.0) (sorted_more es fs (T_second _ _ h) g a.1)

find_more : (k : Loss) (es fs : List (Loss × Course)) → find loss_cmp k (es ++ fs) ≡ option_or (find loss_cmp k es) (find loss_cmp k fs)
find_more k [] fs = refl
find_more k (e ∷ es) fs = elim (eq_by_cmp loss_cmp k e.0)
    as (λ b. cond b (Some e.1) (find loss_cmp k (es ++ fs)) ≡ option_or (cond b (Some e.1) (find loss_cmp k es)) (find loss_cmp k fs)) [
      | true ↦ refl
      | false ↦ find_more k es fs
    ]

or_none : {A : Type 0} (o : Option A) → option_or o None ≡ o
or_none None = refl
or_none (Some x) = refl

-- ---- one member more

module _ (i : ℕ) (xs ys : List Row) (own : AllIn (λ (r : Row). r.key.member ≡ i) xs)
    (others : AllIn (λ (r : Row). suc i ≤ r.key.member) ys) where
  course_more : (es fs : List (Loss × Course)) (k : Loss) → find loss_cmp k es ≡ course_of xs k → find loss_cmp k fs ≡ course_of ys k
      → find loss_cmp k (es ++ fs) ≡ course_of (xs ++ ys) k
  course_more es fs k x y = elim (cases_lt i k.member) [
    | inl l ↦
        let none : rows_of_member k.member xs ≡ [] = none_own k.member xs
        (AllIn-weaker (λ (r : Row). r.key.member ≡ i) (λ (r : Row). r.key.member < k.member ⊎ k.member < r.key.member)
        (λ r e. inl (omega arith)) xs own) in
        find_more k es fs ∙ ap (λ o. option_or o (find loss_cmp k fs)) (x ∙ course_at k xs [] none) ∙ y
        ∙ course_at k ys (xs ++ ys)
        (sym (filter-append (λ (r : Row). r.key.member == k.member) xs ys ∙ ap (λ l. l ++ rows_of_member k.member ys) none))
    | inr le ↦
        let none : rows_of_member k.member ys ≡ [] = none_own k.member ys
        (AllIn-weaker (λ (r : Row). suc i ≤ r.key.member) (λ (r : Row). r.key.member < k.member ⊎ k.member < r.key.member)
        (λ r h. inr (omega arith)) ys others) in
        find_more k es fs ∙ ap (λ o. option_or (find loss_cmp k es) o) (y ∙ course_at k ys [] none) ∙ or_none (find loss_cmp k es) ∙ x
        ∙ course_at k xs (xs ++ ys)
        (sym (filter-append (λ (r : Row). r.key.member == k.member) xs ys ∙ ap (λ l. rows_of_member k.member xs ++ l) none
        ∙ append-nil (rows_of_member k.member xs)))
  ]

  tell_more : (es fs : List (Loss × Course)) → TellLosses xs es → TellLosses ys fs → TellLosses (xs ++ ys) (es ++ fs)
  tell_more es fs t u =
      let mine = losses_all (λ m. m ≡ i) xs own in
      let far = ordered_all (λ (k : Loss). suc i ≤ k.member) (losses_in ys) (losses_all (λ m. suc i ≤ m) ys others) in
      let near = ordered_all (λ (k : Loss). k.member ≡ i) (losses_in xs) mine in record {
        sorted = sorted_more es fs t.sorted u.sorted (subst (λ l. Apart l (keys fs)) (sym t.losses)
            (subst (Apart (ordered loss_cmp (losses_in xs))) (sym u.losses) (apart_at i _ _ near far)));
        losses = map-append (λ (e : Loss × Course). e.0) es fs
            ∙ (λ j. t.losses j ++ u.losses j)
            ∙ sym (ordered_apart (losses_in xs) (losses_in ys) (apart_at i _ _ mine far))
            ∙ ap (ordered loss_cmp) (sym (flat_map-append (λ r. map (λ n. record { member = r.key.member; name = n }) r.lost) xs ys));
        courses = λ k. course_more es fs k (t.courses k) (u.courses k);
      }

-- ---- all members

pub all_few : (rows : List Row) (members n : ℕ) → IsOrderly members rows → members ≤ n → AllIn (λ (r : Row). r.key.member < n) rows
all_few rows members n o le =
    AllIn-weaker (IsAmong members) (λ (r : Row). r.key.member < n) (λ r a. (let lt = a.member in omega arith)) rows
    (AllIn-at_places (IsAmong members) rows o.among)

module _ {K : Type 0} (losses : K → List (Loss × Course)) where
  -- the losses that are kept are those of these rows
  abbrev pub Lost : K → List Row → Type 0
  Lost k own = (after : List Row) → LoseInTurn (own ++ after) → TellLosses own (losses k)

  -- the entries of all, one after the other
  abbrev pub entries_of : List K → List (Loss × Course)
  entries_of ks = flat_map losses ks

  kept_tell : (rows : List Row) → LoseInTurn rows → (i : ℕ) (ks : List K) → KeepMembers Lost i ks rows
      → TellLosses (joined (by_member i (length ks) rows)) (entries_of ks)
  kept_tell rows o i [] h = record { sorted = tt; losses = refl; courses = λ k. refl }
  kept_tell rows o i (k ∷ ks) h =
      let own = rows_of_member i rows in
      tell_more i own (joined (by_member (suc i) (length ks) rows)) (own_rows i rows) (rows_from (length ks) (suc i) rows)
      (losses k) (entries_of ks) (h.0 [] (subst LoseInTurn (sym (append-nil own)) (own_in_turn i rows o))) (kept_tell rows o (suc i) ks h.1)

  pub kept_losses : (rows : List Row) (members : ℕ) → IsOrderly members rows → (ks : List K) → members ≤ length ks
      → KeepMembers Lost 0 ks rows → (i : ℕ) → i ≡ length ks
      → (es : List (Loss × Course)) → es ≡ entries_of (take i ks) → TellLosses rows es
  kept_losses rows members o ks all h i whole es is =
      subst (TellLosses rows) (sym (is ∙ ap entries_of (ap (λ n. take n ks) whole ∙ take-length ks)))
      (tell_alike (joined (by_member 0 (length ks) rows)) rows (entries_of ks)
      (listed_alike (length ks) rows (all_few rows members (length ks) o all))
      (kept_tell rows (orderly_loses members rows o) 0 ks h))

  -- the entries of one member more
  pub entries_more : (ks : List K) (i : ℕ) (k : K) → i < length ks → k ≡ get_or ks i k
      → entries_of (take (i + 1) ks) ≡ entries_of (take i ks) ++ losses k
  entries_more ks i k lt here =
      ap entries_of (take_more ks i k lt ∙ ap (λ q. take i ks ++ q ∷ []) (sym here))
      ∙ flat_map-append losses (take i ks) (k ∷ [])
      ∙ ap (λ l. entries_of (take i ks) ++ l) (append-nil (losses k))
