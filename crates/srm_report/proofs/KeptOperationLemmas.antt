-- What was kept of each member, one member after the other, is what all rows tell of operations.
use Rattle.std.proofs.Common.{◌≡◌, ◌∙◌, ◌⊎◌, inl, ℕ, zero, suc, ◌+◌, ◌<◌, ◌≤◌, Bool, true, false, cond, ◌&&◌, ◌||◌, List, [], ◌∷◌, ◌++◌}
use Rattle.std.proofs.Common.{length, map, refl, ap, sym, subst, append-nil, append_assoc, take, get_or, ◌==◌, arith}
use Rattle.std.proofs.Math.Seq.{take-length}
use Rattle.std.specs.List.{list_any}
use Rattle.srm_net.specs.declared.packet.Name.{Name}
use Rattle.srm_member.specs.declared.row.Row.{Row}
use Rattle.srm_member.specs.ByMember.{rows_of_member}
use Rattle.srm_member.specs.Kinds.{is_leave}
use Rattle.srm_member.specs.Orderly.{IsOrderly}
use Rattle.srm_member.proofs.AllIn.{AllIn-weaker}
use Rattle.srm_cell.specs.Crossings.{joined}
use Rattle.srm_interfaces.specs.Watches.{KeepMembers}
use Rattle.srm_model.specs.Laws.{by_member}
use Rattle.srm_model.proofs.StandAlike.{listed_alike}
use Rattle.srm_report.specs.declared.losses.course.Course.{Course}
use Rattle.srm_report.specs.declared.losses.loss.Loss.{Loss}
use Rattle.srm_report.specs.declared.operations.member_operations.MemberOperations.{MemberOperations}
use Rattle.srm_report.specs.declared.operations.sent_for_name.SentForName.{SentForName}
use Rattle.srm_report.specs.KeptOperations.{KeepsOperations, TellOperations}
use Rattle.srm_report.specs.Operations.{has_left}
use Rattle.srm_report.specs.Sendings.{TellLeft, TellSent}
use Rattle.srm_report.proofs.KeptLossLemmas.{all_few, entries_of, kept_losses, Lost, none_own}
use Rattle.srm_report.proofs.SendingLemmas.{tell_sent_alike}

-- ---- each member

abbrev pub Kept : MemberOperations → List Row → Type 0
Kept k own = KeepsOperations own k

keep_lost : (rows : List Row) (i : ℕ) (ks : List MemberOperations) → KeepMembers Kept i ks rows
    → KeepMembers (Lost (λ (k : MemberOperations). k.losses)) i ks rows
keep_lost rows i [] h = tt
keep_lost rows i (k ∷ ks) h = (h.0.lost, keep_lost rows (suc i) ks h.1)

keep_at : (rows : List Row) (i m j : ℕ) (ks : List MemberOperations) (d : MemberOperations) → KeepMembers Kept m ks rows → i < length ks
    → j ≡ m + i → Kept (get_or ks i d) (rows_of_member j rows)
keep_at rows i m j [] d h lt e = absurd (omega arith)
keep_at rows zero m j (k ∷ ks) d h lt e = subst (λ n. Kept k (rows_of_member n rows)) (let same : m ≡ j = omega arith in same) h.0
keep_at rows (suc i) m j (k ∷ ks) d h lt e = keep_at rows i (suc m) j ks d h.1 (omega arith) (omega arith)

-- ---- what was sent

joined_more : (rows : List Row) (n i j : ℕ) → j ≡ i + n
    → joined (by_member i (suc n) rows) ≡ joined (by_member i n rows) ++ rows_of_member j rows
joined_more rows zero i j e = append-nil (rows_of_member i rows) ∙ ap (λ k. rows_of_member k rows) (let same : i ≡ j = omega arith in same)
joined_more rows (suc n) i j e =
    ap (λ l. rows_of_member i rows ++ l) (joined_more rows n (suc i) j (omega arith))
    ∙ sym (append_assoc (rows_of_member i rows) (joined (by_member (suc i) n rows)) (rows_of_member j rows))

-- of the members so far
abbrev pub SentOf : List MemberOperations → ℕ → List (Name × SentForName) → Type 0
SentOf ks i sent = (rows : List Row) → KeepMembers Kept 0 ks rows → TellSent (joined (by_member 0 i rows)) sent

pub sent_more : (ks : List MemberOperations) (i : ℕ) (k : MemberOperations) (old new : List (Name × SentForName)) → i < length ks
    → k ≡ get_or ks i k → SentOf ks i old
    → ((xs ys : List Row) → TellSent xs old → TellSent ys k.sent → TellSent (xs ++ ys) new) → SentOf ks (i + 1) new
sent_more ks i k old new lt here was add rows h =
    let at : i ≡ 0 + i = omega arith in
    let own = subst (λ q. Kept q (rows_of_member i rows)) (sym here) (keep_at rows i 0 i ks k h lt at) in
    subst (λ (l : List Row). TellSent l new)
    (sym (joined_more rows i 0 i at) ∙ ap (λ n. joined (by_member 0 n rows)) (let one : suc i ≡ i + 1 = omega arith in one))
    (add (joined (by_member 0 i rows)) (rows_of_member i rows) (was rows h) own.asked)

-- ---- who left

left_own : (m : ℕ) (rows : List Row) → list_any (λ r. is_leave r.cause) (rows_of_member m rows) ≡ has_left rows m
left_own m [] = refl
left_own m (r ∷ rows) = elim (r.key.member == m)
    as (λ b. list_any (λ q. is_leave q.cause) (cond b (r ∷ rows_of_member m rows) (rows_of_member m rows))
    ≡ ((b && is_leave r.cause) || has_left rows m)) [
      | true ↦ ap (λ b. is_leave r.cause || b) (left_own m rows)
      | false ↦ left_own m rows
    ]

left_kept : (rows : List Row) (i : ℕ) (ks : List MemberOperations) → KeepMembers Kept i ks rows
    → ((m : ℕ) → i + length ks ≤ m → has_left rows m ≡ false) → (m j : ℕ) → j ≡ i + m
    → get_or (map (λ (k : MemberOperations). k.left) ks) m false ≡ has_left rows j
left_kept rows i [] h none m j e = sym (none j (omega arith))
left_kept rows i (k ∷ ks) h none zero j e = h.0.gone ∙ left_own i rows ∙ ap (has_left rows) (let same : i ≡ j = omega arith in same)
left_kept rows i (k ∷ ks) h none (suc m) j e = left_kept rows (suc i) ks h.1 (λ n le. none n (omega arith)) m j (omega arith)

-- ---- all members

pub kept_operations : (rows : List Row) (members : ℕ) → IsOrderly members rows → (ks : List MemberOperations) → members ≤ length ks
    → KeepMembers Kept 0 ks rows → (i : ℕ) → i ≡ length ks
    → (es : List (Loss × Course)) → es ≡ entries_of (λ (k : MemberOperations). k.losses) (take i ks)
    → (sent : List (Name × SentForName)) → SentOf ks i sent
    → (left : List Bool) → left ≡ map (λ (k : MemberOperations). k.left) (take i ks) → TellOperations rows es sent left
kept_operations rows members o ks all h i whole es is sent asks left leave =
    let few = all_few rows members (length ks) o all in
    let none : (m : ℕ) → 0 + length ks ≤ m → has_left rows m ≡ false = λ m le.
    sym (left_own m rows) ∙ ap (list_any (λ r. is_leave r.cause)) (none_own m rows
    (AllIn-weaker (λ (r : Row). r.key.member < length ks) (λ (r : Row). r.key.member < m ⊎ m < r.key.member)
    (λ r l. inl (omega arith)) rows few)) in
    record {
      lost = kept_losses (λ (k : MemberOperations). k.losses) rows members o ks all (keep_lost rows 0 ks h) i whole es is;
      asked = tell_sent_alike (joined (by_member 0 (length ks) rows)) rows sent (listed_alike (length ks) rows few)
          (subst (λ n. TellSent (joined (by_member 0 n rows)) sent) whole (asks rows h));
      gone = subst (TellLeft rows)
          (sym (leave ∙ ap (map (λ (k : MemberOperations). k.left)) (ap (λ n. take n ks) whole ∙ take-length ks)))
          (λ m. left_kept rows 0 ks h none m m (omega arith));
    }
