-- The packets of an own run: whose they are, and how many.
use Rattle.std.proofs.Common.{◌≡◌, ◌<◌, ◌≤◌, ℕ, zero, suc, ◌-◌, ◌*◌, Bool, true, false, cond, List, [], ◌∷◌, length, Option, Some}
use Rattle.std.proofs.Common.{None, refl, sym, ap, ◌∙◌, subst, arith, nat_lt, ltb-true, length-append, All}
use Rattle.std.proofs.lemmas.List.Elements.{All-nil, All-cons}
use Rattle.srm_net.specs.declared.packet.Packet.{Packet}
use Rattle.srm_member.specs.declared.cause.Cause.{Cause}
use Rattle.srm_member.specs.declared.row.Row.{Row}
use Rattle.srm_member.specs.Record.{Record}
use Rattle.srm_cell.specs.declared.cell.Cell.{Cell}
use Rattle.srm_cell.specs.Cells.{PlainCell, Event, StepOutcome, Done, Stepped, before, handle, next_event, own_step}
use Rattle.srm_cell.specs.Cells.{step_at}
use Rattle.srm_cell.specs.OwnRuns.{own_rows}
use Rattle.srm_cell.specs.Crossings.{packets_of, joined}
use Rattle.srm_cell.specs.Totalled.{IsSentBelow}
use Rattle.srm_cell.specs.Jobs.{AreMembers, RanEach, own_cells}
use Rattle.srm_cell.specs.Views.{plain_cell}
use Rattle.srm_cell.proofs.Clear.{RestOf, next_rest}
use Rattle.srm_cell.proofs.CellSteps.{SentBy, own_step_is}
use Rattle.srm_cell.proofs.OwnRunLemmas.{rows_by, rows_first, rows_none}
use Rattle.srm_cell.proofs.RowPackets.{packets_joined}
use Rattle.srm_cell.proofs.Rising.{OnEvent, OnStep, before_on, SentAt, RowOf, row_step}
use Rattle.srm_net.specs.Limits.{end_of_time, most_sent}
use Rattle.srm_member.specs.Record.{MemberState}

-- ---- how many

-- the count before and after what was sent, if anything was
abbrev Counts : ℕ → Option Packet → ℕ → Type 0
Counts before None after = after ≡ before
Counts before (Some p) after = (before < most_sent) × (after ≡ suc before)

abbrev CountsFrom : ℕ → StepOutcome Stepped → Type 0
CountsFrom n = OnStep (λ d. Counts n d.row.sent d.cell.sent)

counts_handle : (e : Event) (holds : Option MemberState) (cause : Option Cause) → CountsFrom e.rest.sent (handle e holds cause)
unfolding handle
counts_handle e holds cause = grind arith

counts_at : (c : PlainCell) (x : Option Event) → OnEvent (RestOf c) x → CountsFrom c.sent (step_at x)
counts_at c None h = tt
counts_at c (Some e) h = subst (λ n. CountsFrom n (step_at (Some e))) h.sent (counts_handle e e.rest.holds e.cause)

counts_own : (till m : ℕ) (c : PlainCell) → CountsFrom c.sent (own_step till m c)
unfolding own_step
counts_own till m c = counts_at c (before till (next_event m c)) (before_on (RestOf c) till (next_event m c) (next_rest m c))

-- ---- when

abbrev SentBefore : ℕ → Option Packet → Type 0
SentBefore till None = Unit {0}
SentBefore till (Some p) = p.sent < till

sent_before : (t till : ℕ) (o : Option Packet) → t < till → SentAt t o → SentBefore till o
sent_before t till None lt h = tt
sent_before t till (Some p) lt h = omega arith

early_by : (till : ℕ) (b : Bool) (e : Event) → (b ≡ true → e.key.time < till) → (d : Stepped) → step_at (cond b (Some e) None) ≡ Done d
    → SentBefore till d.row.sent
early_by till true e lt d h = let r = subst (OnStep (RowOf e.key)) h (row_step e) in sent_before e.key.time till d.row.sent (lt refl) r.1
early_by till false e lt d h = cc

early_at : (till : ℕ) (x : Option Event) (d : Stepped) → step_at (before till x) ≡ Done d → SentBefore till d.row.sent
early_at till None d h = cc
early_at till (Some e) d h = early_by till (nat_lt e.key.time till) e (λ t. ltb-true e.key.time till t) d h

early : (till m : ℕ) (c : PlainCell) (d : Stepped) → own_step till m c ≡ Done d → SentBefore till d.row.sent
unfolding own_step
early till m c d h = early_at till (next_event m c) d h

module _ (till m : ℕ) where
  few_by : (n before : ℕ) → ((d : PlainCell) → length (packets_of (own_rows till m n d)) ≤ most_sent - d.sent) → (o : StepOutcome Stepped)
      → CountsFrom before o → length (packets_of (rows_by till m n o)) ≤ most_sent - before
  few_by n before more o h = grind arith

  few_left : (n : ℕ) (c : PlainCell) → length (packets_of (own_rows till m n c)) ≤ most_sent - c.sent
  few_left zero c = let e = ap (λ rs. length (packets_of rs)) (rows_none till m c) in omega (arith, e)
  few_left (suc n) c = subst (λ rs. length (packets_of rs) ≤ most_sent - c.sent) (sym (rows_first till m n c))
      (few_by n c.sent (λ d. few_left n d) (own_step till m c) (counts_own till m c))

  -- ---- whose

  below_by : (k n : ℕ) → m < k → till ≤ end_of_time → ((d : PlainCell) → All (λ r. IsSentBelow k r.sent) (own_rows till m n d))
      → (o : StepOutcome Stepped)
      → ((d : Stepped) → o ≡ Done d → SentBy m d.row.sent × SentBefore till d.row.sent)
      → All (λ r. IsSentBelow k r.sent) (rows_by till m n o)
  below_by k n lt le more o h = grind arith

  own_below : (k n : ℕ) (c : PlainCell) → m < k → till ≤ end_of_time → All (λ r. IsSentBelow k r.sent) (own_rows till m n c)
  own_below k zero c lt le = subst (All (λ r. IsSentBelow k r.sent)) (sym (rows_none till m c))
      (All-nil (λ (r : Row). IsSentBelow k r.sent))
  own_below k (suc n) c lt le =
      subst (All (λ r. IsSentBelow k r.sent)) (sym (rows_first till m n c))
      (below_by k n lt le (λ d. own_below k n d lt le) (own_step till m c) (λ d e. ((own_step_is till m c d e).1, early till m c d e)))

-- ---- of several cells

module _ {M : Type 0} (f : M → Record) (till : ℕ) where
  pub rows_few : (cs : List (Cell M)) (rows : List (List Row)) (ds : List (Cell M))
      → RanEach f till cs rows ds → length (packets_of (joined rows)) ≤ length cs * most_sent
  rows_few [] [] [] h = omega arith
  rows_few [] [] (d ∷ ds) h = absurd h
  rows_few [] (r ∷ rs) ds h = absurd h
  rows_few (c ∷ cs) [] ds h = absurd h
  rows_few (c ∷ cs) (r ∷ rs) [] h = absurd h
  rows_few (c ∷ cs) (r ∷ rs) (d ∷ ds) h =
      let run = h.0.run in
      let one : length (packets_of r) ≤ most_sent - c.sent = subst (λ xs. length (packets_of xs) ≤ most_sent - c.sent)
      (sym run.rows_are) (few_left till c.number run.steps (plain_cell f c)) in
      let more = rows_few cs rs ds h.1 in
      let e = ap length (packets_joined r rs) ∙ length-append (packets_of r) (packets_of (joined rs)) in
      omega (arith, one, more, e)

  pub rows_below : (k : ℕ) (cs : List (Cell M)) (rows : List (List Row)) (ds : List (Cell M))
      → till ≤ end_of_time → AreMembers k (own_cells f cs) → RanEach f till cs rows ds → All (λ rs. All (λ r. IsSentBelow k r.sent) rs) rows
  rows_below k [] [] [] le a h = All-nil (λ (rs : List Row). All (λ r. IsSentBelow k r.sent) rs)
  rows_below k [] [] (d ∷ ds) le a h = absurd h
  rows_below k [] (r ∷ rs) ds le a h = absurd h
  rows_below k (c ∷ cs) [] ds le a h = absurd h
  rows_below k (c ∷ cs) (r ∷ rs) [] le a h = absurd h
  rows_below k (c ∷ cs) (r ∷ rs) (d ∷ ds) le a h =
      let run = h.0.run in
      All-cons (λ (rs : List Row). All (λ r. IsSentBelow k r.sent) rs) r rs
      (subst (All (λ r. IsSentBelow k r.sent)) (sym run.rows_are) (own_below till c.number k run.steps (plain_cell f c) a.0 le))
      (rows_below k cs rs ds le a.1 h.1)
