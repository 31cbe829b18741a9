-- Each member's join and leave have one key, whatever the run.
use Rattle.std.proofs.Common.{◌≡◌, ℕ, zero, suc, true, List, [], ◌∷◌, ◌++◌, refl, sym, ap, ◌∙◌, subst, ◌≢◌, ◌⊎◌}
use Rattle.std.proofs.Common.{inl, inr, arith, Less, Greater, Option, Some}
use Rattle.std.specs.List.{Contains}
use Rattle.std.specs.Ordering.{ordering_reverse}
use Rattle.std.proofs.lemmas.List.Elements.{Contains-append_left, Contains-append_right}
use Rattle.srm_net.specs.Keys.{key_cmp}
use Rattle.srm_net.specs.declared.key.Key.{Key}
use Rattle.srm_net.specs.Orders.{AllAfter, Ascends}
use Rattle.srm_net.specs.declared.rank.Rank.{Rank}
use Rattle.srm_net.specs.declared.rank.Rank.TheVariants as rank
use Rattle.srm_scenario.specs.Scripts.{is_mark_rank}
use Rattle.srm_scenario.specs.declared.mark.Mark.{Mark}
use Rattle.srm_member.specs.declared.cause.Cause.{Cause}
use Rattle.srm_member.specs.declared.cause.Cause.TheVariants.{Join, Arrival}
use Rattle.srm_member.specs.declared.due.Due.{Due}
use Rattle.srm_member.specs.declared.row.Word.TheVariants as word
use Rattle.srm_member.specs.declared.row.Row.{Row}
use Rattle.srm_member.specs.Orderly.{IsOnce}
use Rattle.srm_member.proofs.AllIn.{AllIn}
use Rattle.srm_cell.specs.declared.flight.Flight.{Flight}
use Rattle.srm_cell.specs.Setting.{Traffic, cause_of_mark}
use Rattle.srm_cell.specs.Cells.{PlainCell, Event, mark_key, first_arrival, first_mark, next_timer, next_event, Done, Stepped}
use Rattle.srm_cell.specs.Cells.{handle, step_at}
use Rattle.srm_cell.proofs.Rising.{OnEvent, earlier_on, OnStep}
use Rattle.srm_model.specs.World.{row_cmp}
use Rattle.srm_model.proofs.OneStep.{Does}
use Rattle.srm_model.proofs.SortedRows.{rows_total}
use Rattle.srm_model.proofs.TraceRows.{contains_none}
use Rattle.srm_member.specs.Record.{MemberState}

-- ---- rows in order

after_all : (q r : Row) (xs ys : List Row) → AllAfter row_cmp q (xs ++ r ∷ ys) → row_cmp q r ≡ Less
after_all q r [] ys h = h.0
after_all q r (x ∷ xs) ys h = after_all q r xs ys h.1

comes_first : (before after : List Row) (q r : Row) → Ascends row_cmp (before ++ r ∷ after) → Contains before q → row_cmp q r ≡ Less
comes_first [] after q r h c = absurd (contains_none q c)
comes_first (x ∷ xs) after q r h (zero, l, e) = subst (λ (y : Row). row_cmp y r ≡ Less) e (after_all x r xs after h.0)
comes_first (x ∷ xs) after q r h (suc k, l, e) = comes_first xs after q r h.1 (k, omega arith, e)

not_own : (r : Row) → row_cmp r r ≡ Less → ⊥
not_own r h = let turned : Less ≡ Greater = sym h ∙ rows_total.antisymm r r ∙ ap ordering_reverse h in cc

-- no two rows have one key
pub keys_differ : (before after : List Row) (q r : Row) → Ascends row_cmp (before ++ r ∷ after) → Contains before q → q.key ≢ r.key
keys_differ before after q r h c e =
    let less = comes_first before after q r h c in
    not_own r (subst (λ (k : Key). key_cmp k r.key ≡ Less) e less)

pub ascends_first : (xs ys : List Row) → Ascends row_cmp (xs ++ ys) → Ascends row_cmp xs
ascends_first [] ys h = tt
ascends_first (x ∷ xs) ys h = (after_first xs h.0, ascends_first xs ys h.1)
  where
    after_first : (zs : List Row) → AllAfter row_cmp x (zs ++ ys) → AllAfter row_cmp x zs
    after_first [] g = tt
    after_first (z ∷ zs) g = (g.0, after_first zs g.1)

-- ---- marks

-- of member j: a join is at the time of its join, and a leave at that of its leave
pub record IsOwnMark (t : Traffic) (j : ℕ) (k : Mark) : Type 0 where
  pub join : k.rank ≡ rank.Join → (k.at ≡ t.join j) × (k.place ≡ 0)
  pub leave : k.rank ≡ rank.Leave → (t.leave j ≡ Some k.at) × (k.place ≡ 0)
  pub own : is_mark_rank k.rank ≡ true

-- ---- events

-- an event is a mark of the script, or none that joins or leaves; marks that are left are of the script
pub record MarksOf (Q : Mark → Type 0) (m : ℕ) (e : Event) : Type 0 where
  pub member : e.key.member ≡ m
  pub rest : AllIn Q e.rest.script
  pub from : ((k : Mark) × Q k × (e.cause ≡ cause_of_mark k.rank k) × (e.key ≡ mark_key m k))
      ⊎ ((c : Cause) × (e.cause ≡ Some c) × (c ≢ Join))

module _ (Q : Mark → Type 0) (m : ℕ) (c : PlainCell) (all : AllIn Q c.script) where
  arrival_marks : (fs : List Flight) → OnEvent (MarksOf Q m) (first_arrival m c fs)
  arrival_marks [] = tt
  arrival_marks (f ∷ fs) = record { member = refl; rest = all; from = inr (Arrival f.packet, refl, (λ e. cc)) }

  script_marks : (ks : List Mark) → AllIn Q ks → OnEvent (MarksOf Q m) (first_mark m c ks)
  script_marks [] h = tt
  script_marks (k ∷ ks) h = record { member = refl; rest = h.1; from = inl (k, h.0, refl, refl) }

  timer_marks : (o : Option Due) → OnEvent (MarksOf Q m) (next_timer m c o)
  timer_marks o = grind arith

  pub next_marks : OnEvent (MarksOf Q m) (next_event m c)
  unfolding next_event
  next_marks = grind (arith, script_marks, timer_marks, earlier_on, arrival_marks)

-- ---- the script after a step

abbrev SameScript : Event → Stepped → Type 0
SameScript e d = d.cell.script ≡ e.rest.script

script_handle : (e : Event) (holds : Option MemberState) (cause : Option Cause) → OnStep (SameScript e) (handle e holds cause)
unfolding handle
script_handle e holds cause = grind arith

pub script_after : (e : Event) (d : Stepped) → step_at (Some e) ≡ Done d → d.cell.script ≡ e.rest.script
script_after e d h = subst (OnStep (SameScript e)) h (script_handle e e.rest.holds e.cause)

-- ---- rows

abbrev pub own_key : ℕ → ℕ → Rank → Key
own_key at m r = record { time = at; member = m; rank = r; a = 0; b = 0; c = 0 }

-- a row of a join or of a leave has the key of that mark
pub record RowMarks (t : Traffic) (r : Row) : Type 0 where
  pub join : r.cause ≡ word.Join → r.key ≡ own_key (t.join r.key.member) r.key.member rank.Join
  pub leave : r.cause ≡ word.Leave → (at : ℕ) × (t.leave r.key.member ≡ Some at) × (r.key ≡ own_key at r.key.member rank.Leave)

module _ (t : Traffic) (m : ℕ) (e : Event) (d : Stepped) (does : Does e d) where
  pub row_marks : MarksOf (IsOwnMark t m) m e → RowMarks t d.row
  row_marks h = grind arith

-- ---- one join and one leave

module _ (t : Traffic) (rows : List Row) (rise : Ascends row_cmp rows) (marks : (r : Row) → Contains rows r → RowMarks t r) where
  same_times : (a b : ℕ) (o : Option ℕ) → o ≡ Some a → o ≡ Some b → a ≡ b
  same_times a b o h g = let x : Some a ≡ Some b = sym h ∙ g in cc

  split_order : (before after : List Row) (r : Row) → rows ≡ before ++ r ∷ after → Ascends row_cmp (before ++ r ∷ after)
  split_order before after r e = subst (Ascends row_cmp) e rise

  here : (before after : List Row) (r : Row) → rows ≡ before ++ r ∷ after → RowMarks t r
  here before after r e =
      marks r (subst (λ l. Contains l r) (sym e) (Contains-append_right before (r ∷ after) r (0, omega arith, refl)))

  earlier_row : (before after : List Row) (q r : Row) → rows ≡ before ++ r ∷ after → Contains before q → RowMarks t q
  earlier_row before after q r e c =
      marks q (subst (λ l. Contains l q) (sym e) (Contains-append_left before (r ∷ after) q c))

  pub joins_once : IsOnce word.Join rows
  joins_once before after r e cause h =
      let mine = (here before after r e).join cause in
      let other = (earlier_row before after h.0 r e h.1).join h.3 in
      let same = ap (λ m. own_key (t.join m) m rank.Join) h.2 in
      keys_differ before after h.0 r (split_order before after r e) h.1 (other ∙ same ∙ sym mine)

  pub leaves_once : IsOnce word.Leave rows
  leaves_once before after r e cause h =
      let mine = (here before after r e).leave cause in
      let other = (earlier_row before after h.0 r e h.1).leave h.3 in
      let times : other.0 ≡ mine.0 = same_times other.0 mine.0 (t.leave r.key.member) (ap t.leave (sym h.2) ∙ other.1) mine.1 in
      let same : own_key other.0 h.0.key.member rank.Leave ≡ own_key mine.0 r.key.member rank.Leave =
      λ i. own_key (times i) (h.2 i) rank.Leave in
      keys_differ before after h.0 r (split_order before after r e) h.1 (other.2 ∙ same ∙ sym mine.2)
