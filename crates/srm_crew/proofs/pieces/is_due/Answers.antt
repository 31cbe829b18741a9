use Rattle.std.proofs.Common.{◌≡◌, ◌∙◌, Bool, true, false, cond, ℕ, Option, Some, None, nat_lt, refl, sym, ap}
use Rattle.std.proofs.lemmas.Option.{same_Some}
use Rattle.std.specs.Option.{is_some}
use Rattle.srm_cell.specs.Cells.{Event, before, time_of}
use Rattle.srm_cell.specs.Views.{event_of}
use Rattle.srm_crew.proofs.pieces.is_due.Goals as goal

at_time : (till t : ℕ) (o : Option Event) → Some t ≡ time_of o → nat_lt t till ≡ is_some (before till o)
at_time till t None h = cc
at_time till t (Some e) h = ap (λ u. nat_lt u till) (same_Some t e.key.time h) ∙ by (nat_lt e.key.time till)
  where
    by : (b : Bool) → b ≡ is_some (cond b (Some e) None)
    by true = refl
    by false = refl

at_none : (till : ℕ) (o : Option Event) → None ≡ time_of o → false ≡ is_some (before till o)
at_none till None h = refl
at_none till (Some e) h = cc

pub returns-in-Some : goal.returns-in-Some
returns-in-Some g c = λ h. at_time c.args.till c.in-Some.time (event_of g.M.Participant.plain c.args.cell.now) (sym c.in-Some.is
    ∙ c.next_time.ensures h)

pub returns-in-None : goal.returns-in-None
returns-in-None g c = λ h. at_none c.args.till (event_of g.M.Participant.plain c.args.cell.now) (sym c.in-None.is ∙ c.next_time.ensures h)
