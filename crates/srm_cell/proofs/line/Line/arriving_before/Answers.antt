use Rattle.std.proofs.Common.{◌≡◌, ◌-◌, ◌^◌, ◌++◌, min, List, sym, ap, subst, ◌∙◌, arith}
use Rattle.srm_cell.specs.declared.flight.Flight.{Flight}
use Rattle.srm_cell.specs.Flights.{arriving_before}
use Rattle.srm_cell.specs.Lines.{in_box}
use Rattle.srm_cell.proofs.Arrivals.{arriving_both, first_rise}
use Rattle.srm_cell.proofs.InboxLines.{Climbs, last_rise}
use Rattle.srm_cell.proofs.line.Line.arriving_before.Goals as goal

pub count_before-last-requires : goal.count_before-last-requires
count_before-last-requires c =
    last_rise (in_box c.self.inside.blocks) c.self.inside.last.items (subst Climbs (sym c.self.view_is) c.requires)

pub arriving_before-requires : goal.arriving_before-requires
arriving_before-requires c =
    let blocks = first_rise (in_box c.self.inside.blocks) c.self.inside.last.items (subst Climbs (sym c.self.view_is) c.requires) in
    subst Climbs (ap in_box c.in-Some.is ∙ sym c.deref.ensures) blocks

pub returns-in-Some : goal.returns-in-Some
returns-in-Some c =
    let till = c.args.till in
    let blocks = in_box c.self.inside.blocks in
    let both = arriving_both till blocks c.self.inside.last.items in
    let same = ap (arriving_before till) (ap in_box c.in-Some.is ∙ sym c.deref.ensures) in
    subst (λ (l : List Flight). c.saturating_add.result ≡ min (arriving_before till l) (2 ^ 64 - 1)) c.self.view_is (omega arith)

pub returns-in-None : goal.returns-in-None
returns-in-None c =
    let till = c.args.till in
    let last = c.self.inside.last.items in
    let all = ap (λ b. arriving_before till (in_box b ++ last)) (sym c.in-None.is) ∙ ap (arriving_before till) c.self.view_is in
    let count = c.count_before-last.ensures in
    omega arith
