use Rattle.std.proofs.Common.{◌≡◌, ◌-◌, ◌^◌, min, List, sym, subst, arith}
use Rattle.srm_cell.specs.declared.flight.Flight.{Flight}
use Rattle.srm_cell.specs.Flights.{arriving_before}
use Rattle.srm_cell.specs.Lines.{in_blocks}
use Rattle.srm_cell.proofs.Arrivals.{arriving_both, first_rise, none_behind}
use Rattle.srm_cell.proofs.InboxLines.{Climbs, last_rise}
use Rattle.srm_cell.proofs.blocks.Blocks.arriving_before.Goals as goal

pub count_before-next-requires : goal.count_before-next-requires
count_before-next-requires c =
    first_rise c.self.inside.first.items (in_blocks c.self.inside.others.items) (subst Climbs (sym c.self.view_is) c.requires)

pub count_in-requires : goal.count_in-requires
count_in-requires c =
    last_rise c.self.inside.first.items (in_blocks c.self.inside.others.items) (subst Climbs (sym c.self.view_is) c.requires)

pub returns-then-next-len : goal.returns-then-next-len
returns-then-next-len c =
    let first = c.self.inside.first in
    let others = in_blocks c.self.inside.others.items in
    let next = c.count_before-next.ensures in
    let len = c.len.ensures in
    let long = first.ok.0 in
    let fewer = c.if-next-len.true in
    let none = none_behind c.args.till first.items others (subst Climbs (sym c.self.view_is) c.requires) (omega arith) in
    let both = arriving_both c.args.till first.items others in
    subst (λ (l : List Flight). c.count_before-next.result ≡ min (arriving_before c.args.till l) (2 ^ 64 - 1)) c.self.view_is (omega arith)

pub returns : goal.returns
returns c =
    let first = c.self.inside.first.items in
    let others = in_blocks c.self.inside.others.items in
    let both = arriving_both c.args.till first others in
    subst (λ (l : List Flight). c.saturating_add.result ≡ min (arriving_before c.args.till l) (2 ^ 64 - 1)) c.self.view_is (omega arith)
