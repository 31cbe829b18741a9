use Rattle.std.proofs.Common.{rules, ◌≡◌, map}
use Rattle.srm_report.specs.ListingSinks.{outlet_under}
use Rattle.srm_program.proofs.ListedTexts.{stands_open, counts_on}
use Rattle.srm_program.proofs.listed.write_listing.Goals as goal

pub flushed-answer-requires-clause-open : goal.flushed-answer-requires-clause-open
flushed-answer-requires-clause-open g c = stands_open c.hand_rows-handed.result _ c.hand_rows-handed.ensures.stands

pub flushed-answer-requires-clause-failures : goal.flushed-answer-requires-clause-failures
flushed-answer-requires-clause-failures g c =
    counts_on c.hand_rows-handed.result _ _ c.hand_rows-handed.ensures.failures (search rules)

pub returns : goal.returns
returns g c =
    let made = c.gathering-sink.ensures in
    let first = c.gathering-sink.result in
    let told = c.flushed-answer.ensures.listed c.args.task (map g.M.Participant.plain c.args.members.items) first
    (record { stage = made.stage; gathered = made.gathered; room = made.room; written = made.written }) c.hand_rows-handed.ensures in
    let end : outlet_under c.flushed-answer.new.sink ≡ c.outlet-1.given.0 = search rules in
    rw (made.same, end) at told
