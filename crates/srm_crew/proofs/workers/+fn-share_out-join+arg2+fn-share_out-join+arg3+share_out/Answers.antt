use Rattle.std.proofs.Common.{refl}
use Rattle.srm_crew.proofs.WorkedLemmas.{tells_same, halves_told}
use Rattle.srm_crew.proofs.workers.+fn-share_out-join+arg2+fn-share_out-join+arg3+share_out.Goals as goal

pub returns-then-workers-le1 : goal.returns-then-workers-le1
returns-then-workers-le1 g t c =
    tells_same (λ x r. goal.F-post g c.args.work x r) g.D.Counted.numbers c.args.pass c.args.pass c.args.seat c.args.seat
    c.new.result.items c.work_alone.result refl refl c.new.ensures.items c.work_alone.ensures.work

pub returns-in-Err-default-default-TooManySeats : goal.returns-in-Err-default-default-TooManySeats
returns-in-Err-default-default-TooManySeats g t c =
    tells_same (λ x r. goal.F-post g c.args.work x r) g.D.Counted.numbers c.args.pass c.in-Err-default-default-TooManySeats.pass c.args.seat
    c.in-Err-default-default-TooManySeats.seat c.new-in-Err-default-default-TooManySeats.result.items
    c.work_alone-in-Err-default-default-TooManySeats.result c.in-Err-default-default-TooManySeats.ensures.0
    c.in-Err-default-default-TooManySeats.ensures.1 c.new-in-Err-default-default-TooManySeats.ensures.items
    c.work_alone-in-Err-default-default-TooManySeats.ensures.work

pub returns : goal.returns
returns g t c =
    halves_told (λ x r. goal.F-post g c.args.work x r) g.D.Counted.numbers c.args.pass c.in-Ok.halves.0.0 c.in-Ok.halves.1.0 c.args.seat
    c.in-Ok.halves.0.1 c.in-Ok.halves.1.1 c.join-second.result.1 c.join-second.result.0 c.gather.result c.requires.bag.1
    c.in-Ok.ensures.0 c.in-Ok.ensures.1 c.in-Ok.ensures.2 c.in-Ok.ensures.3 c.join-second.ensures.second
    c.join-second.ensures.first c.gather.ensures
