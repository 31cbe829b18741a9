use Rattle.std.proofs.Common.{◌≡◌, ◌∙◌, ◌<◌, ◌+◌, length, take, get_or, refl, sym, ap, subst, arith}
use Rattle.std.proofs.Math.Seq.{take-length}
use Rattle.std.proofs.lemmas.List.{take_more, take_more_set, drop-set-lt, length-set}
use Rattle.std.proofs.lemmas.List.Elements.{All-get_or, AllZip-push}
use Rattle.srm_cell.specs.declared.cell.Cell.{Cell}
use Rattle.srm_cell.specs.Setting.{traffic_of}
use Rattle.srm_cell.specs.Hearing.{packets_in, MayHearAll, HearsAll, EachHearsAll}
use Rattle.srm_cell.proofs.Fronts.{at_front, after_front}
use Rattle.srm_cell.proofs.hearing.hear_each.Goals as goal

pub loop-cell-init : goal.loop-cell-init
loop-cell-init g c = (refl, refl, tt)

pub hear-requires-clause-sent : goal.hear-requires-clause-sent
hear-requires-clause-sent g c = c.requires.sent

pub hear-requires-clause-new : goal.hear-requires-clause-new
hear-requires-clause-new g c =
    let i = c.loop-cell.cell-index in
    let old = c.loop-cell.cells in
    let d = c.cell-item.result in
    let same = c.loop-cell.invariant.0 in
    let test = c.loop-cell-test.true in
    let t = traffic_of c.args.session.scenario.now c.args.session.net.now in
    subst (MayHearAll g.M.Participant.plain t (packets_in c.args.sent.now))
    (sym (at_front old c.args.cells.now i d (omega arith) (omega arith) c.loop-cell.invariant.1))
    (All-get_or (MayHearAll g.M.Participant.plain t (packets_in c.args.sent.now)) c.args.cells.now i d (omega arith) c.requires.new)

pub loop-cell-preserved : goal.loop-cell-preserved
loop-cell-preserved g c =
    let i = c.loop-cell.cell-index in
    let old = c.loop-cell.cells in
    let first = c.args.cells.now in
    let d = c.cell-item.result in
    let after = c.hear.new.self in
    let same = c.loop-cell.invariant.0 in
    let test = c.loop-cell-test.true in
    let within : i < length old = omega arith in
    let before : i < length first = omega arith in
    let t = traffic_of c.args.session.scenario.now c.args.session.net.now in
    let ps = packets_in c.args.sent.now in
    let R = λ (x y : Cell _). HearsAll g.M.Participant.plain t ps x y in (
      length-set old i after ∙ c.loop-cell.invariant.0,
      drop-set-lt (i + 1) old i after (omega arith) ∙ after_front old first i d within before c.loop-cell.invariant.1,
      rw (take_more first i d before, take_more_set old i after within)
          (AllZip-push R (take i first) (take i old) (get_or first i d) after c.loop-cell.invariant.2
          (subst (λ x. R x after) (at_front old first i d within before c.loop-cell.invariant.1) c.in_ok-hear.ensures)),
    )

pub returns : goal.returns
returns g c =
    let i = c.loop-cell.cell-index in
    let old = c.loop-cell.cells in
    let past = c.loop-cell-test.false in
    let within = c.loop-cell.auto.cell-index-end in
    let same = c.loop-cell.invariant.0 in
    let all : i ≡ length old = omega arith in
    let whole : i ≡ length c.args.cells.now = omega arith in
    let heard = EachHearsAll g.M.Participant.plain (traffic_of c.args.session.scenario.now c.args.session.net.now)
    (packets_in c.args.sent.now) in
    subst (λ xs. heard xs old) (ap (λ n. take n c.args.cells.now) whole ∙ take-length c.args.cells.now)
    (subst (heard (take i c.args.cells.now)) (ap (λ n. take n old) all ∙ take-length old) c.loop-cell.invariant.2)
