use Rattle.std.proofs.Common.{◌≡◌, ◌∙◌, Some, sym, ap, slice_get, arith}
use Rattle.std.proofs.lemmas.Option.{slice_get-get_or}
use Rattle.srm_engine.specs.Starts.{setting_on}
use Rattle.srm_engine.proofs.SoonLemmas.{soon_all, soon_more}
use Rattle.srm_engine.proofs.soonest.soonest_in.Goals as goal

pub loop-index-preserved : goal.loop-index-preserved
loop-index-preserved g c = λ seed from.
    let k = c.loop-index.index in
    let cell = c.index-cells-index.result in
    let at : slice_get c.args.cells.now k ≡ Some cell =
    slice_get-get_or c.args.cells.now k cell c.loop-index-test.true ∙ ap Some (sym c.index-cells-index.is) in
    soon_more g.M.Participant.plain (setting_on c.args.session seed) c.args.first c.args.cells.now k cell c.loop-index.soonest
    c.with-soonest.result c.next_time.result c.way-way.result from at c.next_time.ensures (c.way-way.ensures seed)
    c.with-soonest.ensures.time c.with-soonest.ensures.promise (c.loop-index.invariant seed from)

pub returns : goal.returns
returns g c = λ seed from.
    let past = c.loop-index-test.false in
    soon_all g.M.Participant.plain (setting_on c.args.session seed) c.args.cells.now c.loop-index.index c.loop-index.soonest
    (omega arith) (c.loop-index.invariant seed from)
