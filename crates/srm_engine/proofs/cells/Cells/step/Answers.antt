use Rattle.std.proofs.Common.{◌≡◌, sym, ◌∙◌, ap, subst, Ok, Some, slice_get, slice_set}
use Rattle.std.proofs.lemmas.Option.{slice_get-get_or, same_Some}
use Rattle.srm_cell.specs.declared.cell.Cell.{Cell}
use Rattle.srm_cell.specs.Cells.{own_step}
use Rattle.srm_cell.specs.Views.{Refuses, plain_cell}
use Rattle.srm_engine.specs.Seen.{TellsOwnStep, plain_cells}
use Rattle.srm_engine.proofs.PutLemmas.{put_taken}
use Rattle.srm_engine.proofs.SeenLemmas.{number_is, sound_at, taken}
use Rattle.srm_engine.proofs.cells.Cells.step.Goals as goal

pub returns : goal.returns
returns g c =
    let f = g.M.Participant.plain in
    let cs = c.args.self.now.cells.items in
    let old = c.index_mut-cell.result.now in
    let m = c.args.member in
    let at : slice_get cs m ≡ Some old =
    slice_get-get_or cs m old c.requires.cell ∙ ap Some (sym (rw c.from.ensures at c.index_mut-cell.ensures.value)) in
    put_taken f m c.args.till c.args.self.now old c.step_onto.new.self (slice_set cs c.from.result c.step_onto.new.self)
    c.set.new.self c.in-Ok.is_event _ _
    (λ row told x h k.
    let same : old ≡ x = same_Some old x (sym at ∙ k) in
    rw c.from.ensures (subst (λ (y : Cell _). TellsOwnStep f m (plain_cells f cs) (own_step c.args.till m (plain_cell f y)) (Ok row)
    (slice_set cs m c.step_onto.new.self) c.set.new.self) same
    (subst (λ n. TellsOwnStep f m (plain_cells f cs) (own_step c.args.till n (plain_cell f old)) (Ok row)
    (slice_set cs m c.step_onto.new.self) c.set.new.self) (number_is f cs m old h.order at)
    (taken f cs c.args.self.now.times c.set.new.self m old c.step_onto.new.self _ row c.next_time-next.result h at
    (told (sound_at f 0 cs m old h.order at)) c.next_time-next.ensures c.set.ensures))))
    c.in-Ok.ensures

pub returns-in-Err : goal.returns-in-Err
returns-in-Err g c = λ h x k.
    let f = g.M.Participant.plain in
    let cs = c.args.self.now.cells.items in
    let old = c.index_mut-cell.result.now in
    let m = c.args.member in
    let at : slice_get cs m ≡ Some old =
    slice_get-get_or cs m old c.requires.cell ∙ ap Some (sym (rw c.from.ensures at c.index_mut-cell.ensures.value)) in
    let same : old ≡ x = same_Some old x (sym at ∙ k) in
    subst (λ (y : Cell _). Refuses (own_step c.args.till m (plain_cell f y)) c.in-Err.fault) same
    (subst (λ n. Refuses (own_step c.args.till n (plain_cell f old)) c.in-Err.fault) (number_is f cs m old h.order at)
    (c.in-Err.ensures (sound_at f 0 cs m old h.order at)))
