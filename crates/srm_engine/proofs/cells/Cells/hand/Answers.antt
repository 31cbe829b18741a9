use Rattle.std.proofs.Common.{◌≡◌, sym, ◌∙◌, ap, Some, slice_get, slice_set}
use Rattle.std.proofs.lemmas.Option.{slice_get-get_or, same_Some}
use Rattle.srm_cell.specs.declared.cell.Cell.{Cell}
use Rattle.srm_cell.specs.Cells.{OwnCell, hear_at}
use Rattle.srm_cell.specs.Views.{plain_cell}
use Rattle.srm_engine.specs.Seen.{plain_cells}
use Rattle.srm_engine.proofs.SeenLemmas.{set_plain, set_seen, sound_at}
use Rattle.srm_engine.proofs.cells.Cells.hand.Goals as goal

pub returns : goal.returns
returns g c = λ h x k.
    let f = g.M.Participant.plain in
    let cs = c.args.self.now.cells.items in
    let old = c.index_mut-cell.result.now in
    let at : slice_get cs c.args.member ≡ Some old =
    slice_get-get_or cs c.args.member old c.requires.cell ∙ ap Some (sym (rw c.from.ensures at c.index_mut-cell.ensures.value)) in
    let now = c.in-Ok.ensures.ok (sound_at f 0 cs c.args.member old h.order at) in
    let same : old ≡ x = same_Some old x (sym at ∙ k) in
    rw c.from.ensures (
      set_seen f cs c.args.self.now.times c.set.new.self c.args.member old c.accept.new.self c.next_time-next.result h at now.sound
          (ap (λ (q : OwnCell). q.member) now.is) (c.next_time-next.ensures now.sound) c.set.ensures,
      set_plain f cs c.args.member c.accept.new.self
          ∙ ap (λ (q : OwnCell). slice_set (plain_cells f cs) c.args.member q.cell) now.is
          ∙ ap (λ (y : Cell _). slice_set (plain_cells f cs) c.args.member (hear_at c.args.packet.now (Some c.args.at)
          (plain_cell f y))) same,
    )
