use Rattle.std.proofs.Common.{refl, ◌∙◌}
use Rattle.srm_engine.proofs.cells.Cells.of.Goals as goal

pub returns : goal.returns
returns g c = λ h. (
  record {
    order = h;
    times = c.in_ok-times.ensures ∙ (rw c.as_slice.ensures.value at c.in_ok-next_times.ensures).1 h.sound;
  },
  refl,
)
