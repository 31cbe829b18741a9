use Rattle.std.proofs.Common.{refl}
use Rattle.srm_net.specs.Keys.{rank_number}
use Rattle.srm_member.specs.React.{react, draw_operation, expire_repair, expire_request, hear_session, after_entry, hear_request, hear_data}
use Rattle.srm_member.specs.React.{lose_below, lose_from}
use Rattle.srm_cell.specs.Cells.{own_step, handle, next_event, hear}
use Rattle.srm_model.specs.World.{last_world, run, opening, opening_cells, step_to, step_of, least_event, after_step, cells_after}
use Rattle.srm_model.specs.OneLoss.{handings, ends}
use Rattle.srm_model.proofs.laws_of_names.a_loss_stays.Goals as goal

pub returns : goal.returns
unfolding last_world handings ends run opening opening_cells step_to step_of least_event after_step cells_after own_step handle next_event
    hear react draw_operation expire_repair expire_request hear_session after_entry hear_request hear_data lose_below lose_from rank_number
returns c = refl
