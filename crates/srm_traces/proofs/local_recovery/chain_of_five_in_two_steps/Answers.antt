use Rattle.std.proofs.Common.{refl}
use Rattle.srm_net.specs.Keys.{rank_number}
use Rattle.srm_net.specs.Paths.{route_within, route, distance, hops, reaches, crosses, drops_at}
use Rattle.srm_scenario.specs.Plain.{script_of}
use Rattle.srm_member.specs.React.{react, draw_operation, expire_repair, expire_request, hear_session, after_entry, hear_request, hear_data}
use Rattle.srm_member.specs.React.{lose_below, lose_from}
use Rattle.srm_cell.specs.Cells.{own_step, handle, next_event, hear}
use Rattle.srm_cell.specs.Crossings.{crossings}
use Rattle.srm_model.specs.World.{last_world, run, opening, opening_cells, step_to, step_of, least_event, after_step, cells_after}
use Rattle.srm_traces.specs.Runs.{world_at_end, whole_trace, whole_totals, whole_recovery, whole_exits}
use Rattle.srm_traces.proofs.local_recovery.chain_of_five_in_two_steps.Goals as goal

pub returns-clause-trace : goal.returns-clause-trace
unfolding run opening opening_cells step_to step_of least_event after_step cells_after own_step handle next_event hear react draw_operation
    expire_repair expire_request hear_session after_entry hear_request hear_data lose_below lose_from script_of route_within route distance
    hops reaches crosses drops_at crossings last_world world_at_end whole_trace whole_totals whole_recovery whole_exits rank_number
returns-clause-trace c = refl

pub returns-clause-totals : goal.returns-clause-totals
unfolding run opening opening_cells step_to step_of least_event after_step cells_after own_step handle next_event hear react draw_operation
    expire_repair expire_request hear_session after_entry hear_request hear_data lose_below lose_from script_of route_within route distance
    hops reaches crosses drops_at crossings last_world world_at_end whole_trace whole_totals whole_recovery whole_exits rank_number
returns-clause-totals c = refl

pub returns-clause-recovery : goal.returns-clause-recovery
unfolding run opening opening_cells step_to step_of least_event after_step cells_after own_step handle next_event hear react draw_operation
    expire_repair expire_request hear_session after_entry hear_request hear_data lose_below lose_from script_of route_within route distance
    hops reaches crosses drops_at crossings last_world world_at_end whole_trace whole_totals whole_recovery whole_exits rank_number
returns-clause-recovery c = refl

pub returns-clause-exits : goal.returns-clause-exits
unfolding run opening opening_cells step_to step_of least_event after_step cells_after own_step handle next_event hear react draw_operation
    expire_repair expire_request hear_session after_entry hear_request hear_data lose_below lose_from script_of route_within route distance
    hops reaches crosses drops_at crossings last_world world_at_end whole_trace whole_totals whole_recovery whole_exits rank_number
returns-clause-exits c = refl

pub returns-clause-whole : goal.returns-clause-whole
unfolding run opening opening_cells step_to step_of least_event after_step cells_after own_step handle next_event hear react draw_operation
    expire_repair expire_request hear_session after_entry hear_request hear_data lose_below lose_from script_of route_within route distance
    hops reaches crosses drops_at crossings last_world world_at_end whole_trace whole_totals whole_recovery whole_exits rank_number
returns-clause-whole c = refl
