use Rattle.srm_model.proofs.AnyOrder.{packets_are_heard_in_any_order as the_law}
use Rattle.srm_model.proofs.laws_of_windows.packets_are_heard_in_any_order.Goals as goal

pub returns : goal.returns
returns c = the_law
