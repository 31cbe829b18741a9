use Rattle.std.proofs.Common.{◌∙◌, ap, is_lt}
use Rattle.srm_net.proofs.TotalOrders.{keys_compared}
use Rattle.srm_engine.proofs.merge.comes_first.Goals as goal

pub returns : goal.returns
returns c = c.is_lt.ensures ∙ ap is_lt (c.cmp.ensures ∙ keys_compared c.args.a.now.key c.args.b.now.key)
