use Rattle.std.proofs.Common.{◌∙◌, nat_cmp}
use Rattle.srm_net.proofs.TotalOrders.{as_one_number}
use Rattle.srm_net.proofs.packet.NameOrd.cmp.Goals as goal

pub returns : goal.returns
returns c = c.cmp.ensures ∙ (λ i. nat_cmp (c.as_number.ensures.value i) (c.as_number-2.ensures.value i))
    ∙ as_one_number c.args.self.now c.args.other.now c.as_number.ensures.parts.0 c.as_number-2.ensures.parts.0
    c.as_number.ensures.parts.1 c.as_number-2.ensures.parts.1
