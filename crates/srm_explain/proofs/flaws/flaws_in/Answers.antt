use Rattle.std.proofs.Common.{◌∙◌, IfOk, List, sym, subst}
use Rattle.std.specs.List.{AllByRecursion}
use Rattle.srm_net.specs.declared.link.LinkSpec.{LinkSpec}
use Rattle.srm_explain.specs.Flaws.{IsFlaw}
use Rattle.srm_explain.proofs.Listed.{links_without_topology}
use Rattle.srm_explain.proofs.flaws.flaws_in.Goals as goal

pub returns-in-None : goal.returns-in-None
returns-in-None c =
    let l = c.args.draft.now in
    let told = c.flaws_of.result in
    subst (λ (ks : List LinkSpec). IfOk told (λ flaws. AllByRecursion (IsFlaw c.args.parents l.nodes ks) flaws.items))
    (c.deref.ensures.value ∙ sym (links_without_topology l c.in-None.is)) c.flaws_of.ensures
