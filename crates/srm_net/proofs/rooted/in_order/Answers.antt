use Rattle.std.proofs.Common.{◌∙◌, ◌++◌, ◌∷◌, [], sym, ap, reverse, take, get_or}
use Rattle.std.proofs.lemmas.List.{reverse-append}
use Rattle.srm_net.specs.Growth.{attached}
use Rattle.srm_net.proofs.TreeWays.{no_step, reverse_more}
use Rattle.srm_net.proofs.rooted.in_order.Goals as goal

pub loop-step-preserved : goal.loop-step-preserved
loop-step-preserved c =
    let steps = c.args.steps.now in
    let i = c.loop-step.step-index in
    let node = (get_or steps i no_step).node in
    c.in_ok-push.ensures.items ∙ ap (λ us. us ++ node ∷ []) c.loop-step.invariant
    ∙ sym (ap (λ ts. reverse (attached ts)) (reverse_more steps i no_step c.loop-step-test.true)
    ∙ reverse-append (node ∷ []) (attached (reverse (take i steps))))
