use Rattle.std.proofs.Common.{ℕ, ◌+◌, ◌-◌, ◌∷◌, [], ◌++◌, List, ap, ◌∙◌}
use Rattle.srm_net.specs.declared.link.LinkSpec.{LinkSpec}
use Rattle.srm_scenario.specs.Described.{links_to_parents}
use Rattle.srm_scenario.proofs.Shapes.{links_step}
use Rattle.srm_scenario.proofs.topology.Topology.links.Goals as goal

pub loop-v-preserved : goal.loop-v-preserved
loop-v-preserved c =
    let rest = links_to_parents c.args.self c.args.delays (c.loop-v.v + 1) (c.args.size - (c.loop-v.v + 1)) in
    let front : List LinkSpec = c.loop-v.links.items in
    ap (λ (links : List LinkSpec). links ++ rest)
    (c.in_ok-push.ensures.items ∙ ap (λ (a : ℕ). front ++ record
    { a = a; b = c.loop-v.v; delay = c.args.delays.delay; back = c.args.delays.back } ∷ []) c.parent.ensures)
    ∙ links_step c.args.self c.args.delays c.loop-v.v c.args.size front c.loop-v-test.true ∙ c.loop-v.invariant
