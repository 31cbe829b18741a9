use Rattle.std.proofs.Common.{◌≡◌, ◌∙◌, Option, ap, sym, subst, arith}
use Rattle.toml.specs.View.{table_view}
use Rattle.srm_scenario.specs.declared.delays.Delays.{Delays}
use Rattle.srm_scenario.specs.declared.topology.Topology.{Topology}
use Rattle.srm_scenario.specs.Described.{version_of, topology_of, nodes_in, delays_of}
use Rattle.srm_scenario.specs.LookUps.{HasDegree, AreDelays}
use Rattle.srm_scenario.proofs.TopFits.{topology_fits, nodes_fit, delays_fit, few_nodes, few_parents, tree_degree}
use Rattle.srm_scenario.proofs.top.shape_of.Goals as goal
use Rattle.srm_scenario.proofs.top.shape_of.Goals.{in-Some, in-None}

pub topology-topology-requires : goal.topology-topology-requires
topology-topology-requires c = tree_degree (table_view c.args.table.now) c.requires

pub given_nodes-nodes-requires : goal.given_nodes-nodes-requires
given_nodes-nodes-requires c = few_parents (table_view c.args.table.now) c.requires

pub overflow_cast-result : goal.overflow_cast-result
overflow_cast-result c =
    let ms = table_view c.args.table.now in
    let nodes : c.match-topology.nodes ≡ nodes_in (topology_of ms) ms =
    elim c.match-topology.branch [
      | in-Some w ↦ w.nodes-is ∙ w.number-nodes.ensures ∙ sym (ap (λ o. nodes_in o ms) (sym c.topology-topology.ensures ∙ w.in-Some.is))
      | in-None w ↦
          w.nodes-is ∙ w.given_nodes-nodes.ensures ∙ sym (ap (λ o. nodes_in o ms) (sym c.topology-topology.ensures ∙ w.in-None.is))
    ] in
    let fits = nodes_fit ms c.requires in
    let few = few_nodes (version_of ms) in
    omega (arith, fits.1, few.0)

pub returns : goal.returns
returns c =
    let ms = table_view c.args.table.now in
    let nodes : c.match-topology.nodes ≡ nodes_in (topology_of ms) ms =
    elim c.match-topology.branch [
      | in-Some w ↦ w.nodes-is ∙ w.number-nodes.ensures ∙ sym (ap (λ o. nodes_in o ms) (sym c.topology-topology.ensures ∙ w.in-Some.is))
      | in-None w ↦
          w.nodes-is ∙ w.given_nodes-nodes.ensures ∙ sym (ap (λ o. nodes_in o ms) (sym c.topology-topology.ensures ∙ w.in-None.is))
    ] in
    let fits = nodes_fit ms c.requires in
    let few = few_nodes (version_of ms) in
    let named = sym c.topology-topology.ensures in
    let delays : delays_of ms ≡ record { delay = c.number.result; back = c.number_or.result } =
    (λ i. record { delay = sym c.number.ensures i; back = sym c.number_or.ensures i }) in
    record {
      topology_is = named;
      topology_fits = subst HasDegree named (topology_fits ms c.requires);
      nodes_are = sym nodes;
      some_nodes = omega (arith, fits.0);
      few_nodes = omega (arith, fits.1, few.0);
      delays_are = delays;
      delays_fit = subst (λ (o : Option Topology). AreDelays o (record { delay = c.number.result; back = c.number_or.result })) named
          (subst (λ (d : Delays). AreDelays (topology_of ms) d) delays (delays_fit ms c.requires));
    }
