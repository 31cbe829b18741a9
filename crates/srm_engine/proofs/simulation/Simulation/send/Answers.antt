use Rattle.std.proofs.Common.{◌++◌, ◌∷◌, [], ◌∙◌, sym, subst}
use Rattle.srm_net.specs.Scopes.{scope_of}
use Rattle.srm_net.specs.Spreads.{IsSpread}
use Rattle.srm_scenario.specs.declared.session.Session.{Session}
use Rattle.srm_cell.specs.declared.tally.Tally.{Tally}
use Rattle.srm_cell.specs.Tallies.{Tallies}
use Rattle.srm_engine.proofs.simulation.Simulation.send.Goals as goal

pub returns-clause-sent : goal.returns-clause-sent
returns-clause-sent g c = λ qs whole counted.
    let old = c.args.self.now in
    let new = c.deliver.new.self in
    let packets = qs ++ c.in-Some.packet ∷ [] in
    let at = c.as_session.result in
    let p = c.in-Some.packet in
    let is = c.count.ensures at.scenario.now qs
    (subst (λ ds. IsSpread at.net.now ds p.id p.sent (scope_of p.body) c.in_ok-spread.spread) c.drops.ensures
    (subst (λ scope. IsSpread at.net.now c.drops.result.now p.id p.sent scope c.in_ok-spread.spread) c.scope.ensures
    c.in_ok-spread.ensures.spread))
    (subst (λ (of : Session). Tallies of.scenario.now of.net.now qs old.tally) (sym c.as_session.ensures) counted) in
    rw c.in-Some.is (
      c.in_ok-deliver.ensures.heard whole,
      subst (λ (of : Session). Tallies of.scenario.now of.net.now packets new.tally) (c.as_session.ensures ∙ sym c.deliver.ensures.session)
          (subst (λ (t : Tally). Tallies at.scenario.now at.net.now packets t) (sym c.deliver.ensures.tally) is),
    )
