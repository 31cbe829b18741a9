use Rattle.std.proofs.Common.{◌∙◌, ◌≤◌, List, length, codes, inr, ap, sym, subst}
use Rattle.std.specs.Prelude.{if◌then◌else◌}
use Rattle.std.proofs.lemmas.Result.{err_from_is_err_and}
use Rattle.toml.specs.View.{table_view}
use Rattle.srm_net.specs.declared.link.LinkSpec.{LinkSpec}
use Rattle.srm_net.specs.Limits.{most_listed}
use Rattle.srm_scenario.specs.declared.parts.DrawSpec.{DrawSpec}
use Rattle.srm_scenario.specs.declared.parts.SessionSpec.{SessionSpec}
use Rattle.srm_scenario.specs.Described.{array_at, links_from, names_parents, parents_in, repeated_at, version_of}
use Rattle.srm_scenario.specs.Faults.{entry_of, entry_copy, key_faults}
use Rattle.srm_scenario.proofs.FaultLists.{here, later, no_key_fault, no_top_fault, top_fault}
use Rattle.srm_scenario.proofs.Repetition.{few_draws, few_sessions}
use Rattle.srm_scenario.proofs.TopFits.{draws_fit, sessions_fit}
use Rattle.srm_scenario.proofs.draft.Draft.read.Goals as goal

pub returns-in_default-clause-fault : goal.returns-in_default-clause-fault
returns-in_default-clause-fault c = inr (top_fault (table_view c.args.table.now) c.in_default.ensures)

pub returns-in_err-listed-clause-fault : goal.returns-in_err-listed-clause-fault
unfolding key_faults
returns-in_err-listed-clause-fault c =
    let p = err_from_is_err_and c.from_residual.result c.from_residual.ensures.1 in
    let top = no_top_fault (table_view c.args.table.now) c.in-Some.ensures.0 in
    rw (p.1, p.2) (later _ _ _ top (here _ _ _ c.in_err-listed.ensures.fault))

pub returns-in_err-members-clause-fault : goal.returns-in_err-members-clause-fault
unfolding key_faults
returns-in_err-members-clause-fault c =
    let p = err_from_is_err_and c.from_residual-in_err-members.result c.from_residual-in_err-members.ensures.1 in
    let top = no_top_fault (table_view c.args.table.now) c.in-Some.ensures.0 in
    rw (p.1, p.2) (later _ _ _ top (later _ _ _ c.in_ok-listed.ensures.no_fault (here _ _ _ c.in_err-members.ensures.fault)))

pub returns-in_err-draws-clause-fault : goal.returns-in_err-draws-clause-fault
unfolding key_faults
returns-in_err-draws-clause-fault c =
    let p = err_from_is_err_and c.from_residual-in_err-draws.result c.from_residual-in_err-draws.ensures.1 in
    let top = no_top_fault (table_view c.args.table.now) c.in-Some.ensures.0 in
    rw (p.1, p.2) (later _ _ _ top (later _ _ _ c.in_ok-listed.ensures.no_fault (later _ _ _ c.in_ok-members.ensures.no_fault
    (here _ _ _ c.in_err-draws.ensures.fault))))

pub returns-in_err-sessions-clause-fault : goal.returns-in_err-sessions-clause-fault
unfolding key_faults
returns-in_err-sessions-clause-fault c =
    let p = err_from_is_err_and c.from_residual-in_err-sessions.result c.from_residual-in_err-sessions.ensures.1 in
    let top = no_top_fault (table_view c.args.table.now) c.in-Some.ensures.0 in
    rw (p.1, p.2) (later _ _ _ top (later _ _ _ c.in_ok-listed.ensures.no_fault (later _ _ _ c.in_ok-members.ensures.no_fault
    (later _ _ _ c.in_ok-draws.ensures.no_fault (here _ _ _ c.in_err-sessions.ensures.fault)))))

pub returns-in_err-drops-clause-fault : goal.returns-in_err-drops-clause-fault
unfolding key_faults
returns-in_err-drops-clause-fault c =
    let p = err_from_is_err_and c.from_residual-in_err-drops.result c.from_residual-in_err-drops.ensures.1 in
    let top = no_top_fault (table_view c.args.table.now) c.in-Some.ensures.0 in
    rw (p.1, p.2) (later _ _ _ top (later _ _ _ c.in_ok-listed.ensures.no_fault (later _ _ _ c.in_ok-members.ensures.no_fault
    (later _ _ _ c.in_ok-draws.ensures.no_fault (later _ _ _ c.in_ok-sessions.ensures.no_fault
    (here _ _ _ c.in_err-drops.ensures.fault))))))

pub returns-in_err-outages-clause-fault : goal.returns-in_err-outages-clause-fault
unfolding key_faults
returns-in_err-outages-clause-fault c =
    let p = err_from_is_err_and c.from_residual-in_err-outages.result c.from_residual-in_err-outages.ensures.1 in
    let top = no_top_fault (table_view c.args.table.now) c.in-Some.ensures.0 in
    rw (p.1, p.2) (later _ _ _ top (later _ _ _ c.in_ok-listed.ensures.no_fault (later _ _ _ c.in_ok-members.ensures.no_fault
    (later _ _ _ c.in_ok-draws.ensures.no_fault (later _ _ _ c.in_ok-sessions.ensures.no_fault
    (later _ _ _ c.in_ok-drops.ensures.no_fault (here _ _ _ c.in_err-outages.ensures.fault)))))))

pub returns-in_err-losses-clause-fault : goal.returns-in_err-losses-clause-fault
unfolding key_faults
returns-in_err-losses-clause-fault c =
    let p = err_from_is_err_and c.from_residual-in_err-losses.result c.from_residual-in_err-losses.ensures.1 in
    let top = no_top_fault (table_view c.args.table.now) c.in-Some.ensures.0 in
    rw (p.1, p.2) (later _ _ _ top (later _ _ _ c.in_ok-listed.ensures.no_fault (later _ _ _ c.in_ok-members.ensures.no_fault
    (later _ _ _ c.in_ok-draws.ensures.no_fault (later _ _ _ c.in_ok-sessions.ensures.no_fault
    (later _ _ _ c.in_ok-drops.ensures.no_fault (later _ _ _ c.in_ok-outages.ensures.no_fault
    (here _ _ _ c.in_err-losses.ensures.fault))))))))

pub returns-clause-draft : goal.returns-clause-draft
returns-clause-draft c =
    let ms = table_view c.args.table.now in
    let (top, n, s) = c.in-Some.ensures in
    record {
      no_fault = no_key_fault ms top c.in_ok-listed.ensures.no_fault c.in_ok-members.ensures.no_fault c.in_ok-draws.ensures.no_fault
          c.in_ok-sessions.ensures.no_fault c.in_ok-drops.ensures.no_fault c.in_ok-outages.ensures.no_fault
          c.in_ok-losses.ensures.no_fault;
      until = n.until_is;
      some_ticks = n.some_ticks;
      few_ticks = n.few_ticks;
      constants = n.constants_are;
      room = n.room_is;
      constants_fit = n.constants_fit;
      recovery = n.recovery_is;
      recovery_fits = n.recovery_fits;
      topology = s.topology_is;
      degree = s.topology_fits;
      nodes = s.nodes_are;
      some_nodes = s.some_nodes;
      delays = s.delays_are;
      delays_fit = s.delays_fit;
      links = ap (λ (ks : List LinkSpec). if names_parents ms then links_from ms 0 (parents_in ms) else ks)
          (sym c.in_ok-listed.ensures.read) ∙ sym c.in_ok-links.ensures;
      members = ap (λ k. repeated_at (codes "member") entry_copy (entry_of k) ms) n.scope_is ∙ sym c.in_ok-members.ensures.read;
      draws = sym c.in_ok-draws.ensures.read;
      sessions = sym c.in_ok-sessions.ensures.read;
      drops = sym c.in_ok-drops.ensures.read;
      outages = sym c.in_ok-outages.ensures.read;
      losses = sym c.in_ok-losses.ensures.read;
      few_draws = subst (λ (ds : List DrawSpec). length ds ≤ most_listed) (sym c.in_ok-draws.ensures.read)
          (few_draws (version_of ms) (array_at (codes "draw") ms) (draws_fit ms top) c.in_ok-draws.ensures.no_fault);
      few_sessions = subst (λ (rs : List SessionSpec). length rs ≤ most_listed) (sym c.in_ok-sessions.ensures.read)
          (few_sessions (version_of ms) (array_at (codes "session") ms) (sessions_fit ms top) c.in_ok-sessions.ensures.no_fault);
    }
