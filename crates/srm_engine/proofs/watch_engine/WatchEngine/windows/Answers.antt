use Rattle.std.proofs.Common.{◌∙◌, ◌<◌, ℕ, List, sym, ◌++◌, ◌∷◌, [], arith, ap, subst, refl}
use Rattle.srm_scenario.specs.declared.session.Session.{Session}
use Rattle.srm_member.specs.declared.row.Row.{Row}
use Rattle.srm_interfaces.specs.Watches.{KeepMembers, MayLead}
use Rattle.srm_interfaces.specs.InTurn.{WereClosed}
use Rattle.srm_interfaces.proofs.GroupedLemmas.{still_so}
use Rattle.srm_engine.specs.Starts.{setting_on}
use Rattle.srm_engine.specs.declared.ends.Ends.{Ends}
use Rattle.srm_engine.specs.Ends.{ends_rule}
use Rattle.srm_engine.specs.Windowed.{MayCome}
use Rattle.srm_engine.specs.WatchEngines.{KeepsRows}
use Rattle.srm_engine.specs.WindowEngines.{setting_by, rule_by}
use Rattle.srm_model.specs.World.{opening, IsLast}
use Rattle.srm_model.specs.WindowChains.{window_jobs}
use Rattle.srm_model.proofs.WindowChain.{calls_follow}
use Rattle.srm_engine.proofs.Stepping.{opening_trace}
use Rattle.srm_engine.proofs.WindowLemmas.{is_last}
use Rattle.srm_engine.proofs.watch_engine.WatchEngine.windows.Goals as goal

pub loop-begin-init : goal.loop-begin-init
loop-begin-init g c = record {
  lead = c.requires.lead;
  stands = c.requires.stands;
  frame = refl;
  next = c.begin-begin.ensures;
  windows = λ seed h none.
      let s = setting_by c.args.self.engine seed in (
        [],
        opening s,
        h,
        subst (λ (l : List Row). KeepsRows (g.W.Watch.keeps c.args.watch) c.args.self l) (sym (opening_trace s)) none,
        g.met.C.WatchCrew.handed_none c.args.crew.now,
      );
}

pub window-requires-clause-lead : goal.window-requires-clause-lead
window-requires-clause-lead g c =
    subst (λ (k : Session × ℕ × Ends). MayLead g.C.WatchCrew.ready g.C.WatchCrew.serves c.loop-begin.crew k.0)
    (sym c.loop-begin.invariant.frame) c.loop-begin.invariant.lead

pub window-requires-clause-early : goal.window-requires-clause-early
window-requires-clause-early g c =
    let same = ap (λ (k : Session × ℕ × Ends). k.0.scenario.now.until) c.loop-begin.invariant.frame in
    let until = c.until-until.ensures.until in
    let early : c.loop-begin.begin < c.until-until.result = c.loop-begin-test.true in
    omega (arith, same)

pub returns-in-Err-clause-lead : goal.returns-in-Err-clause-lead
returns-in-Err-clause-lead g c =
    subst (λ (k : Session × ℕ × Ends). MayLead g.C.WatchCrew.ready g.C.WatchCrew.serves c.window.new.crew k.0)
    c.loop-begin.invariant.frame c.in-Err.ensures.lead

pub returns-in-Err-clause-windows : goal.returns-in-Err-clause-windows
returns-in-Err-clause-windows g c = λ seed h none.
    let v = c.loop-begin.invariant in
    let i = v.windows seed h none in (
      i.1,
      subst (λ (k : Session × ℕ × Ends). MayCome (setting_on k.0 seed) (ends_rule (setting_on k.0 seed) k.2) k.1
          i.1 c.in-Err.fault) v.frame (i.0, i.2.windows, c.in-Err.ensures.window seed i.0 i.1 i.2),
    )

pub loop-begin-smaller : goal.loop-begin-smaller
loop-begin-smaller g c =
    let more = c.in-Ok.ensures.later c.begin-begin-in-loop-begin.result c.begin-begin-in-loop-begin.ensures in
    let early : c.loop-begin.begin < c.until-until.result = c.loop-begin-test.true in
    omega arith

pub loop-begin-preserved : goal.loop-begin-preserved
loop-begin-preserved g c = record {
  lead = subst (λ (k : Session × ℕ × Ends). MayLead g.C.WatchCrew.ready g.C.WatchCrew.serves c.window.new.crew k.0)
      c.loop-begin.invariant.frame c.in-Ok.ensures.lead;
  stands = c.in-Ok.ensures.stands;
  frame = c.in-Ok.ensures.frame ∙ c.loop-begin.invariant.frame;
  next = c.begin-begin-in-loop-begin.ensures;
  windows = λ seed h none.
      let i = c.loop-begin.invariant.windows seed h none in
      let keeps = g.W.Watch.keeps c.args.watch in
      let closes = g.W.Watch.closes c.args.watch in
      let e = c.loop-begin.ran.engine in
      let told = c.in-Ok.ensures.window seed i.0 i.1 i.2 in
      let rule = rule_by e seed in
      let calls = subst (λ l. g.C.WatchCrew.handed c.args.crew.now l c.window.new.crew) (sym ((calls_follow rule e.groups.cut).1 i.0 i.1))
      (g.met.C.WatchCrew.handed_more _ _ _ _ _ i.4 told.1) in (
        i.0 ++ i.1 ∷ [],
        told.0.0,
        told.0.1,
        still_so closes (g.met.W.MemberWatch.stays c.args.watch) (λ kept. KeepMembers keeps 0 kept told.0.0.trace) c.in-Ok.next.kept.items
            (subst (λ (l : List Row). WereClosed closes (λ kept. KeepMembers keeps 0 kept l) c.in-Ok.next.kept.items) (sym told.0.2.1)
            (told.0.2.3 i.1.trace i.3)),
        subst (λ (k : Session × ℕ × Ends). g.C.WatchCrew.handed c.args.crew.now
            (window_jobs (ends_rule (setting_on k.0 seed) k.2) k.1 (i.0 ++ i.1 ∷ [])) c.window.new.crew) (sym c.in-Ok.ensures.frame)
            calls,
      );
}

pub returns-clause-windows : goal.returns-clause-windows
returns-clause-windows g c = λ seed h none.
    let v = c.loop-begin.invariant in
    let i = v.windows seed h none in
    let same = ap (λ (k : Session × ℕ × Ends). k.0.scenario.now.until) v.frame in
    let until = c.until-until.ensures.until in
    let no = c.loop-begin-test.false in
    let last = is_last g.M.Participant.plain c.loop-begin.ran.engine v.stands.under_way seed i.0 i.1 i.2
    c.loop-begin.begin v.next (omega (arith, same)) in (
      i.0,
      i.1,
      i.2,
      subst (λ (k : Session × ℕ × Ends). IsLast (setting_on k.0 seed) i.1) v.frame last,
      i.3,
      subst (λ (k : Session × ℕ × Ends). g.C.WatchCrew.handed c.args.crew.now
          (window_jobs (ends_rule (setting_on k.0 seed) k.2) k.1 i.0) c.loop-begin.crew) v.frame i.4,
    )
