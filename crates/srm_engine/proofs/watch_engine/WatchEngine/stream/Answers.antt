use Rattle.std.proofs.Common.{◌∙◌, ◌<◌, ℕ, List, sym, ◌++◌, ◌∷◌, [], add-zero, arith, ap, subst, refl}
use Rattle.srm_scenario.specs.declared.session.Session.{Session}
use Rattle.srm_member.specs.declared.row.Row.{Row}
use Rattle.srm_interfaces.specs.Watches.{MayLead}
use Rattle.srm_model.specs.World.{opening, IsReached, IsLast}
use Rattle.srm_model.specs.WindowChains.{window_jobs}
use Rattle.srm_model.proofs.WindowChain.{calls_follow}
use Rattle.srm_engine.specs.Starts.{setting_on}
use Rattle.srm_engine.specs.declared.ends.Ends.{Ends}
use Rattle.srm_engine.specs.declared.halt.Halt.TheVariants.{Sink}
use Rattle.srm_engine.specs.Ends.{ends_rule}
use Rattle.srm_engine.specs.Streams.{TellsHalt}
use Rattle.srm_engine.specs.Windowed.{MayCome}
use Rattle.srm_engine.specs.WindowEngines.{BeginsNext, ComesTo, frame_of, setting_by, rule_by}
use Rattle.srm_engine.proofs.KeptTurns.{kept_in_turn, kept_stopped}
use Rattle.srm_engine.proofs.Stepping.{opening_reached, opening_trace}
use Rattle.srm_engine.proofs.WindowLemmas.{reached, is_last}
use Rattle.srm_engine.proofs.watch_engine.WatchEngine.stream.Goals as goal

pub returns-in-Err-clause-windows : goal.returns-in-Err-clause-windows
returns-in-Err-clause-windows g c = λ seed h.
    let s = setting_by c.args.self.engine seed in (
      opening s,
      opening_reached s,
      subst (λ (l : List Row). g.S.RowSink.part c.args.sink.now l c.hand_none.new.sink) (sym (opening_trace s)) c.in-Err.ensures.rows,
    )

pub loop-begin-init : goal.loop-begin-init
loop-begin-init g c = record {
  lead = c.requires.lead;
  same = g.met.C.WatchCrew.same_self c.args.crew.now;
  stands = c.requires.stands;
  none = c.requires.none;
  frame = refl;
  next = c.begin-begin.ensures;
  device = c.in_default.ensures.same;
  live = c.in_default.ensures.stage;
  unfailed = c.in_default.ensures.failures ∙ add-zero _;
  windows = λ seed h.
      let s = setting_by c.args.self.engine seed in (
        [],
        opening s,
        h,
        subst (λ (l : List Row). g.S.RowSink.took c.args.sink.now l c.hand_none.new.sink) (sym (opening_trace s))
            c.in_default.ensures.rows,
        g.met.C.WatchCrew.handed_none c.args.crew.now,
      );
}

pub window-requires-clause-lead : goal.window-requires-clause-lead
window-requires-clause-lead g c =
    subst (λ (k : Session × ℕ × Ends). MayLead g.C.WatchCrew.ready g.C.WatchCrew.serves c.loop-begin.crew k.0)
    (sym c.loop-begin.invariant.frame) c.loop-begin.invariant.lead

pub window-requires-clause-early : goal.window-requires-clause-early
window-requires-clause-early g c =
    let same = ap (λ (k : Session × ℕ × Ends). k.0.scenario.now.until) c.loop-begin.invariant.frame in
    let until = c.until-until.ensures.until in
    let early : c.loop-begin.begin < c.until-until.result = c.loop-begin-test.true in
    omega (arith, same)

pub returns-in-Err-window-clause-lead : goal.returns-in-Err-window-clause-lead
returns-in-Err-window-clause-lead g c =
    subst (λ (k : Session × ℕ × Ends). MayLead g.C.WatchCrew.ready g.C.WatchCrew.serves c.window.new.crew k.0)
    c.loop-begin.invariant.frame c.in-Err-window.ensures.lead

pub returns-in-Err-window-clause-windows : goal.returns-in-Err-window-clause-windows
returns-in-Err-window-clause-windows g c = λ seed h.
    let v = c.loop-begin.invariant in
    let i = v.windows seed h in
    let x = c.in-Err-window.fault in (
      i.1,
      subst (λ (k : Session × ℕ × Ends). IsReached (setting_on k.0 seed) i.1) v.frame
          (reached g.M.Participant.plain c.loop-begin.ran.engine v.stands.under_way seed i.0 i.1 i.2),
      i.3,
      subst (λ (k : Session × ℕ × Ends). MayCome (setting_on k.0 seed) (ends_rule (setting_on k.0 seed) k.2) k.1
          i.1 x) v.frame (i.0, i.2.windows, c.in-Err-window.ensures.window seed i.0 i.1 i.2),
    )

pub returns-in-Err-handed_on-clause-device : goal.returns-in-Err-handed_on-clause-device
returns-in-Err-handed_on-clause-device g c = g.met.S.RowSink.same_more c.args.sink.now c.loop-begin.sink c.handed_on.new.sink
    c.loop-begin.invariant.device c.in-Err-handed_on.ensures.device

pub returns-in-Err-handed_on-clause-lead : goal.returns-in-Err-handed_on-clause-lead
returns-in-Err-handed_on-clause-lead g c =
    subst (λ (k : Session × ℕ × Ends). MayLead g.C.WatchCrew.ready g.C.WatchCrew.serves c.window.new.crew k.0)
    c.loop-begin.invariant.frame c.in-Ok.ensures.lead

pub returns-in-Err-handed_on-clause-windows : goal.returns-in-Err-handed_on-clause-windows
returns-in-Err-handed_on-clause-windows g c = λ seed h.
    let f = g.M.Participant.plain in
    let keeps = g.W.Watch.keeps c.args.watch in
    let closes = g.W.Watch.closes c.args.watch in
    let v = c.loop-begin.invariant in
    let i = v.windows seed h in
    let e = c.loop-begin.ran.engine in
    let ended = c.in-Ok.ended in
    let told = (c.in-Ok.ensures.window seed i.0 i.1 i.2).0 in
    let u = told.0 in
    let rows = told.2.0 in
    let turn = c.requires.keeps ended.kept.items rows
    (kept_in_turn f keeps closes ended c.in-Ok.ensures.stands seed (i.0 ++ i.1 ∷ []) u told.1 i.1.trace rows told.2.1 (told.2.3 [] v.none))
    in
    subst (λ (k : Session × ℕ × Ends). TellsHalt g.S.RowSink.took g.S.RowSink.part
    (MayCome (setting_on k.0 seed) (ends_rule (setting_on k.0 seed) k.2) k.1) (setting_on k.0 seed)
    c.args.sink.now (Sink c.in-Err-handed_on.fault) c.handed_on.new.sink) v.frame
    (kept_stopped g.S.RowSink.took g.S.RowSink.part g.met.S.RowSink.part_more (setting_by e seed)
    (MayCome (setting_by e seed) (rule_by e seed) e.groups.cut) rows c.args.sink.now c.loop-begin.sink c.handed_on.new.sink i.1 u i.3
    (subst (λ (k : Session × ℕ × Ends). IsReached (setting_on k.0 seed) u) c.in-Ok.ensures.frame
    (reached f ended.engine c.in-Ok.ensures.stands.under_way seed (i.0 ++ i.1 ∷ []) u told.1))
    told.2.1 c.in-Err-handed_on.fault (c.in-Err-handed_on.ensures.rows rows turn))

pub loop-begin-smaller : goal.loop-begin-smaller
loop-begin-smaller g c =
    let more = c.in-Ok.ensures.later c.begin-begin-in-loop-begin.result
    (subst (λ e. BeginsNext g.M.Participant.plain e c.begin-begin-in-loop-begin.result)
    c.in-Ok-handed_on.ensures.engine c.begin-begin-in-loop-begin.ensures) in
    let early : c.loop-begin.begin < c.until-until.result = c.loop-begin-test.true in
    omega arith

pub loop-begin-preserved : goal.loop-begin-preserved
loop-begin-preserved g c =
    let f = g.M.Participant.plain in
    let keeps = g.W.Watch.keeps c.args.watch in
    let closes = g.W.Watch.closes c.args.watch in
    let v = c.loop-begin.invariant in
    let ended = c.in-Ok.ended in
    let done = c.in-Ok.ensures in
    let handed = c.in-Ok-handed_on.ensures in
    let same = handed.engine in
    let frame = ap frame_of same ∙ done.frame in record {
      lead = subst (λ (k : Session × ℕ × Ends). MayLead g.C.WatchCrew.ready g.C.WatchCrew.serves c.window.new.crew k.0)
          v.frame done.lead;
      same = g.met.C.WatchCrew.same_more c.args.crew.now c.loop-begin.crew c.window.new.crew v.same done.same;
      stands = handed.stands;
      none = handed.none;
      frame = frame ∙ v.frame;
      next = c.begin-begin-in-loop-begin.ensures;
      device = g.met.S.RowSink.same_more c.args.sink.now c.loop-begin.sink c.handed_on.new.sink v.device handed.device;
      live = handed.stage;
      unfailed = handed.failures ∙ add-zero _ ∙ v.unfailed;
      windows = λ seed h.
          let i = v.windows seed h in
          let e = c.loop-begin.ran.engine in
          let both = done.window seed i.0 i.1 i.2 in
          let told = both.0 in
          let rows = told.2.0 in
          let turn = c.requires.keeps ended.kept.items rows
          (kept_in_turn f keeps closes ended done.stands seed (i.0 ++ i.1 ∷ []) told.0 told.1 i.1.trace rows told.2.1
          (told.2.3 [] v.none)) in
          let rule = rule_by e seed in
          let calls = subst (λ l. g.C.WatchCrew.handed c.args.crew.now l c.window.new.crew)
          (sym ((calls_follow rule e.groups.cut).1 i.0 i.1))
          (g.met.C.WatchCrew.handed_more _ _ _ _ _ i.4 both.1) in (
            i.0 ++ i.1 ∷ [],
            told.0,
            subst (λ n. ComesTo f seed n (i.0 ++ i.1 ∷ []) told.0) (sym same) told.1,
            subst (λ (l : List Row). g.S.RowSink.took c.args.sink.now l c.handed_on.new.sink) (sym told.2.1)
                (g.met.S.RowSink.took_more c.args.sink.now c.loop-begin.sink c.handed_on.new.sink i.1.trace rows i.3
                (handed.rows rows turn)),
            subst (λ (k : Session × ℕ × Ends). g.C.WatchCrew.handed c.args.crew.now
                (window_jobs (ends_rule (setting_on k.0 seed) k.2) k.1 (i.0 ++ i.1 ∷ [])) c.window.new.crew) (sym frame)
                calls,
          );
    }

pub returns-clause-windows : goal.returns-clause-windows
returns-clause-windows g c = λ seed h.
    let v = c.loop-begin.invariant in
    let i = v.windows seed h in
    let same = ap (λ (k : Session × ℕ × Ends). k.0.scenario.now.until) v.frame in
    let until = c.until-until.ensures.until in
    let no = c.loop-begin-test.false in
    let last = is_last g.M.Participant.plain c.loop-begin.ran.engine v.stands.under_way seed i.0 i.1 i.2
    c.loop-begin.begin v.next (omega (arith, same)) in (
      i.0,
      i.1,
      i.2,
      subst (λ (k : Session × ℕ × Ends). IsLast (setting_on k.0 seed) i.1) v.frame last,
      i.3,
      subst (λ (k : Session × ℕ × Ends). g.C.WatchCrew.handed c.args.crew.now
          (window_jobs (ends_rule (setting_on k.0 seed) k.2) k.1 i.0) c.loop-begin.crew) v.frame i.4,
    )

pub returns-in-Err-clause-same : goal.returns-in-Err-clause-same
returns-in-Err-clause-same g c = g.met.C.WatchCrew.same_self c.args.crew.now

pub returns-in-Err-window-clause-same : goal.returns-in-Err-window-clause-same
returns-in-Err-window-clause-same g c = g.met.C.WatchCrew.same_more c.args.crew.now c.loop-begin.crew c.window.new.crew
    c.loop-begin.invariant.same c.in-Err-window.ensures.same

pub returns-in-Err-handed_on-clause-same : goal.returns-in-Err-handed_on-clause-same
returns-in-Err-handed_on-clause-same g c = g.met.C.WatchCrew.same_more c.args.crew.now c.loop-begin.crew c.window.new.crew
    c.loop-begin.invariant.same c.in-Ok.ensures.same
