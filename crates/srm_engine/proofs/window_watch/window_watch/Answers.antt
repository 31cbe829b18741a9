use Rattle.std.proofs.Common.{◌∙◌, ℕ, length, refl, sym, ap, subst}
use Rattle.std.proofs.lemmas.Result.{err_from_is_err_and}
use Rattle.srm_scenario.specs.declared.session.Session.{Session}
use Rattle.srm_cell.specs.Crossings.{crossings}
use Rattle.srm_model.specs.World.{World, IsLast, exits_of}
use Rattle.srm_model.specs.WindowChains.{AreWindows, window_jobs}
use Rattle.srm_engine.specs.declared.ends.Ends.{Ends}
use Rattle.srm_engine.specs.Starts.{setting_on}
use Rattle.srm_interfaces.specs.Watches.{KeepMembers}
use Rattle.srm_engine.specs.Windowed.{MayCome, rule_of}
use Rattle.srm_engine.proofs.WatchWindows.{refused_so}
use Rattle.srm_engine.proofs.CellLists.{all_long}
use Rattle.srm_engine.proofs.WindowLemmas.{as_asked, members_are}
use Rattle.srm_engine.proofs.window_watch.window_watch.Goals as goal

pub returns-in_err-ran-clause-windows : goal.returns-in_err-ran-clause-windows
returns-in_err-ran-clause-windows g c = λ seed h.
    let s = setting_on c.args.start.session seed in
    let told = err_from_is_err_and c.from_residual-in_err-ran.result c.from_residual-in_err-ran.ensures.1 in
    let e = c.in_err-ran.field-0.0 in
    rw (told.1, told.2)
    (refused_so s (rule_of s c.args.start.session.scenario.now c.args.asked.width) c.args.asked.cut c.args.crew.now c.windows.new.crew e
    (as_asked (λ s rule cut. (w : World) × MayCome s rule cut w e) c.in_ok-engine.engine.engine c.args.start.session
    c.in_ok-cutting.cutting c.args.asked seed c.in_ok-engine.ensures.frame c.in_ok-cutting.ensures
    (c.in_err-ran.ensures.windows seed (c.in_ok-engine.ensures.opened seed h) c.in_ok-engine.ensures.none)))

pub returns-clause-kept : goal.returns-clause-kept
returns-clause-kept g c = λ seed h.
    let f = g.M.Participant.plain in
    let e = c.in_ok-ran.ran in
    let stands = c.in_ok-ran.ensures.stands in
    let same = c.in_ok-ran.ensures.frame ∙ c.in_ok-engine.ensures.frame in
    let t = c.in_ok-ran.ensures.windows seed (c.in_ok-engine.ensures.opened seed h) c.in_ok-engine.ensures.none in (
      ap length c.in_ok-kept.ensures ∙ all_long e.kept.items e.engine.groups.groups.items stands.each
          ∙ members_are f e.engine stands.under_way seed t.0 t.1 t.2
          ∙ ap (λ (k : Session × ℕ × Ends). length k.0.scenario.now.members) same,
      (
        t.1.trace,
        exits_of t.1,
        record {
          world = t.1;
          last = subst (λ (k : Session × ℕ × Ends). IsLast (setting_on k.0 seed) t.1) c.in_ok-engine.ensures.frame t.3;
          trace_is = refl;
          exits_are = refl;
          totals_are = c.into_totals.ensures seed t.0 t.1 t.2
              ∙ ap (λ (k : Session × ℕ × Ends). crossings (setting_on k.0 seed).traffic t.1.trace) same;
        },
        subst (λ l. KeepMembers (g.W.Watch.keeps c.args.watch) 0 l t.1.trace) (sym c.in_ok-kept.ensures) t.4,
      ),
    )

pub returns-clause-windows : goal.returns-clause-windows
returns-clause-windows g c = λ seed h.
    let t = c.in_ok-ran.ensures.windows seed (c.in_ok-engine.ensures.opened seed h) c.in_ok-engine.ensures.none in (
      t.0,
      t.1,
      as_asked (λ s rule cut. AreWindows s rule t.0 t.1) c.in_ok-ran.ran.engine c.args.start.session c.in_ok-cutting.cutting
          c.args.asked seed (c.in_ok-ran.ensures.frame ∙ c.in_ok-engine.ensures.frame) c.in_ok-cutting.ensures t.2.windows,
      as_asked (λ s rule cut. IsLast s t.1) c.in_ok-engine.engine.engine c.args.start.session c.in_ok-cutting.cutting
          c.args.asked seed c.in_ok-engine.ensures.frame c.in_ok-cutting.ensures t.3,
      as_asked (λ s rule cut. g.C.WatchCrew.handed c.args.crew.now (window_jobs rule cut t.0) c.windows.new.crew)
          c.in_ok-engine.engine.engine c.args.start.session c.in_ok-cutting.cutting c.args.asked seed c.in_ok-engine.ensures.frame
          c.in_ok-cutting.ensures t.5,
    )
