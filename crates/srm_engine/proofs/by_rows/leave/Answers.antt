use Rattle.std.proofs.Common.{◌∙◌, inl, inr, ap, map}
use Rattle.std.specs.Global.{Vec}
use Rattle.std.specs.Vec.Iter.{into_iter_items}
use Rattle.std.specs.Iterator.Adapters.{zip_first, zip_second}
use Rattle.srm_interfaces.specs.Watches.{KeepClosed}
use Rattle.srm_engine.proofs.Leaving.{left_none, left_more, left_all, next_may}
use Rattle.srm_engine.proofs.SeenLemmas.{no_items}
use Rattle.srm_engine.proofs.by_rows.leave.Goals as goal

pub loop-own-init : goal.loop-own-init
loop-own-init g c =
    let same = c.into_iter-own-iterator.ensures.into_iter_gives in
    let first = ap (λ it. into_iter_items (zip_first it)) same ∙ ap into_iter_items c.zip-own-items.ensures.first
    ∙ c.into_iter.ensures.rest in
    let second = ap (λ it. into_iter_items (zip_second it)) same ∙ c.zip-own-items.ensures.second.0 in
    let takes = KeepClosed (g.W.Watch.keeps c.args.watch.now) (g.W.Watch.closes c.args.watch.now) in (
      (tt, tt),
      tt,
      rw (first, second, c.new-left.ensures.items)
          (left_none takes c.args.session.scenario.now c.args.session.net.now (map (λ
          (v : Vec _). v.items) c.args.kept.items) c.args.all.items c.requires.may),
    )

pub of-requires-clause-many : goal.of-requires-clause-many
of-requires-clause-many g c =
    (next_may (KeepClosed (g.W.Watch.keeps c.args.watch.now) (g.W.Watch.closes c.args.watch.now))
    c.args.session.scenario.now c.args.session.net.now _ _ c.in-Some.own.items _ c.in-Some.done _
    (ap (map (λ (v : Vec _). v.items)) c.in-Some.ensures.steps.0.0) c.in-Some.ensures.steps.1.0 c.loop-own.invariant.2.may).0

pub of-requires-clause-sent : goal.of-requires-clause-sent
of-requires-clause-sent g c =
    (next_may (KeepClosed (g.W.Watch.keeps c.args.watch.now) (g.W.Watch.closes c.args.watch.now))
    c.args.session.scenario.now c.args.session.net.now _ _ c.in-Some.own.items _ c.in-Some.done _
    (ap (map (λ (v : Vec _). v.items)) c.in-Some.ensures.steps.0.0) c.in-Some.ensures.steps.1.0 c.loop-own.invariant.2.may).1

pub loop-own-preserved : goal.loop-own-preserved
loop-own-preserved g c =
    let takes = KeepClosed (g.W.Watch.keeps c.args.watch.now) (g.W.Watch.closes c.args.watch.now) in (
      (tt, tt),
      tt,
      rw c.in_ok-push.ensures.items
          (left_more takes c.args.session.scenario.now c.args.session.net.now _ _ c.loop-own.left.items _ _ c.in-Some.own.items _
          c.in-Some.done _
          c.in_ok-one.one (ap (map (λ (v : Vec _). v.items)) c.in-Some.ensures.steps.0.0) c.in-Some.ensures.steps.1.0
          c.loop-own.invariant.2 c.in_ok-one.ensures),
    )

pub returns : goal.returns
returns g c =
    let it = c.loop-own.own-iterator in
    left_all (KeepClosed (g.W.Watch.keeps c.args.watch.now) (g.W.Watch.closes c.args.watch.now))
    c.args.session.scenario.now c.args.session.net.now _ _ c.loop-own.left.items _ _ c.loop-own.invariant.2
    (elim c.in-None.ensures.steps [
      | inl w ↦ inl (ap (map (λ (v : Vec _). v.items)) (no_items (zip_first it) w.1.0))
      | inr w ↦ inr (no_items (zip_second it) w.1.0)
    ])
