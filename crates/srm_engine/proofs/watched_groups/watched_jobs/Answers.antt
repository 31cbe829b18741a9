use Rattle.std.proofs.Common.{◌++◌, ◌∷◌, [], ◌∙◌, ◌≡◌, arith, inl, inr, refl, sym, ap, length, append-nil}
use Rattle.std.specs.Vec.Iter.{into_iter_items}
use Rattle.std.specs.Iterator.Adapters.{zip_first, zip_second}
use Rattle.srm_engine.specs.WatchedGroups.{time_at, watched_with}
use Rattle.srm_engine.proofs.SeenLemmas.{no_items}
use Rattle.srm_engine.proofs.WatchedLemmas.{group_there, no_more_jobs, watched_push}
use Rattle.srm_engine.proofs.watched_groups.watched_jobs.Goals as goal

pub loop-cells-init : goal.loop-cells-init
loop-cells-init g c =
    let same = c.into_iter-cells-iterator.ensures.into_iter_gives in
    let first = ap (λ it. into_iter_items (zip_first it)) same ∙ ap into_iter_items c.zip-cells-items.ensures.first
    ∙ c.into_iter.ensures.rest in
    let second = ap (λ it. into_iter_items (zip_second it)) same ∙ c.zip-cells-items.ensures.second.0 in (
      (tt, tt),
      tt,
      rw (first, second, c.in_ok-jobs.ensures.items) refl,
    )

pub offset_bounds-soon-place : goal.offset_bounds-soon-place
offset_bounds-soon-place g c =
    let soon = time_at c.args.soon.now in
    let there = group_there soon c.args.till c.loop-cells.jobs.items
    (into_iter_items (zip_first c.loop-cells.cells-iterator)) c.args.groups.items
    (into_iter_items (zip_second c.loop-cells.cells-iterator)) c.args.kept.items c.in-Some.cells c.in-Some.own
    (into_iter_items (zip_first c.next.new.self)) (into_iter_items (zip_second c.next.new.self)) c.in-Some.ensures.steps.0.0
    c.in-Some.ensures.steps.1.0 c.loop-cells.invariant.2 in
    let at = c.len-place.ensures in
    let long = c.loop-cells.jobs.ok.0 in
    let ok = c.args.groups.ok in
    let small = c.args.groups.small in
    omega (arith, there, at, long, ok, small)

pub bounds-soon-place : goal.bounds-soon-place
bounds-soon-place g c =
    let soon = time_at c.args.soon.now in
    let js = c.loop-cells.jobs.items in
    let there = group_there soon c.args.till js (into_iter_items (zip_first c.loop-cells.cells-iterator))
    c.args.groups.items (into_iter_items (zip_second c.loop-cells.cells-iterator)) c.args.kept.items c.in-Some.cells c.in-Some.own
    (into_iter_items (zip_first c.next.new.self)) (into_iter_items (zip_second c.next.new.self)) c.in-Some.ensures.steps.0.0
    c.in-Some.ensures.steps.1.0 c.loop-cells.invariant.2 in
    let at = c.len-place.ensures in
    let long = c.loop-cells.jobs.ok.0 in
    let enough = c.requires in
    omega (arith, there, at, long, enough)

pub loop-cells-preserved : goal.loop-cells-preserved
loop-cells-preserved g c =
    let soon = time_at c.args.soon.now in
    let js = c.loop-cells.jobs.items in
    let t = c.args.till in
    let more = into_iter_items (zip_first c.next.new.self) in
    let others = into_iter_items (zip_second c.next.new.self) in (
      (tt, tt),
      tt,
      watched_push soon t js _ _ c.in-Some.cells c.in-Some.own more others (c.len-place.ensures ∙ c.loop-cells.jobs.ok.0)
          c.in_ok-push.ensures.items
          ∙ ap (λ gs. js ++ watched_with soon t (length js) gs (c.in-Some.own ∷ others)) (sym c.in-Some.ensures.steps.0.0)
          ∙ ap (λ ks. js ++ watched_with soon t (length js) (into_iter_items (zip_first c.loop-cells.cells-iterator)) ks)
          (sym c.in-Some.ensures.steps.1.0)
          ∙ c.loop-cells.invariant.2,
    )

pub returns : goal.returns
returns g c =
    let soon = time_at c.args.soon.now in
    let it = c.loop-cells.cells-iterator in
    let js = c.loop-cells.jobs.items in
    let t = c.args.till in
    let first = into_iter_items (zip_first it) in
    let second = into_iter_items (zip_second it) in
    let none : watched_with soon t (length js) first second ≡ [] = elim c.in-None.ensures.steps [
      | inl w ↦ ap (λ gs. watched_with soon t (length js) gs second) (no_items (zip_first it) w.1.0)
      | inr w ↦ no_more_jobs soon t (length js) first second (no_items (zip_second it) w.1.0)
    ] in
    sym (append-nil js) ∙ ap (λ l. js ++ l) (sym none) ∙ c.loop-cells.invariant.2
