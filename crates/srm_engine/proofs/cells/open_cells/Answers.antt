use Rattle.std.proofs.Common.{inl, inr, sym, ◌∙◌, ap, subst, map, arith}
use Rattle.std.specs.Vec.Iter.{into_iter_items}
use Rattle.std.specs.Iterator.Adapters.{zip_first, zip_second}
use Rattle.srm_engine.proofs.Opened.{OpenSoFar, open_none, open_next, open_all}
use Rattle.srm_engine.proofs.SeenLemmas.{no_items}
use Rattle.srm_engine.proofs.cells.open_cells.Goals as goal

pub loop-member-init : goal.loop-member-init
loop-member-init g c =
    let plain = g.M.Participant.plain in
    let same = c.into_iter-member-iterator.ensures.into_iter_gives in
    let first = ap (λ it. into_iter_items (zip_first it)) same ∙ ap into_iter_items c.zip-member-items.ensures.first
    ∙ c.into_iter.ensures.rest in
    let second = ap (λ it. into_iter_items (zip_second it)) same ∙ c.zip-member-items.ensures.second.0 in (
      (tt, tt),
      tt,
      λ seed h.
          subst (λ cs. OpenSoFar plain c.args.scenario.now seed (into_iter_items (zip_first c.into_iter-member-iterator.result))
          (into_iter_items (zip_second c.into_iter-member-iterator.result)) cs) (sym c.in_ok-cells.ensures.items)
          (open_none plain c.args.scenario.now seed _ _ (ap (map plain) first ∙ h)
          (ap (map (λ marks. marks.items)) second ∙ c.in-Ok.ensures.scripts)),
    )

pub loop-member-preserved : goal.loop-member-preserved
loop-member-preserved g c = (
  (tt, tt),
  tt,
  λ seed h.
      subst (λ cs. OpenSoFar g.M.Participant.plain c.args.scenario.now seed (into_iter_items (zip_first c.next.new.self))
      (into_iter_items (zip_second c.next.new.self)) cs) (sym c.in_ok-push.ensures.items)
      (open_next g.M.Participant.plain c.args.scenario.now seed c.in-Some.member _ _ c.in-Some.script _ _ c.loop-member.cells.items
      c.new.result c.in-Some.ensures.steps.0.0 c.in-Some.ensures.steps.1.0 (c.loop-member.invariant.2 seed h) c.new.ensures),
)

pub returns-clause-few : goal.returns-clause-few
returns-clause-few g c =
    let o = c.loop-member.invariant.2 c.requires.0 c.requires.1 in
    let all = o.all in
    omega (arith, c.members.ensures, all)

pub returns-clause-opened : goal.returns-clause-opened
returns-clause-opened g c = λ seed h.
    let it = c.loop-member.member-iterator in
    open_all g.M.Participant.plain c.args.scenario.now seed (into_iter_items (zip_first it)) (into_iter_items (zip_second it))
    c.loop-member.cells.items (c.loop-member.invariant.2 seed h)
    (elim c.in-None.ensures.steps [
      | inl w ↦ inl (no_items (zip_first it) w.1.0)
      | inr w ↦ inr (no_items (zip_second it) w.1.0)
    ])
