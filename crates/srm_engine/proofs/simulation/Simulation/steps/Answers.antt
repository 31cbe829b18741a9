use Rattle.std.proofs.Common.{◌≡◌, ◌<◌, ◌^◌, List, [], ◌∷◌, ◌++◌, inl, inr, refl, sym, ◌∙◌, ap, subst, append-nil, append_assoc, length}
use Rattle.std.proofs.Common.{length-append, arith}
use Rattle.std.proofs.lemmas.Result.{err_from_is_err_and}
use Rattle.srm_member.specs.declared.row.Row.{Row}
use Rattle.srm_cell.specs.Setting.{Setting}
use Rattle.srm_model.specs.World.{step, IsReached}
use Rattle.srm_engine.specs.Engines.{setting_in, MayRefuseStep}
use Rattle.srm_engine.specs.Starts.{setting_on}
use Rattle.srm_engine.proofs.StreamLemmas.{countable, not_stepped, stepped_from}
use Rattle.srm_engine.proofs.Stepping.{reached_more}
use Rattle.srm_engine.proofs.simulation.Simulation.steps.Goals as goal

pub loop-alloc-init : goal.loop-alloc-init
loop-alloc-init g c = (
  refl,
  λ seed w r h. (w, r, sym (append-nil w.trace) ∙ ap (λ (l : List Row). w.trace ++ l) (sym c.new-rows.ensures.items), h, inl refl),
  (let none = ap length c.new-rows.ensures.items in omega arith),
)

pub step-requires : goal.step-requires
step-requires g c =
    let k = c.requires.known in
    let is = c.loop-alloc.invariant.0 in
    let i = c.loop-alloc.invariant.1 k.0 k.1 k.2 k.3 in
    let back : setting_in c.loop-alloc.self k.0 ≡ setting_in c.args.self.now k.0 = ap (λ at. setting_on at k.0) is in
    let short : length c.loop-alloc.rows.items < 2 ^ 63 = omega arith in record {
      known = (
        k.0,
        i.0,
        subst (λ (s : Setting). IsReached s i.0) (sym back) i.1,
        i.3,
        countable k.1.trace c.loop-alloc.rows.items i.0.trace i.2 k.4 short,
      );
    }

pub loop-alloc-preserved : goal.loop-alloc-preserved
loop-alloc-preserved g c =
    let is = c.loop-alloc.invariant.0 in
    let same = c.step.ensures.session in
    let put = rw c.in-Ok-true.field-0-test at c.in-Ok-true.ensures.step in
    let more = c.make_room.ensures ∙ put.2 in (
      same ∙ is,
      λ seed w r h.
          let s = setting_in c.args.self.now seed in
          let i = c.loop-alloc.invariant.1 seed w r h in
          let t = put.1 seed i.0 i.3 in
          let here : step (setting_in c.loop-alloc.self seed) i.0 ≡ step s i.0 =
          ap (λ at. step (setting_on at seed) i.0) is in (
            t.0,
            reached_more s i.0 t.0 i.1 (sym here ∙ t.1),
            t.2 ∙ ap (λ (l : List Row). l ++ put.0 ∷ []) i.2 ∙
                append_assoc w.trace c.loop-alloc.rows.items (put.0 ∷ []) ∙ ap (λ (l : List Row). w.trace ++ l) (sym more),
            t.3,
            inr (stepped_from s w i.0 t.0 (sym here ∙ t.1) i.4),
          ),
      (let many = ap length more ∙ length-append c.loop-alloc.rows.items (put.0 ∷ []) in omega arith),
    )

pub returns-in-Err-clause-steps : goal.returns-in-Err-clause-steps
returns-in-Err-clause-steps g c = λ seed w r h.
    let s = setting_in c.args.self.now seed in
    let is = c.loop-alloc.invariant.0 in
    let i = c.loop-alloc.invariant.1 seed w r h in
    let here : step (setting_in c.loop-alloc.self seed) i.0 ≡ step s i.0 = ap (λ at. step (setting_on at seed) i.0) is in
    let few : length c.loop-alloc.rows.items < c.args.most = omega arith in
    not_stepped c.args.most s w i.0 c.loop-alloc.rows.items c.in-Err.fault i.1 i.2 few i.4
    (subst (λ o. MayRefuseStep o c.in-Err.fault) here (c.in-Err.ensures.step seed i.0 i.3))

pub returns-in-Ok-false-clause-steps : goal.returns-in-Ok-false-clause-steps
returns-in-Ok-false-clause-steps g c = λ seed w r h.
    let s = setting_in c.args.self.now seed in
    let is = c.loop-alloc.invariant.0 in
    let i = c.loop-alloc.invariant.1 seed w r h in
    let put = rw c.in-Ok-false.field-0-test at c.in-Ok-false.ensures.step in
    let t = put.0 seed i.0 i.3 in
    let here : step (setting_in c.loop-alloc.self seed) i.0 ≡ step s i.0 = ap (λ at. step (setting_on at seed) i.0) is in
    (i.0, i.1, i.2 ∙ ap (λ (l : List Row). w.trace ++ l) (sym put.1), t.1, λ _. sym here ∙ t.0)

pub returns-in-Ok-false-clause-few : goal.returns-in-Ok-false-clause-few
returns-in-Ok-false-clause-few g c =
    let put = rw c.in-Ok-false.field-0-test at c.in-Ok-false.ensures.step in
    let same = ap length put.1 in
    let few = c.loop-alloc.invariant.2 in
    omega arith

pub loop-alloc-smaller : goal.loop-alloc-smaller
loop-alloc-smaller g c =
    let put = rw c.in-Ok-true.field-0-test at c.in-Ok-true.ensures.step in
    let more = ap length (c.make_room.ensures ∙ put.2) ∙ length-append c.loop-alloc.rows.items (put.0 ∷ []) in
    omega arith

pub returns-clause-steps : goal.returns-clause-steps
returns-clause-steps g c = λ seed w r h.
    let i = c.loop-alloc.invariant.1 seed w r h in
    (i.0, i.1, i.2, i.3, λ lt. absurd (omega (arith, lt)))

pub returns-in_err-make_room-in-Ok-true-clause-steps : goal.returns-in_err-make_room-in-Ok-true-clause-steps
returns-in_err-make_room-in-Ok-true-clause-steps g c =
    let told_err = err_from_is_err_and c.from_residual.result c.from_residual.ensures.1 in
    let put = rw c.in-Ok-true.field-0-test at c.in-Ok-true.ensures.step in
    rw (told_err.1, told_err.2) (λ seed w r h.
    let s = setting_in c.args.self.now seed in
    let is = c.loop-alloc.invariant.0 in
    let i = c.loop-alloc.invariant.1 seed w r h in
    let t = put.1 seed i.0 i.3 in
    let here : step (setting_in c.loop-alloc.self seed) i.0 ≡ step s i.0 = ap (λ at. step (setting_on at seed) i.0) is in
    inl (stepped_from s w i.0 t.0 (sym here ∙ t.1) i.4))
