use Rattle.std.proofs.Common.{◌≡◌, ◌∙◌, length, map, ap, refl, arith}
use Rattle.std.specs.Result.{is_ok}
use denote.Param.Object.{read_made}
use Rattle.srm_member.specs.Record.{Record}
use Rattle.srm_cell.specs.Setting.{setting_of}
use Rattle.srm_model.specs.World.{IsOutcome}
use Rattle.srm_engine.specs.declared.outcome.Outcome.{Outcome}
use Rattle.srm_engine.specs.Outcomes.{MayRefuseRun}
use Rattle.srm_engine.proofs.Openings.{opening-push, records_from}
use Rattle.srm_examples.proofs.Kept.{kept, pushed}
use Rattle.srm_examples.proofs.trace_of.outcome_of.OwnLists.{own-1, at-1-1, at-1-2, at-1-3, at-1-4}
use Rattle.srm_examples.proofs.trace_of.outcome_of.Goals as goal
use Rattle.srm_examples.proofs.trace_of.outcome_of.Goals.{in-Sender+in_ok-ok-in-Sender+in_ok-ok-in-Sender-2}
use Rattle.srm_examples.proofs.trace_of.outcome_of.Goals.{in-Receiver+in_ok-ok-in-Receiver+in_ok-ok-in-Receiver-2}
use Rattle.srm_examples.proofs.trace_of.outcome_of.Goals.{in-Late+in_ok-ok-in-Late+in_ok-ok-in-Late-2}
use Rattle.srm_examples.proofs.trace_of.outcome_of.Goals.{in-Listener+in_ok-ok-in-Listener+in_ok-ok-in-Listener-2}

pub loop-m-preserved : goal.loop-m-preserved
loop-m-preserved c =
    ap (map (λ b. (own-1.entry b.vtable).1.plain b.value))
    (pushed (is_ok c.push.result) _ _ _ c.push.ensures.items c.in_ok-ok.ensures.variant)
    ∙ opening-push (λ b. (own-1.entry b.vtable).1.plain b.value) c.args.scenario.now c.args.seed c.loop-m.m
    c.loop-m.members.items c.match-role.member c.loop-m.invariant
    (elim c.match-role.branch [
      | in-Sender+in_ok-ok-in-Sender+in_ok-ok-in-Sender-2 w ↦
          ap (λ b. (own-1.entry b.vtable).1.plain b.value) w.member-is
          ∙ read_made own-1 (own-1.entry at-1-1) at-1-1 refl Record (λ j. j.1.plain) _ _ _ w.into_dyn_box.ensures.1
          ∙ kept _ _ _ _ w.in_ok-ok-in-Sender-2.ensures.value w.new-in-Sender.ensures.ok
          ∙ kept _ _ _ _ w.in_ok-ok-in-Sender.ensures.value w.new.ensures
      | in-Receiver+in_ok-ok-in-Receiver+in_ok-ok-in-Receiver-2 w ↦
          ap (λ b. (own-1.entry b.vtable).1.plain b.value) w.member-is
          ∙ read_made own-1 (own-1.entry at-1-2) at-1-2 refl Record (λ j. j.1.plain) _ _ _
          w.into_dyn_box-in_ok-ok-in-Receiver-2.ensures.1
          ∙ kept _ _ _ _ w.in_ok-ok-in-Receiver-2.ensures.value w.new-in-Receiver-2.ensures.ok
          ∙ kept _ _ _ _ w.in_ok-ok-in-Receiver.ensures.value w.new-in-Receiver.ensures
      | in-Late+in_ok-ok-in-Late+in_ok-ok-in-Late-2 w ↦
          ap (λ b. (own-1.entry b.vtable).1.plain b.value) w.member-is
          ∙ read_made own-1 (own-1.entry at-1-3) at-1-3 refl Record (λ j. j.1.plain) _ _ _
          w.into_dyn_box-in_ok-ok-in-Late-2.ensures.1
          ∙ kept _ _ _ _ w.in_ok-ok-in-Late-2.ensures.value w.new-in-Late-2.ensures.ok
          ∙ kept _ _ _ _ w.in_ok-ok-in-Late.ensures.value w.new-in-Late.ensures
      | in-Listener+in_ok-ok-in-Listener+in_ok-ok-in-Listener-2 w ↦
          ap (λ b. (own-1.entry b.vtable).1.plain b.value) w.member-is
          ∙ read_made own-1 (own-1.entry at-1-4) at-1-4 refl Record (λ j. j.1.plain) _ _ _
          w.into_dyn_box-in_ok-ok-in-Listener-2.ensures.1
          ∙ kept _ _ _ _ w.in_ok-ok-in-Listener-2.ensures.value w.new-in-Listener-2.ensures.ok
          ∙ kept _ _ _ _ w.in_ok-ok-in-Listener.ensures.value w.new-in-Listener.ensures
    ])

pub step_run-requires-clause-boxes : goal.step_run-requires-clause-boxes
step_run-requires-clause-boxes c =
    let whole : c.loop-m.m ≡ length c.args.scenario.now.members = omega (arith, c.members-m-end.ensures) in
    (c.args.seed, c.loop-m.invariant ∙ ap (records_from c.args.scenario.now c.args.seed 0) whole)

pub returns : goal.returns
returns c =
    let whole : c.loop-m.m ≡ length c.args.scenario.now.members = omega (arith, c.members-m-end.ensures) in
    let s = setting_of c.args.scenario.now c.args.seed in
    kept (λ (v : Outcome). IsOutcome s v.trace.items v.exits.items v.totals) (MayRefuseRun s) c.step_run.result c.ok-2.result
    c.ok-2.ensures.value
    (c.step_run.ensures c.args.seed
    (c.loop-m.invariant ∙ ap (records_from c.args.scenario.now c.args.seed 0) whole))
