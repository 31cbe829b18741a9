use Rattle.std.proofs.Common.{rules, ◌≡◌, ◌∙◌, length, map, ap, refl, arith}
use denote.Param.Object.{read_made}
use Rattle.srm_member.specs.Record.{Record}
use Rattle.srm_engine.proofs.Openings.{opening-push, records_from}
use Rattle.srm_program.proofs.members.run_members.OwnLists.{own-1, at-1-1, at-1-2, at-1-3, at-1-4}
use Rattle.srm_program.proofs.members.run_members.Goals as goal
use Rattle.srm_program.proofs.members.run_members.Goals.{in-Sender+in_ok-new-in-Sender+in_ok-new-in-Sender-2}
use Rattle.srm_program.proofs.members.run_members.Goals.{in-Receiver+in_ok-new-in-Receiver+in_ok-new-in-Receiver-2}
use Rattle.srm_program.proofs.members.run_members.Goals.{in-Late+in_ok-new-in-Late+in_ok-new-in-Late-2}
use Rattle.srm_program.proofs.members.run_members.Goals.{in-Listener+in_ok-new-in-Listener+in_ok-new-in-Listener-2}

pub returns-in_err-push-clause-report : goal.returns-in_err-push-clause-report
returns-in_err-push-clause-report g c = search rules

pub loop-m-preserved : goal.loop-m-preserved
loop-m-preserved g c =
    ap (map (λ b. (own-1.entry b.vtable).1.plain b.value)) c.in_ok-push.ensures.items
    ∙ opening-push (λ b. (own-1.entry b.vtable).1.plain b.value) c.args.session.scenario.now c.args.seed c.loop-m.m
    c.loop-m.members.items c.match-role.member c.loop-m.invariant
    (elim c.match-role.branch [
      | in-Sender+in_ok-new-in-Sender+in_ok-new-in-Sender-2 w ↦
          ap (λ b. (own-1.entry b.vtable).1.plain b.value) w.member-is
          ∙ read_made own-1 (own-1.entry at-1-1) at-1-1 refl Record (λ j. j.1.plain) _ _ _ w.into_dyn_box.ensures.1
          ∙ w.in_ok-new-in-Sender-2.ensures.ok ∙ w.in_ok-new-in-Sender.ensures
      | in-Receiver+in_ok-new-in-Receiver+in_ok-new-in-Receiver-2 w ↦
          ap (λ b. (own-1.entry b.vtable).1.plain b.value) w.member-is
          ∙ read_made own-1 (own-1.entry at-1-2) at-1-2 refl Record (λ j. j.1.plain) _ _ _
          w.into_dyn_box-in_ok-new-in-Receiver-2.ensures.1
          ∙ w.in_ok-new-in-Receiver-2.ensures.ok ∙ w.in_ok-new-in-Receiver.ensures
      | in-Late+in_ok-new-in-Late+in_ok-new-in-Late-2 w ↦
          ap (λ b. (own-1.entry b.vtable).1.plain b.value) w.member-is
          ∙ read_made own-1 (own-1.entry at-1-3) at-1-3 refl Record (λ j. j.1.plain) _ _ _
          w.into_dyn_box-in_ok-new-in-Late-2.ensures.1
          ∙ w.in_ok-new-in-Late-2.ensures.ok ∙ w.in_ok-new-in-Late.ensures
      | in-Listener+in_ok-new-in-Listener+in_ok-new-in-Listener-2 w ↦
          ap (λ b. (own-1.entry b.vtable).1.plain b.value) w.member-is
          ∙ read_made own-1 (own-1.entry at-1-4) at-1-4 refl Record (λ j. j.1.plain) _ _ _
          w.into_dyn_box-in_ok-new-in-Listener-2.ensures.1
          ∙ w.in_ok-new-in-Listener-2.ensures.ok ∙ w.in_ok-new-in-Listener.ensures
    ])

pub report-requires-clause-boxes : goal.report-requires-clause-boxes
report-requires-clause-boxes g c =
    let whole : c.loop-m.m ≡ length c.args.session.scenario.now.members = omega (arith, c.members-m-end.ensures) in
    (c.args.seed, c.loop-m.invariant ∙ ap (records_from c.args.session.scenario.now c.args.seed 0) whole)

pub returns-in-Ok-clause-refusals : goal.returns-in-Ok-clause-refusals
returns-in-Ok-clause-refusals g c =
    let whole : c.loop-m.m ≡ length c.args.session.scenario.now.members = omega (arith, c.members-m-end.ensures) in
    c.in-Ok.ensures.refusals c.args.seed
    (c.loop-m.invariant ∙ ap (records_from c.args.session.scenario.now c.args.seed 0) whole)
