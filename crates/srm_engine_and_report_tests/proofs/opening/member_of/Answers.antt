use Rattle.std.proofs.Common.{◌∙◌, ap}
use denote.Param.Object.{read_made}
use Rattle.srm_engine_and_report_tests.proofs.opening.member_of.Hides.{has-1-1, has-1-2, has-1-3, has-1-4}
use Rattle.srm_engine_and_report_tests.proofs.opening.member_of.Goals as goal

pub returns-in_ok-new-in-Sender : goal.returns-in_ok-new-in-Sender
returns-in_ok-new-in-Sender g c =
    read_made g.dyn-1.0 _ _ ((has-1-1 _ g.dyn-1-has).same _) _ (λ j. j.1.plain) _ _ _ c.into_dyn_box.ensures.1
    ∙ ap (λ x. x.inner) c.in_ok-new-in-Sender.ensures.ok ∙ c.in_ok-over-in-Sender.ensures.member ∙ c.in-Ok.ensures

pub returns-in_ok-new-in-Receiver : goal.returns-in_ok-new-in-Receiver
returns-in_ok-new-in-Receiver g c =
    read_made g.dyn-1.0 _ _ ((has-1-2 _ g.dyn-1-has).same _) _ (λ j. j.1.plain) _ _ _ c.into_dyn_box-in_ok-new-in-Receiver.ensures.1
    ∙ ap (λ x. x.inner) c.in_ok-new-in-Receiver.ensures.ok ∙ c.in_ok-over-in-Receiver.ensures.member ∙ c.in-Ok-new.ensures

pub returns-in_ok-new-in-Late : goal.returns-in_ok-new-in-Late
returns-in_ok-new-in-Late g c =
    read_made g.dyn-1.0 _ _ ((has-1-3 _ g.dyn-1-has).same _) _ (λ j. j.1.plain) _ _ _ c.into_dyn_box-in_ok-new-in-Late.ensures.1
    ∙ ap (λ x. x.inner) c.in_ok-new-in-Late.ensures.ok ∙ c.in_ok-over-in-Late.ensures.member ∙ c.in-Ok-new-2.ensures

pub returns-in_ok-new-in-Listener : goal.returns-in_ok-new-in-Listener
returns-in_ok-new-in-Listener g c =
    read_made g.dyn-1.0 _ _ ((has-1-4 _ g.dyn-1-has).same _) _ (λ j. j.1.plain) _ _ _ c.into_dyn_box-in_ok-new-in-Listener.ensures.1
    ∙ ap (λ x. x.inner) c.in_ok-new-in-Listener.ensures.ok ∙ c.in_ok-over-in-Listener.ensures.member ∙ c.in-Ok-new-3.ensures
