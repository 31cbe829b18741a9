use Rattle.std.proofs.Common.{◌∙◌, ap, map, [], Some, None, refl}
use Rattle.std.proofs.lemmas.Result.{IfOk-weaker}
use Rattle.srm_net.specs.declared.packet.Body.TheVariants.{Session}
use Rattle.srm_member.specs.declared.told.Told.TheVariants.{Sent}
use Rattle.srm_member.specs.Fit.{Gives, heard_of}
use Rattle.srm_member.specs.React.{send_body, session_of}
use Rattle.srm_member.specs.Record.{MemberState}
use Rattle.srm_member.proofs.member_state.MemberState.report.Goals as goal

pub returns : goal.returns
returns c =
    let m = c.args.self.now in
    let heard = c.in_ok-heard.ensures ∙ ap (λ (k : MemberState). map (λ e. heard_of e.0 e.1) k.progress) c.self.view_is in
    IfOk-weaker c.sent.result _ (λ a. Gives a m (send_body m (session_of m)))
    (λ a is. (is ∙ (λ i. record { told = Sent; lost = []; body = Some (Session (heard i)); adapted = None }), refl)) c.sent.ensures
