-- Calls of a listener.
use Rattle.std.proofs.Common.{◌≡◌, ℕ, Bool, true, false, List, [], None, Ok, refl, sym, ap, ◌∙◌, subst}
use Rattle.srm_net.specs.declared.packet.Name.{Name}
use Rattle.srm_member.specs.declared.cause.Cause.{Cause}
use Rattle.srm_member.specs.declared.told.Told.{Told}
use Rattle.srm_member.specs.declared.fixed.Fixed.{Fixed}
use Rattle.srm_member.specs.declared.react.React.{React}
use Rattle.srm_member.specs.Record.{MemberState, Record, Active}
use Rattle.srm_net.specs.Roles.{is_listener}
use Rattle.srm_member.specs.React.{quietly, react_listener}
use Rattle.srm_member.specs.Reacts.{Reacts}
use Rattle.srm_member.specs.Fit.{record_of}
use Rattle.srm_member.proofs.LawProofs.{as_listener}
use Rattle.srm_roles.specs.Opening.{listening}

pub listener_gives : (r : Record) (gone : Bool) (f : Fixed) (held held2 : List (Name × ℕ)) (at : ℕ) (cause : Cause) (told : Told)
    (a : React)
    → record_of gone (listening f held) ≡ r → gone ≡ false → is_listener f.role ≡ true
    → ((m : MemberState) → m.held ≡ held → react_listener m cause ≡ quietly (record m { held = held2 }) told [])
    → a ≡ record { told = told; lost = []; body = None; adapted = None } → Reacts r at cause (Ok a) (Active (listening f held2))
listener_gives r gone f held held2 at cause told a view on role gives is =
    let m = listening f held in
    let e = as_listener m at cause role ∙ gives m refl in
    subst (λ s. Reacts s at cause (Ok a) (Active (listening f held2))) (sym (ap (λ b. record_of b m) on) ∙ view)
    (is ∙ sym (ap (λ x. x.answer) e), sym (ap (λ x. Active x.state) e))
