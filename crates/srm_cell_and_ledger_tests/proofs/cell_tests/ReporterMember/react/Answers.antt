use Rattle.std.proofs.Common.{◌≡◌, ◌∙◌, ℕ, Bool, false, [], Some, None, Ok, refl}
use Rattle.srm_net.specs.declared.packet.Body.TheVariants.{Session}
use Rattle.srm_member.specs.declared.cause.Cause.{Cause}
use Rattle.srm_member.specs.declared.cause.Cause.TheVariants.{Report}
use Rattle.srm_member.specs.declared.react.React.{React}
use Rattle.srm_member.specs.declared.told.Told.TheVariants.{Sent}
use Rattle.srm_member.specs.React.{react}
use Rattle.srm_member.specs.Reacts.{Reacts}
use Rattle.srm_cell.specs.Probes.{reporter_record}
use Rattle.srm_cell_and_ledger_tests.proofs.cell_tests.ReporterMember.react.Goals as goal

reports : (m at : ℕ) (gone : Bool) (cause : Cause) (a : React) → gone ≡ false → cause ≡ Report
    → a ≡ record { told = Sent; lost = []; body = Some (Session []); adapted = None }
    → Reacts (reporter_record m gone) at cause (Ok a) (reporter_record m false)
unfolding react
reports m at gone cause a g c is = rw (g, c, is) (refl, refl)

pub returns : goal.returns
returns c = reports c.args.self.now.number c.args._at c.args.self.now.gone c.args.cause.now c.in_ok-react.react
    c.in_ok-begin.ensures.here c.in-Report.is
    (c.in_ok-react.ensures ∙ (λ i. record { told = Sent; lost = []; body = Some (Session (c.new-heard.ensures i)); adapted = None }))
