use Rattle.std.proofs.Common.{◌<◌, ◌++◌, ◌∷◌, [], length, ap, ◌∙◌, arith}
use Rattle.srm_member.specs.Record.{fixed_part}
use Rattle.srm_crew_tests.proofs.HandedLemmas.{new_known}
use Rattle.srm_crew_tests.proofs.crew_tests.handing.cell_of.Goals as goal

pub returns : goal.returns
returns g c =
    let own = (goal.Member-dyn g (c.args.member.vtable, c.args.member.value)).plain c.args.member.value in
    let number = c.number_of-number.ensures in
    let members = c.members-members.ensures.members in
    let below = c.if-number-members.false in
    let lt : (fixed_part own).member < length c.args.net.now.hosts = omega arith in
    new_known (λ b. (goal.Member-dyn g (b.vtable, b.value)).plain b.value)
    (length c.args.net.now.hosts) own c.args.script.items c.args.sent c.new.result c.push.new.self.items
    (c.in_ok-push.ensures.items ∙ ap (λ l. l ++ c.new.result ∷ []) c.new-cells.ensures.items) c.new.ensures lt
