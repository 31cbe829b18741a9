use Rattle.std.proofs.Common.{◌≡◌, ◌∙◌, ◌||◌, sym, ap, false}
use Rattle.srm_net.specs.DropRules.{is_out}
use Rattle.srm_net.specs.Losses.{is_lost}
use Rattle.srm_net.specs.Paths.{is_listed}
use Rattle.srm_net.proofs.DropLemmas.{nowhere_listed}
use Rattle.srm_net.proofs.drops.Drops.takes_out_of.Goals.{then-is_listed, else-is_listed}
use Rattle.srm_net.proofs.drops.Drops.takes_out_of.Goals as goal

pub returns-else-lists : goal.returns-else-lists
returns-else-lists c =
    let rules = c.args.self.now in
    let none : is_listed rules.listed c.args.id c.args.link ≡ false = elim c.if-is_listed.branch [
      | then-is_listed w ↦ sym w.lists.ensures ∙ sym w.value-is ∙ c.if-lists.false
      | else-is_listed w ↦ nowhere_listed rules.listed c.args.id c.args.link (sym c.requires ∙ w.if-is_listed.false)
    ] in
    c.takes_out_unlisted.ensures
    ∙ sym (ap (λ b. b || (is_out rules.outages c.args.link c.args.at
    || is_lost rules.losses rules.seed c.args.id c.args.link c.args.at)) none)
