use Rattle.std.proofs.Common.{◌∙◌, ap}
use Rattle.std.specs.Option.{unwrap_or}
use Rattle.std.proofs.lemmas.Option.{unwrap_or-slice_get}
use Rattle.srm_member.proofs.fixed.Fixed.hops_to.Goals as goal

pub returns-clause-value : goal.returns-clause-value
returns-clause-value c =
    c.from.ensures ∙ c.unwrap_or.ensures ∙ ap (λ o. unwrap_or o 0) c.get.ensures
    ∙ unwrap_or-slice_get c.args.self.now.hops c.args.who 0
