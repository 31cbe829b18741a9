use Rattle.std.proofs.Common.{sym, ◌∙◌}
use Rattle.srm_member.proofs.Indexes.{found-step, without-none}
use Rattle.srm_member.proofs.pending.Pending.forget_missing.Goals as goal

pub invariant_of-self : goal.invariant_of-self
invariant_of-self c =
    rw c.take.ensures.rest (found-step c.args.name c.in-Some.before c.self.inside.index c.remove.new.self c.self.inside.missing
    c.self.inside.repairs c.self.invariant (sym c.take.ensures.value ∙ c.in-Some.is) (rw c.request_due.ensures at c.remove.ensures))

pub invariant_of-self-in_default : goal.invariant_of-self-in_default
invariant_of-self-in_default c =
    let none = without-none c.args.name c.self.inside.missing (sym c.take.ensures.value ∙ c.in_default.is) in
    rw (c.take.ensures.rest, none) c.self.invariant
