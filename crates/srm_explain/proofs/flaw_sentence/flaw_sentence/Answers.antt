use Rattle.std.proofs.Common.{◌≡◌, IfOk, sym, subst, string_bytes}
use Rattle.srm_explain.specs.declared.flaw.Flaw.{Flaw}
use Rattle.srm_explain.specs.Flaws.{flaw_sentence}
use Rattle.srm_explain.proofs.flaw_sentence.flaw_sentence.Goals as goal

pub returns-in-NoParent : goal.returns-in-NoParent
returns-in-NoParent c =
    subst (λ (f : Flaw). IfOk c.format-in-NoParent.result (λ s. string_bytes s ≡ flaw_sentence f)) (sym c.in-NoParent.is)
    c.format-in-NoParent.ensures.ok

pub returns-in-NoEnd : goal.returns-in-NoEnd
returns-in-NoEnd c =
    subst (λ (f : Flaw). IfOk c.format.result (λ s. string_bytes s ≡ flaw_sentence f)) (sym c.in-NoEnd.is) c.format.ensures.ok
