use Rattle.std.proofs.Common.{◌∙◌, sym, ap}
use Rattle.srm_explain.specs.Findings.{allowed}
use Rattle.srm_explain.proofs.sentence.allowed.Goals as goal

pub returns-in_ok-allowed-in-Whole : goal.returns-in_ok-allowed-in-Whole
returns-in_ok-allowed-in-Whole c = c.in_ok-allowed-in-Whole.ensures.ok ∙ ap allowed (sym c.in-Whole.is)

pub returns-in_ok-allowed-in-Numbers : goal.returns-in_ok-allowed-in-Numbers
returns-in_ok-allowed-in-Numbers c = c.in_ok-allowed-in-Numbers.ensures.ok ∙ ap allowed (sym c.in-Numbers.is)

pub returns-in_ok-allowed-in-Each : goal.returns-in_ok-allowed-in-Each
returns-in_ok-allowed-in-Each c = c.in_ok-allowed-in-Each.ensures.ok ∙ ap allowed (sym c.in-Each.is)

pub returns-in_ok-allowed-in-Elements : goal.returns-in_ok-allowed-in-Elements
returns-in_ok-allowed-in-Elements c = c.in_ok-allowed-in-Elements.ensures.ok ∙ ap allowed (sym c.in-Elements.is)

pub returns-in_ok-allowed-in-Repeated : goal.returns-in_ok-allowed-in-Repeated
returns-in_ok-allowed-in-Repeated c = c.in_ok-allowed-in-Repeated.ensures.ok ∙ ap allowed (sym c.in-Repeated.is)
