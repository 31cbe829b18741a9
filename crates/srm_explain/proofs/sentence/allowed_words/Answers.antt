use Rattle.std.proofs.Common.{ap, sym}
use Rattle.srm_scenario.specs.declared.rule.ValueKind.TheVariants.{Word}
use Rattle.srm_explain.specs.Findings.{allowed}
use Rattle.srm_explain.proofs.sentence.allowed_words.Goals as goal

pub returns-in-Roles : goal.returns-in-Roles
returns-in-Roles c = ap (λ w. allowed (Word w)) (sym c.in-Roles.is)

pub returns-in-Topologies : goal.returns-in-Topologies
returns-in-Topologies c = ap (λ w. allowed (Word w)) (sym c.in-Topologies.is)

pub returns-in-TopologiesAndParents : goal.returns-in-TopologiesAndParents
returns-in-TopologiesAndParents c = ap (λ w. allowed (Word w)) (sym c.in-TopologiesAndParents.is)
