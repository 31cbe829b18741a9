use Rattle.std.proofs.Common.{◌∙◌, sym, inl, inr}
use Rattle.srm_scenario.specs.Keys.{name_of}
use Rattle.srm_scenario.specs.Rules.{meets}
use Rattle.srm_scenario.proofs.Tables.{looked_up}
use Rattle.srm_scenario.proofs.table.is_met.Goals as goal

pub returns-in-Required : goal.returns-in-Required
returns-in-Required c =
    let found = looked_up c.get.result c.name.result.now (name_of c.args.rule.key) c.args.table.now.entries c.name.ensures
    c.get.ensures.value in
    let there = rw c.in-Some.is at found in
    elim c.in-Required.is [
      | inl e ↦ c.is_kind.ensures ∙ (λ i. meets (sym e i) c.args.rule.kind (there i))
      | inr e ↦ c.is_kind.ensures ∙ (λ i. meets (sym e i) c.args.rule.kind (there i))
    ]

pub returns-in-Refused : goal.returns-in-Refused
returns-in-Refused c =
    let found = looked_up c.get.result c.name.result.now (name_of c.args.rule.key) c.args.table.now.entries c.name.ensures
    c.get.ensures.value in
    let there = rw c.in-Some.is at found in
    λ i. meets (sym c.in-Refused.is i) c.args.rule.kind (there i)

pub returns-in-Required-need : goal.returns-in-Required-need
returns-in-Required-need c =
    let found = looked_up c.get.result c.name.result.now (name_of c.args.rule.key) c.args.table.now.entries c.name.ensures
    c.get.ensures.value in
    let there = rw c.in-None.is at found in
    λ i. meets (sym c.in-Required-need.is i) c.args.rule.kind (there i)

pub returns-in-Optional : goal.returns-in-Optional
returns-in-Optional c =
    let found = looked_up c.get.result c.name.result.now (name_of c.args.rule.key) c.args.table.now.entries c.name.ensures
    c.get.ensures.value in
    let there = rw c.in-None.is at found in
    elim c.in-Optional.is [
      | inl e ↦ λ i. meets (sym e i) c.args.rule.kind (there i)
      | inr e ↦ λ i. meets (sym e i) c.args.rule.kind (there i)
    ]
