use Rattle.std.proofs.Common.{◌≡◌, ◌∙◌, ℕ, List, IfOk, ap, subst, string_bytes}
use Rattle.srm_scenario.specs.declared.fault.Part.TheVariants as part
use Rattle.srm_scenario.specs.declared.form.Form.{Form}
use Rattle.srm_scenario.specs.declared.rule.Rule.{Rule}
use Rattle.srm_explain.specs.Findings.{rules_with}
use Rattle.srm_explain.specs.RuleDocument.{form_with, table_of}
use Rattle.srm_explain.specs.RuleTexts.{first_constants}
use Rattle.srm_explain.proofs.rule_document.top_table.Goals as goal

pub returns : goal.returns
returns c =
    let made = c.table_of.result in
    let front = c.layout_text-front.result.now in
    let rules_of : Form → List Rule = λ f. rules_with c.args.version part.Top first_constants f in
    let rules = c.deref.ensures.value ∙ c.in_ok-rules.ensures ∙ ap rules_of c.form_with.ensures in
    let of_rules = subst (λ (rs : List Rule). IfOk made (λ s. string_bytes s ≡ table_of front part.Top rs)) rules c.table_of.ensures in
    subst (λ (l : List ℕ). IfOk made (λ s. string_bytes s ≡ table_of l part.Top (rules_of (form_with c.args.layout))))
    c.layout_text-front.ensures of_rules
