pub mod Copies
pub mod Explanations
pub mod Findings
pub mod Flaws
pub mod Misfits
pub mod Remarks
pub mod RuleDocument
pub mod RuleTexts
