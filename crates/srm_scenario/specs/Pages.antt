-- The pages of a late member.
use Rattle.std.specs.Prelude.{ℕ, Bool, false, ◌==◌, Option, Some, None, slice_get}
use Rattle.std.specs.List.{list_any}
use Rattle.srm_scenario.specs.declared.parts.MemberSpec.{MemberSpec}
use Rattle.srm_scenario.specs.Plain.{PlainScenario}

abbrev pub lists_page : Option MemberSpec → ℕ → Bool
lists_page None page = false
lists_page (Some k) page = list_any (λ p. p == page) k.pages

-- whether member m's list of pages has this page
abbrev pub wants_page : PlainScenario → ℕ → ℕ → Bool
wants_page s m page = lists_page (slice_get s.members m) page
