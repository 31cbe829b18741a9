-- What a rule that is met says of the number at its key.
use Rattle.std.proofs.Common.{◌≡◌, ℕ, zero, suc, ◌≤◌, Bool, true, List, [], ◌∷◌, Some}
use Rattle.std.proofs.Common.{unwrap_or, slice_get, subst, arith, codes}
use Rattle.std.proofs.lemmas.Bool.{and_parts}
use Rattle.std.specs.List.{list_all}
use Rattle.toml.specs.Data.{Data, Members}
use Rattle.srm_scenario.specs.declared.file_key.FileKey.{FileKey}
use Rattle.srm_scenario.specs.declared.rule.ValueKind.TheVariants.{Whole}
use Rattle.srm_scenario.specs.declared.rule.Need.TheVariants.{Required, Optional}
use Rattle.srm_scenario.specs.declared.rule.Rule.{Rule}
use Rattle.srm_scenario.specs.Keys.{name_of}
use Rattle.srm_net.specs.Network.{IsLinkDelay}
use Rattle.srm_scenario.specs.KeyLimits.{greatest_delay}
use Rattle.srm_scenario.specs.declared.file_key.FileKey.TheVariants as key
use Rattle.srm_scenario.specs.Rules.{rule, rule_if, back_rule, is_met, is_whole, has_only, fits_rules}
use Rattle.srm_scenario.specs.Described.{whole_number_of, optional_number, number, back_at}

pub whole_number : (low high other : ℕ) (d : Data) → is_whole low high d ≡ true → (low ≤ unwrap_or (whole_number_of d) other)
    × (unwrap_or (whole_number_of d) other ≤ high)
whole_number low high other d h = grind arith

pub required_number : (key : FileKey) (low high : ℕ) (ms : Members) → is_met ms (rule key (Whole low high) Required) ≡ true
    → (low ≤ number (name_of key) ms) × (number (name_of key) ms ≤ high)
required_number key low high ms h = grind arith

pub optional_bound : (key : FileKey) (low high : ℕ) (ms : Members) → is_met ms (rule key (Whole low high) Optional) ≡ true → (n : ℕ)
    → optional_number (name_of key) ms ≡ Some n → n ≤ high
optional_bound key low high ms h = grind arith

-- a number that a version may have at a key is in its range, or another one, in the same range, stands for it
pub or_fits : (allowed : Bool) (key : FileKey) (low high other : ℕ) (ms : Members)
    → is_met ms (rule_if allowed key (Whole low high)) ≡ true → low ≤ other → other ≤ high
    → (low ≤ unwrap_or (optional_number (name_of key) ms) other) × (unwrap_or (optional_number (name_of key) ms) other ≤ high)
or_fits allowed key low high other ms h least most = grind arith

-- the second delay of a link is in range, where it is given or the first is in range
pub back_fits : (m : Members) (allowed : Bool) → is_met m (back_rule allowed) ≡ true → IsLinkDelay (number (codes "delay") m)
    → IsLinkDelay (back_at m)
back_fits m allowed h delay = or_fits allowed key.Back 1 greatest_delay (number (codes "delay") m) m h delay.0 delay.1

-- ---- the rules of a table

pub all_at : {A : Type 0} (p : A → Bool) (xs : List A) (n : ℕ) (x : A) → list_all p xs ≡ true → slice_get xs n ≡ Some x → p x ≡ true
all_at p [] n x h e = cc
all_at p (y ∷ ys) zero x h e =
    let same : y ≡ x = cc in
    subst (λ z. p z ≡ true) same (and_parts (p y) (list_all p ys) h).0
all_at p (y ∷ ys) (suc n) x h e = all_at p ys n x (and_parts (p y) (list_all p ys) h).1 e

-- a table that fits rules meets each of them
pub rule_met : (rules : List Rule) (ms : Members) → fits_rules rules ms ≡ true → (n : ℕ) (r : Rule) → slice_get rules n ≡ Some r
    → is_met ms r ≡ true
rule_met rules ms h n r e = all_at (is_met ms) rules n r (and_parts (has_only _ ms) (list_all (is_met ms) rules) h).1 e

-- so the number at the key of one is in its range
pub number_fits : (rules : List Rule) (ms : Members) → fits_rules rules ms ≡ true → (n : ℕ) (key : FileKey) (low high : ℕ)
    → slice_get rules n ≡ Some (rule key (Whole low high) Required)
    → (low ≤ number (name_of key) ms) × (number (name_of key) ms ≤ high)
number_fits rules ms h n key low high e = required_number key low high ms (rule_met rules ms h n (rule key (Whole low high) Required) e)
