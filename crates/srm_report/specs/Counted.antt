-- Counting rows one by one.
use Rattle.std.specs.Prelude.{ℕ, ◌*◌, ◌^◌, ◌≤◌, Bool, Option, Some, None, cond}
use Rattle.srm_report.specs.declared.members.counts.Counts.{Counts}

-- after n rows, each of which may have lost as many names as a list can have
pub record IsAtMost (n : ℕ) (c : Counts) : Type 0 where
  pub drawn : c.drawn ≤ n
  pub heard : c.heard ≤ n
  pub lost : c.lost ≤ n * 2 ^ 64
  pub fixed : c.fixed ≤ n
  pub requests : c.requests ≤ n
  pub repairs : c.repairs ≤ n
  pub sessions : c.sessions ≤ n

-- a time that was known, or else this one, where it is one
abbrev pub first_known : Option ℕ → ℕ → Bool → Option ℕ
first_known (Some known) time is_one = Some known
first_known None time is_one = cond is_one (Some time) None
