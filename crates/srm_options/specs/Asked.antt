-- What may be asked of a run.
use Rattle.std.specs.Prelude.{ℕ, ◌≡◌, ◌+◌, ◌<◌, ◌≤◌, ◌^◌, Option, Some, None}
use Rattle.srm_options.specs.declared.options.Engine.{Engine}
use Rattle.srm_options.specs.declared.options.Engine.TheVariants.{Step}
use Rattle.srm_options.specs.declared.options.Options.{Options}

-- so many workers may share a bag
abbrev pub MayShareBag : ℕ → Type 0
MayShareBag n = (1 ≤ n) × (n ≤ 64)

-- replications may be asked for of this first seed with this engine: one at least, their seeds are below 2^63, and
-- their runs are sequential
abbrev pub MayBeReplicated : ℕ → Engine → Option ℕ → Type 0
MayBeReplicated seed engine None = Unit {0}
MayBeReplicated seed engine (Some count) = (1 ≤ count) × (seed + count ≤ 2 ^ 63) × (engine ≡ Step)

-- what a command line may ask for: a seed below 2^63, as many workers as may share a bag, and replications that may be
abbrev pub MayBeAsked : ℕ × Options → Type 0
MayBeAsked asked =
    (asked.0 < 2 ^ 63) × MayShareBag asked.1.workers
    × MayBeReplicated asked.0 asked.1.engine asked.1.replications
