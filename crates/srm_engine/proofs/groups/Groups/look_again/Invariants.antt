use Rattle.std.proofs.Common.{ℕ}
use Rattle.srm_engine.specs.Starts.{setting_on}
use Rattle.srm_engine.proofs.SoonGroups.{AreLookedAt}
use Rattle.srm_engine.proofs.groups.Groups.look_again.Given as goal

-- the groups so far were looked through again, and of the others what was kept stands
abbrev pub invariant-loop-index : goal.invariant-loop-index
invariant-loop-index g l =
    (seed : ℕ) → AreLookedAt g.M.Participant.plain (setting_on l.session seed) l.till l.cut l.all l.initial.kept l.index l.kept
