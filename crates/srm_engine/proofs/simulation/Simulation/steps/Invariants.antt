use Rattle.std.proofs.Common.{◌≡◌, ◌⊎◌, ◌≤◌, ◌-◌, ◌++◌, ℕ, length, vec_len}
use Rattle.srm_cell.specs.Views.{HasWork}
use Rattle.srm_model.specs.World.{World, IsReached, step}
use Rattle.srm_engine.specs.Engines.{Shows, setting_in}
use Rattle.srm_engine.proofs.simulation.Simulation.steps.Given as goal

-- the rows so far lead from the world at the beginning to that in which the engine is
abbrev pub invariant-loop-alloc : goal.invariant-loop-alloc
invariant-loop-alloc g l =
    (l.self.session ≡ l.fn.self.session)
    × ((seed : ℕ) (w : World) → IsReached (setting_in l.fn.self seed) w →
    Shows g.M.Participant.plain l.fn.self w
    → (v : World) × IsReached (setting_in l.fn.self seed) v × (v.trace ≡ w.trace ++ l.rows.items)
    × Shows g.M.Participant.plain l.self v
    × ((v ≡ w) ⊎ HasWork (step (setting_in l.fn.self seed) w)))
    × (length l.rows.items ≤ l.most)

abbrev pub decreases-loop-alloc : goal.decreases-loop-alloc
decreases-loop-alloc g l = l.most - vec_len l.rows
