-- Windows of time, and where they end.
use Rattle.std.specs.Prelude.{◌≡◌, ℕ, ◌+◌, ◌<◌, ◌≤◌, not, min, List, [], ◌∷◌, map, filter, Option, Some, None, ◌==◌}
use Rattle.std.specs.Prelude.{if◌then◌else◌}
use Rattle.std.specs.List.{range_with_len}
use Rattle.srm_net.specs.Least.{least, least_delay}
use Rattle.srm_net.specs.Roles.{is_listener}
use Rattle.srm_scenario.specs.Plain.{PlainScenario, network_of}
use Rattle.srm_cell.specs.Setting.{Setting}
use Rattle.srm_cell.specs.Cells.{PlainCell, time_of, next_event, Done}
use Rattle.srm_model.specs.World.{World, run}
use Rattle.srm_model.specs.Schedules.{IsQuiet}

-- the lesser of a number and another, if there is another
abbrev pub least_with : ℕ → Option ℕ → ℕ
least_with n None = n
least_with n (Some k) = min n k

-- the least distance from a member to another, if there is another
unfoldable pub least_distance : Setting → ℕ → Option ℕ
least_distance s m =
    least (map (s.traffic.distance m) (filter (λ b. not (b == m)) (range_with_len 0 s.traffic.members)))

-- a width that no link's delay falls short of. Any is one where there is no link
abbrev pub IsWidth : PlainScenario → ℕ → Type 0
IsWidth p width = (delay : ℕ) → least_delay (network_of p) ≡ Some delay → width ≤ delay

-- ---- promises

-- by when a packet of this member may arrive anywhere: its next own time and the way to the nearest member
abbrev pub promise_by : Option ℕ → Option ℕ → Option ℕ
promise_by (Some time) (Some way) = Some (time + way)
promise_by _ _ = None

-- the least way that member m's packets have before them: that to the nearest other member, if m may send any and there
-- is one
abbrev pub way_of : Setting → ℕ → Option ℕ
way_of s m = if is_listener (s.fixed m).role then None else least_distance s m

-- before which time no packet of member m's arrives anywhere, if it is no listener, has an event pending and there is
-- another member
abbrev pub promise_of : Setting → ℕ → PlainCell → Option ℕ
promise_of s m c = promise_by (time_of (next_event m c)) (way_of s m)

-- the least of `until` and of the promises of the members from i on
abbrev pub least_promise : Setting → ℕ → List PlainCell → ℕ
least_promise s i [] = s.traffic.until
least_promise s i (c ∷ cs) = least_with (least_promise s (i + 1) cs) (promise_of s i c)

-- the end of a window before which no member that is no listener may be heard: the least of `until` and of all promises
abbrev pub promise_end : Setting → World → ℕ
promise_end s w = least_promise s 0 w.cells

-- ---- windows one after the other

-- v is the first world of the sequential run, from w on, in which no event before the end is pending
pub record IsFirstQuiet (s : Setting) (till : ℕ) (w v : World) : Type 0 where
  pub steps : ℕ
  pub comes : run s steps w ≡ Done v
  pub quiet : IsQuiet till v
  pub first : (k : ℕ) (u : World) → k < steps → run s k w ≡ Done u → ¬ IsQuiet till u
