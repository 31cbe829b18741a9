-- What stands in a text from a place on.
use Rattle.std.proofs.Common.{◌≡◌, ℕ, ◌-◌, List, length, take, drop, length-drop}
use Rattle.std.proofs.Math.Seq.{take-length}

-- what stands from a place on, cut at its own length
pub drop-whole : (at : ℕ) (text : List ℕ) → take (length text - at) (drop at text) ≡ drop at text
drop-whole at text = rw (← length-drop at text) (take-length (drop at text))
