-- When a member is present.
use Rattle.std.specs.Prelude.{ℕ, Bool, true, ◌&&◌, Option, nat_le, nat_lt}
use Rattle.std.specs.Option.{option_map_or}

-- whether who joins at a time, and leaves at another if at all, is present at a time, before the end of the run
abbrev pub is_present : ℕ → Option ℕ → ℕ → ℕ → Bool
is_present join leave until at = nat_le join at && (option_map_or (nat_le at) leave true && nat_lt at until)
