-- The scripts of all members, and the lists of marks of which they are made.
use Rattle.std.specs.Prelude.{ℕ, ◌+◌, List, [], ◌∷◌, ◌++◌, map, length}
use Rattle.std.specs.List.{range_with_len}
use Rattle.srm_net.specs.declared.rank.Rank.TheVariants.{Join}
use Rattle.srm_net.specs.Orders.{ordered}
use Rattle.srm_scenario.specs.declared.mark.Mark.{Mark}
use Rattle.srm_scenario.specs.declared.parts.MemberSpec.{MemberSpec}
use Rattle.srm_scenario.specs.Plain.{PlainScenario, mark_cmp, plain_mark, leave_marks, script_of}

-- the scripts of all members, in order of their numbers
abbrev pub scripts_of : PlainScenario → List (List Mark)
scripts_of s = map (script_of s) (range_with_len 0 (length s.members))

-- a list for each member, with its join alone
abbrev pub joins_of : List MemberSpec → List (List Mark)
joins_of members = map (λ k. plain_mark k.join Join 0 ∷ []) members

-- to the list of each member, from member m on, is added what `more` gives of the member's number
abbrev pub with_each : (ℕ → List Mark) → ℕ → List (List Mark) → List (List Mark)
with_each more m [] = []
with_each more m (marks ∷ lists) = (marks ++ more m) ∷ with_each more (m + 1) lists

-- to the list of each member is added its leave, and the list is put in the order of its keys
abbrev pub closed : List MemberSpec → List (List Mark) → List (List Mark)
closed [] lists = []
closed (k ∷ ks) [] = []
closed (k ∷ ks) (marks ∷ lists) = ordered mark_cmp (marks ++ leave_marks k.leave) ∷ closed ks lists
