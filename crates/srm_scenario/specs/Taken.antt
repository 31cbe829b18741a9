-- Marks of the nodes on which members are.
use Rattle.std.specs.Prelude.{◌≡◌, ℕ, Bool, List}
use Rattle.srm_net.specs.Known.{is_known}
use Rattle.srm_scenario.specs.declared.entry.MemberEntry.{MemberEntry}
use Rattle.srm_scenario.specs.Faults.{is_taken}

-- the nodes of these members are marked, and no others
abbrev pub MarksNodes : List MemberEntry → List Bool → Type 0
MarksNodes members taken = (n : ℕ) → is_known taken n ≡ is_taken members n
