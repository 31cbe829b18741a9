-- What is kept of all members of rows that stand in order.
use Rattle.std.specs.Prelude.{◌<◌, ◌≤◌, ◌^◌, ℕ, List, All, length}
use Rattle.std.specs.List.{AllZip}
use Rattle.std.specs.Global.{Vec}
use Rattle.srm_net.specs.Keys.{key_cmp}
use Rattle.srm_net.specs.Orders.{Ascends}
use Rattle.srm_member.specs.declared.row.Row.{Row}
use Rattle.srm_cell.specs.Crossings.{joined}
use Rattle.srm_interfaces.specs.Watches.{IsClosed, KeepMembers}

-- the row is one of so many members, before tick 2^48
pub record HasTurn (members : ℕ) (r : Row) : Type 0 where
  pub member : r.key.member < members
  pub time : r.key.time < 2 ^ 48

-- this is kept of all members, 2^16 at most, of these rows, which stand in order of their keys
pub record KeepInTurn {K : Type 0} (keeps : K → List Row → Type 0) (kept : List K) (rows : List Row) : Type 0 where
  pub few : length kept ≤ 2 ^ 16
  pub turns : All (HasTurn (length kept)) rows
  pub rise : Ascends (λ q r. key_cmp q.key r.key) rows
  pub are : KeepMembers keeps 0 kept rows

-- what is kept in each group is what was kept there, closed; and of all that was kept in turn this was so
pub record WereClosed {K : Type 0} (closes : List K → List K → Type 0) (was : List K → Type 0)
    (groups : List (Vec K)) : Type 0 where
  pub full : List (List K)
  pub closed : AllZip (λ own (g : Vec K). IsClosed closes own g.items) full groups
  pub so : was (joined full)

-- this is kept of these rows in groups, in each of which what was kept of its members was closed
abbrev pub KeepInGroups : {K : Type 0} → (K → List Row → Type 0) → (List K → List K → Type 0) → List (Vec K) → List Row
    → Type 0
KeepInGroups keeps closes groups rows = WereClosed closes (λ kept. KeepInTurn keeps kept rows) groups
