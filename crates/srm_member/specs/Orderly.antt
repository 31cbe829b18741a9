-- What the rows of a run have in common: tables are made of rows that are so.
use Rattle.std.specs.Prelude.{◌≡◌, ℕ, ◌<◌, All, Contains, List, ◌∷◌, ◌++◌, Option, Some, None}
use Rattle.srm_net.specs.declared.packet.Name.{Name}
use Rattle.srm_net.specs.declared.packet.Body.{Body}
use Rattle.srm_net.specs.declared.packet.Body.TheVariants.{Drawop, Request, Repair, Session}
use Rattle.srm_net.specs.Keys.{key_cmp}
use Rattle.srm_net.specs.Orders.{Ascends}
use Rattle.srm_member.specs.declared.told.Told.TheVariants.{Fixed}
use Rattle.srm_member.specs.declared.row.Word.{Word}
use Rattle.srm_member.specs.declared.row.Word.TheVariants.{Join, Leave}
use Rattle.srm_member.specs.declared.row.About.{About}
use Rattle.srm_member.specs.declared.row.About.TheVariants.{Nothing, Of, Named}
use Rattle.srm_member.specs.declared.row.Row.{Row}

-- the name of the operation that a packet carries, from its source or as a repair
abbrev pub carried : Body → Option Name
carried (Drawop n ink) = Some n
carried (Repair n ink local) = Some n
carried (Request n scope) = None
carried (Session hs) = None

-- the name of the operation that an event's packet carries
abbrev pub brought : About → Option Name
brought (Of p) = carried p.body
brought Nothing = None
brought (Named n) = None

-- in one of the rows this is the cause of an event at member m
abbrev pub CausedIn : Word → ℕ → List Row → Type 0
CausedIn cause m rows = (r : Row) × Contains rows r × (r.key.member ≡ m) × (r.cause ≡ cause)

-- in one of the rows member m lost n
abbrev pub LostIn : ℕ → Name → List Row → Type 0
LostIn m n rows = (r : Row) × Contains rows r × (r.key.member ≡ m) × Contains r.lost n

-- in one of the rows member m took in n, which it was missing
abbrev pub FixedIn : ℕ → Name → List Row → Type 0
FixedIn m n rows = (r : Row) × Contains rows r × (r.key.member ≡ m) × (r.told ≡ Fixed) × (brought r.about ≡ Some n)

-- the row's member, and the sources of the names that it lost, are among so many members
pub record IsAmong (members : ℕ) (r : Row) : Type 0 where
  pub member : r.key.member < members
  pub sources : (n : Name) → Contains r.lost n → n.source < members

-- the cause comes about at most once for each member
abbrev pub IsOnce : Word → List Row → Type 0
IsOnce cause rows =
    (before after : List Row) (r : Row) → rows ≡ before ++ r ∷ after
    → r.cause ≡ cause → ¬ CausedIn cause r.key.member before

-- no member loses a name twice
abbrev pub AreLostOnce : List Row → Type 0
AreLostOnce rows =
    (before after : List Row) (r : Row) (front back : List Name) (n : Name)
    → rows ≡ before ++ r ∷ after → r.lost ≡ front ++ n ∷ back
    → (¬ LostIn r.key.member n before) × (¬ Contains front n)

-- what a member takes in as `fixed` it lost in an earlier row, and has not fixed since
abbrev pub AreFixedAfterLoss : List Row → Type 0
AreFixedAfterLoss rows =
    (before after : List Row) (r : Row) → rows ≡ before ++ r ∷ after → r.told ≡ Fixed
    → (n : Name) × (brought r.about ≡ Some n) × LostIn r.key.member n before × ¬ FixedIn r.key.member n before

-- rows in the order of strictly rising keys, of so many members, each of which joins at most once, leaves at most once
-- and loses no name twice, and fixes only what it lost
pub record IsOrderly (members : ℕ) (rows : List Row) : Type 0 where
  pub rise : Ascends (λ q r. key_cmp q.key r.key) rows
  pub among : All (IsAmong members) rows
  pub joins : IsOnce Join rows
  pub leaves : IsOnce Leave rows
  pub lost_once : AreLostOnce rows
  pub fixed_after : AreFixedAfterLoss rows
