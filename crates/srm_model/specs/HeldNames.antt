-- What members hold and lack is what their rows say, and requests and repairs are for names that their senders lack or
-- have.
use Rattle.std.specs.Prelude.{◌≡◌, ◌⊎◌, ℕ, List, ◌∷◌, ◌++◌, map, length, Option, Some, slice_get, Contains}
use Rattle.srm_net.specs.declared.packet.Name.{Name}
use Rattle.srm_net.specs.declared.packet.Body.{Body}
use Rattle.srm_net.specs.declared.packet.Body.TheVariants.{Drawop, Request, Repair}
use Rattle.srm_net.specs.declared.packet.Local.{Local}
use Rattle.srm_net.specs.declared.packet.Packet.{Packet}
use Rattle.srm_net.specs.Names.{name_cmp}
use Rattle.srm_net.specs.Orders.{Ascends}
use Rattle.srm_member.specs.declared.told.Told.{Told}
use Rattle.srm_member.specs.declared.told.Told.TheVariants.{Fresh, Fixed, Sent}
use Rattle.srm_member.specs.declared.row.Word.TheVariants as word
use Rattle.srm_member.specs.declared.row.About.TheVariants.{Of, Named}
use Rattle.srm_member.specs.declared.row.Row.{Row}
use Rattle.srm_member.specs.declared.exit.Exit.{Exit}
use Rattle.srm_member.specs.Orderly.{LostIn}
use Rattle.srm_cell.specs.Setting.{Setting, IsFit}
use Rattle.srm_model.specs.World.{World, IsReached, exits_of}
use Rattle.srm_model.specs.Handed.{SentIn}

-- the row in which member m draws n with this ink: it tells `sent`, and its packet carries both
pub record Draws (m : ℕ) (n : Name) (ink : ℕ) (r : Row) : Type 0 where
  pub member : r.key.member ≡ m
  pub cause : r.cause ≡ word.Draw
  pub about : r.about ≡ Named n
  pub told : r.told ≡ Sent
  pub packet : Packet
  pub sends : r.sent ≡ Some packet
  pub carries : packet.body ≡ Drawop n ink

-- one of the rows is that in which member m draws n with this ink
abbrev pub Drew : ℕ → Name → ℕ → List Row → Type 0
Drew m n ink rows = (r : Row) × Contains rows r × Draws m n ink r

-- the packet carries n, from its source or as a repair
abbrev pub Carries : Name → Body → Type 0
Carries n (Drawop k ink) = k ≡ n
Carries n (Repair k ink local) = k ≡ n
Carries n _ = ⊥

-- a row in which member m tells this of a packet of n, which one of the rows sent
pub record TellsOfName (told : Told) (m : ℕ) (n : Name) (rows : List Row) (r : Row) : Type 0 where
  pub member : r.key.member ≡ m
  pub told_so : r.told ≡ told
  pub packet : Packet
  pub about : r.about ≡ Of packet
  pub sent : SentIn packet rows
  pub carries : Carries n packet.body

-- in one of the rows member m tells this of n
abbrev pub ToldOf : Told → ℕ → Name → List Row → Type 0
ToldOf told m n rows = (r : Row) × Contains rows r × TellsOfName told m n rows r

-- member m drew n, or took it in as fresh or as fixed
abbrev pub Got : ℕ → Name → List Row → Type 0
Got m n rows = ((ink : ℕ) × Drew m n ink rows) ⊎ (ToldOf Fresh m n rows ⊎ ToldOf Fixed m n rows)

-- member m lost n, and did not fix it
abbrev pub Lacks : ℕ → Name → List Row → Type 0
Lacks m n rows = LostIn m n rows × ¬ ToldOf Fixed m n rows

-- one just where the other
abbrev pub Exactly : Type 0 → Type 0 → Type 0
Exactly A B = (A → B) × (B → A)

-- after these rows this is what member m ends with: the names that it got, rising, each with the ink with which its
-- source drew it; and the names that it lacks, rising
pub record EndsHolding (rows : List Row) (m : ℕ) (x : Exit) : Type 0 where
  pub member : x.member ≡ m
  pub held : (n : Name) (ink : ℕ) → Exactly (Contains x.held (n, ink)) (Got m n rows × Drew n.source n ink rows)
  pub drawn : (n : Name) → Got m n rows → (ink : ℕ) × Drew n.source n ink rows
  pub held_rise : Ascends name_cmp (map (λ e. e.0) x.held)
  pub missing : (n : Name) → Exactly (Contains x.missing n) (Lacks m n rows)
  pub missing_rise : Ascends name_cmp x.missing

-- ---- laws

-- the exits of all members are what their rows say: of the whole run, and of each part of it up to a row
abbrev pub ExitsAreWhatRowsSay : Type 0
ExitsAreWhatRowsSay =
    (s : Setting) (w : World) → IsFit s → IsReached s w
    → (length (exits_of w) ≡ s.traffic.members)
    × ((m : ℕ) (x : Exit) → slice_get (exits_of w) m ≡ Some x → EndsHolding w.trace m x)

-- a request is sent only for a name that its sender lost, and has not fixed
abbrev pub RequestsAreForLosses : Type 0
RequestsAreForLosses =
    (s : Setting) (w : World) → IsFit s → IsReached s w
    → (before after : List Row) (r : Row) (p : Packet) (n : Name) (scope : Option ℕ)
    → w.trace ≡ before ++ r ∷ after → r.sent ≡ Some p → p.body ≡ Request n scope → Lacks p.id.sender n before

-- a repair is sent only for a name that its sender drew or took in earlier, with the ink with which its source drew it
abbrev pub RepairsAreOfHeld : Type 0
RepairsAreOfHeld =
    (s : Setting) (w : World) → IsFit s → IsReached s w
    → (before after : List Row) (r : Row) (p : Packet) (n : Name) (ink : ℕ) (local : Option Local)
    → w.trace ≡ before ++ r ∷ after → r.sent ≡ Some p → p.body ≡ Repair n ink local
    → Got p.id.sender n before × Drew n.source n ink before
