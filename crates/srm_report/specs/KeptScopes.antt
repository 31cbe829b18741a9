-- What is kept of one member for the table of scopes.
use Rattle.std.specs.Prelude.{◌≡◌, ℕ, ◌+◌, List}
use Rattle.std.specs.List.{count_by, filter_map}
use Rattle.std.specs.Option.{unwrap_or}
use Rattle.std.specs.FinMap.Entries.{find}
use Rattle.srm_net.specs.declared.packet.PacketId.{PacketId}
use Rattle.srm_net.specs.Names.{id_cmp}
use Rattle.srm_member.specs.declared.row.Row.{Row}
use Rattle.srm_report.specs.declared.scopes.member_scopes.MemberScopes.{MemberScopes}
use Rattle.srm_report.specs.Scopes.{heard_in, entry_of}
use Rattle.srm_report.specs.Taking.{TakesIn}
use Rattle.std.specs.Ordering.{eq_by_cmp}

-- exactly this is what a member's rows tell of scopes: what it sent, and what it heard
pub record KeepsScopes (rows : List Row) (k : MemberScopes) : Type 0 where
  pub sent : k.sent.items ≡ filter_map entry_of rows
  pub heard : k.heard.items ≡ filter_map heard_in rows

-- these rows were taken in, after those before
abbrev pub KeepsMore : MemberScopes → List Row → MemberScopes → Type 0
KeepsMore = TakesIn KeepsScopes

-- ---- counts of packets

-- how often these entries say that the packet was heard
abbrev pub count_in : List (PacketId × ℕ) → PacketId → ℕ
count_in es p = unwrap_or (find id_cmp p es) 0

-- each of these packets was counted once more
abbrev pub HearMore : List (PacketId × ℕ) → List PacketId → List (PacketId × ℕ) → Type 0
HearMore old more new = (p : PacketId) → count_in new p ≡ count_in old p + count_by (eq_by_cmp id_cmp p) more
