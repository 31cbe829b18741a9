-- What was counted of the rows of one member, and of each.
use Rattle.std.specs.Prelude.{◌≡◌, ◌<◌, ℕ, List, [], map, slice_index_or}
use Rattle.srm_member.specs.declared.row.Row.{Row}
use Rattle.srm_member.specs.ByMember.{rows_of_member}
use Rattle.srm_report.specs.declared.members.counts.Counts.{Counts}
use Rattle.srm_report.specs.declared.members.member_count.MemberCount.{MemberCount}
use Rattle.srm_report.specs.Members.{counts_of}
use Rattle.srm_report.specs.Taking.{TakesIn}

-- exactly these rows were counted
abbrev pub IsCountOf : List Row → MemberCount → Type 0
IsCountOf rows k = k.counts ≡ counts_of rows

-- these rows were counted, after those before
abbrev pub CountsOn : MemberCount → List Row → MemberCount → Type 0
CountsOn = TakesIn IsCountOf

-- the counts of member m: those of no row, where the list ends before
abbrev pub counts_at : List MemberCount → ℕ → Counts
counts_at ks m = slice_index_or (map (λ k. k.counts) ks) m (counts_of [])

-- of each of so many members they are of exactly its rows
abbrev pub AreCounts : ℕ → List Row → List MemberCount → Type 0
AreCounts members rows ks = (m : ℕ) → m < members → counts_at ks m ≡ counts_of (rows_of_member m rows)
