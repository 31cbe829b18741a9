-- Names of drawing operations, the pages that they stand on, packet identities, and their orders.
use Rattle.std.specs.Prelude.{ℕ, List, [], ◌∷◌}
use Rattle.std.specs.declared.cmp.Ordering.{Ordering}
use Rattle.std.specs.Ordering.{nat_cmp}
use Rattle.std.specs.Cmp.Lexicographic.{slice_cmp}
use Rattle.srm_net.specs.declared.packet.Heard.{Heard}
use Rattle.srm_net.specs.declared.packet.Name.{Name}
use Rattle.srm_net.specs.declared.packet.PageId.{PageId}
use Rattle.srm_net.specs.declared.packet.PacketId.{PacketId}

-- the page of a name
abbrev pub page_of : Name → PageId
page_of n = record { source = n.source; page = n.page }

-- the operation of this number on a page
abbrev pub name_in : PageId → ℕ → Name
name_in p k = record { source = p.source; page = p.page; number = k }

-- a name as its numbers
abbrev pub numbers_of_name : Name → List ℕ
numbers_of_name n = n.source ∷ n.page ∷ n.number ∷ []

-- names are compared by source, page and number
abbrev pub name_cmp : Name → Name → Ordering
name_cmp n o = slice_cmp nat_cmp (numbers_of_name n) (numbers_of_name o)

-- pages are compared by source and page
abbrev pub page_cmp : PageId → PageId → Ordering
page_cmp p q = slice_cmp nat_cmp (p.source ∷ p.page ∷ []) (q.source ∷ q.page ∷ [])

-- packet identities are compared by sender and count
abbrev pub id_cmp : PacketId → PacketId → Ordering
id_cmp p q = slice_cmp nat_cmp (p.sender ∷ p.count ∷ []) (q.sender ∷ q.count ∷ [])

-- entries of session messages are compared by source, page and highest number
abbrev pub heard_cmp : Heard → Heard → Ordering
heard_cmp h i = slice_cmp nat_cmp (h.source ∷ h.page ∷ h.highest ∷ []) (i.source ∷ i.page ∷ i.highest ∷ [])
