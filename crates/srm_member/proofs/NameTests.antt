-- Tests of names and of pages in code, in the words of specs/.
use Rattle.std.proofs.Common.{arith}
use Rattle.std.proofs.Common.{rules, ◌≡◌, Bool, ◌&&◌, nat_eq, is_lt}
use Rattle.std.specs.Cmp.{eq_by_cmp_equiv}
use Rattle.std.specs.Ordering.{eq_by_cmp, partial_lt}
use Rattle.srm_net.specs.declared.packet.Name.{Name}
use Rattle.srm_net.specs.declared.packet.PageId.{PageId}
use Rattle.srm_net.specs.contracts.packet.NamePartialOrd.TheImpl as name_partial
use Rattle.srm_net.specs.Names.{name_cmp, page_cmp}
use Rattle.srm_net.proofs.TotalOrders.{name_total}

-- whether one name is below another
pub name_lt : (a b : Name) → partial_lt name_partial.partial_cmp-value.it a b ≡ is_lt (name_cmp a b)
name_lt a b = search rules

-- whether two names are the same
pub name_eq : (a b : Name) → eq_by_cmp name_cmp a b ≡ eq_by_cmp name_cmp b a
name_eq = (eq_by_cmp_equiv name_total).symm

abbrev are_one_page : PageId → PageId → Bool
are_one_page a b = nat_eq a.source b.source && nat_eq a.page b.page

-- whether two pages are the same
pub page_eq : (a b : PageId) → are_one_page a b ≡ eq_by_cmp page_cmp b a
page_eq a b = grind arith
