-- The crossings of two lists together.
use Rattle.std.proofs.Common.{arith}
use Rattle.std.proofs.Common.{◌≡◌, ℕ, ◌+◌, Bool, cond, List, [], ◌∷◌, ◌++◌, refl, ap, ◌∙◌}
use Rattle.std.specs.List.{count_by, flat_map}
use Rattle.std.proofs.lemmas.List.Sums.{sum_by-append}
use Rattle.std.proofs.lemmas.List.Elements.{filter_map-append}
use Rattle.srm_net.specs.declared.packet.Packet.{Packet}
use Rattle.srm_cell.specs.Setting.{Traffic}
use Rattle.srm_cell.specs.Crossings.{crossings_at, added_each, crossings}
use Rattle.srm_cell.specs.Laws.{CrossingsAdd}

count_add : (p : Packet → Bool) (ps qs : List Packet) → count_by p (ps ++ qs) ≡ count_by p ps + count_by p qs
count_add p ps qs = sum_by-append (λ x. cond (p x) 1 0) ps qs

module _ (s : Traffic) (ps qs : List Packet) where
  link_add : (l : ℕ) (ms ns : List ℕ) → crossings_at s (ps ++ qs) l ++ added_each ms ns
      ≡ added_each (crossings_at s ps l ++ ms) (crossings_at s qs l ++ ns)
  link_add l ms ns = grind (arith, count_add)

  pub links_add : (ls : List ℕ) → flat_map (crossings_at s (ps ++ qs)) ls
      ≡ added_each (flat_map (crossings_at s ps) ls) (flat_map (crossings_at s qs) ls)
  links_add [] = refl
  links_add (l ∷ ls) = ap (λ ns. crossings_at s (ps ++ qs) l ++ ns) (links_add ls)
      ∙ link_add l (flat_map (crossings_at s ps) ls) (flat_map (crossings_at s qs) ls)

pub crossings_add : CrossingsAdd
unfolding crossings
crossings_add s qs rs = grind (arith, filter_map-append, links_add)
