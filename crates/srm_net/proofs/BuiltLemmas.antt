-- What the positions of a built tree give, and what comes to a link.
use Rattle.std.proofs.Common.{arith}
use Rattle.std.proofs.Common.{◌≡◌, ℕ, ◌+◌, ◌<◌, Bool, true, false, not, ◌&&◌, length, Some, None, sym, ap, ◌∙◌, subst}
use Rattle.std.proofs.Common.{slice_get}
use Rattle.std.specs.List.{list_any}
use Rattle.srm_net.specs.declared.link.LinkSpec.{LinkSpec}
use Rattle.srm_net.specs.declared.packet.PacketId.{PacketId}
use Rattle.srm_net.specs.declared.tree.Tree.TheInside.{Inside}
use Rattle.srm_net.specs.Network.{Network, IsWithin, IsNetwork}
use Rattle.srm_net.specs.Paths.{route, host, delay_along, Stop, stop, stops, takes_out, crosses, drops_at}
use Rattle.srm_net.specs.DropRules.{DropRules}
use Rattle.srm_net.specs.Tables.{is_beyond, near_end, some_beyond}
use Rattle.srm_net.specs.Built.{network_inside, IsBuilt}
use Rattle.srm_net.specs.Rooting.{IsRooted, TellsPositions, TellsTree}
use Rattle.srm_net.proofs.Lists.{below_get, all_get}
use Rattle.srm_net.proofs.PathLaws.{near_stop, is_free, crosses_is, drops_is}

pub end_below : (n : Inside) → IsBuilt n → (l : ℕ) (k : LinkSpec) → slice_get n.links.items l ≡ Some k → (k.a < n.nodes) × (k.b < n.nodes)
end_below n i l k g = all_get (IsWithin n.nodes) n.links.items l k i.network.tree.ends g

-- ---- at the network that callers see

pub seen_below : (n m : Network) (a : ℕ) → n ≡ m → a < m.nodes → a < n.nodes
seen_below n m a e h = subst (λ (w : Network). a < w.nodes) (sym e) h

pub seen_link : (n m : Network) (a : ℕ) → n ≡ m → a < length m.links → a < length n.links
seen_link n m a e h = subst (λ (w : Network). a < length w.links) (sym e) h

pub seen_member : (n m : Network) (a : ℕ) → n ≡ m → a < length m.hosts → a < length n.hosts
seen_member n m a e h = subst (λ (w : Network). a < length w.hosts) (sym e) h

pub link_seen : (n m : Network) → n ≡ m → (l : ℕ) (k : LinkSpec) → slice_get m.links l ≡ Some k → slice_get n.links l ≡ Some k
link_seen n m e l k g = ap (λ (w : Network). slice_get w.links l) e ∙ g

pub beyond_seen : (n m : Network) → n ≡ m → (l x : ℕ) (j k : LinkSpec) → slice_get m.links l ≡ Some j → slice_get m.links l ≡ Some k
    → is_beyond n l j x ≡ is_beyond m l k x
beyond_seen n m e l x j k g h = grind arith

-- the positions of the nodes of a built tree are told
pub rooted_in : (n : Inside) → IsBuilt n → IsRooted (network_inside n) n.rooted.positions.items
unfolding TellsPositions
rooted_in n i = i.rooted

pub tree_in : (n : Inside) → IsBuilt n → TellsTree (network_inside n) n.rooted
tree_in n i = record { rooted = rooted_in n i; order = i.order }

pub position_there : (n : Inside) → IsBuilt n → (u : ℕ) → u < n.nodes → u < length n.rooted.positions.items
position_there n i u hu = subst (λ m. u < m) (sym (rooted_in n i).long) hu

-- ---- what comes to a link

module _ (w : Network) (n : IsNetwork w) (l u near sent : ℕ) (any : Bool) (rules : DropRules) (p : PacketId) (ht : l < length w.links)
    (hs : p.sender < length w.hosts) (e : u ≡ host w p.sender)
    (nears : (k : LinkSpec) → slice_get w.links l ≡ Some k → near ≡ near_end w l k u)
    (anys : (k : LinkSpec) → slice_get w.links l ≡ Some k → any ≡ some_beyond w l k u) where
  -- the stop at the link
  abbrev pub stop_there : Stop
  stop_there = stop l (sent + delay_along w.links u (route w u near))

  -- whether the packet comes there
  abbrev pub comes : Bool
  comes = any && not (list_any (takes_out rules p) (stops w.links u sent (route w u near)))

  pub told_crossed : crosses w rules p sent None l ≡ (not (takes_out rules p stop_there) && comes)
  told_crossed =
      let k = below_get w.links l ht in
      let f = takes_out rules p in
      crosses_is w n l k.0 k.1 rules p sent hs
      ∙ ap (λ v. not (f (near_stop w l k.0 v sent)) && (some_beyond w l k.0 v && is_free w l k.0 f v sent)) (sym e)
      ∙ ap (λ t. not (f (near_stop w l k.0 u sent)) && (t && is_free w l k.0 f u sent)) (sym (anys k.0 k.1))
      ∙ ap (λ t. not (f (stop l (sent + delay_along w.links u (route w u t)))) &&
      (any && not (list_any f (stops w.links u sent (route w u t))))) (sym (nears k.0 k.1))

  pub told_dropped : drops_at w rules p sent None l ≡ (takes_out rules p stop_there && comes)
  told_dropped =
      let k = below_get w.links l ht in
      let f = takes_out rules p in
      drops_is w n l k.0 k.1 rules p sent hs
      ∙ ap (λ v. f (near_stop w l k.0 v sent) && (some_beyond w l k.0 v && is_free w l k.0 f v sent)) (sym e)
      ∙ ap (λ t. f (near_stop w l k.0 u sent) && (t && is_free w l k.0 f u sent)) (sym (anys k.0 k.1))
      ∙ ap (λ t. f (stop l (sent + delay_along w.links u (route w u t))) && (any && not (list_any f (stops w.links u sent (route w u t)))))
      (sym (nears k.0 k.1))

  -- at a link to which it comes
  pub comes_there : comes ≡ true → (crosses w rules p sent None l ≡ not (takes_out rules p stop_there))
      × (drops_at w rules p sent None l ≡ takes_out rules p stop_there)
  comes_there h = grind (arith, told_crossed, told_dropped)

  -- and at one to which it does not
  pub comes_not : comes ≡ false → (crosses w rules p sent None l ≡ false) × (drops_at w rules p sent None l ≡ false)
  comes_not h = grind (arith, told_crossed, told_dropped)
