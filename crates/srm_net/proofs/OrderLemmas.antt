-- Finding the order in which a tree grows.
use Rattle.std.proofs.Common.{arith}
use Rattle.std.proofs.Common.{◌≡◌, ℕ, ◌+◌, ◌≤◌, List, [], length, sym, subst, All}
use Rattle.srm_net.specs.declared.link.LinkSpec.{LinkSpec}
use Rattle.srm_net.specs.declared.attaching.Attaching.{Attaching}
use Rattle.srm_net.specs.Limits.{most_nodes}
use Rattle.srm_net.specs.Network.{plain_network, IsWithin, IsTree, HasDelays, AreHosts, IsNetwork}
use Rattle.srm_net.specs.Growth.{Grows}
use Rattle.srm_net.specs.declared.position.Position.{Position}
use Rattle.srm_net.specs.Paths.{route}
use Rattle.srm_net.specs.Rooting.{IsRooted, TellsPositions, TellsTree}
use Rattle.srm_net.specs.declared.tree.Tree.TheInside.{Inside}
use Rattle.srm_net.specs.Built.{IsBuilt}
use Rattle.srm_net.proofs.Numbers.{distinct_from_apart}
use Rattle.srm_net.proofs.Growing.{all_attached}
use Rattle.srm_net.proofs.TreeWays.{both_ways_grown}

-- what grew to all nodes is a tree
pub whole_tree : (nodes : ℕ) (links : List LinkSpec) (ss : List Attaching) → 1 ≤ nodes → nodes ≤ most_nodes → All (IsWithin nodes) links
    → length links + 1 ≡ nodes → Grows links ss → length ss + 1 ≡ nodes → IsTree (plain_network nodes links [])
whole_tree nodes links ss some few ends one g all = record {
  some_nodes = some;
  few_nodes = few;
  ends = ends;
  one_fewer = one;
  connected = λ u v hu hv.
      let b = both_ways_grown links ss g u v (all_attached nodes links ss some ends g all u hu)
      (all_attached nodes links ss some ends g all v hv) in
      (b.there.path, (b.there.nodes, b.there.walk, distinct_from_apart b.there.nodes b.there.apart));
}

-- hosts do not matter
pub tree_of_any : (nodes : ℕ) (links : List LinkSpec) (hs gs : List ℕ) → IsTree (plain_network nodes links hs)
    → IsTree (plain_network nodes links gs)
tree_of_any nodes links hs gs t = grind arith

rooted_of_any : (nodes : ℕ) (links : List LinkSpec) (hs gs : List ℕ) (ps : List Position) → IsRooted (plain_network nodes links hs) ps
    → IsRooted (plain_network nodes links gs) ps
unfolding route
rooted_of_any nodes links hs gs ps r = record {
  tree = tree_of_any nodes links hs gs r.tree;
  place = r.place;
  root = r.root;
  apart = r.apart;
  long = r.long;
  each = λ u hu.
      let p = r.each u hu in
      record {
        place_is = p.place_is;
        depth = p.depth;
        depth_low = p.depth_low;
        parent = λ some.
            let h = p.parent some in
            record { node = h.node; earlier = h.earlier; link = h.link; leads = h.leads; route = h.route };
        subtree = λ some. let h = p.subtree some in record { own = h.own; within = h.within; whole = h.whole };
        jump = record { node = p.jump.node; there = p.jump.there; back = p.jump.back; hops = p.jump.hops };
        jump_earlier = p.jump_earlier;
        jump_above = p.jump_above;
        up = p.up;
        down = p.down;
      };
  whole = r.whole;
  nested = r.nested;
}

-- a tree whose parts were checked is a network with the positions of its nodes
pub built_tree : (t : Inside) (links : List LinkSpec) (hosts : List ℕ) → t.links.items ≡ links → t.hosts.items ≡ hosts
    → IsTree (plain_network t.nodes links []) → All HasDelays links → AreHosts t.nodes hosts
    → TellsTree (plain_network t.nodes links []) t.rooted → IsBuilt t
unfolding TellsPositions
built_tree t links hosts e f tree delays are told =
    let whole : IsNetwork (plain_network t.nodes links hosts) = record
    { tree = tree_of_any t.nodes links [] hosts tree; delays = delays; hosts = are } in
    let here : IsNetwork (plain_network t.nodes t.links.items t.hosts.items) =
    subst (λ hs. IsNetwork (plain_network t.nodes t.links.items hs)) (sym f)
    (subst (λ ls. IsNetwork (plain_network t.nodes ls hosts)) (sym e) whole) in
    record {
      network = here;
      rooted = subst (λ hs. IsRooted (plain_network t.nodes t.links.items hs) t.rooted.positions.items) (sym f)
          (subst (λ ls. IsRooted (plain_network t.nodes ls hosts) t.rooted.positions.items) (sym e)
          (rooted_of_any t.nodes links [] hosts t.rooted.positions.items told.rooted));
      order = record { node = told.order.node; each = told.order.each };
    }
