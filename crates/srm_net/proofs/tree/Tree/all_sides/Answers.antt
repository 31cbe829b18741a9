use Rattle.std.proofs.Common.{◌∙◌, sym, ap, subst, arith, length, ◌+◌}
use Rattle.std.proofs.lemmas.List.{length_push}
use Rattle.srm_net.specs.Built.{network_inside}
use Rattle.srm_net.proofs.BuiltLemmas.{link_seen, rooted_in}
use Rattle.srm_net.proofs.Lists.{get_below}
use Rattle.srm_net.proofs.OccupiedLemmas.{sides_seen}
use Rattle.srm_net.proofs.ToldLemmas.{SidesBelow, sides_more}
use Rattle.srm_net.proofs.tree.Tree.all_sides.Goals as goal

pub of-requires : goal.of-requires
of-requires c = record {
  rooted = (
    network_inside c.self.inside,
    c.self.invariant.network,
    rooted_in c.self.inside c.self.invariant,
    sym c.as_slice.ensures.value,
  );
}

pub sides-requires : goal.sides-requires
sides-requires c = (
  network_inside c.self.inside,
  c.loop-link.link,
  c.in_ok-occupied.ensures (network_inside c.self.inside) c.self.invariant.network (rooted_in c.self.inside c.self.invariant)
      (sym c.as_slice.ensures.value),
  link_seen (network_inside c.self.inside) c.args.self.now c.self.view_is c.loop-link.link c.link.result c.link.ensures,
)

pub loop-link-preserved : goal.loop-link-preserved
loop-link-preserved c =
    let w = c.args.self.now in
    let v = network_inside c.self.inside in
    let inv = c.loop-link.invariant in
    let l = c.loop-link.link in
    let pushed = c.in_ok-push.ensures.items in
    let occupied = c.in_ok-occupied.ensures v c.self.invariant.network (rooted_in c.self.inside c.self.invariant)
    (sym c.as_slice.ensures.value) in
    let here = c.sides.ensures v l occupied (link_seen v w c.self.view_is l c.link.result c.link.ensures) in
    record {
      end = inv.end;
      long = ap length pushed ∙ length_push c.loop-link.all.items c.sides.result ∙ ap (λ n. n + 1) inv.long;
      told = subst (SidesBelow w (l + 1)) (sym pushed)
          (sides_more w l c.loop-link.all.items c.sides.result inv.long inv.told
          (λ k g. sides_seen v w c.self.view_is l c.link.result k c.sides.result c.link.ensures g here));
    }

pub returns : goal.returns
returns c l k g =
    let lt = get_below c.args.self.now.links l k g in
    let end = c.loop-link.invariant.end in
    c.loop-link.invariant.told l k (omega arith) g
