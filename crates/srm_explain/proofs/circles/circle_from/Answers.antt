use Rattle.std.proofs.Common.{rules, ◌≡◌, ◌∙◌, ◌++◌, ◌∷◌, [], List, ℕ, Some, subst, sym}
use Rattle.srm_explain.specs.Flaws.{first_or, parent_of, Climbs, IsCircle}
use Rattle.srm_explain.proofs.Climbs.{climbs_on, closes, first_kept}
use Rattle.srm_explain.proofs.circles.circle_from.Goals as goal

pub returns-then-parent-start : goal.returns-then-parent-start
returns-then-parent-start c =
    let links = c.args.links.now in
    let vs = c.loop-node.circle.items in
    let v = c.loop-node.node in
    let above : parent_of links v ≡ Some c.args.start = cc in
    let climbs = climbs_on links vs v c.args.start c.loop-node.invariant.climbs above in
    let first : first_or c.args.start (vs ++ v ∷ []) ≡ c.args.start = first_kept vs v c.args.start ∙ c.loop-node.invariant.first in
    let longer : c.push.new.self.items ≡ vs ++ v ∷ [] = search rules in
    subst (λ (ns : List ℕ). IsCircle links ns) (sym longer) (closes links vs v c.args.start climbs first)

pub loop-node-preserved : goal.loop-node-preserved
loop-node-preserved c =
    let links = c.args.links.now in
    let vs = c.loop-node.circle.items in
    let v = c.loop-node.node in
    let above : parent_of links v ≡ Some c.in-Some.parent = cc in
    let climbs = climbs_on links vs v c.in-Some.parent c.loop-node.invariant.climbs above in
    let longer : c.push.new.self.items ≡ vs ++ v ∷ [] = search rules in
    record {
      climbs = subst (λ (ns : List ℕ). Climbs links ns c.in-Some.parent) (sym longer) climbs;
      first = subst (λ (ns : List ℕ). first_or c.in-Some.parent ns ≡ c.args.start) (sym longer)
          (first_kept vs v c.in-Some.parent ∙ c.loop-node.invariant.first);
    }
