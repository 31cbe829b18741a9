use Rattle.std.proofs.Common.{rules, ◌≡◌, ℕ, List, [], ◌∷◌, ◌++◌, true, nat_lt, refl, subst, sym}
use Rattle.std.specs.List.{list_all}
use Rattle.srm_net.specs.Network.{IsWalk}
use Rattle.srm_explain.proofs.Ways.{before_on, walk_on}
use Rattle.srm_explain.proofs.closing.way_between.Goals as goal

pub loop-link-init : goal.loop-link-init
loop-link-init c =
    let links = c.args.links.now in
    let start = c.in-Some.closing.now.b in
    let none = sym c.new-way.ensures.items in
    record {
      walk = (start ∷ [], subst (λ (ls : List ℕ). IsWalk links start ls start (start ∷ [])) none (refl, refl));
      before = subst (λ (ls : List ℕ). list_all (λ m. nat_lt m c.args.last) ls ≡ true) none refl;
    }

pub loop-link-preserved : goal.loop-link-preserved
loop-link-preserved c =
    let links = c.args.links.now in
    let start = c.in-Some.closing.now.b in
    let way = c.loop-link.way.items in
    let link = c.in-Some-step_on.link in
    let other = c.in-Some-step_on.other in
    let step = c.in-Some-step_on.ensures in
    let walk = c.loop-link.invariant.walk in
    let on = walk_on links start way c.loop-link.node walk.0 link other step.0 walk.1 step.1 step.2 in
    let longer : c.push.new.self.items ≡ way ++ link ∷ [] = search rules in
    let lt : nat_lt link c.args.last ≡ true = search rules in
    record {
      walk = (on.0, subst (λ (ls : List ℕ). IsWalk links start ls other on.0) (sym longer) on.1);
      before = subst (λ (ls : List ℕ). list_all (λ m. nat_lt m c.args.last) ls ≡ true) (sym longer)
          (before_on c.args.last way link c.loop-link.invariant.before lt);
    }
