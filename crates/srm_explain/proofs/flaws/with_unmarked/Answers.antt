use Rattle.std.proofs.Common.{rules, ◌≡◌, ◌++◌, List, [], ◌∷◌, ℕ, false, sym, subst}
use Rattle.std.specs.List.{AllByRecursion}
use Rattle.srm_explain.specs.Flaws.{is_reached, IsUnreached}
use Rattle.srm_explain.proofs.Closed.{one_more}
use Rattle.srm_explain.proofs.flaws.with_unmarked.Goals as goal

pub returns : goal.returns
returns c =
    let unmarked : is_reached c.args.reached.now c.args.node ≡ false = search rules in
    let longer : c.push.new.self.items ≡ c.args.unreached.items ++ c.args.node ∷ [] = search rules in
    subst (λ (vs : List ℕ). AllByRecursion (IsUnreached c.args.nodes c.args.links.now) vs) (sym longer)
    (one_more c.args.nodes c.args.links.now c.args.unreached.items c.args.reached.now c.args.node c.requires.before
    c.requires.closed c.requires.node unmarked)
