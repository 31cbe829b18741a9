use Rattle.std.proofs.Common.{◌∙◌, ap, sym, arith, ◌<◌, ◌&&◌, Bool, length}
use Rattle.srm_net.proofs.BuiltLemmas.{seen_link}
use Rattle.srm_net.proofs.Joining.{told_joining}
use Rattle.srm_net.proofs.ToldLemmas.{side_below}
use Rattle.srm_net.proofs.net.Net.joins_members.Goals as goal

pub index-sides-requires : goal.index-sides-requires
index-sides-requires c =
    let lt = seen_link c.self.inside.tree.value c.args.self.now c.args.link c.self.view_is c.requires.link in
    let k : c.args.link < length c.self.inside.sides.items = side_below c.self.inside c.self.invariant c.args.link lt in
    omega (arith, c.self.inside.sides.ok.0)

pub returns-then-sides-clause-value : goal.returns-then-sides-clause-value
returns-then-sides-clause-value c =
    let s = c.index-sides.result.now in
    ap (λ (b : Bool). b && s.b) (sym c.if-sides.true)
    ∙ told_joining c.self.inside c.self.invariant c.args.self.now c.self.view_is c.args.link c.from.result s c.from.ensures
    c.index-sides.ensures c.requires.link

pub returns-else-sides-clause-value : goal.returns-else-sides-clause-value
returns-else-sides-clause-value c =
    let s = c.index-sides.result.now in
    c.if-sides.false ∙ ap (λ (b : Bool). b && s.b) (sym c.if-sides.false)
    ∙ told_joining c.self.inside c.self.invariant c.args.self.now c.self.view_is c.args.link c.from.result s c.from.ensures
    c.index-sides.ensures c.requires.link
