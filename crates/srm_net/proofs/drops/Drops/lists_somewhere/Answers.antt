use Rattle.std.proofs.Common.{◌≡◌, ◌∙◌, sym, ap}
use Rattle.srm_net.specs.declared.drop_sets.DropSets.{DropSets}
use Rattle.srm_net.specs.DropRules.{DropRules}
use Rattle.srm_net.specs.Listed.{is_listed_somewhere}
use Rattle.srm_net.specs.DropSets.{has_packet}
use Rattle.srm_net.proofs.DropLemmas.{somewhere_ordered}
use Rattle.srm_net.proofs.drops.Drops.lists_somewhere.Goals as goal

pub returns : goal.returns
returns c =
    let p = c.args.id in
    let h : c.contains.result ≡ has_packet c.deref.result.now.packets.keys p = c.contains.ensures in
    h ∙ ap (λ (s : DropSets). has_packet s.packets.keys p) c.deref.ensures
    ∙ c.self.invariant p ∙ sym (somewhere_ordered c.self.inside.sets.value.entries.keys p)
    ∙ ap (λ (r : DropRules). is_listed_somewhere r.listed p) c.self.view_is
