use Rattle.std.proofs.Common.{◌∙◌, sym, ap, ◌≡◌}
use Rattle.std.specs.List.{list_any}
use Rattle.srm_net.specs.declared.drop_sets.DropSets.{DropSets}
use Rattle.srm_net.specs.Paths.{is_listed}
use Rattle.srm_net.specs.DropRules.{DropRules}
use Rattle.srm_net.proofs.DropLemmas.{sought, listed_sought, listed_ordered}
use Rattle.srm_net.proofs.drops.Drops.lists.Goals as goal

pub returns : goal.returns
returns c =
    let keys = c.self.inside.sets.value.entries.keys in
    let h : c.contains.result ≡ list_any (sought c.args.id c.args.link) c.deref.result.now.entries.keys = c.contains.ensures in
    h ∙ ap (λ (s : DropSets). list_any (sought c.args.id c.args.link) s.entries.keys) c.deref.ensures
    ∙ listed_sought keys c.args.id c.args.link ∙ sym (listed_ordered keys c.args.id c.args.link)
    ∙ ap (λ (r : DropRules). is_listed r.listed c.args.id c.args.link) c.self.view_is
