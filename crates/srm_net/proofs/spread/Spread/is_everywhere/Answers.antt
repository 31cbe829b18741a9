use Rattle.std.proofs.Common.{◌∙◌, sym, ap, is_some}
use Rattle.std.specs.List.{list_all}
use Rattle.std.proofs.lemmas.List.Folds.{list_all-map}
use Rattle.srm_net.specs.Spreads.{is_everywhere, comes_in}
use Rattle.srm_net.proofs.Joining.{all_replicated, none_left}
use Rattle.srm_net.proofs.spread.Spread.is_everywhere.Goals as goal

pub returns-in_default : goal.returns-in_default
returns-in_default c =
    all_replicated c.self.inside.nodes
    ∙ ap (λ o. list_all (λ b. b) (comes_in c.self.inside.nodes o)) (sym c.in_default.is)
    ∙ none_left c.self.inside.scope (list_all (λ b. b) (comes_in c.self.inside.nodes c.self.inside.arrivals))
    (sym c.is_some.ensures ∙ c.if-is_some.false)
    ∙ ap is_everywhere c.self.view_is

pub returns : goal.returns
returns c =
    c.are_all_told.ensures ∙ ap (list_all is_some) c.as_slice.ensures
    ∙ sym (list_all-map (λ b. b) is_some c.in-Some.arrivals)
    ∙ ap (λ o. list_all (λ b. b) (comes_in c.self.inside.nodes o)) (sym c.in-Some.is)
    ∙ none_left c.self.inside.scope (list_all (λ b. b) (comes_in c.self.inside.nodes c.self.inside.arrivals))
    (sym c.is_some.ensures ∙ c.if-is_some.false)
    ∙ ap is_everywhere c.self.view_is
