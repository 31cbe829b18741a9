use Rattle.std.proofs.Common.{◌≤◌, ◌∙◌, sym, ap, subst, length}
use Rattle.srm_net.specs.Names.{name_cmp}
use Rattle.srm_member.specs.Places.{is_at}
use Rattle.srm_member.proofs.NameTests.{name_eq}
use Rattle.srm_member.proofs.PlaceLemmas.{there, none_there}
use Rattle.srm_member.proofs.rising.Rising.is_at.Goals as goal

pub returns-in-Some : goal.returns-in-Some
returns-in-Some g c =
    let lookup = c.in-Some.ensures.lookup.3 in
    c.eq.ensures ∙ name_eq c.in-Some.entry.now.0 c.args.name
    ∙ sym (there name_cmp c.args.name c.as_slice.result.now c.args.place c.in-Some.entry.now lookup.0 (lookup.1 c.in-Some.entry.now))
    ∙ ap (λ es. is_at name_cmp c.args.name es c.args.place) (c.as_slice.ensures.value ∙ c.self.view_is)

pub returns-in-None : goal.returns-in-None
returns-in-None g c = sym (none_there name_cmp c.args.name c.args.self.now c.args.place
    (subst (λ es. length es ≤ c.args.place) (c.as_slice.ensures.value ∙ c.self.view_is) c.in-None.ensures.lookup.3))
