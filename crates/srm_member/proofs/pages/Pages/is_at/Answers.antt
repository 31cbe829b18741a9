use Rattle.std.proofs.Common.{◌≤◌, ◌∙◌, sym, ap, subst, length}
use Rattle.srm_net.specs.Names.{page_cmp}
use Rattle.srm_member.specs.Places.{is_at}
use Rattle.srm_member.proofs.NameTests.{page_eq}
use Rattle.srm_member.proofs.PlaceLemmas.{there, none_there}
use Rattle.srm_member.proofs.pages.Pages.is_at.Goals as goal

pub returns-in-Some : goal.returns-in-Some
returns-in-Some c =
    let lookup = c.in-Some.ensures.lookup.3 in
    c.eq.ensures ∙ page_eq c.in-Some.entry.now.0 c.args.page
    ∙ sym (there page_cmp c.args.page c.as_slice.result.now c.args.place c.in-Some.entry.now lookup.0 (lookup.1 c.in-Some.entry.now))
    ∙ ap (λ es. is_at page_cmp c.args.page es c.args.place) (c.as_slice.ensures ∙ c.self.view_is)

pub returns-in-None : goal.returns-in-None
returns-in-None c = sym (none_there page_cmp c.args.page c.args.self.now c.args.place
    (subst (λ es. length es ≤ c.args.place) (c.as_slice.ensures ∙ c.self.view_is) c.in-None.ensures.lookup.3))
