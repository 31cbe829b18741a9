use Rattle.std.proofs.Common.{rules, ◌≡◌, ◌∙◌, ap, sym, subst}
use Rattle.std.proofs.lemmas.Result.{err_from_is_err_and}
use Rattle.srm_scenario.specs.Accepted.{IsAccepted}
use Rattle.std.specs.Global.{Vec}
use Rattle.srm_net.specs.declared.link.LinkSpec.{LinkSpec}
use Rattle.srm_scenario.specs.declared.parts.MemberSpec.{MemberSpec}
use Rattle.srm_net.specs.DropRules.{DropRules}
use Rattle.srm_scenario.specs.Plain.{PlainScenario}
use Rattle.srm_scenario.specs.declared.draft.Draft.{Draft}
use Rattle.srm_scenario.specs.declared.lists.Lists.{Lists}
use Rattle.srm_scenario.proofs.Meanings.{Made, tree_fault, place_fault, sent_fault, dropped_fault, spans_fault, no_fault}
use Rattle.srm_scenario.proofs.Meanings.{plain_made, accepted_made}
use Rattle.srm_scenario.proofs.reading.scenario_from.Goals as goal

pub returns-in_err-check_tree-clause-fault : goal.returns-in_err-check_tree-clause-fault
returns-in_err-check_tree-clause-fault c =
    let p = err_from_is_err_and c.from_residual-in_err-check_tree.result c.from_residual-in_err-check_tree.ensures.1 in
    let links = c.in_ok-links.links.items in
    let same = c.in_ok-links.ensures in
    let e = c.in_err-check_tree.field-0.0 in
    rw (p.1, p.2) (tree_fault c.args.draft links e same (rw c.deref.ensures.value at c.in_err-check_tree.ensures))

pub returns-in_err-check_members-clause-fault : goal.returns-in_err-check_members-clause-fault
returns-in_err-check_members-clause-fault c =
    let p = err_from_is_err_and c.from_residual-in_err-check_members.result c.from_residual-in_err-check_members.ensures.1 in
    let links = c.in_ok-links.links.items in
    let same = c.in_ok-links.ensures in
    let e = c.in_err-check_members.field-0.0 in
    let tree = rw c.deref.ensures.value at c.in_ok-check_tree.ensures in
    rw (p.1, p.2) (place_fault c.args.draft links e same tree
    (rw (c.is_star.ensures, c.deref-2.ensures.value) at c.in_err-check_members.ensures))

pub returns-in_err-check_sent-clause-fault : goal.returns-in_err-check_sent-clause-fault
returns-in_err-check_sent-clause-fault c =
    let p = err_from_is_err_and c.from_residual-in_err-check_sent.result c.from_residual-in_err-check_sent.ensures.1 in
    let links = c.in_ok-links.links.items in
    let same = c.in_ok-links.ensures in
    let e = c.in_err-check_sent.field-0.0 in
    let tree = rw c.deref.ensures.value at c.in_ok-check_tree.ensures in
    let placed = rw (c.is_star.ensures, c.deref-2.ensures.value) at c.in_ok-check_members.ensures in
    rw (p.1, p.2) (sent_fault c.args.draft links e same tree c.in_ok-members.members.items c.in_ok-members.ensures placed
    (rw (c.deref-3.ensures.value, c.deref-4.ensures.value, c.deref-5.ensures.value) at c.in_err-check_sent.ensures))

pub returns-in_err-check_drops-clause-fault : goal.returns-in_err-check_drops-clause-fault
returns-in_err-check_drops-clause-fault c =
    let p = err_from_is_err_and c.from_residual-in_err-check_drops.result c.from_residual-in_err-check_drops.ensures.1 in
    let links = c.in_ok-links.links.items in
    let same = c.in_ok-links.ensures in
    let e = c.in_err-check_drops.field-0.0 in
    let tree = rw c.deref.ensures.value at c.in_ok-check_tree.ensures in
    let placed = rw (c.is_star.ensures, c.deref-2.ensures.value) at c.in_ok-check_members.ensures in
    let sent = rw (c.deref-3.ensures.value, c.deref-4.ensures.value, c.deref-5.ensures.value) at c.in_ok-check_sent.ensures in
    rw (p.1, p.2) (dropped_fault c.args.draft links e same tree c.in_ok-members.members.items c.in_ok-members.ensures placed sent.0 sent.1
    (rw (c.deref-6.ensures.value, c.deref-7.ensures.value, c.deref-8.ensures.value) at c.in_err-check_drops.ensures))

pub returns-in_err-check_spans-clause-fault : goal.returns-in_err-check_spans-clause-fault
returns-in_err-check_spans-clause-fault c =
    let p = err_from_is_err_and c.from_residual-in_err-check_spans.result c.from_residual-in_err-check_spans.ensures.1 in
    let links = c.in_ok-links.links.items in
    let same = c.in_ok-links.ensures in
    let e = c.in_err-check_spans.field-0.0 in
    let tree = rw c.deref.ensures.value at c.in_ok-check_tree.ensures in
    let placed = rw (c.is_star.ensures, c.deref-2.ensures.value) at c.in_ok-check_members.ensures in
    let sent = rw (c.deref-3.ensures.value, c.deref-4.ensures.value, c.deref-5.ensures.value) at c.in_ok-check_sent.ensures in
    let dropped = rw (c.deref-6.ensures.value, c.deref-7.ensures.value, c.deref-8.ensures.value) at c.in_ok-check_drops.ensures in
    rw (p.1, p.2) (spans_fault c.args.draft links e same tree c.in_ok-members.members.items c.in_ok-members.ensures placed sent.0 sent.1
    dropped (rw (c.deref-9.ensures.value, c.deref-10.ensures.value, c.deref-11.ensures.value) at c.in_err-check_spans.ensures))

pub returns-clause-no_fault : goal.returns-clause-no_fault
returns-clause-no_fault c =
    let made : Made c.args.draft c.in_ok-links.links.items c.in_ok-members.members.items =
    record { links_are = c.in_ok-links.ensures; members_are = c.in_ok-members.ensures } in
    let tree = rw c.deref.ensures.value at c.in_ok-check_tree.ensures in
    let placed = rw (c.is_star.ensures, c.deref-2.ensures.value) at c.in_ok-check_members.ensures in
    let sent = rw (c.deref-3.ensures.value, c.deref-4.ensures.value, c.deref-5.ensures.value) at c.in_ok-check_sent.ensures in
    let dropped = rw (c.deref-6.ensures.value, c.deref-7.ensures.value, c.deref-8.ensures.value) at c.in_ok-check_drops.ensures in
    let spans = rw (c.deref-9.ensures.value, c.deref-10.ensures.value, c.deref-11.ensures.value) at c.in_ok-check_spans.ensures in
    no_fault c.args.draft c.in_ok-links.links.items c.in_ok-members.members.items made tree placed sent.0 sent.1 dropped spans.0 spans.1

-- the lists of a draft, with these links and members
abbrev listed : Vec LinkSpec → Vec MemberSpec → Draft → Lists
listed links members draft = record { links = links; members = members; draws = draft.draws; sessions = draft.sessions }

-- the scenario of a draft, with these rules and lists
abbrev scenario_with : Draft → DropRules → Lists → PlainScenario
scenario_with draft drops l = record {
  until = draft.until;
  constants = draft.constants;
  room = draft.room;
  recovery = draft.recovery;
  nodes = draft.nodes;
  links = l.links.items;
  members = l.members.items;
  draws = l.draws.items;
  sessions = l.sessions.items;
  drops = drops;
}

pub returns-clause-plain : goal.returns-clause-plain
returns-clause-plain c =
    let made : Made c.args.draft c.in_ok-links.links.items c.in_ok-members.members.items =
    record { links_are = c.in_ok-links.ensures; members_are = c.in_ok-members.ensures } in
    let drops = rw (c.deref-12.ensures.value, c.deref-13.ensures.value, c.deref-14.ensures.value) at c.in_ok-drops.ensures in
    let lists : c.in_ok-lists.lists.value
    ≡ listed c.in_ok-links.links c.in_ok-members.members c.args.draft = search rules in
    ap (scenario_with c.args.draft c.in_ok-drops.drops) lists
    ∙ plain_made c.args.draft c.in_ok-links.links.items c.in_ok-members.members.items c.in_ok-drops.drops made drops

pub invariant_of-result : goal.invariant_of-result
invariant_of-result c =
    let made : Made c.args.draft c.in_ok-links.links.items c.in_ok-members.members.items =
    record { links_are = c.in_ok-links.ensures; members_are = c.in_ok-members.ensures } in
    let tree = rw c.deref.ensures.value at c.in_ok-check_tree.ensures in
    let placed = rw (c.is_star.ensures, c.deref-2.ensures.value) at c.in_ok-check_members.ensures in
    let sent = rw (c.deref-3.ensures.value, c.deref-4.ensures.value, c.deref-5.ensures.value) at c.in_ok-check_sent.ensures in
    let dropped = rw (c.deref-6.ensures.value, c.deref-7.ensures.value, c.deref-8.ensures.value) at c.in_ok-check_drops.ensures in
    let spans = rw (c.deref-9.ensures.value, c.deref-10.ensures.value, c.deref-11.ensures.value) at c.in_ok-check_spans.ensures in
    let drops = rw (c.deref-12.ensures.value, c.deref-13.ensures.value, c.deref-14.ensures.value) at c.in_ok-drops.ensures in
    let none = no_fault c.args.draft c.in_ok-links.links.items c.in_ok-members.members.items made tree placed sent.0 sent.1
    dropped spans.0 spans.1 in
    let lists : c.in_ok-lists.lists.value
    ≡ listed c.in_ok-links.links c.in_ok-members.members c.args.draft = search rules in
    let plain = ap (scenario_with c.args.draft c.in_ok-drops.drops) lists
    ∙ plain_made c.args.draft c.in_ok-links.links.items c.in_ok-members.members.items c.in_ok-drops.drops made drops in
    subst (λ (s : PlainScenario). IsAccepted s) (sym plain) (accepted_made c.args.draft c.requires.range c.requires.pages none)
