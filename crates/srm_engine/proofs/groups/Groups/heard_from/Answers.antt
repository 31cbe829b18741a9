use Rattle.std.proofs.Common.{◌≡◌, ◌∙◌, ◌==◌, ◌∷◌, [], List, ℕ, eqb-true, refl, sym, ap, subst, length, arith, true, IsPermutation}
use Rattle.std.proofs.lemmas.List.Sorted.{IsPermutation-map, IsPermutation-refl, All-permutation}
use Rattle.srm_net.specs.declared.packet.Packet.{Packet}
use Rattle.srm_member.specs.declared.row.Row.{Row}
use Rattle.srm_cell.specs.declared.sent.Sent.{Sent}
use Rattle.srm_cell.specs.Setting.{traffic_of}
use Rattle.srm_cell.specs.Crossings.{packets_of}
use Rattle.srm_cell.specs.Hearing.{IsSent, packets_in}
use Rattle.srm_interfaces.specs.Hearers.{GroupsMayHear, GroupsHear}
use Rattle.srm_model.proofs.WindowRows.{packets_are_heard_in_turn}
use Rattle.srm_engine.specs.Starts.{setting_on}
use Rattle.srm_engine.specs.Groups.{AreCuts, AreGrouped, cells_of, sizes, all_in}
use Rattle.srm_engine.specs.Soonest.{soon_in}
use Rattle.srm_engine.proofs.CellLists.{all_long}
use Rattle.srm_engine.proofs.HeardRows.{rows_that_send, groups_may, groups_long, groups_heard}
use Rattle.srm_engine.proofs.groups.Groups.heard_from.Goals as goal

-- what was sent in rows, in the order of sending, are the packets of the rows in some order
in_order : (rows : List Row) (sent all : List Sent) → packets_of rows ≡ packets_in sent → IsPermutation sent all
    → (others : List Row) × IsPermutation (packets_of rows) (packets_of others) × (packets_of others ≡ packets_in all)
in_order rows sent all is h =
    rows_that_send rows (packets_in all)
    (subst (λ l. IsPermutation l (packets_in all)) (sym is) (IsPermutation-map (λ (x : Sent). x.packet) sent all h))

-- a vector with no items
no_items : {A : Type 0} (n : ℕ) (xs : List A) → n ≡ length xs → (n == 0) ≡ true → xs ≡ []
no_items n [] long zero = refl
no_items n (x ∷ xs) long zero = let none = eqb-true n 0 zero in absurd (omega arith)

pub returns-then-is_empty-clause-handed : goal.returns-then-is_empty-clause-handed
returns-then-is_empty-clause-handed g c = g.met.C.WatchCrew.handed_none c.args.crew.now

pub returns-then-is_empty-clause-heard : goal.returns-then-is_empty-clause-heard
returns-then-is_empty-clause-heard g c = λ seed rows is.
    let s = setting_on c.args.session seed in
    let none : c.args.sent.items ≡ [] = no_items c.args.sent.len c.args.sent.items c.args.sent.ok.0
    (sym c.is_empty.ensures ∙ c.if-is_empty.true) in (
      [],
      subst (λ ps. IsPermutation ps []) (sym (is ∙ ap (λ ls. packets_in (all_in ls)) none)) (IsPermutation-refl []),
      λ h. (h, sym (packets_are_heard_in_turn s (cells_of g.M.Participant.plain c.args.self)).0),
    )

pub hear-requires-clause-sent : goal.hear-requires-clause-sent
hear-requires-clause-sent g c =
    All-permutation (λ (x : Sent). IsSent c.args.session.scenario.now c.args.session.net.now x) (all_in c.args.sent.items)
    c.in_ok-sent.sent.items c.in_ok-sent.ensures c.requires.sent

pub hear-requires-clause-groups : goal.hear-requires-clause-groups
hear-requires-clause-groups g c =
    let may = c.requires.may.3 in
    let s = setting_on c.args.session c.requires.may.0 in
    let others = in_order c.requires.may.1 (all_in c.args.sent.items) c.in_ok-sent.sent.items c.requires.may.2 c.in_ok-sent.ensures in
    rw c.args.session.network
    (subst (λ ps. GroupsMayHear g.M.Participant.plain s.traffic ps c.args.self.groups.items) others.2
    (groups_may g.M.Participant.plain s others.0 c.args.self.groups.items may.kept.grouped.order may.members (may.new others.0 others.1)))

pub soonest_of_each-requires-clause-cut : goal.soonest_of_each-requires-clause-cut
soonest_of_each-requires-clause-cut g c = c.requires.may.3.kept.cut.0

pub soonest_of_each-requires-clause-cuts : goal.soonest_of_each-requires-clause-cuts
soonest_of_each-requires-clause-cuts g c =
    let t = traffic_of c.args.session.scenario.now c.args.session.net.now in
    subst (λ l. AreCuts c.args.self.cut (sizes l)) (sym c.as_slice.ensures.value)
    (subst (AreCuts c.args.self.cut)
    (groups_long g.M.Participant.plain t (packets_in c.in_ok-sent.sent.items) c.args.self.groups.items c.in_ok-groups.groups.items
    c.in_ok-groups.ensures.heard) c.requires.may.3.kept.grouped.cuts)

pub soonest_of_each-requires-clause-members : goal.soonest_of_each-requires-clause-members
soonest_of_each-requires-clause-members g c =
    let t = traffic_of c.args.session.scenario.now c.args.session.net.now in
    let same = groups_long g.M.Participant.plain t (packets_in c.in_ok-sent.sent.items) c.args.self.groups.items
    c.in_ok-groups.groups.items c.in_ok-groups.ensures.heard in
    let long = all_long c.args.self.groups.items c.in_ok-groups.groups.items same in
    let many = c.requires.may.3.members in
    let all = ap (λ l. length (all_in l)) c.as_slice.ensures.value in
    omega (arith, all, long, many)

pub returns-clause-sizes : goal.returns-clause-sizes
returns-clause-sizes g c =
    let t = traffic_of c.args.session.scenario.now c.args.session.net.now in
    sym (groups_long g.M.Participant.plain t (packets_in c.in_ok-sent.sent.items) c.args.self.groups.items c.in_ok-groups.groups.items
    c.in_ok-groups.ensures.heard)

pub returns-clause-heard : goal.returns-clause-heard
returns-clause-heard g c = λ seed from is.
    let f = g.M.Participant.plain in
    let s = setting_on c.args.session seed in
    let gs = c.args.self.groups.items in
    let hs = c.in_ok-groups.groups.items in
    let cut = c.args.self.cut in
    let others = in_order from (all_in c.args.sent.items) c.in_ok-sent.sent.items is c.in_ok-sent.ensures in
    let rows = others.0 in
    let heard = subst (λ (ps : List Packet). GroupsHear f s.traffic ps gs hs) (sym others.2)
    (rw c.args.session.network at c.in_ok-groups.ensures.heard) in (
      rows,
      others.1,
      λ h.
          let told = groups_heard f s.traffic rows gs hs heard h.grouped.order in
          let grouped : AreGrouped f cut hs = record {
            order = told.0;
            cuts = subst (AreCuts cut) (groups_long f s.traffic (packets_of rows) gs hs heard) h.grouped.cuts;
          } in (
            record {
              cut = h.cut;
              grouped = grouped;
              soon = c.in_ok-soon.ensures seed (subst (AreGrouped f cut) (sym c.as_slice.ensures.value) grouped)
                  ∙ ap (soon_in f s) c.as_slice.ensures.value;
            },
            told.1,
          ),
    )
