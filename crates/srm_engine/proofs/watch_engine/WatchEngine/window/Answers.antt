use Rattle.std.proofs.Common.{◌∙◌, ◌++◌, ◌∷◌, [], refl, sym, ap, subst, arith, length}
use Rattle.std.proofs.lemmas.List.{length-map}
use Rattle.std.specs.List.{range_with_len}
use Rattle.std.specs.Global.{Vec}
use Rattle.srm_cell.specs.Crossings.{joined}
use Rattle.srm_cell.specs.Hearing.{packets_in}
use Rattle.srm_model.specs.World.{row_cmp}
use Rattle.srm_model.specs.WindowRuns.{cells_in, each_hears, jobs_of, AreNewInTurn}
use Rattle.srm_model.proofs.OneWindow.{some_merge}
use Rattle.srm_net.specs.Orders.{ordered}
use Rattle.srm_interfaces.specs.Watches.{job_in, jobs_in, KeepMembers}
use Rattle.srm_interfaces.specs.InTurn.{WereClosed}
use Rattle.srm_engine.specs.Groups.{all_in, groups_of, sizes, lists_of, some_of, AreCuts, AreGrouped, RanGroups}
use Rattle.srm_engine.specs.Seen.{plain_cells}
use Rattle.srm_engine.specs.Soonest.{soonest_of}
use Rattle.srm_engine.specs.WatchedGroups.{time_at}
use Rattle.srm_engine.specs.WatchEngines.{kept_by}
use Rattle.srm_engine.specs.WindowEngines.{setting_by}
use Rattle.srm_cell.specs.declared.cell.Cell.{Cell}
use Rattle.srm_cell.specs.Cells.{Spent}
use Rattle.srm_cell.specs.Jobs.{own_cells}
use Rattle.srm_interfaces.specs.Crews.{AnyEnds}
use Rattle.srm_engine.proofs.CellLists.{as_many}
use Rattle.srm_engine.proofs.SoonGroups.{as_many_ran, idle_groups}
use Rattle.srm_engine.proofs.WatchedLemmas.{are_sound, places_in}
use Rattle.srm_engine.proofs.WatchWindows.{watched_tell, watched_tell_now, watch_ran, watch_ran_now}
use Rattle.srm_engine.proofs.WindowLemmas.{of_a_window, map_refused, end_is}
use Rattle.srm_engine.proofs.WindowLemmas.{heard_in_order, heard_as, after, one_more, counted_after, kept_after, later}
use Rattle.srm_engine.proofs.watch_engine.WatchEngine.window.Goals as goal

pub map-requires-clause-may : goal.map-requires-clause-may
map-requires-clause-may g c =
    let js = c.in_ok-jobs.jobs.items in
    let told = watched_tell_now g.M.Participant.plain c.args.self c.requires.stands c.end-end.result
    c.end-end.ensures js (rw c.as_slice.ensures.value at c.in_ok-jobs.ensures) in
    let long = length-map js job_in in
    let f = g.M.Participant.plain in
    let k = c.requires.stands.under_way in record {
      may = record {
        jobs = told.may;
        many = (let few = told.few in omega (arith, few));
        links = k.links;
        of_ledger = k.comes.counted.ledger;
      };
      sound = rw (rw c.as_slice.ensures.value at c.in_ok-jobs.ensures)
          (are_sound (time_at c.args.self.engine.groups.soon.items) f c.end-end.result 0 c.args.self.engine.groups.groups.items
          c.args.self.kept.items c.requires.stands.each
          (idle_groups f (setting_by c.args.self.engine k.seed) c.args.self.engine.groups.groups.items
          c.args.self.engine.groups.soon.items k.comes.kept.soon));
      places = sym (places_in js) ∙ told.placed ∙ ap (λ n. range_with_len 0 n) long;
    }

pub unwrap-requires : goal.unwrap-requires
unwrap-requires g c = rw c.of.ensures (of_a_window c.in-Err.fault (λ spent.
    let j = watched_tell_now g.M.Participant.plain c.args.self c.requires.stands c.end-end.result
    c.end-end.ensures c.in_ok-jobs.jobs.items (rw c.as_slice.ensures.value at c.in_ok-jobs.ensures) in
    j.not_spent (subst (AnyEnds Spent) j.seen (rw spent at c.in-Err.ensures.done))))

pub returns-in-Err-clause-window : goal.returns-in-Err-clause-window
returns-in-Err-clause-window g c = λ seed begins w comes.
    let j = watched_tell g.M.Participant.plain c.args.self c.requires.stands seed begins w comes
    c.end-end.result c.end-end.ensures c.in_ok-jobs.jobs.items (rw c.as_slice.ensures.value at c.in_ok-jobs.ensures) in
    map_refused g.M.Participant.plain c.args.self.engine seed c.end-end.result w (jobs_in c.in_ok-jobs.jobs.items) j c.in-Err.fault
    c.unwrap.result (sym c.of.ensures ∙ c.unwrap.ensures) c.in-Err.ensures.done

pub look_again-groups-requires : goal.look_again-groups-requires
look_again-groups-requires g c =
    let k = c.requires.stands.under_way in
    let e = c.args.self.engine in
    let left = watch_ran_now g.M.Participant.plain c.args.self c.requires.stands c.end-end.result
    c.end-end.ensures c.in_ok-jobs.jobs.items (rw c.as_slice.ensures.value at c.in_ok-jobs.ensures) c.in-Ok.done c.in-Ok.ensures.done in
    let ran = left.ran in
    let same = c.in_ok-groups.ensures.groups ∙ left.groups in
    let cuts = subst (λ l. AreCuts e.groups.cut (sizes l)) (sym same) ran.grouped.cuts in
    let f = g.M.Participant.plain in
    let long = as_many f (all_in (groups_of c.in-Ok.ensures.done.0)) (cells_in ran.results) ran.shown in
    record {
      may = record {
        cut = k.comes.kept.cut;
        cuts = cuts;
        members = (let all = ap (λ l. length (all_in l)) same in let members = ran.members in omega (arith, all, long));
        many = (
            let before = as_many_ran f (setting_by e k.seed) c.end-end.result e.groups.groups.items
            (groups_of c.in-Ok.ensures.done.0) ran.ran in
            let soon = ap length k.comes.kept.soon in
            let now = length-map (groups_of c.in-Ok.ensures.done.0) (λ (v : Vec (Cell _)).
            soonest_of (setting_by e k.seed) (own_cells f v.items)) in
            let all = ap length same in
            omega (arith, before, soon, now, all)
            );
      };
    }

pub heard_from-requires-clause-sent : goal.heard_from-requires-clause-sent
heard_from-requires-clause-sent g c =
    rw c.in_ok-groups.ensures.sent
    (watch_ran_now g.M.Participant.plain c.args.self c.requires.stands c.end-end.result
    c.end-end.ensures c.in_ok-jobs.jobs.items (rw c.as_slice.ensures.value at c.in_ok-jobs.ensures) c.in-Ok.done c.in-Ok.ensures.done).sent

pub heard_from-requires-clause-may : goal.heard_from-requires-clause-may
heard_from-requires-clause-may g c =
    let k = c.requires.stands.under_way in
    let e = c.args.self.engine in
    let w = k.world in
    let ds = c.in-Ok.ensures.done.0 in
    let left = watch_ran_now g.M.Participant.plain c.args.self c.requires.stands c.end-end.result
    c.end-end.ensures c.in_ok-jobs.jobs.items (rw c.as_slice.ensures.value at c.in_ok-jobs.ensures) c.in-Ok.done c.in-Ok.ensures.done in
    let ran = left.ran in
    let f = g.M.Participant.plain in
    let s = setting_by e k.seed in
    let same = sym (c.in_ok-groups.ensures.groups ∙ left.groups) in
    let now = c.look_again-groups.ensures.same.1 in
    let shown = ap (λ (v : Vec (Vec (Cell _))). plain_cells f (all_in v.items)) now
    ∙ ap (λ l. plain_cells f (all_in l)) (sym same) ∙ ran.shown in (
      k.seed,
      joined (some_of (lists_of ds)),
      left.packets ∙ ap packets_in (sym c.in_ok-groups.ensures.sent),
      record {
        kept = c.look_again-groups.ensures.soon k.seed e.groups.groups.items (subst (RanGroups f c.end-end.result e.groups.groups.items)
            same ran.ran) k.comes.kept.soon (subst (AreGrouped f e.groups.cut) same ran.grouped);
        members = as_many f _ (cells_in ran.results) shown ∙ ran.members;
        new = λ others h. subst (AreNewInTurn s.traffic others) (sym shown)
            (heard_in_order f e k k.seed k.begins w k.comes c.end-end.result c.end-end.ensures ds ran others h).0;
      },
    )

pub returns-clause-window : goal.returns-clause-window
returns-clause-window g c = λ seed begins w comes.
    let k = c.requires.stands.under_way in
    let f = g.M.Participant.plain in
    let keeps = g.W.Watch.keeps c.args.watch in
    let e = c.args.self.engine in
    let till = c.end-end.result in
    let at = c.end-end.ensures in
    let done = c.in-Ok.ensures.done in
    let ds = done.0 in
    let j = watched_tell f c.args.self c.requires.stands seed begins w comes till at c.in_ok-jobs.jobs.items
    (rw c.as_slice.ensures.value at c.in_ok-jobs.ensures) in
    let left = watch_ran f c.args.self c.requires.stands seed begins w comes till at c.in_ok-jobs.jobs.items
    (rw c.as_slice.ensures.value at c.in_ok-jobs.ensures)
    c.in-Ok.done done in
    let ran = left.ran in
    let s = setting_by e seed in
    let cut = e.groups.cut in
    let same = sym (c.in_ok-groups.ensures.groups ∙ left.groups) in
    let shown = ap (λ (v : Vec (Vec (Cell _))). plain_cells f (all_in v.items)) c.look_again-groups.ensures.same.1
    ∙ ap (λ l. plain_cells f (all_in l)) (sym same) ∙ ran.shown in
    let lists = some_of (lists_of ds) in
    let rows = ordered row_cmp (joined lists) in
    let merge = some_merge lists in
    let others = c.in_ok-groups-2.ensures.heard seed (joined lists) (left.packets ∙ ap packets_in (sym c.in_ok-groups.ensures.sent)) in
    let heard = others.2 (c.look_again-groups.ensures.soon seed e.groups.groups.items
    (subst (RanGroups f till e.groups.groups.items) same ran.ran) comes.kept.soon (subst (AreGrouped f cut) same ran.grouped)) in
    let in_order = (heard_in_order f e k seed begins w comes till at ds ran others.0 others.1).1 in (
      (
        after f e k seed begins w comes till at ds ran rows (merge.all, merge.in_order),
        record {
          windows = (one_more f e k seed begins w comes till at ds ran rows (merge.all, merge.in_order)).0;
          kept = heard.0;
          shown = heard.1 ∙ ap (each_hears s.traffic 0 others.0) shown ∙ in_order
              ∙ heard_as f e k seed begins w comes till at ds ran rows merge.all;
          counted = counted_after f e k seed begins w comes till at ds ran rows (merge.all, merge.in_order) c.in-Ok.done.1 done.2;
        },
        (
          rows,
          refl,
          merge.in_order,
          λ before so_far.
              subst (WereClosed (g.W.Watch.closes c.args.watch) (λ kept. KeepMembers keeps 0 kept (before ++ rows)))
              (sym c.in_ok-groups.ensures.kept)
              (record {
                full = left.kept.full;
                closed = left.kept.closed;
                so = kept_after f e k seed begins w comes till at ds ran rows (merge.all, merge.in_order) keeps before
                    (kept_by c.args.self) (joined left.kept.full) so_far left.kept.so;
              }),
        ),
      ),
      subst (λ n. g.C.WatchCrew.handed c.args.crew.now (jobs_of cut n w ∷ []) c.heard_from.new.crew)
          (end_is f e k seed begins w comes till at)
          (g.met.C.WatchCrew.handed_more c.args.crew.now c.map.new.self c.heard_from.new.crew
          (jobs_of cut till w ∷ []) []
          (subst (λ ps. g.C.WatchCrew.handed c.args.crew.now (ps ∷ []) c.map.new.self) j.seen c.in-Ok.ensures.handed)
          c.heard_from.ensures.handed),
    )

pub returns-clause-stands : goal.returns-clause-stands
returns-clause-stands g c =
    let k = c.requires.stands.under_way in
    let left = watch_ran_now g.M.Participant.plain c.args.self c.requires.stands c.end-end.result
    c.end-end.ensures c.in_ok-jobs.jobs.items (rw c.as_slice.ensures.value at c.in_ok-jobs.ensures) c.in-Ok.done c.in-Ok.ensures.done in
    let told = (returns-clause-window g c k.seed k.begins k.world k.comes).0 in record {
      under_way = record {
        accepted = k.accepted;
        links = k.links;
        ends = k.ends;
        seed = k.seed;
        begins = k.begins ++ k.world ∷ [];
        world = told.0;
        comes = told.1;
      };
      each = ap sizes c.in_ok-groups.ensures.kept ∙ left.each ∙ sym (ap sizes (c.in_ok-groups.ensures.groups ∙ left.groups))
          ∙ sym (c.in_ok-groups-2.ensures.sizes ∙ ap (λ (v : Vec _). sizes v.items) c.look_again-groups.ensures.same.1);
    }

pub returns-clause-later : goal.returns-clause-later
unfolding returns-clause-window
returns-clause-later g c = λ next at.
    let k = c.requires.stands.under_way in
    let e = c.args.self.engine in
    let ds = c.in-Ok.ensures.done.0 in
    let ran = (watch_ran g.M.Participant.plain c.args.self c.requires.stands k.seed k.begins k.world k.comes
    c.end-end.result c.end-end.ensures c.in_ok-jobs.jobs.items
    (rw c.as_slice.ensures.value at c.in_ok-jobs.ensures) c.in-Ok.done c.in-Ok.ensures.done).ran in
    let lists = some_of (lists_of ds) in
    let rows = ordered row_cmp (joined lists) in
    let merge = some_merge lists in
    let told = (returns-clause-window g c k.seed k.begins k.world k.comes).0 in
    later g.M.Participant.plain e k k.seed k.begins k.world k.comes c.end-end.result
    c.end-end.ensures ds ran rows (merge.all, merge.in_order) c.args.begin next c.requires.begin c.requires.early
    (at k.seed (k.begins ++ k.world ∷ []) told.0 told.1)
