use Rattle.std.proofs.Common.{◌≡◌, ◌∙◌, ◌<◌, ◌+◌, ◌^◌, ◌++◌, ◌∷◌, [], List, All, length, take, drop, get_or, slice_set}
use Rattle.std.proofs.Common.{refl, sym, ap, subst, add-one, arith}
use Rattle.std.specs.Vec.{with_items}
use Rattle.std.proofs.Math.Seq.{take-suc}
use Rattle.std.proofs.lemmas.List.{drop_more, drop-set-lt, length-set, take_more_set, with_items_is}
use Rattle.std.proofs.lemmas.List.Elements.{All-nil, All-head, All-tail}
use Rattle.srm_member.specs.declared.row.Row.{Row}
use Rattle.srm_cell.specs.declared.sent.Sent.{Sent}
use Rattle.srm_cell.specs.Hearing.{IsSent, packets_in}
use Rattle.srm_cell.specs.Setting.{traffic_of}
use Rattle.srm_cell.specs.Totalled.{numbers_of}
use Rattle.srm_interfaces.specs.Watches.{IsClosed, KeepClosed}
use Rattle.srm_crew.specs.Watched.{IsOfMember}
use Rattle.srm_crew.proofs.WatchedCells.{CellsSoFar, are_of_members, cells_all, cells_fault, cells_more, cells_none}
use Rattle.srm_crew.proofs.WatchedCells.{cells_past, few_sent, if_ok}
use Rattle.srm_crew.proofs.watching.advance_one.Goals as goal

pub loop-cell-init : goal.loop-cell-init
loop-cell-init g c =
    let f = g.M.Participant.plain in
    let keeps = g.W.Watch.keeps c.args.work.now.watch in
    let k = c.args.work.now.session.scenario.now in
    let net = c.args.work.now.session.net.now in
    let job = c.args.job in
    let may = c.requires.job in
    let shown = c.deref_mut-cell-items.ensures.value in (
      refl,
      ap length shown ∙ sym c.requires.sound.kept,
      refl,
      refl,
      subst (All (IsOfMember f (length net.hosts))) (sym shown)
          (are_of_members f (length net.hosts) job.cells.items may.sound may.of_members),
      subst (λ xs. CellsSoFar f keeps k net job [] xs [] [] c.clear.new.self.items) (sym shown)
          (subst (λ xs. CellsSoFar f keeps k net job [] job.cells.items [] [] xs) (sym c.clear.ensures.items)
          (cells_none f keeps k net job)),
      subst (All (λ x. IsSent k net x)) (sym c.clear.ensures.items) (All-nil (λ x. IsSent k net x)),
    )

pub run_watched-requires-clause-till : goal.run_watched-requires-clause-till
run_watched-requires-clause-till g c = c.requires.job.till

pub run_watched-requires-clause-member : goal.run_watched-requires-clause-member
run_watched-requires-clause-member g c =
    let i = c.loop-cell.cell-index in
    let cells = c.loop-cell.cell-items in
    let same = c.loop-cell.auto.cell-items in
    let test = c.loop-cell-test.true in
    let within : i < length cells = omega arith in
    All-head (IsOfMember g.M.Participant.plain (length c.args.work.now.session.net.now.hosts)) _ _
    (rw (drop_more cells i c.cell-item.result within) at c.loop-cell.invariant.4)

pub returns-in-Err : goal.returns-in-Err
returns-in-Err g c =
    let i = c.loop-cell.cell-index in
    let cells = c.loop-cell.cell-items in
    let cell = get_or cells i c.cell-item.result in
    let same = c.loop-cell.auto.cell-items in
    let test = c.loop-cell-test.true in
    let within : i < length cells = omega arith in
    let own = All-head (IsOfMember g.M.Participant.plain (length c.args.work.now.session.net.now.hosts)) _ _
    (rw (drop_more cells i c.cell-item.result within) at c.loop-cell.invariant.4) in
    cells_fault g.M.Participant.plain (g.W.Watch.keeps c.args.work.now.watch) c.args.work.now.session.scenario.now
    c.args.work.now.session.net.now c.args.job
    (KeepClosed (g.W.Watch.keeps c.args.work.now.watch) (g.W.Watch.closes c.args.work.now.watch)) (take i cells) (drop (i + 1) cells)
    (take i c.args.job.kept.items) (take i c.loop-cell.kept.items) c.loop-cell.gathered.sent.items cell c.run_watched.new.cell
    c.in-Err.fault
    (rw (drop_more cells i c.cell-item.result within) at c.loop-cell.invariant.5) (λ ne. c.in-Err.ensures.refused ne own.0)

pub loop-cell-preserved : goal.loop-cell-preserved
loop-cell-preserved g c =
    let f = g.M.Participant.plain in
    let keeps = g.W.Watch.keeps c.args.work.now.watch in
    let k = c.args.work.now.session.scenario.now in
    let net = c.args.work.now.session.net.now in
    let i = c.loop-cell.cell-index in
    let cells = c.loop-cell.cell-items in
    let cell = get_or cells i c.cell-item.result in
    let after = c.run_watched.new.cell in
    let was = c.args.job.kept.items in
    let now = c.loop-cell.kept.items in
    let new = c.run_watched.new.kept in
    let ran = c.in-Ok.ensures.ran in
    let d = c.index_mut.result.now in
    let sent = c.loop-cell.gathered.sent.items in
    let at : c.loop-cell.index ≡ i = c.loop-cell.invariant.0 in
    let many : length cells ≡ length was = c.loop-cell.invariant.1 in
    let long : length now ≡ length was = c.loop-cell.invariant.2 in
    let same = c.loop-cell.auto.cell-items in
    let test = c.loop-cell-test.true in
    let within : i < length cells = omega arith in
    let before : i < length was = omega arith in
    let there : i < length now = omega arith in
    let own = All-head (IsOfMember f (length net.hosts)) _ _ (rw (drop_more cells i c.cell-item.result within) at c.loop-cell.invariant.4)
    in
    let others : get_or now i d ∷ drop (i + 1) now ≡ get_or was i d ∷ drop (i + 1) was =
    sym (drop_more now i d there) ∙ c.loop-cell.invariant.3 ∙ drop_more was i d before in
    let first : get_or was i d ≡ get_or now i d = cc in
    let rest : drop (i + 1) now ≡ drop (i + 1) was = cc in
    let old : get_or was i d ≡ d = first ∙ sym (c.index_mut.ensures.value ∙ ap (λ n. get_or now n d) at) in
    let kept : (whole : List Row) → keeps (get_or was i d) whole → keeps new (whole ++ ran.0) =
    λ whole h. ran.2 whole (subst (λ x. keeps x whole) old h) in (
      ap (λ n. n + 1) at,
      length-set cells i after ∙ many,
      length-set now c.loop-cell.index new ∙ long,
      ap (λ n. drop (i + 1) (slice_set now n new)) at ∙ drop-set-lt (i + 1) now i new (omega arith) ∙ rest,
      subst (All (IsOfMember f (length net.hosts))) (sym (drop-set-lt (i + 1) cells i after (omega arith)))
          (All-tail (IsOfMember f (length net.hosts)) _ _
          (rw (drop_more cells i c.cell-item.result within) at c.loop-cell.invariant.4)),
      rw (
        take_more_set cells i after within,
        drop-set-lt (i + 1) cells i after (omega arith),
        ap (λ n. take n was) (add-one i) ∙ take-suc was i d before,
        ap (λ n. take (i + 1) (slice_set now n new)) at ∙ take_more_set now i new there,
      )
          (cells_more f keeps k net c.args.job (take i cells) (drop (i + 1) cells) (take i was) (take i now) sent
          c.run_watched.new.gathered.sent.items cell after ran.0 (get_or was i d) new
          (rw (drop_more cells i c.cell-item.result within) at c.loop-cell.invariant.5) (ran.1 own.0) kept ran.3),
      c.in-Ok.ensures.sent,
    )

pub of-requires-clause-few : goal.of-requires-clause-few
of-requires-clause-few g c =
    let f = g.M.Participant.plain in
    let keeps = g.W.Watch.keeps c.args.work.now.watch in
    let k = c.args.work.now.session.scenario.now in
    let net = c.args.work.now.session.net.now in
    let i = c.loop-cell.cell-index in
    let cells = c.loop-cell.cell-items in
    let was = c.args.job.kept.items in
    let now = c.loop-cell.kept.items in
    let sent = c.loop-cell.gathered.sent.items in
    let many : length cells ≡ length was = c.loop-cell.invariant.1 in
    let same = c.loop-cell.auto.cell-items in
    let past = c.loop-cell-test.false in
    let within = c.loop-cell.auto.cell-index-end in
    let all : i ≡ length cells = omega arith in
    subst (λ (xs : List Sent). length xs + 2 < 2 ^ 64) (sym c.as_slice.ensures.value)
    (few_sent f keeps k net c.args.job (length net.hosts) cells was now sent c.requires.job
    (cells_past f keeps k net c.args.job i cells was now sent all many c.loop-cell.invariant.2 c.loop-cell.invariant.5))

pub returns : goal.returns
returns g c =
    let f = g.M.Participant.plain in
    let keeps = g.W.Watch.keeps c.args.work.now.watch in
    let k = c.args.work.now.session.scenario.now in
    let net = c.args.work.now.session.net.now in
    let i = c.loop-cell.cell-index in
    let cells = c.loop-cell.cell-items in
    let was = c.args.job.kept.items in
    let now = c.loop-cell.kept.items in
    let new = c.close.new.kept in
    let sent = c.loop-cell.gathered.sent.items in
    let many : length cells ≡ length was = c.loop-cell.invariant.1 in
    let same = c.loop-cell.auto.cell-items in
    let past = c.loop-cell-test.false in
    let within = c.loop-cell.auto.cell-index-end in
    let all : i ≡ length cells = omega arith in
    let shown = c.as_mut_slice.ensures.value in
    let closed = if_ok c.close.result (g.W.Watch.closes c.args.work.now.watch c.as_mut_slice.result.now new)
    (sym c.is_err.ensures.value ∙ c.if-is_err.false) c.close.ensures.closed in
    let long : length new ≡ length now = c.close.ensures.long ∙ ap length shown in
    let held : (with_items c.loop-cell.kept new).items ≡ new = with_items_is c.loop-cell.kept new (long ∙ sym c.loop-cell.kept.ok.0) in
    rw c.replace-sent.ensures.value
    (cells_all f keeps k net c.args.job (g.W.Watch.closes c.args.work.now.watch) now
    (record {
      place = c.args.job.place;
      cells = with_items c.args.job.cells cells;
      kept = with_items c.loop-cell.kept new;
      sent = c.loop-cell.gathered.sent;
      crossings = c.in-Ok-of.crossings;
    }) refl
    (subst (λ xs. CellsSoFar f keeps k net c.args.job xs [] was now sent)
    (sym (with_items_is c.args.job.cells cells (many ∙ c.requires.sound.kept ∙ sym c.args.job.cells.ok.0)))
    (cells_past f keeps k net c.args.job i cells was now sent all many c.loop-cell.invariant.2 c.loop-cell.invariant.5))
    (subst (IsClosed (g.W.Watch.closes c.args.work.now.watch) now) (sym held)
    (long, subst (λ xs. g.W.Watch.closes c.args.work.now.watch xs new) shown closed))
    c.loop-cell.invariant.6
    (c.in-Ok-of.ensures.counted
    ∙ ap (λ (xs : List Sent). numbers_of (traffic_of k net) (packets_in xs)) c.as_slice.ensures.value))
