use Rattle.std.proofs.Common.{◌∙◌, List, refl, ap, sym, subst}
use Rattle.std.specs.Vec.{with_items}
use Rattle.std.proofs.lemmas.List.{with_items_is}
use Rattle.srm_member.specs.declared.row.Row.{Row}
use Rattle.srm_cell.specs.Crossings.{joined, packets_of}
use Rattle.srm_interfaces.specs.Watches.{IsClosed, KeepEach}
use Rattle.srm_interfaces.proofs.watched.WatchedDone.of.Goals as goal

pub returns : goal.returns
returns g c =
    let keeps = g.W.Watch.keeps c.args.watch.now in
    let closes = g.W.Watch.closes c.args.watch.now in
    let full = with_items c.args.kept c.keep_each.new.kept in
    let held = with_items_is c.args.kept c.keep_each.new.kept (c.in_ok-keep_each.ensures.long ∙ c.as_mut_slice.ensures.len) in
    let closed = with_items_is full c.close.new.kept (c.in_ok-close.ensures.long ∙ c.as_mut_slice-2.ensures.len) in
    let shown = c.as_mut_slice-2.ensures.value in
    let kept = subst (λ old. KeepEach keeps old c.args.done.rows.items c.keep_each.new.kept) c.as_mut_slice.ensures.value
    (subst (λ rs. KeepEach keeps c.as_mut_slice.result.now rs c.keep_each.new.kept) c.as_slice.ensures.value c.in_ok-keep_each.ensures.kept)
    in
    record {
      place = refl;
      cells = refl;
      kept = record {
        full = full.items;
        kept = subst (KeepEach keeps c.args.kept.items c.args.done.rows.items) (sym held) kept;
        closed = subst (IsClosed closes full.items) (sym closed)
            (subst (λ old. IsClosed closes old c.close.new.kept) shown (c.in_ok-close.ensures.long, c.in_ok-close.ensures.closed));
      };
      packets = c.in_ok-sent.ensures.packets ∙ ap (λ (ls : List (List Row)). packets_of (joined ls)) c.as_slice-2.ensures.value;
      sent = c.in_ok-sent.ensures.sent;
      crossings = refl;
    }
