use Rattle.std.proofs.Common.{◌∙◌, ◌<◌, ◌++◌, ◌∷◌, [], ℕ, List, length, take, get_or, ap, sym, append-nil, append_assoc, arith}
use Rattle.std.proofs.lemmas.List.{map-append, take_more, take_all}
use Rattle.srm_report.specs.declared.listing.tick_part.TickPart.{TickPart}
use Rattle.srm_report.specs.KeptLines.{parts_seen}
use Rattle.srm_report.proofs.listing.lines.Lines.put_parts.Goals as goal

pub loop-index-init : goal.loop-index-init
loop-index-init c =
    ap parts_seen c.in_ok-reserve.ensures.items ∙ sym (append-nil (parts_seen c.args.parts.now.items))

pub loop-index-preserved : goal.loop-index-preserved
loop-index-preserved c =
    let own = c.args.self.now in
    let i = c.loop-index.index in
    let d : ℕ × List ℕ = (0, []) in
    let before = parts_seen c.args.parts.now.items in
    let long = c.len-index-end.ensures in
    let test = c.loop-index-test.true in
    let lt : i < length own = omega arith in
    ap parts_seen c.in_ok-push.ensures.items
    ∙ map-append (λ (p : TickPart). (p.time, p.text.now)) c.loop-index.parts.items _
    ∙ (λ k. c.loop-index.invariant k ++ (c.time.ensures d k, c.text.ensures d k) ∷ [])
    ∙ append_assoc before (take i own) (get_or own i d ∷ [])
    ∙ ap (λ l. before ++ l) (sym (take_more own i d lt))

pub returns : goal.returns
returns c =
    let long = c.len-index-end.ensures in
    let test = c.loop-index-test.false in
    c.loop-index.invariant ∙ ap (λ l. parts_seen c.args.parts.now.items ++ l) (take_all c.loop-index.index c.args.self.now (omega arith))
