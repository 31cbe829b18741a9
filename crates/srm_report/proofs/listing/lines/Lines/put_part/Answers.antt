use Rattle.std.proofs.Common.{◌≡◌, ◌∙◌, ◌+◌, ◌-◌, ◌++◌, ◌∷◌, [], ◌⊎◌, inl, inr, ◌==◌}
use Rattle.std.proofs.Common.{false, length, length-append, get_or, set, ap, sym, subst, arith}
use Rattle.std.proofs.lemmas.Bool.{ne_eqb}
use Rattle.std.proofs.lemmas.List.{get_or_default}
use Rattle.srm_report.specs.KeptLines.{cut_from, AreEnds, line_behind}
use Rattle.srm_report.specs.declared.listing.lines.LineEnd.{LineEnd}
use Rattle.srm_report.proofs.CutLemmas.{cut_last, cut_other, ends_last, ends_more}
use Rattle.srm_report.proofs.listing.lines.Lines.put_part.Goals.{else-count-gt0-via-then-count-gt0+else-index-time}
use Rattle.srm_report.proofs.listing.lines.Lines.put_part.Goals.{else-count-gt0-via-else-count-gt0}
use Rattle.srm_report.proofs.listing.lines.Lines.put_part.Goals as goal

pub invariant_of-self-then-index-time : goal.invariant_of-self-then-index-time
invariant_of-self-then-index-time c =
    let old = c.self.inside.text.items in
    let text = c.extend_from_slice.new.self in
    let line = c.args.part.now.text.now in
    let e : LineEnd = record { time = c.args.part.now.time; end = c.len-end.result } in
    let long : length text.items ≡ length old + length line = ap length c.in_ok-extend_from_slice.ensures.items ∙ length-append old line in
    let es = c.self.inside.ends.items in
    let j = c.len-count.result - 1 in
    let count : c.len-count.result ≡ length es =
    c.len-count.ensures ∙ c.reserve.new.self.ok.0 ∙ ap length c.in_ok-reserve.ensures.items in
    let some = c.if-count-gt0.true in
    let last : j + 1 ≡ length es = omega arith in
    let ends : set c.reserve.new.self.items j e ≡ set es j e = ap (λ l. set l j e) c.in_ok-reserve.ensures.items in
    subst (AreEnds 0 (length text.items)) (sym ends)
    (ends_last old line 0 (length text.items) j es e c.self.invariant (c.len-end.ensures ∙ text.ok.0 ∙ long) long last)

pub returns-then-index-time : goal.returns-then-index-time
returns-then-index-time c =
    let old = c.self.inside.text.items in
    let text = c.extend_from_slice.new.self in
    let line = c.args.part.now.text.now in
    let e : LineEnd = record { time = c.args.part.now.time; end = c.len-end.result } in
    let long : length text.items ≡ length old + length line = ap length c.in_ok-extend_from_slice.ensures.items ∙ length-append old line in
    let es = c.self.inside.ends.items in
    let j = c.len-count.result - 1 in
    let count : c.len-count.result ≡ length es =
    c.len-count.ensures ∙ c.reserve.new.self.ok.0 ∙ ap length c.in_ok-reserve.ensures.items in
    let some = c.if-count-gt0.true in
    let last : j + 1 ≡ length es = omega arith in
    let d = c.index.result.now in
    let same : (get_or es j d).time ≡ e.time =
    sym (ap (λ (x : LineEnd). x.time) (c.index.ensures ∙ ap (λ l. get_or l j d) c.in_ok-reserve.ensures.items)) ∙ c.if-index-time.true in
    (λ k. cut_from 0 (c.in_ok-extend_from_slice.ensures.items k) (set (c.in_ok-reserve.ensures.items k) j e))
    ∙ cut_last old line 0 j es e d c.self.invariant (c.len-end.ensures ∙ text.ok.0 ∙ long) last same
    ∙ ap (λ own. line_behind own e.time line) c.self.view_is

pub invariant_of-self-2 : goal.invariant_of-self-2
invariant_of-self-2 c =
    let old = c.self.inside.text.items in
    let text = c.extend_from_slice.new.self in
    let line = c.args.part.now.text.now in
    let e : LineEnd = record { time = c.args.part.now.time; end = c.len-end.result } in
    let long : length text.items ≡ length old + length line = ap length c.in_ok-extend_from_slice.ensures.items ∙ length-append old line in
    let ends = c.in_ok-push.ensures.items ∙ ap (λ l. l ++ e ∷ []) c.in_ok-reserve.ensures.items in
    subst (AreEnds 0 (length text.items)) (sym ends)
    (ends_more old line 0 (length text.items) c.self.inside.ends.items e c.self.invariant (c.len-end.ensures ∙ text.ok.0 ∙ long) long)

pub returns : goal.returns
returns c =
    let old = c.self.inside.text.items in
    let text = c.extend_from_slice.new.self in
    let line = c.args.part.now.text.now in
    let e : LineEnd = record { time = c.args.part.now.time; end = c.len-end.result } in
    let long : length text.items ≡ length old + length line = ap length c.in_ok-extend_from_slice.ensures.items ∙ length-append old line in
    let es = c.self.inside.ends.items in
    let count : c.len-count.result ≡ length es =
    c.len-count.ensures ∙ c.reserve.new.self.ok.0 ∙ ap length c.in_ok-reserve.ensures.items in
    let other : (length es ≡ 0) ⊎ (((get_or es (length es - 1) e).time == e.time) ≡ false) = elim c.else-count-gt0.branch [
      | else-count-gt0-via-then-count-gt0+else-index-time w ↦
          let some = w.if-count-gt0.true in
          let d = w.index.result.now in
          let same : get_or es (length es - 1) e ≡ d =
          get_or_default es (length es - 1) e d (omega arith) ∙ ap (λ n. get_or es (n - 1) d) (sym count)
          ∙ sym (w.index.ensures ∙ ap (λ l. get_or l (c.len-count.result - 1) d) c.in_ok-reserve.ensures.items) in
          inr (ap (λ (x : LineEnd). x.time == e.time) same ∙ ne_eqb d.time e.time w.if-index-time.false)
      | else-count-gt0-via-else-count-gt0 w ↦ let none = w.if-count-gt0.false in inl (omega arith)
    ] in
    let ends = c.in_ok-push.ensures.items ∙ ap (λ l. l ++ e ∷ []) c.in_ok-reserve.ensures.items in
    (λ k. cut_from 0 (c.in_ok-extend_from_slice.ensures.items k) (ends k))
    ∙ cut_other old line 0 es e e c.self.invariant (c.len-end.ensures ∙ text.ok.0 ∙ long) other
    ∙ ap (λ own. line_behind own e.time line) c.self.view_is
