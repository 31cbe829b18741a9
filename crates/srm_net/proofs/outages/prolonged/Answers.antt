use Rattle.std.proofs.Common.{rules, ◌≡◌, ◌∙◌, ◌+◌, ◌-◌, ◌<◌, ◌≤◌, length, arith, inr, sym, ap, subst}
use Rattle.srm_net.specs.declared.link.OutageSpec.{OutageSpec}
use Rattle.srm_net.specs.Outages.{outage_at, no_outage, LastsLongest}
use Rattle.srm_net.proofs.OutageLemmas.{IsNextSpan, any_default, longest_more, next_as_it_is}
use Rattle.srm_net.proofs.outages.prolonged.Goals.{then-place-gt0+then-before-span+then-span-before, then-place-gt0+else-before-span}
use Rattle.srm_net.proofs.outages.prolonged.Goals.{else-before-span-via-then-before-span+else-span-before}
use Rattle.srm_net.proofs.outages.prolonged.Goals.{else-before-span-via-else-before-span, else-place-gt0}
use Rattle.srm_net.proofs.outages.prolonged.Goals as goal

pub loop-place-preserved : goal.loop-place-preserved
loop-place-preserved c =
    let xs = c.args.sorted.now in
    let ss = c.loop-place.spans.items in
    let n = c.loop-place.place in
    let size : length ss ≡ n = c.loop-place.invariant.size in
    let next : IsNextSpan xs ss n c.if-place-gt0.span =
    elim c.if-place-gt0.branch [
      | then-place-gt0+then-before-span+then-span-before w ↦
          (let some : 0 < n = w.if-place-gt0.true in
          let last : outage_at ss (n - 1) ≡ w.index-before.result.now =
          any_default ss (n - 1) no_outage w.index-before.result.now (omega arith) ∙ sym w.index-before.ensures in
          let later : (outage_at xs n).to < w.index-before.result.now.to = w.if-span-before.true in
          let to : c.if-place-gt0.span.to ≡ w.index-before.result.now.to = ap (λ (o : OutageSpec). o.to) w.span-is in
          record {
            link = ap (λ (o : OutageSpec). o.link) w.span-is;
            from = ap (λ (o : OutageSpec). o.from) w.span-is;
            own = omega arith;
            before = λ h e. (let k = ap (λ (o : OutageSpec). o.to) last in omega arith);
            one = inr (some, ap (λ (o : OutageSpec). o.link) last ∙ w.if-before-span.true, ap (λ (o : OutageSpec). o.to) last ∙ sym to);
          })
      | then-place-gt0+else-before-span w ↦
          (let some : 0 < n = w.if-place-gt0.true in
          let last : outage_at ss (n - 1) ≡ w.index-before.result.now =
          any_default ss (n - 1) no_outage w.index-before.result.now (omega arith) ∙ sym w.index-before.ensures in
          next_as_it_is xs ss n c.if-place-gt0.span w.span-is (λ h e. elim w.else-before-span.branch [
            | else-before-span-via-then-before-span+else-span-before v ↦
                subst (λ (o : OutageSpec). o.to ≤ (outage_at xs n).to) (sym last) v.if-span-before.false
            | else-before-span-via-else-before-span v ↦ absurd (v.if-before-span.false (sym (ap (λ (o : OutageSpec). o.link) last) ∙ e))
          ]))
      | else-place-gt0 w ↦ next_as_it_is xs ss n c.if-place-gt0.span w.span-is (λ h e. absurd (let k = w.if-place-gt0.false in omega arith))
    ] in
    record {
      size = search rules;
      each = subst (λ ts. (i : _) → i < n + 1 → LastsLongest xs ts i) (sym c.in_ok-push.ensures.items)
          (longest_more xs ss n c.if-place-gt0.span size c.loop-place-test.true c.requires c.loop-place.invariant.each next);
    }
