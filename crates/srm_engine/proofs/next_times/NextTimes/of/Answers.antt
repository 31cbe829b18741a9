use Rattle.std.proofs.Common.{◌≡◌, ◌∙◌, ◌/◌, ap, sym, subst, length, arith}
use Rattle.srm_engine.specs.NextTimes.{HaveLeaves, IsTournament, KeepsLeaves, word_at}
use Rattle.srm_engine.proofs.Index.{raised, written, written_back}
use Rattle.srm_engine.proofs.next_times.NextTimes.of.Goals as goal

pub raise_winners-least-requires : goal.raise_winners-least-requires
raise_winners-least-requires c =
    let h = c.in_ok-words.ensures in
    let size = h.size in
    let some = h.some in
    let same = ap length c.deref_mut.ensures.value in
    omega arith

pub invariant_of-result : goal.invariant_of-result
invariant_of-result c =
    let es = c.in_ok-words.words in
    let fs = c.raise_winners-least.new.words in
    let ts = c.args.times.items in
    let same = c.deref_mut.ensures.value in
    let long : length fs ≡ length es.items = c.raise_winners-least.auto.words ∙ ap length same in
    let size : length es.items / 2 ≡ c.len-size.result / 2 = ap (λ n. n / 2) (sym (c.len-size.ensures ∙ es.ok.0)) in
    let stands : HaveLeaves (length es.items / 2) ts es.items =
    subst (λ ts. HaveLeaves (length es.items / 2) ts es.items) c.as_slice.ensures.value c.in_ok-words.ensures in
    let whole : IsTournament (length es.items / 2) ts fs (word_at fs 1) =
    raised (length es.items / 2) ts es.items fs stands long c.raise_winners-least.ensures.tree
    (subst (λ xs. KeepsLeaves xs fs) same c.raise_winners-least.ensures.leaves) in
    subst (λ n. IsTournament n ts (written es.len es.items fs) c.raise_winners-least.result) size
    (subst (λ ws. IsTournament (length es.items / 2) ts ws c.raise_winners-least.result) (written_back es.len es.items fs es.ok.0 long)
    (subst (λ w. IsTournament (length es.items / 2) ts fs w) (sym c.raise_winners-least.ensures.first) whole))
