use Rattle.std.proofs.Common.{◌≡◌, ◌≢◌, ◌<◌, ◌≤◌, ◌+◌, ◌*◌, ◌%◌, ◌/◌, ℕ, List, Option, length, ◌∙◌, ap, sym, subst, slice_set, arith}
use Rattle.srm_engine.specs.NextTimes.{AreWinnersBeside, IsReplayed, IsTournament, SetsLeaf, word_of}
use Rattle.srm_engine.proofs.Index.{climbed, overtaken, replayed, written, written_back}
use Rattle.srm_engine.proofs.next_times.NextTimes.set.Goals as goal

-- the words go back into their vector
put_back : (n len : ℕ) (ts : List (Option ℕ)) (es was new : List ℕ) (w : ℕ) → len ≡ length es → was ≡ es → length new ≡ length was
    → IsTournament n ts new w → IsTournament n ts (written len es new) w
put_back n len ts es was new w all same as_long h =
    subst (λ ws. IsTournament n ts ws w) (written_back len es new all (as_long ∙ ap length same)) h

-- the leaf of a member, as the code has it
leaf_at : (n m k : ℕ) → k ≡ m → n + k ≡ n + m
leaf_at n m k e = omega arith

pub invariant_of-self : goal.invariant_of-self
invariant_of-self c =
    let it = c.self.inside in
    let m = c.args.member in
    let new = c.replay-self-inside.new.words in
    let x = c.word-word.ensures in
    let leaf : it.size + c.from-place.result ≡ it.size + m = leaf_at it.size m c.from-place.result c.from-place.ensures in
    let first = c.if-leaf-first.true in
    let long : length new ≡ length it.words.items = c.replay-self-inside.auto.words ∙ ap length c.deref_mut.ensures.value in
    let within : m < length it.times.items = subst (λ ts. m < length ts) (sym c.self.view_is) c.requires in
    let own : it.least % 65536 ≡ m = omega arith in
    let set : SetsLeaf (it.size + m) (word_of c.args.time m) it.words.items new =
    subst (λ k. SetsLeaf k (word_of c.args.time m) it.words.items new) leaf
    (subst (λ y. SetsLeaf (it.size + c.from-place.result) y it.words.items new) x
    (subst (λ ws. SetsLeaf (it.size + c.from-place.result) c.word-word.result ws new) c.deref_mut.ensures.value
    c.replay-self-inside.ensures.leaves)) in
    let bound : ℕ = c.saturating_mul-bound.result in
    let divides : bound ≤ (it.least / 65536 + 1) * 65536 = omega (arith, c.saturating_mul-bound.ensures) in
    let rep : IsReplayed (it.size + m) bound c.replay-self-inside.result new =
    subst (λ k. IsReplayed k bound c.replay-self-inside.result new) leaf c.replay-self-inside.ensures.replayed in
    subst (λ k. IsTournament it.size (slice_set it.times.items k c.args.time) (written it.words.len it.words.items new)
    c.replay-self-inside.result) (sym c.from-place.ensures)
    (put_back it.size it.words.len (slice_set it.times.items m c.args.time) it.words.items c.deref_mut.result.now new
    c.replay-self-inside.result it.words.ok.0 c.deref_mut.ensures.value c.replay-self-inside.auto.words
    (replayed it.size it.times.items it.words.items new it.least c.replay-self-inside.result m bound c.args.time c.self.invariant within
    own divides long set rep))

pub invariant_of-self-then-self-word : goal.invariant_of-self-then-self-word
invariant_of-self-then-self-word c =
    let it = c.self.inside in
    let m = c.args.member in
    let new = c.climb.new.words in
    let x = c.word-word.ensures in
    let leaf : it.size + c.from-place.result ≡ it.size + m = leaf_at it.size m c.from-place.result c.from-place.ensures in
    let other = c.if-leaf-first.false in
    let long : length new ≡ length it.words.items =
    c.climb.auto.words ∙ ap length c.deref_mut-then-self-word.ensures.value in
    let within : m < length it.times.items = subst (λ ts. m < length ts) (sym c.self.view_is) c.requires in
    let apart : it.least % 65536 ≢ m = λ e. omega arith in
    let after : it.least < word_of c.args.time m = subst (λ y. it.least < y) x c.if-self-word.true in
    let set : SetsLeaf (it.size + m) (word_of c.args.time m) it.words.items new =
    subst (λ k. SetsLeaf k (word_of c.args.time m) it.words.items new) leaf
    (subst (λ y. SetsLeaf (it.size + c.from-place.result) y it.words.items new) x
    (subst (λ ws. SetsLeaf (it.size + c.from-place.result) c.word-word.result ws new) c.deref_mut-then-self-word.ensures.value
    c.climb.ensures.leaves)) in
    let tree : AreWinnersBeside (it.size + it.least % 65536) new =
    c.climb.ensures.tree (it.size + it.least % 65536)
    (subst (λ ws. AreWinnersBeside (it.size + it.least % 65536) ws) (sym c.deref_mut-then-self-word.ensures.value)
    c.self.invariant.tree) in
    subst (λ k. IsTournament it.size (slice_set it.times.items k c.args.time) (written it.words.len it.words.items new) it.least)
    (sym c.from-place.ensures)
    (put_back it.size it.words.len (slice_set it.times.items m c.args.time) it.words.items c.deref_mut-then-self-word.result.now new
    it.least it.words.ok.0 c.deref_mut-then-self-word.ensures.value c.climb.auto.words
    (climbed it.size it.times.items it.words.items new it.least m c.args.time c.self.invariant within apart after long set tree))

pub invariant_of-self-else-self-word : goal.invariant_of-self-else-self-word
invariant_of-self-else-self-word c =
    let it = c.self.inside in
    let m = c.args.member in
    let new = c.overtake.new.words in
    let x = c.word-word.ensures in
    let leaf : it.size + c.from-place.result ≡ it.size + m = leaf_at it.size m c.from-place.result c.from-place.ensures in
    let long : length new ≡ length it.words.items =
    c.overtake.auto.words ∙ ap length c.deref_mut-else-self-word.ensures.value in
    let within : m < length it.times.items = subst (λ ts. m < length ts) (sym c.self.view_is) c.requires in
    let before : word_of c.args.time m ≤ it.least = subst (λ y. y ≤ it.least) x c.if-self-word.false in
    let set : SetsLeaf (it.size + m) (word_of c.args.time m) it.words.items new =
    subst (λ k. SetsLeaf k (word_of c.args.time m) it.words.items new) leaf
    (subst (λ y. SetsLeaf (it.size + c.from-place.result) y it.words.items new) x
    (subst (λ ws. SetsLeaf (it.size + c.from-place.result) c.word-word.result ws new) c.deref_mut-else-self-word.ensures.value
    c.overtake.ensures.leaves)) in
    let tree : AreWinnersBeside (it.size + m) new = subst (λ k. AreWinnersBeside k new) leaf c.overtake.ensures.tree in
    subst (λ k. IsTournament it.size (slice_set it.times.items k c.args.time) (written it.words.len it.words.items new)
    c.word-word.result) (sym c.from-place.ensures)
    (put_back it.size it.words.len (slice_set it.times.items m c.args.time) it.words.items c.deref_mut-else-self-word.result.now new
    c.word-word.result it.words.ok.0 c.deref_mut-else-self-word.ensures.value c.overtake.auto.words
    (subst (λ y. IsTournament it.size (slice_set it.times.items m c.args.time) new y) (sym x)
    (overtaken it.size it.times.items it.words.items new it.least m c.args.time c.self.invariant within before long set tree)))
