use Rattle.std.proofs.Common.{◌≡◌, ◌≢◌, ◌<◌, ◌/◌, ◌==◌, ℕ, Bool, true, false, List, refl, ap, sym, eqb-true, length, ◌∙◌, arith, slice_set}
use Rattle.std.proofs.Common.{get_or-set_same, get_or-set_other}
use Rattle.std.proofs.Math.ListN.{length-set}
use Rattle.std.proofs.lemmas.Bool.{eqb-false}
use Rattle.srm_engine.specs.NextTimes.{word_at, winner_below}
use Rattle.srm_engine.proofs.Index.{winner_above, node_set}
use Rattle.srm_engine.proofs.next_times.climb.Goals as goal

pub returns-then-place-eq1-clause-tree : goal.returns-then-place-eq1-clause-tree
returns-then-place-eq1-clause-tree c =
    let ws = c.loop-words.words in
    let x : ℕ = c.loop-words.place in
    let w = c.loop-words.least in
    let v = c.loop-words.invariant in
    let one : x ≡ 1 = c.if-place-eq1.true in
    let len : length (slice_set ws x w) ≡ length ws = length-set ws x w in
    λ first tree i pos below apart.
    node_set ws x i w v.within pos (λ a. omega arith) (λ ne. v.others first tree i pos (omega arith) apart ne)
    (λ e. v.here (omega arith))

pub loop-words-preserved : goal.loop-words-preserved
loop-words-preserved c =
    let ws = c.loop-words.words in
    let x : ℕ = c.loop-words.place in
    let w = c.loop-words.least in
    let v = c.loop-words.invariant in
    let above : 0 < x = v.above in
    let within : x < length ws = v.within in
    let other : x ≢ 1 = c.if-place-eq1.false in
    let pairs = c.requires.pairs in
    let same = c.loop-words.auto.words in
    let len : length (slice_set ws x w) ≡ length ws = length-set ws x w in
    record {
      above = omega arith;
      within = omega arith;
      others = λ first tree k pos below apart ne.
          node_set ws x k w within pos ne (λ there. v.others first tree k pos (omega arith) apart there) (λ e. v.here (omega arith));
      here = λ below.
          c.min-least.ensures ∙ winner_above (slice_set ws x w) x w (get_or-set_same ws x w 0 within);
      leaves = λ k leaf.
          let ne : k ≢ x / 2 = λ e. omega arith in
          get_or-set_other (slice_set ws x w) (x / 2) k c.min-least.result 0 ne ∙ v.leaves k (omega arith);
    }

-- where the word is the least so far, the tree is as it should be
settled : (ws : List ℕ) (x i w : ℕ) → word_at ws x ≡ w → (i ≢ x → word_at ws i ≡ winner_below ws i)
    → (i ≡ x → w ≡ winner_below ws x) → word_at ws i ≡ winner_below ws i
settled ws x i w at others here = by (i == x) refl
  where
    by : (b : Bool) → (i == x) ≡ b → word_at ws i ≡ winner_below ws i
    by true q =
        let e : i ≡ x = eqb-true i x q in
        ap (word_at ws) e ∙ at ∙ here e ∙ ap (winner_below ws) (sym e)
    by false q = others (eqb-false i x q)

pub returns-clause-tree : goal.returns-clause-tree
returns-clause-tree c =
    let ws = c.loop-words.words in
    let x : ℕ = c.loop-words.place in
    let v = c.loop-words.invariant in
    λ first tree i pos below apart.
    settled ws x i c.loop-words.least c.loop-words-test.false (λ ne. v.others first tree i pos below apart ne)
    (λ e. v.here (omega arith))
