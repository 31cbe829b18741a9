use Rattle.std.proofs.Common.{◌≡◌, ◌≢◌, ◌<◌, ◌+◌, ◌/◌, ◌^◌, ◌⊎◌, inl, inr, ℕ, List, ap, sym, subst, length, ◌∙◌, arith, slice_set}
use Rattle.std.proofs.Common.{refl, get_or-set_same, get_or-set_other}
use Rattle.std.proofs.Math.ListN.{length-set}
use Rattle.std.proofs.Math.Nat.{div-one}
use Rattle.std.proofs.lemmas.Nat.{shr-shr}
use Rattle.srm_engine.specs.NextTimes.{word_at, winner_below, AreWinnersBeside, IsReplayed}
use Rattle.srm_engine.proofs.Index.{node_set, not_above, not_half, winner_above}
use Rattle.srm_engine.proofs.next_times.replay.Goals as goal

pub loop-least-init : goal.loop-least-init
loop-least-init c =
    let ws = c.args.words.now in
    let leaf : ℕ = c.args.leaf in
    let w = c.args.word in
    let within : leaf < length ws = c.requires.within in
    let long = c.requires.leaf in
    let len : length (slice_set ws leaf w) ≡ length ws = length-set ws leaf w in
    record {
      up = (0, sym (div-one leaf));
      above = omega arith;
      within = omega arith;
      stands = get_or-set_same ws leaf w 0 within;
      tree = λ i pos below apart. node_set ws leaf i w within pos (not_half i leaf apart)
          (λ ne. c.requires.tree i pos (omega arith) (not_above i leaf apart ne)) (λ e. absurd (omega arith));
      leaves = λ i last. refl;
    }

pub loop-least-preserved : goal.loop-least-preserved
loop-least-preserved c =
    let ws = c.loop-least.words in
    let x : ℕ = c.loop-least.place in
    let w = c.loop-least.least in
    let v = c.loop-least.invariant in
    let p : ℕ = x / 2 in
    let r = c.min-least.result in
    let above : 0 < x = v.above in
    let within : x < length ws = v.within in
    let other = c.if-above-eq0.false in
    let same = c.loop-least.auto.words in
    let len : length (slice_set ws p r) ≡ length ws = length-set ws p r in
    let inside : p < length ws = omega arith in
    let on : r ≡ winner_below ws p = c.min-least.ensures ∙ winner_above ws x w v.stands in
    record {
      up = (v.up.0 + 1, ap (λ k. k / 2) v.up.1 ∙ shr-shr c.args.leaf v.up.0 1);
      above = omega arith;
      within = omega arith;
      stands = get_or-set_same ws p r 0 inside;
      tree = λ i pos below apart. node_set ws p i r inside pos (not_half i p apart)
          (λ ne. v.tree i pos (omega arith) (not_above i p apart ne)) (λ e. on);
      leaves = λ i last. get_or-set_other ws p i r 0 (λ e. omega arith) ∙ v.leaves i last;
    }

-- how the loop ends
done : (leaf bound w x d : ℕ) (ws : List ℕ) → x ≡ leaf / 2 ^ d → 0 < x → word_at ws x ≡ w → AreWinnersBeside (x / 2) ws
    → (x ≡ 1) ⊎ (w < bound) → IsReplayed leaf bound w ws
done leaf bound w x d ws up above stands tree ends = record {
  height = d;
  inside = subst (λ k. 0 < k) up above;
  stands = ap (word_at ws) (sym up) ∙ stands;
  tree = subst (λ k. AreWinnersBeside (k / 2) ws) up tree;
  ends = subst (λ k. (k ≡ 1) ⊎ (w < bound)) up ends;
}

pub returns-then-above-eq0-clause-replayed : goal.returns-then-above-eq0-clause-replayed
returns-then-above-eq0-clause-replayed c =
    let v = c.loop-least.invariant in
    let top : c.loop-least.place ≡ 1 = omega (arith, v.above, c.if-above-eq0.true) in
    done c.args.leaf c.args.bound c.loop-least.least c.loop-least.place v.up.0 c.loop-least.words v.up.1 v.above v.stands v.tree (inl top)

pub returns-clause-replayed : goal.returns-clause-replayed
returns-clause-replayed c =
    let v = c.loop-least.invariant in
    done c.args.leaf c.args.bound c.loop-least.least c.loop-least.place v.up.0 c.loop-least.words v.up.1 v.above v.stands v.tree
    (inr c.loop-least-test.false)
