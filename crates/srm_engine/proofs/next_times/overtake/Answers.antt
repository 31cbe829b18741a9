use Rattle.std.proofs.Common.{rules, ◌≡◌, ◌<◌, ◌≤◌, ◌/◌, ◌^◌, inl, inr, ℕ, List, length, slice_set, arith}
use Rattle.std.proofs.Math.ListN.{length-set}
use Rattle.std.proofs.lemmas.Nat.{shr_le}
use Rattle.srm_engine.specs.NextTimes.{AreWinners, IsReplayed}
use Rattle.srm_engine.proofs.Index.{node_set, over_leaves}
use Rattle.srm_engine.proofs.next_times.overtake.Goals as goal

-- a replay ends at the top where no word is below its bound
topped : (leaf w : ℕ) (ws : List ℕ) → IsReplayed leaf 0 w ws → AreWinners ws
topped leaf w ws h =
    let s : ℕ = leaf / 2 ^ h.height in
    let top : s ≡ 1 = elim h.ends [ inl e ↦ e | inr e ↦ absurd (omega arith) ] in
    λ i pos below. h.tree i pos below (λ d e. (let low : s / 2 / 2 ^ d ≤ s / 2 = shr_le (s / 2) d in absurd (omega arith)))

pub returns-clause-tree : goal.returns-clause-tree
returns-clause-tree c =
    let fs = c.replay.new.words in
    let leaf : ℕ = c.args.leaf in
    let w = c.args.word in
    let same = c.replay.auto.words in
    let long = c.requires.leaf in
    let from = c.requires.within in
    let whole : AreWinners fs = topped c.args.first c.replay.result fs c.replay.ensures.replayed in
    let len : length (slice_set fs leaf w) ≡ length fs = length-set fs leaf w in
    let within : leaf < length fs = omega arith in
    λ i pos below apart.
    node_set fs leaf i w within pos (λ e. apart 1 e) (λ ne. whole i pos (omega arith)) (λ e. absurd (omega arith))

pub returns-clause-leaves : goal.returns-clause-leaves
returns-clause-leaves c =
    let h = c.requires in
    λ i long. over_leaves c.args.words.now c.replay.new.words c.args.first c.args.least c.args.leaf c.args.word i
    c.replay.auto.words h.within h.first_within h.least c.replay.ensures.leaves long
