use Rattle.std.proofs.Common.{◌≡◌, ◌+◌, ◌<◌, arith, subst, sym, inl, inr, max}
use Rattle.std.proofs.lemmas.Bool.{cases_eq}
use Rattle.srm_net.specs.declared.link.LossSpec.{LossSpec}
use Rattle.srm_net.specs.LossTables.{loss_at, no_loss}
use Rattle.srm_net.proofs.OutageLemmas.{any_default}
use Rattle.srm_net.proofs.losses.links_below.Goals as goal

pub loop-loss-preserved : goal.loop-loss-preserved
loop-loss-preserved c i h =
    let xs = c.args.losses.now in
    let n = c.loop-loss.loss-index in
    let new : c.max-below.result ≡ max c.loop-loss.below (c.from.result + 1) = grind (arith, c.max-below.ensures) in
    elim (cases_eq i n) [
      | inl q ↦
          (let last : c.from.result ≡ (loss_at xs n).link = c.from.ensures in
          subst (λ k. (loss_at xs k).link < c.max-below.result) (sym q) (omega arith))
      | inr d ↦ (let k = c.loop-loss.invariant i (omega arith) in omega arith)
    ]

pub returns : goal.returns
returns c i d h =
    let xs = c.args.losses.now in
    let k : (loss_at xs i).link < c.loop-loss.below = c.loop-loss.invariant i (omega arith) in
    subst (λ (o : LossSpec). o.link < c.loop-loss.below) (any_default xs i no_loss d h) k
