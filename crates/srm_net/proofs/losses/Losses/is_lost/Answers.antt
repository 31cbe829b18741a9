use Rattle.std.proofs.Common.{◌≡◌, ◌∙◌, ◌+◌, ◌-◌, ◌<◌, ◌≤◌, ℕ, List, arith, ap, sym, refl, length, slice_index_or}
use Rattle.srm_net.specs.declared.link.LossSpec.{LossSpec}
use Rattle.srm_net.specs.Losses.{takes, is_lost}
use Rattle.srm_net.specs.LossTables.{last_of, loss_at, no_loss}
use Rattle.srm_net.proofs.Lists.{read_at}
use Rattle.srm_net.proofs.LossLemmas.{last_at_most, last_there, none_left, hit, missed}
use Rattle.srm_net.proofs.OutageLemmas.{any_default}
use Rattle.srm_net.proofs.losses.Losses.is_lost.Goals as goal

-- the loss that is told is there
there : (xs : List LossSpec) (l n next : ℕ) → next ≡ last_of xs l n → 0 < next → last_of xs l n ≡ next - 1 + 1
there xs l n next is some = sym is ∙ (omega arith)

pub index-requires : goal.index-requires
index-requires c =
    let xs = c.self.inside.list.items in
    let inv = c.loop-next.invariant in
    let k = last_there xs c.args.link inv.0 (c.loop-next.next - 1)
    (there xs c.args.link inv.0 c.loop-next.next inv.2 c.loop-next-test.true) in
    let lt : c.loop-next.next - 1 < inv.0 = k.below in
    let few : inv.0 ≤ length xs = inv.1 in
    omega (arith, c.self.inside.list.ok.0)

pub returns-then-takes : goal.returns-then-takes
returns-then-takes c =
    let xs = c.self.inside.list.items in
    let l = c.args.link in
    let f = takes c.args.seed c.args.id c.args.at in
    let inv = c.loop-next.invariant in
    let i = c.loop-next.next - 1 in
    let h = there xs l inv.0 c.loop-next.next inv.2 c.loop-next-test.true in
    let lt : i < inv.0 = (last_there xs l inv.0 i h).below in
    let few : inv.0 ≤ length xs = inv.1 in
    let is : loss_at xs i ≡ c.index.result.now = any_default xs i no_loss c.index.result.now (omega arith) ∙ sym c.index.ensures in
    sym (hit xs l f inv.0 inv.1 inv.3 i h (ap f is ∙ sym c.takes.ensures ∙ c.if-takes.true))
    ∙ ap (λ os. is_lost os c.args.seed c.args.id l c.args.at) c.self.view_is

pub index-next-requires : goal.index-next-requires
index-next-requires c =
    let xs = c.self.inside.list.items in
    let inv = c.loop-next.invariant in
    let k = last_there xs c.args.link inv.0 (c.loop-next.next - 1)
    (there xs c.args.link inv.0 c.loop-next.next inv.2 c.loop-next-test.true) in
    let lt : c.loop-next.next - 1 < inv.0 = k.below in
    let few : inv.0 ≤ length xs = inv.1 in
    omega (arith, c.self.inside.earlier.ok.0, c.self.invariant.long)

-- the loss before it
before : (xs : List LossSpec) (es : List ℕ) (l n i r : ℕ) → length es ≡ length xs
    → ((i : ℕ) → i < length xs → slice_index_or es i 0 ≡ last_of xs (loss_at xs i).link i)
    → n ≤ length xs → last_of xs l n ≡ i + 1 → r ≡ slice_index_or es i r → r ≡ last_of xs l i
before xs es l n i r long told few h e =
    let k = last_there xs l n i h in
    let lt : i < n = k.below in
    read_at es i i r refl (omega arith) e ∙ told i (omega arith) ∙ ap (λ m. last_of xs m i) k.link

pub loop-next-smaller : goal.loop-next-smaller
loop-next-smaller c =
    let xs = c.self.inside.list.items in
    let l = c.args.link in
    let inv = c.loop-next.invariant in
    let i = c.loop-next.next - 1 in
    let h = there xs l inv.0 c.loop-next.next inv.2 c.loop-next-test.true in
    let b : c.index-next.result.now ≡ last_of xs l i = before xs c.self.inside.earlier.items l inv.0 i c.index-next.result.now
    c.self.invariant.long c.self.invariant.earlier inv.1 h c.index-next.ensures in
    let most : last_of xs l i ≤ i = last_at_most xs l i in
    let some : 0 < c.loop-next.next = c.loop-next-test.true in
    omega arith

pub loop-next-preserved : goal.loop-next-preserved
loop-next-preserved c =
    let xs = c.self.inside.list.items in
    let l = c.args.link in
    let f = takes c.args.seed c.args.id c.args.at in
    let inv = c.loop-next.invariant in
    let i = c.loop-next.next - 1 in
    let h = there xs l inv.0 c.loop-next.next inv.2 c.loop-next-test.true in
    let lt : i < inv.0 = (last_there xs l inv.0 i h).below in
    let few : inv.0 ≤ length xs = inv.1 in
    let is : loss_at xs i ≡ c.index.result.now = any_default xs i no_loss c.index.result.now (omega arith) ∙ sym c.index.ensures in (
      i,
      (omega arith),
      before xs c.self.inside.earlier.items l inv.0 i c.index-next.result.now c.self.invariant.long c.self.invariant.earlier inv.1 h
          c.index-next.ensures,
      missed xs l f inv.0 inv.1 inv.3 i h (ap f is ∙ sym c.takes.ensures ∙ c.if-takes.false),
    )

pub returns : goal.returns
returns c =
    let xs = c.self.inside.list.items in
    let l = c.args.link in
    let f = takes c.args.seed c.args.id c.args.at in
    let inv = c.loop-next.invariant in
    sym (none_left xs l f inv.0 inv.1 inv.3 (sym inv.2 ∙ (let k = c.loop-next-test.false in omega arith)))
    ∙ ap (λ os. is_lost os c.args.seed c.args.id l c.args.at) c.self.view_is
