use Rattle.std.proofs.Common.{◌≡◌, ◌∙◌, ◌&&◌, ◌==◌, ◌<◌, ◌≤◌, ◌-◌, sym, ap, arith, true, false, length, subst, eq-eqb, ℕ, nat_lt}
use Rattle.std.proofs.Common.{slice_index_or, List}
use Rattle.std.proofs.lemmas.Bool.{ne_eqb}
use Rattle.std.specs.List.Sorted.{IsPartitionedBy, IsPartitionPoint}
use Rattle.srm_net.specs.declared.link.OutageSpec.{OutageSpec}
use Rattle.srm_net.specs.declared.outages.Outages.TheInside.{Inside}
use Rattle.srm_net.specs.DropRules.{is_out}
use Rattle.srm_net.specs.Outages.{begins_by, last_lasts}
use Rattle.srm_net.specs.OutageTables.{FindsOutages}
use Rattle.srm_net.proofs.OutageLemmas.{lasts_at}
use Rattle.srm_net.proofs.outages.Outages.is_out.Goals as goal

-- what the last span that has begun tells
module _ (o : Inside) (finds : FindsOutages o) (os xs : List OutageSpec) (seen : o.list.items ≡ os) (same : xs ≡ o.spans.items) (l t n : ℕ)
    (point : IsPartitionPoint (λ s. begins_by l t s ≡ true) (λ s. begins_by l t s ≡ false) xs n) (few : n ≤ length xs) where
  told : is_out os l t ≡ last_lasts o.spans.items n l t
  told =
      ap (λ (os : List OutageSpec). is_out os l t) (sym seen)
      ∙ finds.last_tells l t n (subst (λ xs. n ≤ length xs) same few)
      (subst (λ (xs : List OutageSpec). IsPartitionPoint (λ s. begins_by l t s ≡ true) (λ s. begins_by l t s ≡ false) xs n) same point)

  told_of_last : (s : OutageSpec) → 0 < n → s ≡ slice_index_or o.spans.items (n - 1) s → is_out os l t ≡ ((s.link == l) && nat_lt t s.to)
  told_of_last s some e = told ∙ lasts_at o.spans.items n l t s some (subst (λ xs. n ≤ length xs) same few) e

pub begun_by-begun-requires : goal.begun_by-begun-requires
begun_by-begun-requires c =
    subst (λ (xs : List OutageSpec). IsPartitionedBy (begins_by c.args.link c.args.tick) xs) (sym c.as_slice.ensures.value)
    (c.self.invariant.begun_first c.args.link c.args.tick)

pub returns-then-begun-eq0 : goal.returns-then-begun-eq0
returns-then-begun-eq0 c =
    sym (told c.self.inside c.self.invariant c.args.self.now c.as_slice.result.now c.self.view_is c.as_slice.ensures.value c.args.link
    c.args.tick c.begun_by-begun.result c.begun_by-begun.ensures.point c.begun_by-begun.ensures.bound
    ∙ ap (λ n. last_lasts c.self.inside.spans.items n c.args.link c.args.tick) c.if-begun-eq0.true)

pub returns-then-last-link : goal.returns-then-last-link
returns-then-last-link c =
    sym (told_of_last c.self.inside c.self.invariant c.args.self.now c.as_slice.result.now c.self.view_is c.as_slice.ensures.value
    c.args.link c.args.tick c.begun_by-begun.result c.begun_by-begun.ensures.point c.begun_by-begun.ensures.bound
    c.index-last.result.now
    (let n = c.if-begun-eq0.false in omega arith) c.index-last.ensures
    ∙ ap (λ b. b && nat_lt c.args.tick c.index-last.result.now.to) (eq-eqb c.index-last.result.now.link c.args.link c.if-last-link.true))

pub returns-else-last-link : goal.returns-else-last-link
returns-else-last-link c =
    let no = ne_eqb c.index-last.result.now.link c.args.link c.if-last-link.false in
    no
    ∙ sym (told_of_last c.self.inside c.self.invariant c.args.self.now c.as_slice.result.now c.self.view_is c.as_slice.ensures.value
    c.args.link c.args.tick c.begun_by-begun.result c.begun_by-begun.ensures.point c.begun_by-begun.ensures.bound
    c.index-last.result.now
    (let n = c.if-begun-eq0.false in omega arith) c.index-last.ensures
    ∙ ap (λ b. b && nat_lt c.args.tick c.index-last.result.now.to) no)
