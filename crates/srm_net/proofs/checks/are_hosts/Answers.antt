use Rattle.std.proofs.Common.{◌≡◌, ◌∙◌, ℕ, zero, suc, ◌<◌, sym, subst, arith, refl, true, false, take, get_or, length, List, []}
use Rattle.std.proofs.Common.{◌∷◌, ◌++◌, slice_set, ◌+◌, ◌≤◌}
use Rattle.std.proofs.Common.{below_more}
use Rattle.std.proofs.lemmas.Bool.{both_ways}
use Rattle.std.proofs.lemmas.List.{length-set, take_more, take_all, get_or_default}
use Rattle.srm_net.specs.Paths.{is_in}
use Rattle.srm_net.proofs.Lists.{read_mark}
use Rattle.srm_net.proofs.Marks.{Marks, mark_push}
use Rattle.srm_net.proofs.Numbers.{Apart, apart_push, apart_from_distinct, distinct_from_apart, not_in_cons}
use Rattle.srm_net.proofs.PathLaws.{index_in}
use Rattle.srm_net.proofs.checks.are_hosts.Goals as goal
use Rattle.srm_net.proofs.checks.are_hosts.Goals.{then-host-nodes-via-then-host-nodes, then-host-nodes-via-else-host-nodes+then-index}

-- a number of a list without repetition does not stand before its place
front_apart : (xs : List ℕ) → Apart xs → (i : ℕ) → i < length xs → is_in (take i xs) (get_or xs i 0) ≡ false
front_apart [] a i h = absurd (omega arith)
front_apart (x ∷ xs) a zero h = refl
front_apart (x ∷ xs) a (suc i) h =
    not_in_cons x (get_or xs i 0) (take i xs) (λ e. both_ways _ a.0 (subst (λ t. is_in xs t ≡ true) (sym e) (index_in xs i (omega arith))))
    (front_apart xs a.1 i (omega arith))

pub loop-host-preserved : goal.loop-host-preserved
loop-host-preserved c =
    let xs = c.args.hosts.now in
    let i = c.loop-host.host-index in
    let h = get_or xs i 0 in
    let taken = c.loop-host.taken.items in
    let inv = c.loop-host.invariant in
    let size : length taken ≡ c.args.nodes = inv.size in
    let below : h < c.args.nodes = c.if-host-nodes.false in
    let more : take (i + 1) xs ≡ take i xs ++ h ∷ [] = take_more xs i 0 c.loop-host-test.true in
    let new : is_in (take i xs) h ≡ false = sym (inv.taken h below) ∙ read_mark taken c.from-else-host-nodes.result h c.index.result.now
    c.from-else-host-nodes.ensures (omega arith) c.index.ensures ∙ c.if-index.false in
    record {
      size = length-set taken c.from-in-loop-host.result true ∙ size;
      taken = subst (λ n. Marks c.args.nodes (take (i + 1) xs) (slice_set taken n true)) (sym c.from-in-loop-host.ensures)
          (subst (λ ns. Marks c.args.nodes ns (slice_set taken h true)) (sym more)
          (mark_push c.args.nodes (take i xs) h taken size below inv.taken));
      below = below_more _ _ inv.below below;
      apart = subst Apart (sym more) (apart_push (take i xs) h inv.apart new);
    }

pub returns-then-host-nodes : goal.returns-then-host-nodes
returns-then-host-nodes c =
    let xs = c.args.hosts.now in
    let i = c.loop-host.host-index in
    let lt : i < length xs = c.loop-host-test.true in
    let taken = c.loop-host.taken.items in
    let inv = c.loop-host.invariant in
    let size : length taken ≡ c.args.nodes = inv.size in (
      λ t. cc,
      λ h. absurd (let below : get_or xs i 0 < c.args.nodes = h.0 i 0 lt in
          elim c.then-host-nodes.branch [
            | then-host-nodes-via-then-host-nodes w ↦ (let over : c.args.nodes ≤ get_or xs i 0 = w.if-host-nodes.true in omega arith)
            | then-host-nodes-via-else-host-nodes+then-index w ↦ both_ways _ (front_apart xs (apart_from_distinct xs h.1) i lt)
                (sym (inv.taken (get_or xs i 0) below) ∙ read_mark taken w.from-else-host-nodes.result (get_or xs i 0) w.index.result.now
                w.from-else-host-nodes.ensures (omega arith) w.index.ensures ∙ w.if-index.true)
          ]),
    )

pub returns : goal.returns
returns c =
    let xs = c.args.hosts.now in
    let a : Apart xs = subst Apart (take_all c.loop-host.host-index xs c.loop-host-test.false) c.loop-host.invariant.apart in (
      λ t. (
        λ k d h. subst (λ v. v < c.args.nodes) (get_or_default xs k 0 d h) (c.loop-host.invariant.below k (omega arith)),
        distinct_from_apart xs a,
      ),
      λ h. refl,
    )
