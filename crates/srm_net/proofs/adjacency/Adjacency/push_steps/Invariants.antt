use Rattle.std.proofs.Common.{◌≡◌, ◌+◌, ◌≤◌, ℕ, List, true, false, length, reverse, slice_get, Some}
use Rattle.srm_net.specs.declared.link.LinkSpec.{LinkSpec}
use Rattle.srm_net.specs.declared.attaching.Attaching.{Attaching}
use Rattle.srm_net.specs.Adjacencies.{last_meeting}
use Rattle.srm_net.specs.Growth.{attached}
use Rattle.srm_net.specs.Network.{Joins}
use Rattle.srm_net.specs.Paths.{is_in}
use Rattle.srm_net.specs.Waiting.{targets, Wait}
use Rattle.srm_net.specs.Known.{is_known}
use Rattle.srm_net.proofs.adjacency.Adjacency.push_steps.Given as goal

abbrev pub invariant-loop-next : goal.invariant-loop-next
invariant-loop-next l = record {
  next : (n : ℕ) × (n ≤ length l.links) × (l.next ≡ last_meeting l.links l.node n);
  few : length l.pending.items + l.next ≤ length l.fn.pending.items + length l.links;
  kept : (x : ℕ) → is_in (targets l.fn.pending.items) x ≡ true → is_in (targets l.pending.items) x ≡ true;
  each : (m : ℕ) (k : LinkSpec) (x : ℕ) → l.next ≤ m → slice_get l.links m ≡ Some k → Joins k l.node x → is_known l.known x ≡ false
      → is_in (targets l.pending.items) x ≡ true;
  wait : (ss : List Attaching) → is_in (attached ss) l.node ≡ true → Wait l.links ss l.node (reverse l.fn.pending.items)
      → Wait l.links ss l.node (reverse l.pending.items);
}

abbrev pub decreases-loop-next : goal.decreases-loop-next
decreases-loop-next l = l.next
