use Rattle.std.proofs.Common.{rules, ◌≡◌, ◌∙◌, sym, ap, take, get_or, ◌+◌, ◌++◌, ◌∷◌, [], ℕ, ◌≤◌, List, length}
use Rattle.std.proofs.lemmas.List.{take_all, take_more}
use Rattle.srm_net.specs.declared.link.DropSpec.{DropSpec}
use Rattle.srm_net.specs.declared.packet.PacketId.{PacketId}
use Rattle.srm_net.specs.Paths.{is_listed, drop_cmp}
use Rattle.srm_net.specs.Listed.{is_listed_somewhere}
use Rattle.srm_net.specs.DropSets.{has_packet, ordered_once}
use Rattle.srm_net.proofs.DropLemmas.{drops_ascend, listed_ordered, contains_listed, listed_contains, listed_more, known_more}
use Rattle.srm_net.proofs.DropLemmas.{same_somewhere}
use Rattle.srm_net.proofs.drops.Drops.of.Goals as goal

-- an entry of no use but as a default
abbrev nothing : DropSpec
nothing = record { link = 0; id = record { sender = 0; count = 0 } }

pub loop-entry-preserved : goal.loop-entry-preserved
loop-entry-preserved c =
    let xs = c.args.list.now in
    let i = c.loop-entry.entry-index in
    let d = get_or xs i nothing in
    let more : take (i + 1) xs ≡ take i xs ++ d ∷ [] = take_more xs i nothing c.loop-entry-test.true in
    record {
      same = λ p link. listed_more c.loop-entry.entries.keys c.insert.new.self.keys d (take i xs) p link
          (c.in-Ok.ensures.updates.0 (record { link = link; id = p })) (c.loop-entry.invariant.same p link)
          ∙ ap (λ ds. is_listed ds p link) (sym more);
      known = λ p. known_more c.loop-entry.packets.keys c.insert-in-loop-entry.new.self.keys d (take i xs) p
          (c.in-Ok-insert.ensures.updates.0 p) (c.loop-entry.invariant.known p) ∙ ap (λ ds. is_listed_somewhere ds p) (sym more);
    }

pub invariant_of-result : goal.invariant_of-result
invariant_of-result c p =
    let xs = c.args.list.now in
    let packets : c.in-Ok-new.sets.value.packets.keys ≡ c.loop-entry.packets.keys = search rules in
    let entries : c.in-Ok-new.sets.value.entries.keys ≡ c.loop-entry.entries.keys = search rules in
    ap (λ ps. has_packet ps p) packets
    ∙ c.loop-entry.invariant.known p
    ∙ sym (same_somewhere c.loop-entry.entries.keys (take c.loop-entry.entry-index xs) p (λ l. c.loop-entry.invariant.same p l))
    ∙ sym (ap (λ ds. is_listed_somewhere ds p) entries)

same_all : (keys list : List DropSpec) (i : ℕ) → ((p : PacketId) (l : ℕ) → is_listed keys p l ≡ is_listed (take i list) p l)
    → length list ≤ i
    → (p : PacketId) (l : ℕ) → is_listed (ordered_once drop_cmp keys) p l ≡ is_listed list p l
same_all keys list i same done p l = listed_ordered keys p l ∙ same p l ∙ ap (λ ds. is_listed ds p l) (take_all i list done)

pub returns-clause-entries : goal.returns-clause-entries
returns-clause-entries c d =
    let keys = c.in-Ok-new.sets.value.entries.keys in
    let entries : keys ≡ c.loop-entry.entries.keys = search rules in
    let e = ap (λ ks. is_listed (ordered_once drop_cmp ks) d.id d.link) entries
    ∙ same_all c.loop-entry.entries.keys c.args.list.now c.loop-entry.entry-index c.loop-entry.invariant.same c.loop-entry-test.false
    d.id d.link in (
      λ h. contains_listed c.args.list.now d (sym e ∙ listed_contains (ordered_once drop_cmp keys) d h),
      λ h. contains_listed (ordered_once drop_cmp keys) d (e ∙ listed_contains c.args.list.now d h),
    )

pub returns-clause-once_in_order : goal.returns-clause-once_in_order
returns-clause-once_in_order c = drops_ascend c.in-Ok-new.sets.value.entries.keys
