use Rattle.std.proofs.Common.{arith, ◌≡◌, ◌≤◌, ℕ, List, drop, ap, ◌∙◌, subst}
use Rattle.std.specs.Mem.Slots.{slots_items}
use Rattle.atomic_table.specs.Table.{Me, Final, Seen}
use Rattle.srm_ledger.specs.declared.rule.Holding.{Holding}
use Rattle.srm_ledger.specs.Counts.{place_at, counted_at}
use Rattle.srm_ledger.specs.Seats.{SeatView, word_at, seen_there}
use Rattle.srm_ledger.specs.Tally.{Tallied, holding}
use Rattle.srm_ledger.proofs.Keeps.{closed_words, closed_reads}
use Rattle.srm_ledger.proofs.Tied.{same_table}
use Rattle.srm_ledger.proofs.Zips.{behind_at}
use Rattle.srm_ledger.proofs.ledger.Ledger.close.Goals as goal

pub copy_words-requires-clause-same : goal.copy_words-requires-clause-same
copy_words-requires-clause-same c =
    let seat = c.seat.invariant in
    let table = c.self.inside.table.shared in
    let width = ap (λ t. t.words) (same_table c.seat.view_is c.requires c.self.view_is) in
    let whole : c.seat.inside.weight ≡ 65536 = (let a = c.if-seat-lt-WHOLE.false in omega arith) in
    let last = holding c.seat.inside.weight c.seat.inside.shares.items c.seat.inside.seen.items in
    let words = slots_items c.close_with-closed.result.words in
    let slots = slots_items c.close_with-closed.result.slots in
    let Ends : Me (Unit {0}) Holding → Type 0 =
    λ m. Final (Seen (Tallied table.key) c.seat.inside.hold.id m.0) words slots in
    let ends = subst Ends seat.0 c.close_with-closed.ensures.values.2 in
    closed_words _ _ last words slots (omega arith) whole ends

pub returns-clause-seen : goal.returns-clause-seen
returns-clause-seen c link kind =
    let table = c.self.inside.table.shared in
    let shares = c.seat.inside.shares.items in
    let most = c.seat.invariant in
    let whole : c.seat.inside.weight ≡ 65536 = (let a = c.if-seat-lt-WHOLE.false in omega arith) in
    let last = holding c.seat.inside.weight shares c.seat.inside.seen.items in
    let words = slots_items c.close_with-closed.result.words in
    let slots = slots_items c.close_with-closed.result.slots in
    let Ends : Me (Unit {0}) Holding → Type 0 =
    λ m. Final (Seen (Tallied table.key) c.seat.inside.hold.id m.0) words slots in
    let ends = subst Ends c.seat.invariant.0 c.close_with-closed.ensures.values.2 in
    let read = closed_reads _ _ last words slots whole ends (word_at link kind) in
    let given : c.of_words.result ≡ drop 1 shares = c.of_words.ensures ∙ ap (drop 1) c.copy_words.ensures in
    let here = ap (λ (ns : List ℕ). counted_at ns link kind) given in
    let behind = behind_at shares (place_at link kind) in
    let P : SeatView → Type 0 = λ s. seen_there s link kind ≤ counted_at c.of_words.result link kind in
    subst P c.seat.view_is (omega (arith, read, here, behind))
