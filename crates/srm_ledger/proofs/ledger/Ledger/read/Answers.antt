use Rattle.std.proofs.Common.{arith, ◌≡◌, ℕ, sym, ap, subst}
use Rattle.srm_ledger.proofs.Keeps.{read_allowed}
use Rattle.srm_ledger.proofs.Tied.{same_table, MayRead}
use Rattle.srm_ledger.proofs.ledger.Ledger.read.Goals as goal

pub load-found-requires : goal.load-found-requires
load-found-requires c =
    let seat = c.seat.invariant in
    let words = c.self.invariant in
    let table = c.self.inside.table.shared in
    let word : ℕ = c.word_in-word.result in
    let same = same_table c.seat.view_is c.requires.seat c.self.view_is in
    let links : c.self.inside.links ≡ c.args.self.now.links = ap (λ l. l.links) c.self.view_is in
    let width = ap (λ t. t.words) same in
    let below = c.word_in-word.ensures.below in (
      same,
      omega arith,
      subst (MayRead table.key table.table_id.slots c.seat.inside.hold.id word) (sym seat.0)
          (read_allowed _ _ _ _ _ _ (omega arith) (omega arith) seat.3),
    )
