use Rattle.std.proofs.Common.{arith, ◌≡◌, ℕ, ◌<◌, length, sym, ap, ◌∙◌, subst}
use Rattle.std.proofs.lemmas.Grind.{get_or_default_zero}
use Rattle.srm_ledger.proofs.Keeps.{add_allowed}
use Rattle.srm_ledger.proofs.Tied.{same_table, MayAdd}
use Rattle.srm_ledger.proofs.ledger.Ledger.add.Goals as goal

pub fetch_add-requires : goal.fetch_add-requires
fetch_add-requires c =
    let seat = c.seat.invariant in
    let words = c.self.invariant in
    let table = c.self.inside.table.shared in
    let word : ℕ = c.word_in-word.result in
    let same = same_table c.seat.view_is c.requires.seat c.self.view_is in
    let links : c.self.inside.links ≡ c.args.self.now.links = ap (λ l. l.links) c.self.view_is in
    let width = ap (λ t. t.words) same in
    let below = c.word_in-word.ensures.below in
    let shares = c.seat.inside.shares.items in
    let long : word < length shares = omega arith in
    let share = c.index-share.ensures ∙ get_or_default_zero shares word c.index-share.result.now long in
    let room = c.if-n-share.false in
    let cap = seat.5 word in
    let behind = c.word_in-word.ensures.word in (
      same,
      omega arith,
      subst (MayAdd table.key table.table_id.slots c.seat.inside.hold.id word c.args.n) (sym seat.0)
          (add_allowed _ _ _ _ _ _ _ (omega (arith, behind)) (omega arith) long (omega arith) seat.3 seat.5),
    )
