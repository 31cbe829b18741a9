use Rattle.std.proofs.Common.{◌≡◌, ◌<◌, ℕ, Result, Ok, Err, IsOk, IfErr, refl, arith}
use Rattle.srm_engine.proofs.window_engine.counted.Goals as goal

-- a ledger is closed with its whole seat
closed : {A E : Type 0} (weight : ℕ) (r : Result A E) → IfErr r (λ _. weight < 65536) → weight ≡ 65536 → IsOk r
closed weight (Ok v) part whole = refl
closed weight (Err e) part whole = absurd (omega arith)

pub unwrap-requires : goal.unwrap-requires
unwrap-requires c = closed c.args.seat.weight c.close.result c.close.ensures.part c.requires.whole
