-- A cell that hears packets, one after the other.
use Rattle.std.proofs.Common.{◌≡◌, ℕ, zero, suc, ◌<◌, List, [], ◌∷◌, length, take, get_or, Some, None, sym, ap, subst, arith}
use Rattle.srm_net.specs.declared.packet.Packet.{Packet}
use Rattle.srm_cell.specs.declared.sent.Sent.{Sent}
use Rattle.srm_cell.specs.Setting.{Traffic, arrival_of}
use Rattle.srm_cell.specs.Flights.{BringsNone}
use Rattle.srm_cell.specs.Cells.{PlainCell, hear, hear_at}
use Rattle.srm_cell.specs.Hearing.{packets_in, hear_all, AreNewTo}

module _ (t : Traffic) where
  pub hears_not : (p : Packet) (m : ℕ) (c : PlainCell) → arrival_of t p m ≡ None → hear t p m c ≡ c
  unfolding hear
  hears_not p m c h = ap (λ o. hear_at p o c) h

  pub hears_at : (p : Packet) (m at : ℕ) (c : PlainCell) → arrival_of t p m ≡ Some at → hear t p m c ≡ hear_at p (Some at) c
  unfolding hear
  hears_at p m at c h = ap (λ o. hear_at p o c) h

  -- one packet more is heard
  pub hears_next : (m i : ℕ) (xs : List Sent) (x : Sent) (c : PlainCell) → i < length xs → x ≡ get_or xs i x
      → hear_all t m (packets_in (take (suc i) xs)) c ≡ hear t x.packet m (hear_all t m (packets_in (take i xs)) c)
  hears_next m i [] x c lt e = absurd (omega arith)
  hears_next m zero (y ∷ xs) x c lt e = ap (λ (z : Sent). hear t z.packet m c) (sym e)
  hears_next m (suc i) (y ∷ xs) x c lt e = hears_next m i xs x (hear t y.packet m c) (omega arith) e

  -- it is new in its turn
  pub is_new : (m i : ℕ) (xs : List Sent) (x : Sent) (c : PlainCell) → AreNewTo t m (packets_in xs) c → i < length xs → x ≡ get_or xs i x
      → BringsNone x.packet.id (hear_all t m (packets_in (take i xs)) c).inbox
  is_new m i [] x c new lt e = absurd (omega arith)
  is_new m zero (y ∷ xs) x c new lt e = subst (λ (z : Sent). BringsNone z.packet.id c.inbox) (sym e) new.0
  is_new m (suc i) (y ∷ xs) x c new lt e = is_new m i xs x (hear t y.packet m c) new.1 (omega arith) e
