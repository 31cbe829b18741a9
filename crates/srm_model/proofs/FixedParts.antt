-- A member's fixed part stays the same in a run.
use Rattle.std.proofs.Common.{arith}
use Rattle.std.proofs.Common.{◌≡◌, ℕ, zero, suc, ◌+◌, List, sym, ap, subst, inl, inr, Option, Some, None}
use Rattle.std.proofs.Common.{slice_get, add-zero, zero-add}
use Rattle.srm_net.specs.declared.packet.Packet.{Packet}
use Rattle.srm_member.specs.declared.cause.Cause.{Cause}
use Rattle.srm_member.specs.declared.fixed.Fixed.{Fixed as FixedPart}
use Rattle.srm_member.specs.declared.row.Row.{Row}
use Rattle.srm_member.specs.Record.{MemberState}
use Rattle.srm_member.proofs.LawProofs.{same_fixed}
use Rattle.srm_cell.specs.Setting.{Setting, IsFit, arrival_of}
use Rattle.srm_cell.specs.Cells.{PlainCell, Event, Stepped, Done, before, handle, hear, hear_at, next_event, opening_cell}
use Rattle.srm_cell.specs.Cells.{step_at}
use Rattle.srm_cell.specs.OwnRuns.{told_to}
use Rattle.srm_cell.proofs.Counts.{Taken, next_taken}
use Rattle.srm_cell.proofs.Rising.{OnEvent, OnStep, before_on}
use Rattle.srm_model.specs.World.{World, least_event, opening, opening_cells, run, cells_after}
use Rattle.srm_model.proofs.RunLemmas.{Seq, next, rest, shifted}
use Rattle.srm_model.proofs.Sequential.{run_seq, step_facts}
use Rattle.srm_model.proofs.Settled.{each_after}
use Rattle.std.proofs.lemmas.Option.{same_Some}

-- what a member knows has this fixed part, unless it is gone
abbrev pub HasFixed : FixedPart → Option MemberState → Type 0
HasFixed f (Some k) = k.fixed ≡ f
HasFixed f None = Unit {0}

abbrev pub KeepFixed : Setting → List PlainCell → Type 0
KeepFixed s cs = (m : ℕ) (c : PlainCell) → slice_get cs m ≡ Some c → HasFixed (s.fixed m) c.holds

-- ---- a step

abbrev Keeps : FixedPart → Stepped → Type 0
Keeps f d = HasFixed f d.cell.holds

kept_handle : (f : FixedPart) (e : Event) (holds : Option MemberState) (cause : Option Cause) → HasFixed f holds
    → OnStep (Keeps f) (handle e holds cause)
unfolding handle
kept_handle f e holds cause h = grind (arith, same_fixed)

kept_step : (f : FixedPart) (e : Event) → HasFixed f e.rest.holds → OnStep (Keeps f) (step_at (Some e))
kept_step f e h = kept_handle f e e.rest.holds e.cause h

rest_keeps : (f : FixedPart) (c : PlainCell) (e : Event) → Taken c e → HasFixed f c.holds → HasFixed f e.rest.holds
rest_keeps f c e (inl h) s = subst (HasFixed f) (sym h.0) s
rest_keeps f c e (inr h) s = subst (λ (b : PlainCell). HasFixed f b.holds) (sym h.0) s

-- ---- a run

module _ (s : Setting) (fit : IsFit s) where
  heard_keeps : (p : Packet) (o : Option ℕ) (c : PlainCell) (f : FixedPart) → HasFixed f c.holds → HasFixed f (hear_at p o c).holds
  heard_keeps p None c f h = h
  heard_keeps p (Some at) c f h = h

  told_keeps : (x : Option Packet) (m : ℕ) (c : PlainCell) (f : FixedPart) → HasFixed f c.holds
      → HasFixed f (told_to s.traffic x m c).holds
  unfolding hear
  told_keeps None m c f h = h
  told_keeps (Some p) m c f h = heard_keeps p (arrival_of s.traffic p m) c f h

  kept_after : (cs : List PlainCell) (e : Event) (d : Stepped) → KeepFixed s cs → before s.traffic.until (least_event 0 cs) ≡ Some e
      → step_at (Some e) ≡ Done d → KeepFixed s (cells_after s e.key.member d 0 cs)
  kept_after cs e d kept h x =
      let t = step_facts s fit s.traffic.until cs e d h x in
      let m = e.key.member in
      let taken = subst (OnEvent (Taken t.cell)) t.event (before_on (Taken t.cell) s.traffic.until (next_event m t.cell)
      (next_taken m t.cell)) in
      each_after s (λ j c. HasFixed (s.fixed j) c.holds) cs m d
      (subst (OnStep (Keeps (s.fixed m))) x (kept_step (s.fixed m) e (rest_keeps (s.fixed m) t.cell e taken (kept m t.cell t.here))))
      (λ j c g ne. told_keeps d.row.sent j c (s.fixed j) (kept j c g))

  kept_seq : {cs ds : List PlainCell} {rows : List Row} → Seq s s.traffic.until cs rows ds → KeepFixed s cs → KeepFixed s ds
  kept_seq rest kept = kept
  kept_seq (next {cs = cs} {e = e} {d = d} h x more) kept = kept_seq more (kept_after cs e d kept h x)

  opening_keeps : (n i j : ℕ) (c : PlainCell) → slice_get (opening_cells s n i) j ≡ Some c → HasFixed (s.fixed (i + j)) c.holds
  unfolding opening_cells
  opening_keeps zero i j c h = cc
  opening_keeps (suc n) i zero c h = subst (λ (b : PlainCell). HasFixed (s.fixed (i + 0)) b.holds) (same_Some (opening_cell s i) c h)
      (ap s.fixed (sym (add-zero i)))
  opening_keeps (suc n) i (suc j) c h = subst (λ k. HasFixed (s.fixed k) c.holds) (sym (shifted i j)) (opening_keeps n (suc i) j c h)

  kept_opening : KeepFixed s (opening s).cells
  unfolding opening
  kept_opening m c h = subst (λ k. HasFixed (s.fixed k) c.holds) (zero-add m) (opening_keeps s.traffic.members 0 m c h)

  -- in each world of a run every cell keeps its member's fixed part
  pub kept_reached : (n : ℕ) (w : World) → run s n (opening s) ≡ Done w → KeepFixed s w.cells
  kept_reached n w h = kept_seq (run_seq s fit n (opening s) w h).1 kept_opening
