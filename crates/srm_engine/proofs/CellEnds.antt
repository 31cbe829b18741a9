-- What a cell ends with.
use Rattle.std.proofs.Common.{◌≡◌, Option, Some, None, Ok, Err, refl, sym, ap, ◌∙◌, inl, inr}
use Rattle.srm_member.specs.declared.exit.Exit.{Exit}
use Rattle.srm_member.specs.Record.{MemberState}
use Rattle.srm_cell.specs.declared.fault.CellFault.{CellFault}
use Rattle.srm_cell.specs.declared.fault.CellFault.TheVariants as fault
use Rattle.srm_cell.specs.Cells.{PlainCell}
use Rattle.srm_cell.specs.Views.{EndsWith, TellsExit}
use Rattle.srm_model.specs.World.{exit_at}
use Rattle.srm_engine.specs.Outcomes.{HasEnd, end_of}

ends : (o : Option MemberState) (x : Exit) → EndsWith o x → x ≡ exit_at o None
ends (Some m) x e = e
ends None x e = absurd e

pub ended : (p : PlainCell) (x : Exit) → TellsExit p (Ok x) → x ≡ end_of p
ended p x (inl e) = sym (ap (exit_at p.holds) e)
ended p x (inr e) = ends p.holds x e.1 ∙ sym (ap (exit_at p.holds) e.0)

gone_without : (o : Option MemberState) (x : Option Exit) → HasEnd o x → o ≡ None → x ≡ None → ⊥
gone_without (Some m) x h g e = cc
gone_without None x h g e = h e

-- a cell whose member is there, or has left its exit, is refused nothing but memory for its end
pub only_memory : (p : PlainCell) (x : CellFault) → HasEnd p.holds p.exit → TellsExit p (Err x) → x ≡ fault.NoMemory
only_memory p fault.NoMemory h t = refl
only_memory p fault.Spent h t = absurd (gone_without p.holds p.exit h t.1 t.0)
only_memory p fault.CountFull h t = absurd t.1
