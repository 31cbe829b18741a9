-- What a run tells of a sink that is handed rows merged, told of the sink under it.
use Rattle.std.proofs.Common.{ℕ, List}
use Rattle.srm_member.specs.declared.row.Row.{Row}
use Rattle.srm_cell.specs.Setting.{Setting}
use Rattle.srm_model.specs.World.{World}
use Rattle.srm_engine.specs.declared.fault.RunFault.TheVariants as fault
use Rattle.srm_engine.specs.declared.merged_rows.MergedRows.{MergedRows}
use Rattle.srm_engine.specs.declared.stream_fault.StreamFault.{StreamFault}
use Rattle.srm_engine.specs.declared.stream_fault.StreamFault.TheVariants.{Run, Stopped}
use Rattle.srm_engine.specs.WindowStreams.{RefusedAtWindow}

module _ {S : Type 0} (took part : S → List Row → S → Type 0) where
  -- a run is refused at a window up to which the sink under it took the rows
  pub refused_under : (old new : MergedRows S) (s : Setting) (rule : World → ℕ) (cut : ℕ) (x : StreamFault)
      → RefusedAtWindow (λ (a : MergedRows S) rows (b : MergedRows S). took a.sink.now rows b.sink.now)
      (λ (a : MergedRows S) rows (b : MergedRows S). part a.sink.now rows b.sink.now) s rule cut old x new
      → RefusedAtWindow took part s rule cut old.sink.now x new.sink.now
  refused_under old new s rule cut (Run fault.CountFull) h = h
  refused_under old new s rule cut (Run fault.ShareFull) h = h
  refused_under old new s rule cut (Run fault.NoMemory) h = tt
  refused_under old new s rule cut (Run fault.BadCut) h = tt
  refused_under old new s rule cut (Run fault.BadWidth) h = tt
  refused_under old new s rule cut (Stopped n) h = tt
