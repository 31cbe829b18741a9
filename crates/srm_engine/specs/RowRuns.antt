-- Runs that hand their rows to a sink and are asked for no exits: what they tell, and when memory is refused to them.
use Rattle.std.specs.Prelude.{◌≡◌, ◌⊎◌, ℕ, List, Result, Ok, Err, IfErr}
use Rattle.srm_scenario.specs.Plain.{PlainScenario}
use Rattle.srm_engine.specs.declared.width.Windows.{Windows}
use Rattle.srm_member.specs.declared.row.Row.{Row}
use Rattle.srm_member.specs.declared.exit.Exit.{Exit}
use Rattle.srm_cell.specs.Setting.{Setting}
use Rattle.srm_interfaces.specs.declared.sink.SinkFault.TheVariants as sink
use Rattle.srm_interfaces.specs.declared.sink.Stage.{Stage}
use Rattle.srm_interfaces.specs.declared.sink.Stage.TheVariants.{Refused}
use Rattle.srm_engine.specs.declared.fault.RunFault.TheVariants as fault
use Rattle.srm_engine.specs.declared.stream_fault.StreamFault.{StreamFault}
use Rattle.srm_engine.specs.declared.stream_fault.StreamFault.TheVariants.{Run}
use Rattle.srm_model.specs.World.{World, IsLast, IsOutcome}
use Rattle.srm_engine.specs.Streams.{TakesTraceFront, TakesUpTo}
use Rattle.srm_engine.specs.Windowed.{MayCome, rule_of}

-- ---- totals

module _ {S : Type 0} (took part : S → List Row → S → Type 0) where
  -- what such a run tells: the totals of the sequential run, of which the sink took exactly the trace; or the sink took
  -- no more than a front of it
  abbrev pub TellsTotals : Setting → S → Result (List ℕ) StreamFault → S → Type 0
  TellsTotals s old (Ok totals) new =
      (rows : List Row) × (exits : List Exit) × IsOutcome s rows exits totals × took old rows new
  TellsTotals s old (Err e) new = TakesTraceFront took part s old new

  -- what an engine tells that handed on the rows of a run: it is seen as the last world of the sequential run, of which
  -- the sink took the trace; or the sink took no more than a front of it
  abbrev pub TellsLast : {E : Type 0} → (E → World → Type 0) → Setting → S → Result E StreamFault → S → Type 0
  TellsLast is_seen_as s old (Ok e) new = (w : World) × IsLast s w × took old w.trace new × is_seen_as e w
  TellsLast is_seen_as s old (Err x) new = TakesTraceFront took part s old new

-- ---- memory

-- memory may be refused to the window that begins in a world of a run, where windows end so and jobs are so large
abbrev pub MayLackWindow : Setting → PlainScenario → Windows → World → Type 0
MayLackWindow s p asked w = MayCome s (rule_of s p asked.width) asked.cut w fault.NoMemory

module _ {S : Type 0} (stage : S → Stage) (took part : S → List Row → S → Type 0) where
  -- where memory is refused to a run that hands its rows to a sink, it left something undone: the sink is as it was; or
  -- the sink took the rows of a world of the run, from which on memory may be refused; or memory was refused to the
  -- sink, which took no more than a front of the trace
  abbrev pub IsUndone : (World → Type 0) → Setting → S → S → Type 0
  IsUndone may_lack s old new =
      (new ≡ old)
      ⊎ (TakesUpTo took part s may_lack old new
      ⊎ ((stage new ≡ Refused sink.NoMemory) × TakesTraceFront took part s old new))

  -- so after a refusal that tells that memory was refused
  abbrev pub UndoneAfter : (World → Type 0) → Setting → S → StreamFault → S → Type 0
  UndoneAfter may_lack s old x new = x ≡ Run fault.NoMemory → IsUndone may_lack s old new

  -- so of what a run answers
  abbrev pub TellsUndone : {A : Type 0} → (World → Type 0) → Setting → S → Result A StreamFault → S → Type 0
  TellsUndone may_lack s old r new = IfErr r (λ x. UndoneAfter may_lack s old x new)
