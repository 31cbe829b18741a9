-- What a refusal of a crew is to a run.
use Rattle.std.specs.Prelude.{Option, Some, None}
use Rattle.srm_interfaces.specs.declared.fault.CrewFault.{CrewFault}
use Rattle.srm_interfaces.specs.declared.fault.CrewFault.TheVariants as crew
use Rattle.srm_engine.specs.declared.fault.RunFault.{RunFault}
use Rattle.srm_engine.specs.declared.fault.RunFault.TheVariants as fault

-- the refusal of the same name, if a run has one: no run meets an event at a member that left
abbrev pub run_fault_of : CrewFault → Option RunFault
run_fault_of crew.NoMemory = Some fault.NoMemory
run_fault_of crew.ShareFull = Some fault.ShareFull
run_fault_of crew.CountFull = Some fault.CountFull
run_fault_of crew.Spent = None
