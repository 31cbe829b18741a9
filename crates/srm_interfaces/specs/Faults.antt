-- What a cell's refusal is to a crew.
use Rattle.srm_cell.specs.declared.fault.CellFault.{CellFault}
use Rattle.srm_cell.specs.declared.fault.CellFault.TheVariants as cell
use Rattle.srm_interfaces.specs.declared.fault.CrewFault.{CrewFault}
use Rattle.srm_interfaces.specs.declared.fault.CrewFault.TheVariants as fault

-- the refusal of the same name
abbrev pub crew_fault_of : CellFault → CrewFault
crew_fault_of cell.NoMemory = fault.NoMemory
crew_fault_of cell.Spent = fault.Spent
crew_fault_of cell.CountFull = fault.CountFull
