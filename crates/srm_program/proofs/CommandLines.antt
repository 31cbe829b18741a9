-- The line of a command line that is refused.
use Rattle.std.proofs.Common.{◌≡◌, refl, codes, arith}
use Rattle.srm_command_line.specs.declared.line_fault.LineFault.TheVariants as line
use Rattle.srm_program.specs.declared.fault.Fault.{Fault}
use Rattle.srm_program.specs.declared.fault.Fault.TheVariants as fault
use Rattle.srm_program.specs.RefusalLines.{line_of_fault}
use Rattle.srm_program.specs.Program.{status_of_fault}

-- where the exit status is 2, the line is that the command line is refused
pub line_of_refused_words : (f : Fault) → status_of_fault f ≡ 2 → line_of_fault f ≡ codes "command line refused"
line_of_refused_words (fault.Line line.Line) e = refl
line_of_refused_words (fault.Line line.BadWord) e = refl
line_of_refused_words (fault.Line (line.Help text)) e = absurd (omega arith)
line_of_refused_words (fault.Line line.Rules) e = absurd (omega arith)
line_of_refused_words (fault.Line line.NoMemory) e = absurd (omega arith)
line_of_refused_words (fault.Scenario f) e = absurd (omega arith)
line_of_refused_words (fault.Lab f) e = absurd (omega arith)
line_of_refused_words fault.NoMemory e = absurd (omega arith)
