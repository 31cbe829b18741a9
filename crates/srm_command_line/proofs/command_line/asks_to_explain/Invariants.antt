use Rattle.std.proofs.Common.{◌≡◌, false, take}
use Rattle.srm_command_line.specs.CommandLine.{asks_to_explain}
use Rattle.srm_command_line.proofs.command_line.asks_to_explain.Given as goal

abbrev pub invariant-loop-word : goal.invariant-loop-word
invariant-loop-word g l = asks_to_explain g.S.AsStr.text (take l.word-index l.words) ≡ false
