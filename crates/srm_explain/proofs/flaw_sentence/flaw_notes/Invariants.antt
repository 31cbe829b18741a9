use Rattle.std.proofs.Common.{◌≡◌, ◌++◌, drop, string_bytes}
use Rattle.srm_explain.specs.Explanations.{flaw_notes}
use Rattle.srm_explain.proofs.flaw_sentence.flaw_notes.Given as goal

-- the notes so far, and those that are still to come
abbrev pub invariant-loop-flaw : goal.invariant-loop-flaw
invariant-loop-flaw l = string_bytes l.notes ++ flaw_notes (drop l.flaw-index l.flaws) ≡ flaw_notes l.flaws
