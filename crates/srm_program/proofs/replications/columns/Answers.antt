use Rattle.std.proofs.Common.{refl}
use Rattle.csv.specs.Writing.{fields_text, is_blank}
use Rattle.srm_program.proofs.replications.columns.Goals as goal

pub returns-in-Trace : goal.returns-in-Trace
unfolding fields_text is_blank
returns-in-Trace c = rw c.in-Trace.is refl

pub returns-in-Members : goal.returns-in-Members
unfolding fields_text is_blank
returns-in-Members c = rw c.in-Members.is refl

pub returns-in-Losses : goal.returns-in-Losses
unfolding fields_text is_blank
returns-in-Losses c = rw c.in-Losses.is refl

pub returns-in-Operations : goal.returns-in-Operations
unfolding fields_text is_blank
returns-in-Operations c = rw c.in-Operations.is refl

pub returns-in-Links : goal.returns-in-Links
unfolding fields_text is_blank
returns-in-Links c = rw c.in-Links.is refl

pub returns-in-Timers : goal.returns-in-Timers
unfolding fields_text is_blank
returns-in-Timers c = rw c.in-Timers.is refl

pub returns-in-Scopes : goal.returns-in-Scopes
unfolding fields_text is_blank
returns-in-Scopes c = rw c.in-Scopes.is refl
