use Rattle.std.proofs.Common.{arith}
use Rattle.std.proofs.lemmas.List.{drop_all}
use Rattle.srm_report.specs.declared.listing.line_buffer.TheConstants.{SIZE}
use Rattle.srm_report.proofs.listing.line_buffer.LineBuffer.clear.Goals as goal

pub returns-clause-text : goal.returns-clause-text
returns-clause-text c = drop_all SIZE c.args.self.now.bytes (omega arith)
