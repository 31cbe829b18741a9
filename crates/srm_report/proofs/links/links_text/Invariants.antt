use Rattle.srm_report.specs.Links.{link_columns}
use Rattle.srm_report.specs.Records.{HasText}
use Rattle.srm_report.specs.Tables.{table_lines}
use Rattle.srm_report.proofs.LinkLemmas.{first_rows}
use Rattle.srm_report.proofs.links.links_text.Given as goal

-- the header and the rows of the links so far were written
abbrev pub invariant-loop-link : goal.invariant-loop-link
invariant-loop-link l = HasText l.writer (table_lines link_columns (first_rows l.totals l.link))
