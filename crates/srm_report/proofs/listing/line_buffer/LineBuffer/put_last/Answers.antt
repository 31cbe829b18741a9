use Rattle.std.proofs.Common.{◌≤◌, ◌-◌, ◌∙◌, drop, length, ap, sym, arith}
use Rattle.std.proofs.lemmas.List.{drop-append-le, drop-drop}
use Rattle.srm_report.specs.Lines.{buffer_written}
use Rattle.srm_report.proofs.listing.line_buffer.LineBuffer.put_last.Goals as goal

pub returns-clause-written : goal.returns-clause-written
returns-clause-written c =
    let short : 8 - c.args.count ≤ length c.args.bytes = omega arith in
    sym (drop-drop (8 - c.args.count) c.put_bytes.new.self.start c.put_bytes.new.self.bytes)
    ∙ ap (drop (8 - c.args.count)) c.put_bytes.ensures.written
    ∙ drop-append-le (8 - c.args.count) c.args.bytes (buffer_written c.args.self.now) short
