use Rattle.std.proofs.Common.{length, decimal, refl, ap}
use Rattle.srm_report.specs.Trace.{cause_word, ref_text, told_word}
use Rattle.srm_report.proofs.LineLemmas.{line_is_row, no_field, field, cause_is_plain, decimal_is_plain, ref_is_plain, sent_is_plain}
use Rattle.srm_report.proofs.LineLemmas.{told_is_plain}
use Rattle.srm_report.proofs.listing.trace.TraceListingListing.put_line.Goals as goal

pub returns-clause-text : goal.returns-clause-text
returns-clause-text c =
    let r = c.args.row.now in
    let sent = field _ (sent_is_plain r.sent) c.put_sent.ensures.written refl (no_field c.end_line.ensures.written) in
    let lost = field (decimal (length r.lost)) (decimal_is_plain (length r.lost)) c.put_number.ensures.written
    (ap decimal c.len.ensures) sent in
    let told = field (told_word r.told) (told_is_plain r.told) c.put_told.ensures.written refl lost in
    let about = field (ref_text r.about) (ref_is_plain r.about) c.put_ref.ensures.written refl told in
    let cause = field (cause_word r.cause) (cause_is_plain r.cause) c.put_cause.ensures.written refl about in
    let member = field (decimal r.key.member) (decimal_is_plain r.key.member) c.put_number-2.ensures.written
    (ap decimal c.from.ensures) cause in
    let time = field (decimal r.key.time) (decimal_is_plain r.key.time) c.put_number-3.ensures.written refl member in
    line_is_row c.put_number-3.new.buffer time
