use Rattle.std.proofs.Common.{decimal, refl, ap}
use Rattle.srm_report.specs.Trace.{cause_word, ref_text}
use Rattle.srm_report.proofs.LineLemmas.{line_is_row, no_field, field, cause_is_plain, decimal_is_plain, ref_is_plain, time_is_plain}
use Rattle.srm_report.proofs.listing.timers.put_row.Goals as goal

pub returns-clause-text : goal.returns-clause-text
returns-clause-text c =
    let r = c.args.row.now in
    let i = c.args.intervals in
    let rep_delay = field _ (time_is_plain i.repair.average_delay) refl refl (no_field c.end_line.ensures.written) in
    let rep_dup = field _ (time_is_plain i.repair.average_duplicates) c.put_averages.ensures.written
    refl rep_delay in
    let req_delay = field _ (time_is_plain i.request.average_delay) refl refl rep_dup in
    let req_dup = field _ (time_is_plain i.request.average_duplicates)
    c.put_averages-2.ensures.written refl req_delay in
    let d2 = field (decimal i.repair.width) (decimal_is_plain i.repair.width) refl refl req_dup in
    let d1 = field (decimal i.repair.start) (decimal_is_plain i.repair.start) c.put_constants.ensures.written refl d2 in
    let c2 = field (decimal i.request.width) (decimal_is_plain i.request.width) refl refl d1 in
    let c1 = field (decimal i.request.start) (decimal_is_plain i.request.start) c.put_constants-2.ensures.written refl c2 in
    let about = field (ref_text r.about) (ref_is_plain r.about) c.put_ref.ensures.written refl c1 in
    let cause = field (cause_word r.cause) (cause_is_plain r.cause) c.put_cause.ensures.written refl about in
    let member = field (decimal r.key.member) (decimal_is_plain r.key.member) c.put_number.ensures.written (ap decimal c.from.ensures)
    cause in
    let time = field (decimal r.key.time) (decimal_is_plain r.key.time) c.put_number-2.ensures.written refl member in
    line_is_row c.put_number-2.new.buffer time
