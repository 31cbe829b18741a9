use Rattle.std.proofs.Common.{◌∙◌, ◌++◌, [], ◌∷◌, Option, ap, sym, append-nil}
use Rattle.std.specs.Option.{option_map_or}
use Rattle.csv.specs.Writing.{default_writer, row_text}
use Rattle.srm_member.specs.declared.intervals.Intervals.{Intervals}
use Rattle.srm_report.specs.Lines.{buffer_text}
use Rattle.srm_report.specs.Tables.{lines_of}
use Rattle.srm_report.specs.Timers.{timers_fields}
use Rattle.srm_report.proofs.listing.timers.TimersListingListing.put_line.Goals as goal

pub returns-in_default-clause-text : goal.returns-in_default-clause-text
unfolding lines_of
returns-in_default-clause-text c =
    let r = c.args.row.now in
    let lines = λ (o : Option Intervals). lines_of (option_map_or (λ i. timers_fields r i ∷ []) o []) in
    ap (λ o. lines o ++ buffer_text c.args.buffer.now) (sym c.in_default.is ∙ c.get.ensures)

pub returns-in-Some-clause-text : goal.returns-in-Some-clause-text
unfolding lines_of
returns-in-Some-clause-text c =
    let r = c.args.row.now in
    let lines = λ (o : Option Intervals). lines_of (option_map_or (λ i. timers_fields r i ∷ []) o []) in
    c.put_row.ensures.text
    ∙ ap (λ l. l ++ buffer_text c.args.buffer.now) (sym (append-nil (row_text default_writer (timers_fields r c.in-Some.intervals)))
    ∙ ap lines (sym c.in-Some.is ∙ c.get.ensures))
