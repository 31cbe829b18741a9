-- What a recording crew notes, and holds.
use Rattle.std.specs.Prelude.{◌≡◌, List, [], ◌++◌, length, map}
use Rattle.std.proofs.Common.{sym, ap, ◌∙◌, append_assoc, append-nil}
use Rattle.std.proofs.lemmas.List.{map-append}
use Rattle.srm_cell.specs.Jobs.{PlainJob}
use Rattle.srm_engine_and_report_tests.specs.declared.recording.Note.{Note}
use Rattle.srm_engine_and_report_tests.specs.declared.recording.Recording.{Recording}

abbrev pub note_of : PlainJob → Note
note_of p = record { place = p.place; till = p.till; cells = length p.cells }

-- the notes of a call
abbrev pub notes_of : List PlainJob → List Note
notes_of ps = map note_of ps

-- the notes of each call so far
abbrev pub calls_kept : Recording → List (List Note)
calls_kept r = r.calls.items

-- the calls of two stretches together are those of one and then of the other
pub noted_none : (cs : List (List Note)) → cs ≡ cs ++ map notes_of []
noted_none cs = sym (append-nil cs)

pub noted_more : (us vs ws : List (List Note)) (xs ys : List (List PlainJob)) → vs ≡ us ++ map notes_of xs → ws
    ≡ vs ++ map notes_of ys → ws ≡ us ++ map notes_of (xs ++ ys)
noted_more us vs ws xs ys p q =
    q ∙ ap (λ l. l ++ map notes_of ys) p ∙ append_assoc us (map notes_of xs) (map notes_of ys)
    ∙ ap (λ l. us ++ l) (sym (map-append notes_of xs ys))
