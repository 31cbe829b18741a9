-- What a recording crew has noted after several calls.
use Rattle.std.specs.Prelude.{IfOk}
use Rattle.std.proofs.Common.{Result, Ok, Err, ◌≡◌, ◌<◌, ◌+◌, ℕ, List, [], ◌∷◌, ◌++◌, length, take, get_or, map, refl, sym, ap, ◌∙◌}
use Rattle.std.proofs.lemmas.List.{take_more, map-append, length-map}
use Rattle.srm_member.specs.Record.{Record}
use Rattle.srm_cell.specs.declared.job.Job.{Job}
use Rattle.srm_cell.specs.Views.{own_cell}
use Rattle.srm_engine_and_report_tests.specs.declared.recording.Note.{Note}
use Rattle.srm_interfaces.specs.Crews.{plain_jobs}
use Rattle.srm_engine_and_report_tests.specs.Recorded.{notes_of}

module _ {M : Type 0} where
  -- the note of a job as it is
  abbrev pub own_note : Job M → Note
  own_note j = record { place = j.place; till = j.till; cells = length j.cells.items }

  pub notes_more : (js : List (Job M)) (i : ℕ) (j : Job M) → i < length js → j ≡ get_or js i j → map own_note (take i js)
      ++ own_note j ∷ [] ≡ map own_note (take (i + 1) js)
  notes_more js i j lt e = sym (ap (map own_note) (take_more js i j lt) ∙ map-append own_note (take i js) (get_or js i j ∷ [])
      ∙ ap (λ (k : Job M). map own_note (take i js) ++ own_note k ∷ []) (sym e))

  pub notes_seen : (f : M → Record) (js : List (Job M)) → map own_note js ≡ notes_of (plain_jobs f js)
  notes_seen f [] = refl
  notes_seen f (j ∷ js) = λ i. record { place = j.place; till = j.till; cells = sym (length-map j.cells.items (own_cell f)) i }
      ∷ notes_seen f js i

pub always_ok : {A E : Type 0} (r : Result A E) (Q : Type 0) → Q → IfOk r (λ x. Q)
always_ok (Ok x) Q q = q
always_ok (Err e) Q q = tt
