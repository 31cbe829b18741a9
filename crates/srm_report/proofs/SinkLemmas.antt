-- What putting a text in parts does to a sink.
use Rattle.std.proofs.Common.{arith}
use Rattle.std.proofs.Common.{◌≡◌, ◌∙◌, ℕ, ◌+◌, ◌<◌, Bool, List, [], ◌++◌, Option, Result, Ok, Err, length, take, drop}
use Rattle.std.proofs.Common.{get_or, IfOk, ap, refl, sym, subst, append_assoc, take-append-drop}
use Rattle.std.proofs.lemmas.Grind.{flat_map-append}
use Rattle.std.specs.Result.{MatchResult}
use Rattle.srm_member.specs.declared.row.Row.{Row}
use Rattle.srm_interfaces.specs.declared.sink.SinkFault.{SinkFault}
use Rattle.srm_report.specs.declared.listing.standing.Standing.{Standing}
use Rattle.srm_report.specs.declared.listing.listing_sink.ListingSink.{ListingSink}
use Rattle.srm_report.specs.declared.listing.tick_part.TickPart.{TickPart}
use Rattle.srm_report.specs.KeptLines.{parts_text}
use Rattle.srm_report.specs.Listings.{Form}
use Rattle.srm_report.specs.Standings.{text_next, after_answer, TakesBut, TakesPart, TakesText}
use Rattle.srm_report.specs.ListingSinks.{Gathers, outlet_under, gathered_by, written_by, PutsText, PutsRows, PutsPart}
use Rattle.srm_report.specs.SinkLaws.{but_more}
use Rattle.srm_report.proofs.TickLemmas.{no_part, texts_more}

-- after the text of rows was put, and the sink stands as the answer says
pub rows_put : {L O A : Type 0} (taken : O → Option (List ℕ)) (f : Form) (a b : ListingSink L O) (rows : List Row) (r : Result A SinkFault)
    (begun : Bool) (s : Standing) → PutsText taken a (text_next f a.standing rows) r b → s ≡ after_answer r
    → MatchResult r (λ (_ : A). PutsRows taken f a rows (record b { has_begun = begun; standing = s }))
    (λ (_ : SinkFault). PutsPart taken f a rows (record b { has_begun = begun; standing = s }))
rows_put taken f a b rows r begun s h e = grind arith

-- where a text was put, it was gathered, or nothing is
pub gathers : {L O A E : Type 0} (taken : O → Option (List ℕ)) (a b : ListingSink L O) (text : List ℕ) (r : Result A E)
    → PutsText taken a text r b → IfOk r (λ _. Gathers a text b)
gathers taken a b text (Ok v) h = h.1
gathers taken a b text (Err e) h = tt

-- a text is put where the outlet takes it behind what was gathered, but for what is gathered then
pub puts : {L O A : Type 0} (taken : O → Option (List ℕ)) (a b : ListingSink L O) (text : List ℕ) (r : Result A SinkFault)
    → TakesText taken (outlet_under a) (written_by a) (gathered_by a ++ text) r (outlet_under b) (written_by b) (gathered_by b)
    → Gathers a text b → PutsText taken a text r b
puts taken a b text (Ok v) h g = (h, g)
puts taken a b text (Err e) h g = (h.3.0, h.2, h.3.1, h.3.2)

-- of what is left of a text, with more behind it, some is taken
pub text_more : {O A : Type 0} (taken : O → Option (List ℕ)) (a b c : O) (n m k : ℕ) (text left next : List ℕ) (r : Result A SinkFault)
    (rest : List ℕ) → TakesBut taken a n text b m left → TakesText taken b m (left ++ next) r c k rest
    → TakesText taken a n (text ++ next) r c k rest
text_more taken a b c n m k text left next (Ok v) rest h j = but_more taken a b c n m k [] text left next rest h j
text_more taken a b c n m k text left next (Err e) rest h j =
    (j.0, j.1, j.2, but_more taken a b c n m k [] text left next j.2 h j.3)

-- a part of a text is one of a longer text
pub part_longer : {O : Type 0} (taken : O → Option (List ℕ)) (a b : O) (n m : ℕ) (text next left : List ℕ) (e : SinkFault)
    → TakesPart taken a n text e b m left → TakesPart taken a n (text ++ next) e b m left
part_longer taken a b n m text next left e h =
    (h.0, h.1, h.2 ++ next, (h.3.0, ap (λ (l : List ℕ). l ++ next) h.3.1 ∙ append_assoc h.3.0 h.2 next, h.3.2))

-- a text, and the first parts behind it, with one more
pub parts_more : (text : List ℕ) (ps : List TickPart) (i : ℕ) → i < length ps
    → (text ++ parts_text (take i ps)) ++ (get_or ps i no_part).text.now ≡ text ++ parts_text (take (i + 1) ps)
parts_more text ps i lt =
    append_assoc text (parts_text (take i ps)) (get_or ps i no_part).text.now
    ∙ ap (λ (l : List ℕ). text ++ l) (texts_more ps i no_part (parts_text (take i ps)) _ lt refl refl)

-- a text, and the first parts behind it, and the others
parts_cut : (text : List ℕ) (ps : List TickPart) (i : ℕ)
    → (text ++ parts_text (take i ps)) ++ parts_text (drop i ps) ≡ text ++ parts_text ps
parts_cut text ps i =
    append_assoc text (parts_text (take i ps)) (parts_text (drop i ps))
    ∙ ap (λ (l : List ℕ). text ++ l) (sym (flat_map-append (λ (p : TickPart). p.text.now) (take i ps) (drop i ps))
    ∙ ap parts_text (take-append-drop i ps))

-- a text and the first parts were taken, but for what is left; and of this, with one part more, some is taken
module _ {O : Type 0} (taken : O → Option (List ℕ)) (a b : O) (n m : ℕ) (text : List ℕ) (ps : List TickPart) (i : ℕ) (left : List ℕ)
    (lt : i < length ps) (so_far : TakesBut taken a n (text ++ parts_text (take i ps)) b m left) where
  pub part_put : (c : O) (k : ℕ) (rest : List ℕ) → TakesBut taken b m (left ++ (get_or ps i no_part).text.now) c k rest
      → TakesBut taken a n (text ++ parts_text (take (i + 1) ps)) c k rest
  part_put c k rest h =
      subst (λ (l : List ℕ). TakesBut taken a n l c k rest) (parts_more text ps i lt)
      (but_more taken a b c n m k [] (text ++ parts_text (take i ps)) left (get_or ps i no_part).text.now rest so_far h)

  pub part_front : (c : O) (k : ℕ) (rest : List ℕ) (e : SinkFault)
      → TakesPart taken b m (left ++ (get_or ps i no_part).text.now) e c k rest → TakesPart taken a n (text ++ parts_text ps) e c k rest
  part_front c k rest e h =
      subst (λ (l : List ℕ). TakesPart taken a n l e c k rest) (parts_cut text ps (i + 1))
      (part_longer taken a c n k (text ++ parts_text (take (i + 1) ps)) (parts_text (drop (i + 1) ps)) rest e
      (h.0, h.1, h.2, part_put c k h.2 h.3))
