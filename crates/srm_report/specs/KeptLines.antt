-- Lines of rows, kept of members: those of one tick together.
use Rattle.std.specs.Prelude.{ℕ, suc, zero, List, [], ◌∷◌, ◌++◌, ◌≡◌, ◌≤◌, ◌-◌, take, drop, map, cond, ◌==◌}
use Rattle.std.specs.Global.{Vec}
use Rattle.std.specs.List.{flat_map, fold}
use Rattle.srm_member.specs.declared.row.Row.{Row}
use Rattle.srm_interfaces.specs.InTurn.{KeepInGroups}
use Rattle.srm_report.specs.Listings.{Form}
use Rattle.srm_report.specs.declared.listing.lines.LineEnd.{LineEnd}
use Rattle.srm_report.specs.declared.listing.tick_part.TickPart.{TickPart}

-- the parts of a text which end there, from this place on, each with its tick
unfoldable pub cut_from : ℕ → List ℕ → List LineEnd → List (ℕ × List ℕ)
cut_from start text [] = []
cut_from start text (e ∷ es) = (e.time, take (e.end - start) (drop start text)) ∷ cut_from e.end text es

-- the ends rise, from this place on, and the last is that of the text
unfoldable pub AreEnds : ℕ → ℕ → List LineEnd → Type 0
AreEnds start all [] = start ≡ all
AreEnds start all (e ∷ es) = (start ≤ e.end) × (e.end ≤ all) × AreEnds e.end all es

-- where part i starts, of those from this place on
abbrev pub start_at : ℕ → ℕ → List LineEnd → ℕ
start_at start zero es = start
start_at start (suc i) [] = start
start_at start (suc i) (e ∷ es) = start_at e.end i es

-- these lines, and a line of tick t behind them: with the last of them, where those are of the same tick
abbrev pub line_behind : List (ℕ × List ℕ) → ℕ → List ℕ → List (ℕ × List ℕ)
line_behind [] t line = (t, line) ∷ []
line_behind (own ∷ []) t line = cond (own.0 == t) ((t, own.1 ++ line) ∷ []) (own ∷ (t, line) ∷ [])
line_behind (own ∷ next ∷ more) t line = own ∷ line_behind (next ∷ more) t line

-- the lines of these rows, those of one tick together, with their ticks
abbrev pub lines_of : Form → List Row → List (ℕ × List ℕ)
lines_of f rows = fold (λ own (r : Row). line_behind own r.key.time (f.line r)) [] rows

-- what is seen of parts of lines: the tick and the text of each
abbrev pub parts_seen : List TickPart → List (ℕ × List ℕ)
parts_seen parts = map (λ (p : TickPart). (p.time, p.text.now)) parts

-- the text of parts, one after the other
abbrev pub parts_text : List TickPart → List ℕ
parts_text parts = flat_map (λ (p : TickPart). p.text.now) parts

-- the text of those of these lines that are of tick t
abbrev pub text_at : ℕ → List (ℕ × List ℕ) → List ℕ
text_at t own = flat_map (λ (x : ℕ × List ℕ). cond (x.0 == t) x.1 []) own

-- at each tick these members' lines have the text that those had, member after member
abbrev pub HaveSameTexts : List (List (ℕ × List ℕ)) → List (List (ℕ × List ℕ)) → Type 0
HaveSameTexts old new = (t : ℕ) → flat_map (text_at t) new ≡ flat_map (text_at t) old

-- these are the lines of all members, of these rows, which stand in order: those of each member's rows, put together
-- within a group
abbrev pub AreLinesOf : Form → List Row → List (Vec (List (ℕ × List ℕ))) → Type 0
AreLinesOf f rows groups = KeepInGroups (λ l own. l ≡ lines_of f own) HaveSameTexts groups rows
