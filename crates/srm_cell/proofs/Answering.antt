-- The row of what a cell's member answers.
use Rattle.std.proofs.Common.{◌≡◌, ℕ, [], List, Option, None, Some, Result, Ok, Err, refl, sym, ap, ◌∙◌, subst, inl, inr}
use Rattle.srm_net.specs.declared.key.Key.{Key}
use Rattle.srm_net.specs.declared.packet.Packet.{Packet}
use Rattle.srm_member.specs.declared.cause.Cause.{Cause}
use Rattle.srm_member.specs.declared.react.React.{React}
use Rattle.srm_member.specs.declared.row.Row.{Row}
use Rattle.srm_member.specs.Record.{Record}
use Rattle.srm_cell.specs.declared.cell.Cell.{Cell}
use Rattle.srm_cell.specs.declared.fault.CellFault.{CellFault}
use Rattle.srm_cell.specs.Cells.{Done, word_of, about_of}
use Rattle.srm_cell.specs.InnerSteps.{Answered, AnswersEvent, Completes, Packs, made_of}
use Rattle.srm_cell.specs.PutRows.{PutsRow}
use Rattle.srm_cell.specs.Views.{Refuses, plain_cell, exit_in}
use Rattle.srm_cell.proofs.Saying.{has_box, working, said, not_said}

-- a row that tells no more than what came of the event, and the rest of the answer
module _ {M : Type 0} (f : M → Record) (key : Key) (cause : Cause) (a : React) (old mid : Cell M)
    (h : Answered f key cause a old mid) (row : Row) (q : row ≡ record {
      key = key;
      cause = word_of (Some cause);
      about = about_of (Some cause) a.body;
      told = a.told;
      lost = [];
      sent = None;
      adapted = None;
    }) where
  packs : (p : Result (Option Packet) CellFault) (n : ℕ) → Packs row.key a.body mid.sent p n → Packs key a.body old.sent p n
  packs p n is = subst (λ (k : Key). Packs k a.body old.sent p n) (ap (λ (r : Row). r.key) q)
      (subst (λ (s : ℕ). Packs row.key a.body s p n) (ap (λ (c : Cell M). c.sent) h.is) is)

  completed : (new : Cell M) (r : Row) → Completes row a mid (Ok r) new → AnswersEvent f key (Some cause) old (Ok r) new
  completed new r is =
      let cell : new ≡ record old { member = Some h.after; sent = new.sent } =
      is.3 ∙ ap (λ (c : Cell M). record c { sent = new.sent }) h.is in (
        said f old.member h.before h.was key cause (plain_cell f old) (f h.after) a a.body is.0 new.sent h.reacts refl
            (packs (Ok is.0) new.sent is.1)
            ∙ (λ i. Done (record {
              cell = plain_cell f (sym cell i);
              row = (ap (λ (r : Row). record r { lost = a.lost; sent = is.0; adapted = a.adapted }) (sym q) ∙ sym is.2) i;
            })),
        record {
          number = ap (λ (c : Cell M). c.number) cell;
          left = λ none x l. absurd (has_box f old.member h.before h.was
              (none x (ap (λ (c : Cell M). exit_in c.exit) (sym cell) ∙ l)));
        },
      )

  not_completed : (new : Cell M) (e : CellFault) → Completes row a mid (Err e) new → AnswersEvent f key (Some cause) old (Err e) new
  not_completed new e (inl is) = subst (Refuses (made_of f key (Some cause) old)) (sym is)
      (working f old.member h.before h.was key cause (plain_cell f old) (f h.after) a h.reacts)
  not_completed new e (inr is) = not_said f old.member h.before h.was key cause (plain_cell f old) (f h.after) a a.body e new.sent
      h.reacts refl (packs (Err e) new.sent is)

  pub answered_row : (new : Cell M) (before after : List Row) (r : Result (Unit {0}) CellFault)
      → PutsRow (λ r. Completes row a mid r new) before r after → PutsRow (λ r. AnswersEvent f key (Some cause) old r new) before r after
  answered_row new before after (Ok u) is = (is.0, completed new is.0 is.1, is.2)
  answered_row new before after (Err e) is = not_completed new e is
