-- In the sequential run requests and repairs are sent for names that some member lost.
use Rattle.std.proofs.Common.{◌≡◌, ℕ, zero, suc, ◌<◌, List, [], ◌∷◌, ◌++◌, refl, sym, ap, ◌∙◌, subst, ◌≢◌, ◌⊎◌, inl, inr, arith}
use Rattle.std.proofs.Common.{Option, Some, None, slice_get, true≢false, get_or, length}
use Rattle.std.specs.List.{Contains}
use Rattle.std.proofs.lemmas.List.Elements.{Contains-append_left, Contains-append_right}
use Rattle.std.proofs.lemmas.Option.{same_Some}
use Rattle.srm_net.specs.declared.packet.Name.{Name}
use Rattle.srm_net.specs.declared.packet.Body.{Body}
use Rattle.srm_net.specs.declared.packet.Body.TheVariants.{Drawop, Request, Repair, Session}
use Rattle.srm_net.specs.declared.packet.Local.{Local}
use Rattle.srm_net.specs.declared.packet.Packet.{Packet}
use Rattle.srm_member.specs.declared.cause.Cause.{Cause}
use Rattle.srm_member.specs.declared.cause.Cause.TheVariants.{Join, Arrival, Ask, Answer, Draw, Report}
use Rattle.srm_member.specs.declared.exit.Exit.{Exit}
use Rattle.srm_member.specs.declared.row.Row.{Row}
use Rattle.srm_member.specs.declared.row.Word.{Word}
use Rattle.srm_member.specs.declared.row.Word.TheVariants as word
use Rattle.srm_member.specs.declared.told.Told.TheVariants.{Parted, Sent}
use Rattle.srm_member.specs.Orderly.{LostIn}
use Rattle.srm_member.specs.Record.{MemberState}
use Rattle.srm_member.specs.React.{react}
use Rattle.srm_member.proofs.TableChanges.{Has}
use Rattle.srm_cell.specs.Setting.{Setting, IsFit}
use Rattle.srm_cell.specs.Cells.{PlainCell, Event, Stepped, word_of, word_of_body, about_of}
use Rattle.srm_model.specs.World.{World, cells_after, opening, opening_cells, run, IsReached}
use Rattle.srm_model.specs.Handed.{SentIn}
use Rattle.srm_model.specs.SentForLost.{IsForLost, SendingsAreForLosses}
use Rattle.srm_model.proofs.Departed.{told_holds}
use Rattle.srm_model.proofs.HandedOnce as handing
use Rattle.srm_model.proofs.NamesKept.{CellKnows, Names, names_step, names_reached}
use Rattle.srm_model.proofs.OneStep.{Takes, Answers, Steps, StepFacts, each_after, run_keeps}
use Rattle.srm_model.proofs.NamesKept.{sent_body, sends_none}
use Rattle.srm_model.proofs.RepairTimers.{answers_for, asks_for, repairs_for, timers_caused}
use Rattle.srm_model.proofs.Settled.{EachCell}
use Rattle.srm_model.proofs.TraceRows.{contains_none, contains_cases, contained_split, sent_cases}

-- some member lost the name
abbrev Lost : Name → List Row → Type 0
Lost n rows = (m : ℕ) × LostIn m n rows

-- each repair timer of the record is for a name that some member lost
abbrev Plans : List Row → Option MemberState → Type 0
Plans rows (Some m) = (n : Name) → Has n m.repairs → Lost n rows
Plans rows None = Unit {0}

-- ---- rows of timers

neither : {A : Type 0} (v w : Word) → w ≡ v → (w ≡ word.Ask) ⊎ (w ≡ word.Answer) → v ≢ word.Ask → v ≢ word.Answer → A
neither v w e (inl h) a b = absurd (a (sym e ∙ h))
neither v w e (inr h) a b = absurd (b (sym e ∙ h))

no_arrival : {A : Type 0} (b : Body) (w : Word) → w ≡ word_of_body b → (w ≡ word.Ask) ⊎ (w ≡ word.Answer) → A
no_arrival (Drawop n ink) w e h = neither word.Data w e h (λ x. cc) (λ x. cc)
no_arrival (Request n scope) w e h = neither word.Request w e h (λ x. cc) (λ x. cc)
no_arrival (Repair n ink local) w e h = neither word.Repair w e h (λ x. cc) (λ x. cc)
no_arrival (Session hs) w e h = neither word.Session w e h (λ x. cc) (λ x. cc)

timer_of : (c : Cause) (w : Word) → w ≡ word_of (Some c) → (w ≡ word.Ask) ⊎ (w ≡ word.Answer)
    → ((n : Name) × (c ≡ Ask n)) ⊎ ((n : Name) × (c ≡ Answer n))
timer_of (Ask n) w e h = inl (n, refl)
timer_of (Answer n) w e h = inr (n, refl)
timer_of (Arrival p) w e h = no_arrival p.body w e h
timer_of Join w e h = neither word.Join w e h (λ x. cc) (λ x. cc)
timer_of (Draw page ink) w e h = neither word.Draw w e h (λ x. cc) (λ x. cc)
timer_of Report w e h = neither word.Report w e h (λ x. cc) (λ x. cc)

module _ (s : Setting) (fit : IsFit s) where
  record Kept (cs : List PlainCell) (trace : List Row) : Type 0 where
    names : Names s fit cs trace
    plans : EachCell (λ j c. Plans trace c.holds) cs
    rows : (r : Row) → Contains trace r → IsForLost trace r
    repairs : (p : Packet) (n : Name) (ink : ℕ) (local : Option Local) → SentIn p trace → p.body ≡ Repair n ink local → Lost n trace

  -- ---- after a step

  module _ (cs : List PlainCell) (trace : List Row) (e : Event) (d : Stepped) (was : Kept cs trace) (steps : Steps s.traffic.until cs e d)
    where
      abbrev m : ℕ
      m = e.key.member

      abbrev after : List Row
      after = trace ++ d.row ∷ []

      abbrev facts : StepFacts cs e d
      facts = handing.facts s cs trace e d was.names.handed steps

      still : (n : Name) → Lost n trace → Lost n after
      still n (j, (r, there, member, lost)) = (j, (r, Contains-append_left trace (d.row ∷ []) r there, member, lost))

      row_still : (r : Row) → IsForLost trace r → IsForLost after r
      row_still r h cause told =
          let f = h cause told in let all = still f.0 (f.2, f.3) in (f.0, f.1, all.0, all.1)

      plans_still : (holds : Option MemberState) → Plans trace holds → Plans after holds
      plans_still (Some k) h = λ n has. still n (h n has)
      plans_still None h = tt

      -- ---- the stepping member

      arrived : (p : Packet) → e.cause ≡ Some (Arrival p) → SentIn p trace
      arrived p arrives = by facts.pending.takes
        where
          same_packet : (x y : Packet) → Some (Arrival x) ≡ Some (Arrival y) → x ≡ y
          same_packet x y h = cc

          by : Takes facts.cell e → SentIn p trace
          by (inl t) = subst (λ x. SentIn x trace) (same_packet _ _ (sym t.cause ∙ arrives))
              (handing.taken s cs trace e d was.names.handed steps t).0
          by (inr t) = absurd (t.1 p arrives)

      requested : (p : Packet) (n : Name) (scope : Option ℕ) → SentIn p trace → p.body ≡ Request n scope → Lost n trace
      requested p n scope (r, there, sent) body =
          let parts = contained_split trace r there in
          let lost : LostIn p.id.sender n parts.0 = (was.names.asks parts.0 parts.1 r p n scope parts.2 sent body).0 in (
            p.id.sender,
            (
              lost.0,
              subst (λ l. Contains l lost.0) (sym parts.2) (Contains-append_left parts.0 (r ∷ parts.1) lost.0 lost.1),
              lost.2,
              lost.3,
            ),
          )

      state_plans : (k : MemberState) → e.rest.holds ≡ Some k → (n : Name) → Has n k.repairs → Lost n trace
      state_plans k h = subst (Plans trace) (sym facts.pending.holds ∙ h) (was.plans m facts.cell facts.here)

      state_lacks : (k : MemberState) → e.rest.holds ≡ Some k → (n : Name) → Has n k.missing → LostIn m n trace
      state_lacks k h n has = by facts.cell.exit (subst (λ r. CellKnows trace m r facts.cell.exit) (sym facts.pending.holds ∙ h)
          (was.names.knows m facts.cell facts.here))
        where
          by : (exit : Option Exit) → CellKnows trace m (Some k) exit → LostIn m n trace
          by None knows = (knows.keeps.lacks n has).0
          by (Some x) knows = absurd knows

      answer_plans : (a : Answers e d) → Plans after (Some (react a.state e.key.time a.cause).state)
      answer_plans a n has = still n (elim (timers_caused a.state e.key.time a.cause n has) [
        | inl g ↦ state_plans a.state a.holds n g
        | inr g ↦ elim g.2 [
          | inl x ↦ requested g.0 n x.0 (arrived g.0 (a.is ∙ ap Some g.1)) x.1
          | inr x ↦ was.repairs g.0 n x.0 x.1 (arrived g.0 (a.is ∙ ap Some g.1)) x.2
        ]
      ])

      now_plans : Plans after d.cell.holds
      now_plans = elim facts.does.how [
        | inl a ↦ subst (Plans after) (sym a.holds_then) (answer_plans a)
        | inr l ↦ subst (Plans after) (sym l.holds_then) tt
      ]

      answer_row : (a : Answers e d) → IsForLost after d.row
      answer_row a cause told = elim (timer_of a.cause d.row.cause (facts.does.cause ∙ ap word_of a.is) cause) [
        | inl h ↦
            let n = h.0 in
            let sent = ap (λ c. (react a.state e.key.time c).answer.told) (sym h.1) ∙ sym a.told ∙ told in
            let all = still n (m, state_lacks a.state a.holds n (asks_for a.state e.key.time n sent)) in
            (n, a.about ∙ ap (λ c. about_of (Some c) (react a.state e.key.time a.cause).answer.body) h.1, all.0, all.1)
        | inr h ↦
            let n = h.0 in
            let sent = ap (λ c. (react a.state e.key.time c).answer.told) (sym h.1) ∙ sym a.told ∙ told in
            let all = still n (state_plans a.state a.holds n (answers_for a.state e.key.time n sent)) in
            (n, a.about ∙ ap (λ c. about_of (Some c) (react a.state e.key.time a.cause).answer.body) h.1, all.0, all.1)
      ]

      now_row : IsForLost after d.row
      now_row = elim facts.does.how [
        | inl a ↦ answer_row a
        | inr l ↦ λ cause told. (let x : Parted ≡ Sent = sym l.told ∙ told in cc)
      ]

      -- ---- repairs that are sent

      sends_planned : (a : Answers e d) (p : Packet) (n : Name) (ink : ℕ) (local : Option Local) → d.row.sent ≡ Some p
          → p.body ≡ Repair n ink local → Lost n trace
      sends_planned a p n ink local sent body =
          let one = (sent_body e (react a.state e.key.time a.cause).answer.body d p a.sends sent).0 ∙ ap Some body in
          state_plans a.state a.holds n (repairs_for a.state e.key.time a.cause n ink local one)

      now_repair : (p : Packet) (n : Name) (ink : ℕ) (local : Option Local) → d.row.sent ≡ Some p → p.body ≡ Repair n ink local
          → Lost n trace
      now_repair p n ink local sent body = elim facts.does.how [
        | inl a ↦ sends_planned a p n ink local sent body
        | inr l ↦ absurd (sends_none e d None refl l.sends p sent)
      ]

      kept_step : Kept (cells_after s m d 0 cs) after
      kept_step = record {
        names = names_step s fit cs trace e d was.names steps;
        plans = each_after s (λ j c. Plans after c.holds) cs m d now_plans
            (λ j c g ne. subst (Plans after) (sym (told_holds s fit d.row.sent j c)) (plans_still c.holds (was.plans j c g)));
        rows = λ r c. elim (contains_cases trace d.row r c)
            [ inl g ↦ row_still r (was.rows r g) | inr g ↦ subst (IsForLost after) g now_row ];
        repairs = λ p n ink local h body. still n (elim (sent_cases p trace d.row h)
            [ inl g ↦ was.repairs p n ink local g body | inr g ↦ now_repair p n ink local g body ]);
      }

  -- ---- the sequential run

  opening_plans : (n i j : ℕ) (c : PlainCell) → slice_get (opening_cells s n i) j ≡ Some c → Plans [] c.holds
  unfolding opening_cells
  opening_plans zero i j c h = cc
  opening_plans (suc n) i zero c h =
      subst (λ (x : PlainCell). Plans [] x.holds) (same_Some _ _ h) (λ k has. absurd (true≢false (sym has)))
  opening_plans (suc n) i (suc j) c h = opening_plans n (suc i) j c h

  pub reached_first : IsReached s (opening s)
  unfolding run
  reached_first = (0, refl)

  kept_opening : Kept (opening s).cells []
  unfolding opening
  kept_opening = record {
    names = names_reached s fit (opening s) reached_first;
    plans = λ j c h. opening_plans s.traffic.members 0 j c h;
    rows = λ r c. absurd (contains_none r c);
    repairs = λ p n ink local h body. absurd (contains_none h.0 h.1);
  }

  kept_reached : (w : World) → IsReached s w → Kept w.cells w.trace
  unfolding opening
  kept_reached w h =
      run_keeps s (λ v. Kept v.cells v.trace) (λ v e d steps g. kept_step v.cells v.trace e d g steps) h.0 (opening s) w kept_opening h.1

pub in_place : {A : Type 0} (xs : List A) (i : ℕ) (d : A) → i < length xs → Contains xs (get_or xs i d)
in_place [] i d lt = absurd (omega arith)
in_place (x ∷ xs) zero d lt = (0, omega arith, refl)
in_place (x ∷ xs) (suc i) d lt = Contains-append_right (x ∷ []) xs (get_or xs i d) (in_place xs i d (omega arith))

pub sendings_are_for_losses : SendingsAreForLosses
sendings_are_for_losses s w fit reached i r lt =
    (kept_reached s fit w reached).rows (get_or w.trace i r) (in_place w.trace i r lt)
