-- The rows of a run of an accepted scenario are orderly.
use Rattle.std.proofs.Common.{◌≡◌, ℕ, zero, suc, ◌<◌, ◌+◌, List, [], ◌∷◌, ◌++◌, length, refl, sym, ap, ◌∙◌, subst, inl, inr, arith, Option}
use Rattle.std.proofs.Common.{Some, None, slice_get, append_assoc, zero-add}
use Rattle.std.specs.List.{Contains}
use Rattle.std.proofs.lemmas.List.Elements.{Contains-append_left, Contains-append_right}
use Rattle.std.proofs.lemmas.Option.{same_Some}
use Rattle.srm_net.specs.declared.packet.Name.{Name}
use Rattle.srm_net.specs.declared.packet.Body.{Body}
use Rattle.srm_net.specs.declared.packet.Body.TheVariants.{Drawop, Request, Repair, Session}
use Rattle.srm_net.specs.declared.packet.Packet.{Packet}
use Rattle.srm_net.specs.Orders.{Ascends}
use Rattle.srm_net.proofs.Lists.{get_below}
use Rattle.srm_scenario.specs.declared.mark.Mark.{Mark}
use Rattle.srm_scenario.specs.Plain.{PlainScenario, script_of}
use Rattle.srm_scenario.specs.Accepted.{IsAccepted}
use Rattle.srm_scenario.specs.Scripts.{IsMark}
use Rattle.srm_scenario.proofs.ScriptLemmas.{scripts_fit}
use Rattle.srm_member.specs.declared.cause.Cause.{Cause}
use Rattle.srm_member.specs.declared.cause.Cause.TheVariants.{Join, Arrival, Ask, Answer, Draw, Report}
use Rattle.srm_member.specs.declared.told.Told.TheVariants.{Fixed}
use Rattle.srm_member.specs.declared.exit.Exit.{Exit}
use Rattle.srm_member.specs.declared.row.About.{About}
use Rattle.srm_member.specs.declared.row.About.TheVariants.{Nothing, Of, Named}
use Rattle.srm_member.specs.declared.row.Row.{Row}
use Rattle.srm_member.specs.Record.{MemberState}
use Rattle.srm_member.specs.React.{Reaction, react}
use Rattle.srm_member.specs.Orderly.{carried, brought, LostIn, FixedIn, IsAmong, AreLostOnce, AreFixedAfterLoss, IsOrderly}
use Rattle.srm_member.proofs.AllIn.{AllIn, AllIn-weaker, AllIn-places, AllIn-at_places}
use Rattle.srm_member.proofs.Changes.{Below, Effect, effect}
use Rattle.srm_cell.specs.Setting.{Traffic, Setting, IsFit, arrival_of, setting_of, member_at}
use Rattle.srm_cell.specs.Cells.{PlainCell, opening_cell, hear_at, hear, Event, next_event, before, Stepped}
use Rattle.srm_cell.specs.OwnRuns.{told_to}
use Rattle.srm_cell.proofs.FitSettings.{settings_are_fit, present}
use Rattle.srm_cell.proofs.Rising.{OnEvent, before_on}
use Rattle.srm_model.specs.World.{World, cells_after, opening, opening_cells, run, row_cmp, IsReached}
use Rattle.srm_model.specs.Handed.{SentIn}
use Rattle.srm_model.specs.HeldNames.{Drew, Carries, ToldOf, Lacks}
use Rattle.srm_model.specs.Tables.{TracesAreOrderly}
use Rattle.srm_model.proofs.HandedOnce as handing
use Rattle.srm_model.proofs.HandedOnce.{all_contained}
use Rattle.srm_model.proofs.LostNames.{Apart, none_before, OfMembers, PagesOf, BodyOf, CauseOf, SessionOf, Known, known}
use Rattle.srm_model.proofs.MarkRows.{ascends_first, IsOwnMark, MarksOf, next_marks, script_after, RowMarks, row_marks, joins_once}
use Rattle.srm_model.proofs.MarkRows.{leaves_once}
use Rattle.srm_model.proofs.NamesKept.{CellKnows, Knows, Names, names_step, names_reached}
use Rattle.srm_model.proofs.OneStep.{Takes, Sends, Answers, Leaves, Steps, StepFacts, each_after, run_keeps}
use Rattle.srm_model.proofs.RunLemmas.{least_from}
use Rattle.srm_model.proofs.StrictRuns.{keys_rise}
use Rattle.srm_model.proofs.TraceRows.{contains_none, contains_cases, contained_split, sent_more, sent_cases, sent_now}
use Rattle.srm_model.proofs.TraceRows.{no_split, split_cases}
use Rattle.srm_model.proofs.Settled.{EachCell}

-- ---- what a row brings

carries_carried : (b : Body) (n : Name) → carried b ≡ Some n → Carries n b
carries_carried (Drawop k ink) n h = same_Some k n h
carries_carried (Repair k ink local) n h = same_Some k n h
carries_carried (Request k scope) n h = let x : None ≡ Some n = h in cc
carries_carried (Session hs) n h = let x : None ≡ Some n = h in cc

brought_of : (a : About) (n : Name) → brought a ≡ Some n → (p : Packet) × (a ≡ Of p) × Carries n p.body
brought_of (Of p) n h = (p, refl, carries_carried p.body n h)
brought_of Nothing n h = let x : None ≡ Some n = h in cc
brought_of (Named k) n h = let x : None ≡ Some n = h in cc

contained_all : {A : Type 0} (Q : A → Type 0) (xs : List A) → ((x : A) → Contains xs x → Q x) → AllIn Q xs
contained_all Q [] h = tt
contained_all Q (x ∷ xs) h = (h x (0, omega arith, refl), contained_all Q xs (λ y c. h y (Contains-append_right (x ∷ []) xs y c)))

module _ (s : Setting) (fit : IsFit s) (own : (j : ℕ) → j < s.traffic.members → AllIn (IsOwnMark s.traffic j) (s.script j)) where
  abbrev members : ℕ
  members = s.traffic.members

  abbrev RecordOf : Option MemberState → Type 0
  RecordOf (Some m) = PagesOf members m.progress
  RecordOf None = Unit {0}

  -- of a world: the marks that are left, the pages of which members heard, the rows and the packets sent
  record Runs (cs : List PlainCell) (trace : List Row) : Type 0 where
    names : Names s fit cs trace
    marks : EachCell (λ j c. AllIn (IsOwnMark s.traffic j) c.script) cs
    pages : EachCell (λ j c. RecordOf c.holds) cs
    among : (r : Row) → Contains trace r → IsAmong members r
    keyed : (r : Row) → Contains trace r → RowMarks s.traffic r
    bodies : (p : Packet) → SentIn p trace → BodyOf members p.body
    lost_once : AreLostOnce trace
    fixed_after : AreFixedAfterLoss trace

  -- ---- after a step

  module _ (cs : List PlainCell) (trace : List Row) (e : Event) (d : Stepped) (was : Runs cs trace)
      (steps : Steps s.traffic.until cs e d) where
    abbrev m : ℕ
    m = e.key.member

    abbrev rows : List Row
    rows = trace ++ d.row ∷ []

    abbrev facts : StepFacts cs e d
    facts = handing.facts s cs trace e d was.names.handed steps

    row_member : d.row.key.member ≡ m
    row_member = handing.member s cs trace e d was.names.handed steps

    below : m < members
    below = let lt = get_below cs m facts.cell facts.here in let as_many = was.names.handed.members in omega arith

    now_names : Names s fit (cells_after s m d 0 cs) rows
    now_names = names_step s fit cs trace e d was.names steps

    -- ---- cells

    -- what is handed to a cell leaves its record and its script
    abbrev Same : PlainCell → PlainCell → Type 0
    Same b c = (b.holds ≡ c.holds) × (b.script ≡ c.script)

    hear_at_same : (p : Packet) (o : Option ℕ) (c : PlainCell) → Same (hear_at p o c) c
    hear_at_same p None c = (refl, refl)
    hear_at_same p (Some at) c = (refl, refl)

    told_same : (y : Option Packet) (j : ℕ) (c : PlainCell) → Same (told_to s.traffic y j c) c
    unfolding hear
    told_same None j c = (refl, refl)
    told_same (Some p) j c = hear_at_same p (arrival_of s.traffic p j) c

    event_marks : MarksOf (IsOwnMark s.traffic m) m e
    event_marks =
        let r = least_from s.traffic.until 0 cs e steps.least in
        let at_j : before s.traffic.until (next_event r.0 r.1) ≡ Some e = rw zero-add at r.3 in
        let Q = IsOwnMark s.traffic r.0 in
        let P = MarksOf Q r.0 in
        let next : OnEvent P (next_event r.0 r.1) = next_marks Q r.0 r.1 (was.marks r.0 r.1 r.2) in
        let event : P e = subst (OnEvent P) at_j (before_on P s.traffic.until (next_event r.0 r.1) next) in
        subst (λ j. MarksOf (IsOwnMark s.traffic j) j e) (sym event.member) event

    now_marks : AllIn (IsOwnMark s.traffic m) d.cell.script
    now_marks = subst (AllIn (IsOwnMark s.traffic m)) (sym (script_after e d steps.stepped)) event_marks.rest

    marks_after : EachCell (λ j c. AllIn (IsOwnMark s.traffic j) c.script) (cells_after s m d 0 cs)
    marks_after = each_after s (λ j c. AllIn (IsOwnMark s.traffic j) c.script) cs m d now_marks
        (λ j c g ne. subst (AllIn (IsOwnMark s.traffic j)) (sym (told_same d.row.sent j c).1) (was.marks j c g))

    -- ---- the stepping member

    -- what the step makes of the rest
    record Now : Type 0 where
      pages : RecordOf d.cell.holds
      lost : OfMembers members d.row.lost
      apart : Apart d.row.lost
      new : (n : Name) → Contains d.row.lost n → ¬ LostIn m n trace
      fixed : d.row.told ≡ Fixed → (n : Name) × (brought d.row.about ≡ Some n) × Lacks m n trace
      session : (p : Packet) → d.row.sent ≡ Some p → SessionOf members (Some p.body)

    leave_now : Leaves e d → Now
    leave_now l = grind arith

    module _ (a : Answers e d) where
      abbrev state : MemberState
      state = a.state

      abbrev r : Reaction
      r = react a.state e.key.time a.cause

      holds : facts.cell.holds ≡ Some state
      holds = sym facts.pending.holds ∙ a.holds

      active_knew : (exit : Option Exit) → CellKnows trace m (Some state) exit → Knows trace m state
      active_knew None h = h
      active_knew (Some x) h = absurd h

      k : Knows trace m state
      k = active_knew facts.cell.exit (subst (λ x. CellKnows trace m x facts.cell.exit) holds (was.names.knows m facts.cell facts.here))

      -- what it hears was sent
      cause_by : (cause : Cause) → e.cause ≡ Some cause → Takes facts.cell e → CauseOf members cause
      cause_by cause is (inl t) =
          let same : Arrival t.flight.packet ≡ cause = same_Some _ _ (sym t.cause ∙ is) in
          subst (CauseOf members) same (was.bodies t.flight.packet (handing.taken s cs trace e d was.names.handed steps t).0)
      cause_by (Arrival p) is (inr t) = absurd (t.1 p is)
      cause_by Join is (inr t) = tt
      cause_by (Ask n) is (inr t) = tt
      cause_by (Answer n) is (inr t) = tt
      cause_by (Draw page ink) is (inr t) = tt
      cause_by Report is (inr t) = tt

      knows : Known members r
      knows =
          let member : state.fixed.member < members = subst (λ j. j < members) (sym k.member) below in
          let heard : CauseOf members a.cause = cause_by a.cause a.is facts.pending.takes in
          known members state e.key.time a.cause member heard (subst RecordOf holds (was.pages m facts.cell facts.here))

      new_by : (cause : Cause) → Effect state cause r → (n : Name) → Contains r.answer.lost n → ¬ Below n state
      new_by cause (inl q) n c = q.grows.new n c
      new_by (Arrival p) (inr (inl b)) n c = b.grows.new n c
      new_by (Draw page ink) (inr (inr b)) n c = absurd (contains_none n (subst (λ ns. Contains ns n) b.lost c))
      new_by Join (inr h) n c = absurd (elim h [ inl x ↦ x | inr x ↦ x ])
      new_by (Arrival p) (inr (inr h)) n c = absurd h
      new_by (Ask k) (inr h) n c = absurd (elim h [ inl x ↦ x | inr x ↦ x ])
      new_by (Answer k) (inr h) n c = absurd (elim h [ inl x ↦ x | inr x ↦ x ])
      new_by (Draw page ink) (inr (inl h)) n c = absurd h
      new_by Report (inr h) n c = absurd (elim h [ inl x ↦ x | inr x ↦ x ])

      abbrev Fixes : Type 0
      Fixes = (n : Name) × (brought d.row.about ≡ Some n) × Lacks m n trace

      fixed_by : (cause : Cause) → a.cause ≡ cause → Effect state cause r → r.answer.told ≡ Fixed → Fixes
      fixed_by cause is h2 t = grind (arith, k)

      session_by : (body : Option Body) → Sends e body d → SessionOf members body → (p : Packet) → d.row.sent ≡ Some p
          → SessionOf members (Some p.body)
      session_by body h g p q = grind arith

      answer_now : Now
      answer_now = record {
        pages = subst RecordOf (sym a.holds_then) knows.pages;
        lost = subst (OfMembers members) (sym a.lost) knows.lost;
        apart = subst Apart (sym a.lost) knows.apart;
        new = λ n c h. new_by a.cause (effect state e.key.time a.cause) n (subst (λ ns. Contains ns n) a.lost c) (k.lost n h);
        fixed = λ t. fixed_by a.cause refl (effect state e.key.time a.cause) (sym a.told ∙ t);
        session = session_by r.answer.body a.sends knows.session;
      }

    now : Now
    now = elim facts.does.how [ inl a ↦ answer_now a | inr l ↦ leave_now l ]

    pages_after : EachCell (λ j c. RecordOf c.holds) (cells_after s m d 0 cs)
    pages_after = each_after s (λ j c. RecordOf c.holds) cs m d now.pages
        (λ j c g ne. subst RecordOf (sym (told_same d.row.sent j c).0) (was.pages j c g))

    -- ---- rows

    among_now : IsAmong members d.row
    among_now = record {
      member = subst (λ j. j < members) (sym row_member) below;
      sources = λ n c. all_contained (λ (x : Name). x.source < members) d.row.lost now.lost n c;
    }

    among_after : (r : Row) → Contains rows r → IsAmong members r
    among_after r c = elim (contains_cases trace d.row r c) [ inl g ↦ was.among r g | inr g ↦ subst (IsAmong members) g among_now ]

    keyed_after : (r : Row) → Contains rows r → RowMarks s.traffic r
    keyed_after r c = elim (contains_cases trace d.row r c) [
      | inl g ↦ was.keyed r g
      | inr g ↦ subst (RowMarks s.traffic) g (row_marks s.traffic m e d facts.does event_marks)
    ]

    drew_below : (n : Name) (ink : ℕ) → Drew n.source n ink rows → n.source < members
    drew_below n ink h = subst (λ j. j < members) h.2.member (among_after h.0 h.1).member

    body_now : (p : Packet) → d.row.sent ≡ Some p → (b : Body) → p.body ≡ b → BodyOf members b
    body_now p q (Drawop n ink) is = drew_below n ink (now_names.inks p n ink (sent_now p trace d.row q) (inl is))
    body_now p q (Repair n ink local) is = drew_below n ink (now_names.inks p n ink (sent_now p trace d.row q) (inr (local, is)))
    body_now p q (Request n scope) is =
        let lost = (now_names.asks trace [] d.row p n scope refl q is).0 in
        (was.among lost.0 lost.1).sources n lost.3
    body_now p q (Session hs) is = subst (λ b. SessionOf members (Some b)) is (now.session p q)

    bodies_after : (p : Packet) → SentIn p rows → BodyOf members p.body
    bodies_after p h = elim (sent_cases p trace d.row h) [ inl g ↦ was.bodies p g | inr g ↦ body_now p g p.body refl ]

    abbrev LosesNew : List Row → Row → Type 0
    LosesNew before x =
        (front back : List Name) (n : Name) → x.lost ≡ front ++ n ∷ back → (¬ LostIn x.key.member n before) × (¬ Contains front n)

    loses_new : LosesNew trace d.row
    loses_new front back n is =
        let here : Contains (front ++ n ∷ back) n = Contains-append_right front (n ∷ back) n (0, omega arith, refl) in (
          (λ h. now.new n (subst (λ ns. Contains ns n) (sym is) here) (h.0, h.1, h.2 ∙ row_member, h.3)),
          none_before front back n (subst Apart is now.apart),
        )

    lost_once_after : AreLostOnce rows
    lost_once_after first last x front back n split is = grind (arith, split_cases, loses_new)

    -- what a row tells as fixed was handed, and so was sent
    told_fixed : (n : Name) → FixedIn m n trace → ToldOf Fixed m n trace
    told_fixed n h =
        let b = brought_of h.0.about n h.4 in
        let at = contained_split trace h.0 h.1 in
        let sent = (was.names.handed.before at.0 at.1 h.0 b.0 at.2 b.1).0 in (
          h.0,
          h.1,
          record {
            member = h.2;
            told_so = h.3;
            packet = b.0;
            about = b.1;
            sent = subst (SentIn b.0) (sym at.2) (sent_more b.0 at.0 (h.0 ∷ at.1) sent);
            carries = b.2;
          },
        )

    abbrev FixesLost : List Row → Row → Type 0
    FixesLost before x =
        x.told ≡ Fixed
        → (n : Name) × (brought x.about ≡ Some n) × LostIn x.key.member n before × ¬ FixedIn x.key.member n before

    fixes_lost : FixesLost trace d.row
    fixes_lost told =
        let f = now.fixed told in
        let lost : LostIn m f.0 trace = f.2.0 in
        let again : ¬ FixedIn m f.0 trace = λ h. f.2.1 (told_fixed f.0 h) in
        (f.0, f.1, subst (λ j. LostIn j f.0 trace) (sym row_member) lost, subst (λ j. ¬ FixedIn j f.0 trace) (sym row_member) again)

    fixed_after_after : AreFixedAfterLoss rows
    fixed_after_after first last x split = elim (split_cases trace d.row first x last split) [
      | inl g ↦ subst (λ l. FixesLost l x) (sym g.1) (subst (FixesLost trace) g.0 fixes_lost)
      | inr g ↦ was.fixed_after first g.0 x g.1
    ]

    runs_step : Runs (cells_after s m d 0 cs) rows
    runs_step = record {
      names = now_names;
      marks = marks_after;
      pages = pages_after;
      among = among_after;
      keyed = keyed_after;
      bodies = bodies_after;
      lost_once = lost_once_after;
      fixed_after = fixed_after_after;
    }

  -- ---- the sequential run

  opening_each : (Q : ℕ → PlainCell → Type 0) → ((j : ℕ) → j < members → Q j (opening_cell s j)) → (n i : ℕ) → i + n ≡ members
      → (j : ℕ) (c : PlainCell) → slice_get (opening_cells s n i) j ≡ Some c → Q (i + j) c
  unfolding opening_cells
  opening_each Q all zero i e j c h = cc
  opening_each Q all (suc n) i e zero c h =
      let here : i + 0 ≡ i = omega arith in
      subst (Q (i + 0)) (same_Some _ _ h) (subst (λ x. Q x (opening_cell s i)) (sym here) (all i (omega arith)))
  opening_each Q all (suc n) i e (suc j) c h =
      let there : suc i + j ≡ i + suc j = omega arith in
      subst (λ x. Q x c) there (opening_each Q all n (suc i) (omega arith) j c h)

  opening_all : (Q : ℕ → PlainCell → Type 0) → ((j : ℕ) → j < members → Q j (opening_cell s j))
      → EachCell Q (opening_cells s members 0)
  opening_all Q all j c h = let same : 0 + j ≡ j = omega arith in subst (λ x. Q x c) same (opening_each Q all members 0 (omega arith) j c h)

  reached_first : IsReached s (opening s)
  unfolding run
  reached_first = (0, refl)

  runs_opening : Runs (opening s).cells []
  unfolding opening
  runs_opening = record {
    names = names_reached s fit (opening s) reached_first;
    marks = opening_all (λ j c. AllIn (IsOwnMark s.traffic j) c.script) own;
    pages = opening_all (λ j c. RecordOf c.holds) (λ j lt. tt);
    among = λ r c. absurd (contains_none r c);
    keyed = λ r c. absurd (contains_none r c);
    bodies = λ p h. absurd (contains_none h.0 h.1);
    lost_once = λ before after r front back n h is. absurd (no_split before after r h);
    fixed_after = λ before after r h told. absurd (no_split before after r h);
  }

  runs_reached : (w : World) → IsReached s w → Runs w.cells w.trace
  unfolding opening
  runs_reached w h =
      run_keeps s (λ v. Runs v.cells v.trace) (λ v e d steps g. runs_step v.cells v.trace e d g steps) h.0 (opening s) w runs_opening h.1

  -- ---- the first rows of a run

  module _ (w : World) (reached : IsReached s w) (first last : List Row) (parts : w.trace ≡ first ++ last) where
    all_of : Runs w.cells w.trace
    all_of = runs_reached w reached

    rise : Ascends row_cmp first
    rise = ascends_first first last (subst (Ascends row_cmp) parts (keys_rise s w fit reached))

    in_trace : (r : Row) → Contains first r → Contains w.trace r
    in_trace r c = subst (λ l. Contains l r) (sym parts) (Contains-append_left first last r c)

    whole_split : (before after : List Row) (r : Row) → first ≡ before ++ r ∷ after → w.trace ≡ before ++ r ∷ (after ++ last)
    whole_split before after r e = parts ∙ ap (λ l. l ++ last) e ∙ append_assoc before (r ∷ after) last

    marked : (r : Row) → Contains first r → RowMarks s.traffic r
    marked r c = all_of.keyed r (in_trace r c)

    first_orderly : IsOrderly members first
    first_orderly = record {
      rise = rise;
      among = AllIn-places (IsAmong members) first (contained_all (IsAmong members) first (λ r c. all_of.among r (in_trace r c)));
      joins = joins_once s.traffic first rise marked;
      leaves = leaves_once s.traffic first rise marked;
      lost_once = λ before after r front back n e.
          all_of.lost_once before (after ++ last) r front back n (whole_split before after r e);
      fixed_after = λ before after r e told. all_of.fixed_after before (after ++ last) r (whole_split before after r e) told;
    }

-- ---- accepted scenarios

module _ (p : PlainScenario) (a : IsAccepted p) (seed : ℕ) where
  abbrev t : Traffic
  t = (setting_of p seed).traffic

  own_mark : (j : ℕ) (k : Mark) → IsMark p.until (member_at p j) k → IsOwnMark t j k
  own_mark j k h = grind arith

  own_marks : (j : ℕ) → j < length p.members → AllIn (IsOwnMark t j) (script_of p j)
  own_marks j lt =
      let Q = IsMark p.until (member_at p j) in
      let script = scripts_fit p a j (member_at p j) (present p a j lt) in
      let marks : AllIn Q (script_of p j) = AllIn-at_places Q (script_of p j) script.marks in
      AllIn-weaker Q (IsOwnMark t j) (own_mark j) (script_of p j) marks

pub traces_are_orderly : TracesAreOrderly
traces_are_orderly p seed a w reached before after parts =
    first_orderly (setting_of p seed) (settings_are_fit p seed a) (own_marks p a seed) w reached before after parts
