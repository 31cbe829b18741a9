-- In the sequential run each member holds and lacks what its rows say, and packets carry the inks that were drawn.
use Rattle.std.proofs.Common.{◌≡◌, ℕ, zero, suc, ◌<◌, ◌+◌, T, List, [], ◌∷◌, ◌++◌, map, length, refl, sym, ap, ◌∙◌, subst, ◌≢◌, ◌⊎◌, inl}
use Rattle.std.proofs.Common.{inr, arith, Option, Some, None, is_some, unwrap_or, slice_get}
use Rattle.std.specs.List.{Contains}
use Rattle.std.specs.FinMap.Entries.{put, find, is_sorted}
use Rattle.std.proofs.lemmas.List.Elements.{Contains-append_left}
use Rattle.std.proofs.lemmas.Option.{same_Some}
use Rattle.srm_net.specs.declared.packet.Name.{Name}
use Rattle.srm_net.specs.declared.packet.Body.{Body}
use Rattle.srm_net.specs.declared.packet.Body.TheVariants.{Drawop, Request, Repair}
use Rattle.srm_net.specs.declared.packet.Local.{Local}
use Rattle.srm_net.specs.declared.packet.Packet.{Packet}
use Rattle.srm_net.specs.Names.{name_cmp}
use Rattle.srm_member.specs.declared.cause.Cause.{Cause}
use Rattle.srm_member.specs.declared.cause.Cause.TheVariants.{Join, Arrival, Ask, Answer, Draw, Report}
use Rattle.srm_member.specs.declared.told.Told.{Told}
use Rattle.srm_member.specs.declared.told.Told.TheVariants.{Fresh, Fixed, Sent, Parted}
use Rattle.srm_member.specs.declared.exit.Exit.{Exit}
use Rattle.srm_member.specs.declared.fixed.Fixed.{Fixed as FixedPart}
use Rattle.srm_member.specs.declared.row.About.TheVariants.{Of}
use Rattle.srm_member.specs.declared.row.Row.{Row}
use Rattle.srm_member.specs.declared.entries.Missing.{Missing}
use Rattle.srm_member.specs.Record.{MemberState, exit_of}
use Rattle.srm_member.specs.React.{Reaction, react}
use Rattle.srm_member.proofs.TableChanges.{Has, names_apart, put_here, put_there, has_put, has_more, without_less, without_there}
use Rattle.srm_member.proofs.TableChanges.{sorted_put, sorted_without, has_some, ascend, contained_found, found_contained, named, has_name}
use Rattle.srm_member.proofs.Changes.{Below, Grows, Allowed, Quiet, Brings, Brought, Drawn, effect}
use Rattle.srm_cell.specs.Setting.{Setting, IsFit, arrival_of}
use Rattle.srm_cell.specs.Cells.{PlainCell, opening_cell, hear_at, hear, Event, Stepped, word_of, about_of, packet_of}
use Rattle.srm_cell.specs.OwnRuns.{told_to}
use Rattle.srm_model.specs.World.{World, cells_after, opening, opening_cells, IsReached, exit_at}
use Rattle.srm_model.specs.Handed.{SentIn}
use Rattle.srm_member.specs.Orderly.{LostIn}
use Rattle.srm_model.specs.HeldNames.{Draws, Drew, Carries, TellsOfName, ToldOf, Got, Lacks, EndsHolding, ExitsAreWhatRowsSay}
use Rattle.srm_model.specs.HeldNames.{RequestsAreForLosses, RepairsAreOfHeld}
use Rattle.srm_model.proofs.OneStep.{Takes, Sends, Answers, Leaves, Steps, StepFacts, each_after, run_keeps}
use Rattle.srm_model.proofs.TraceRows.{contains_none, contains_last, contains_cases, sent_more, sent_cases, IsSplit, no_split, split_cases}
use Rattle.srm_model.proofs.HandedOnce as handing
use Rattle.srm_model.proofs.HandedOnce.{same_of, Handed, handed_step, handed_opening}
use Rattle.srm_model.proofs.Settled.{EachCell}

-- ---- what rows say of a member's tables

-- what member j holds, and what it lacks, are what the rows say
pub record Keeps (rows : List Row) (j : ℕ) (held : List (Name × ℕ)) (missing : List (Name × Missing)) : Type 0 where
  pub held_is : (n : Name) (ink : ℕ) → find name_cmp n held ≡ Some ink → Got j n rows × Drew n.source n ink rows
  pub got : (n : Name) → Got j n rows → Has n held
  pub lacks : (n : Name) → Has n missing → Lacks j n rows
  pub lost : (n : Name) → Lacks j n rows → Has n missing
  pub held_sorted : T (is_sorted name_cmp held)
  pub missing_sorted : T (is_sorted name_cmp missing)

-- and it has heard of all names that it drew, lost or fixed, and plans repairs of names that it holds
pub record Knows (rows : List Row) (j : ℕ) (m : MemberState) : Type 0 where
  pub member : m.fixed.member ≡ j
  pub keeps : Keeps rows j m.held m.missing
  pub drew : (n : Name) (ink : ℕ) → Drew j n ink rows → Below n m
  pub lost : (n : Name) → LostIn j n rows → Below n m
  pub fixed : (n : Name) → ToldOf Fixed j n rows → Below n m
  pub plans : (n : Name) → Has n m.repairs → Has n m.held

-- of a cell: its record, and its exit, if it left
abbrev pub CellKnows : List Row → ℕ → Option MemberState → Option Exit → Type 0
CellKnows rows j (Some m) None = Knows rows j m
CellKnows rows j (Some m) (Some x) = ⊥
CellKnows rows j None None = ⊥
CellKnows rows j None (Some x) = (m : MemberState) × (x ≡ exit_of m) × (m.fixed.member ≡ j) × Keeps rows j m.held m.missing

-- ---- packets and names

same_ops : (n k : Name) (a b : ℕ) → ◌≡◌ {A = Body} (Drawop n a) (Drawop k b) → (n ≡ k) × (a ≡ b)
same_ops n k a b e = (cc, cc)

-- a body carries the name that it brings
carries_it : (b : Body) (n : Name) (ink : ℕ) → Brings b n ink → Carries n b
carries_it b n ink (inl e) = subst (Carries n) (sym e) refl
carries_it b n ink (inr e) = subst (Carries n) (sym e.1) refl

-- and no other
carries_one : (b : Body) (k n : Name) (ink : ℕ) → Brings b k ink → Carries n b → k ≡ n
carries_one b k n ink (inl e) c = subst (Carries n) e c
carries_one b k n ink (inr e) c = subst (Carries n) e.1 c

pub sent_body : (e : Event) (body : Option Body) (d : Stepped) (p : Packet) → Sends e body d → d.row.sent ≡ Some p → (body ≡ Some p.body)
    × (p.id.sender ≡ e.key.member)
sent_body e body d p h q = grind arith

pub sends_none : (e : Event) (d : Stepped) (body : Option Body) → body ≡ None → Sends e body d → (p : Packet) → d.row.sent ≡ Some p → ⊥
sends_none e d body none h p q = let x : None ≡ Some p.body = sym none ∙ (sent_body e body d p h q).0 in cc

module _ (s : Setting) (fit : IsFit s) where
  pub record Names (cs : List PlainCell) (trace : List Row) : Type 0 where
    pub handed : Handed s cs trace
    pub knows : EachCell (λ j c. CellKnows trace j c.holds c.exit) cs
    pub source : (j : ℕ) (n : Name) (ink : ℕ) → Drew j n ink trace → n.source ≡ j
    pub one : (n : Name) (a b : ℕ) → Drew n.source n a trace → Drew n.source n b trace → a ≡ b
    pub inks : (p : Packet) (n : Name) (ink : ℕ) → SentIn p trace → Brings p.body n ink → Drew n.source n ink trace
    pub asks : (before after : List Row) (r : Row) (p : Packet) (n : Name) (scope : Option ℕ) → IsSplit trace before r after
        → r.sent ≡ Some p → p.body ≡ Request n scope → Lacks p.id.sender n before
    pub answers : (before after : List Row) (r : Row) (p : Packet) (n : Name) (ink : ℕ) (local : Option Local)
        → IsSplit trace before r after → r.sent ≡ Some p
        → p.body ≡ Repair n ink local → Got p.id.sender n before × Drew n.source n ink before

  -- ---- after a step

  module _ (cs : List PlainCell) (trace : List Row) (e : Event) (d : Stepped) (was : Names cs trace) (steps : Steps s.traffic.until cs e d)
    where
      abbrev m : ℕ
      m = e.key.member

      abbrev after : List PlainCell
      after = cells_after s m d 0 cs

      abbrev rows : List Row
      rows = trace ++ d.row ∷ []

      facts : StepFacts cs e d
      facts = handing.facts s cs trace e d was.handed steps

      row_member : d.row.key.member ≡ m
      row_member = handing.member s cs trace e d was.handed steps

      -- ---- what the rows say, with one row more

      drew_more : (j : ℕ) (n : Name) (ink : ℕ) → Drew j n ink trace → Drew j n ink rows
      drew_more j n ink h = (h.0, Contains-append_left trace (d.row ∷ []) h.0 h.1, h.2)

      drew_now : (j : ℕ) (n : Name) (ink : ℕ) → Draws j n ink d.row → Drew j n ink rows
      drew_now j n ink h = (d.row, contains_last trace d.row, h)

      drew_cases : (j : ℕ) (n : Name) (ink : ℕ) → Drew j n ink rows → Drew j n ink trace ⊎ Draws j n ink d.row
      drew_cases j n ink h = elim (contains_cases trace d.row h.0 h.1)
          [ inl g ↦ inl (h.0, g, h.2) | inr g ↦ inr (subst (Draws j n ink) (sym g) h.2) ]

      -- the row tells this of n, from a packet that was sent before
      abbrev Now : Told → ℕ → Name → Type 0
      Now t j n = TellsOfName t j n trace d.row

      tells_more : (t : Told) (j : ℕ) (n : Name) (r : Row) → TellsOfName t j n trace r → TellsOfName t j n rows r
      tells_more t j n r h = grind (arith, sent_more)

      told_more : (t : Told) (j : ℕ) (n : Name) → ToldOf t j n trace → ToldOf t j n rows
      told_more t j n h = (h.0, Contains-append_left trace (d.row ∷ []) h.0 h.1, tells_more t j n h.0 h.2)

      told_now : (t : Told) (j : ℕ) (n : Name) → Now t j n → ToldOf t j n rows
      told_now t j n h = (d.row, contains_last trace d.row, tells_more t j n d.row h)

      -- a packet that a row hands was sent before
      sent_before : (r : Row) → Contains rows r → (p : Packet) → r.about ≡ Of p → SentIn p rows → SentIn p trace
      sent_before r c p a h = elim (sent_cases p trace d.row h) [
        | inl g ↦ g
        | inr g ↦ absurd (handing.new_id s cs trace e d was.handed steps p (handing.is_new s cs trace e d was.handed steps p g) p.id
            (handing.handed_was s cs trace e d was.handed steps r c p a) refl)
      ]

      told_cases : (t : Told) (j : ℕ) (n : Name) → ToldOf t j n rows → ToldOf t j n trace ⊎ Now t j n
      told_cases t j n h =
          let g = h.2 in
          let sent = sent_before h.0 h.1 g.packet g.about g.sent in
          let tells : TellsOfName t j n trace h.0 = record {
            member = g.member;
            told_so = g.told_so;
            packet = g.packet;
            about = g.about;
            sent =
                sent;
            carries = g.carries;
          } in
          elim (contains_cases trace d.row h.0 h.1) [
            | inl c ↦ inl (h.0, c, tells)
            | inr c ↦
                inr (subst (TellsOfName t j n trace) (sym c) tells)
          ]

      lost_more : (j : ℕ) (n : Name) → LostIn j n trace → LostIn j n rows
      lost_more j n h = (h.0, Contains-append_left trace (d.row ∷ []) h.0 h.1, h.2, h.3)

      abbrev LosesNow : ℕ → Name → Type 0
      LosesNow j n = (d.row.key.member ≡ j) × Contains d.row.lost n

      lost_now : (j : ℕ) (n : Name) → LosesNow j n → LostIn j n rows
      lost_now j n h = (d.row, contains_last trace d.row, h.0, h.1)

      lost_cases : (j : ℕ) (n : Name) → LostIn j n rows → LostIn j n trace ⊎ LosesNow j n
      lost_cases j n h = elim (contains_cases trace d.row h.0 h.1) [
        | inl c ↦ inl (h.0, c, h.2, h.3)
        | inr c ↦ inr (subst (λ (r : Row). (r.key.member ≡ j) × Contains r.lost n) (sym c) (h.2, h.3))
      ]

      got_more : (j : ℕ) (n : Name) → Got j n trace → Got j n rows
      got_more j n (inl h) = inl (h.0, drew_more j n h.0 h.1)
      got_more j n (inr (inl h)) = inr (inl (told_more Fresh j n h))
      got_more j n (inr (inr h)) = inr (inr (told_more Fixed j n h))

      abbrev GotNow : ℕ → Name → Type 0
      GotNow j n = ((ink : ℕ) × Draws j n ink d.row) ⊎ (Now Fresh j n ⊎ Now Fixed j n)

      got_cases : (j : ℕ) (n : Name) → Got j n rows → Got j n trace ⊎ GotNow j n
      got_cases j n (inl h) = elim (drew_cases j n h.0 h.1) [ inl g ↦ inl (inl (h.0, g)) | inr g ↦ inr (inl (h.0, g)) ]
      got_cases j n (inr (inl h)) = elim (told_cases Fresh j n h) [ inl g ↦ inl (inr (inl g)) | inr g ↦ inr (inr (inl g)) ]
      got_cases j n (inr (inr h)) = elim (told_cases Fixed j n h) [ inl g ↦ inl (inr (inr g)) | inr g ↦ inr (inr (inr g)) ]

      -- ---- members of which the row says nothing

      keeps_on : (j : ℕ) (held : List (Name × ℕ)) (missing : List (Name × Missing)) → ((n : Name) → ¬ GotNow j n)
          → ((n : Name) → ¬ LosesNow j n) → Keeps trace j held missing → Keeps rows j held missing
      keeps_on j held missing none loses k = record {
        held_is = λ n ink f. (let h = k.held_is n ink f in (got_more j n h.0, drew_more n.source n ink h.1));
        got = λ n h. elim (got_cases j n h) [ inl g ↦ k.got n g | inr g ↦ absurd (none n g) ];
        lacks = λ n h. (let l = k.lacks n h in
            (lost_more j n l.0, (λ f. elim (told_cases Fixed j n f) [ inl g ↦ l.1 g | inr g ↦ none n (inr (inr g)) ])));
        lost = λ n h. k.lost n (elim (lost_cases j n h.0) [ inl g ↦ g | inr g ↦ absurd (loses n g) ], (λ f. h.1 (told_more Fixed j n f)));
        held_sorted = k.held_sorted;
        missing_sorted = k.missing_sorted;
      }

      row_of_other : (j : ℕ) → j ≢ m → d.row.key.member ≢ j
      row_of_other j ne q = ne (sym q ∙ row_member)

      none_got : (j : ℕ) → j ≢ m → (n : Name) → ¬ GotNow j n
      none_got j ne n (inl h) = row_of_other j ne h.1.member
      none_got j ne n (inr (inl h)) = row_of_other j ne h.member
      none_got j ne n (inr (inr h)) = row_of_other j ne h.member

      none_lost : (j : ℕ) → j ≢ m → (n : Name) → ¬ LosesNow j n
      none_lost j ne n h = row_of_other j ne h.0

      knows_on : (j : ℕ) → j ≢ m → (holds : Option MemberState) (exit : Option Exit) → CellKnows trace j holds exit
          → CellKnows rows j holds exit
      knows_on j ne (Some k) None h = record {
        member = h.member;
        keeps = keeps_on j k.held k.missing (none_got j ne) (none_lost j ne) h.keeps;
        drew = λ n ink q. elim (drew_cases j n ink q) [ inl g ↦ h.drew n ink g | inr g ↦ absurd (row_of_other j ne g.member) ];
        lost = λ n q. elim (lost_cases j n q) [ inl g ↦ h.lost n g | inr g ↦ absurd (row_of_other j ne g.0) ];
        fixed = λ n q. elim (told_cases Fixed j n q) [ inl g ↦ h.fixed n g | inr g ↦ absurd (row_of_other j ne g.member) ];
        plans = h.plans;
      }
      knows_on j ne (Some k) (Some x) h = absurd h
      knows_on j ne None None h = absurd h
      knows_on j ne None (Some x) h = (h.0, h.1, h.2, keeps_on j h.0.held h.0.missing (none_got j ne) (none_lost j ne) h.3)

      hear_at_holds : (p : Packet) (o : Option ℕ) (c : PlainCell) → ((hear_at p o c).holds ≡ c.holds) × ((hear_at p o c).exit ≡ c.exit)
      hear_at_holds p None c = (refl, refl)
      hear_at_holds p (Some at) c = (refl, refl)

      told_holds : (y : Option Packet) (j : ℕ) (c : PlainCell) → ((told_to s.traffic y j c).holds ≡ c.holds)
          × ((told_to s.traffic y j c).exit ≡ c.exit)
      unfolding hear
      told_holds None j c = (refl, refl)
      told_holds (Some p) j c = hear_at_holds p (arrival_of s.traffic p j) c

      knows_told : (j : ℕ) (c : PlainCell) → slice_get cs j ≡ Some c → j ≢ m
          → CellKnows rows j (told_to s.traffic d.row.sent j c).holds (told_to s.traffic d.row.sent j c).exit
      knows_told j c g ne =
          let same = told_holds d.row.sent j c in
          subst (λ r. CellKnows rows j r (told_to s.traffic d.row.sent j c).exit) (sym same.0)
          (subst (CellKnows rows j c.holds) (sym same.1) (knows_on j ne c.holds c.exit (was.knows j c g)))

      -- ---- the stepping member

      -- what the step makes of the rest
      record Next : Type 0 where
        knows : CellKnows rows m d.cell.holds d.cell.exit
        source : (j : ℕ) (n : Name) (ink : ℕ) → Draws j n ink d.row → n.source ≡ j
        one : (n : Name) (a b : ℕ) → Drew n.source n a rows → Drew n.source n b rows → a ≡ b
        inks : (p : Packet) (n : Name) (ink : ℕ) → d.row.sent ≡ Some p → Brings p.body n ink → Drew n.source n ink rows
        asks : (p : Packet) (n : Name) (scope : Option ℕ) → d.row.sent ≡ Some p → p.body ≡ Request n scope → Lacks p.id.sender n trace
        answers : (p : Packet) (n : Name) (ink : ℕ) (local : Option Local) → d.row.sent ≡ Some p → p.body ≡ Repair n ink local
            → Got p.id.sender n trace × Drew n.source n ink trace

      cell_knew : CellKnows trace m facts.cell.holds facts.cell.exit
      cell_knew = was.knows m facts.cell facts.here

      active_knew : (exit : Option Exit) (k : MemberState) → CellKnows trace m (Some k) exit → (exit ≡ None) × Knows trace m k
      active_knew None k h = (refl, h)
      active_knew (Some x) k h = absurd h

      knew : (k : MemberState) → e.rest.holds ≡ Some k → (e.rest.exit ≡ None) × Knows trace m k
      knew k h =
          let r = active_knew facts.cell.exit k (subst (λ r. CellKnows trace m r facts.cell.exit) (sym facts.pending.holds ∙ h) cell_knew)
          in
          (facts.pending.exit ∙ r.0, r.1)

      -- where the row draws nothing, draws are as they were
      one_still : ((j : ℕ) (n : Name) (ink : ℕ) → ¬ Draws j n ink d.row) → (n : Name) (a b : ℕ) → Drew n.source n a rows
          → Drew n.source n b rows → a ≡ b
      one_still none n a b h g = elim (drew_cases n.source n a h) [
        | inl x ↦ elim (drew_cases n.source n b g) [ inl y ↦ was.one n a b x y | inr y ↦ absurd (none n.source n b y) ]
        | inr x ↦ absurd (none n.source n a x)
      ]

      -- ---- its leave

      leave_next : Leaves e d → Next
      leave_next l =
          let k = (knew l.state l.holds).1 in
          let silent : (p : Packet) → d.row.sent ≡ Some p → ⊥ = sends_none e d None refl l.sends in
          let no_draw : (j : ℕ) (n : Name) (ink : ℕ) → ¬ Draws j n ink d.row = λ j n ink h. silent h.packet h.sends in
          let none : (n : Name) → ¬ GotNow m n = λ n h. (elim h [
            | inl g ↦ no_draw m n g.0 g.1
            | inr g ↦ elim g [
              | inl x ↦ (let y : Parted ≡ Fresh = sym l.told ∙ x.told_so in cc)
              | inr x ↦ (let y : Parted ≡ Fixed = sym l.told ∙ x.told_so in cc)
            ]
          ]) in
          let loses : (n : Name) → ¬ LosesNow m n = λ n h. contains_none n (subst (λ ns. Contains ns n) l.lost h.1) in
          record {
            knows = subst (λ r. CellKnows rows m r d.cell.exit) (sym l.holds_then)
                (subst (CellKnows rows m None) (sym l.exit)
                (l.state, refl, k.member, keeps_on m l.state.held l.state.missing none loses k.keeps));
            source = λ j n ink h. absurd (no_draw j n ink h);
            one = one_still no_draw;
            inks = λ p n ink q b. absurd (silent p q);
            asks = λ p n scope q b. absurd (silent p q);
            answers = λ p n ink local q b. absurd (silent p q);
          }

      -- ---- its answer

      module _ (a : Answers e d) where
        abbrev state : MemberState
        state = a.state

        abbrev r : Reaction
        r = react a.state e.key.time a.cause

        k : Knows trace m state
        k = (knew state a.holds).1

        no_exit : d.cell.exit ≡ None
        no_exit = a.exit ∙ (knew state a.holds).0

        known : Knows rows m r.state → CellKnows rows m d.cell.holds d.cell.exit
        known h = subst (λ x. CellKnows rows m x d.cell.exit) (sym a.holds_then)
            (subst (CellKnows rows m (Some r.state)) (sym no_exit) h)

        sent_is : (p : Packet) → d.row.sent ≡ Some p → (r.answer.body ≡ Some p.body) × (p.id.sender ≡ m)
        sent_is p q = sent_body e r.answer.body d p a.sends q

        -- a loss of the row is one of the answer, and the other way round
        loses : (n : Name) → LosesNow m n → Contains r.answer.lost n
        loses n h = subst (λ ns. Contains ns n) a.lost h.1

        lost_here : (n : Name) → Contains r.answer.lost n → LosesNow m n
        lost_here n h = (row_member, subst (λ ns. Contains ns n) (sym a.lost) h)

        -- what the growth from the state before says of losses
        module _ (mid : MemberState) (grows : Grows r.answer.lost state mid) where
          lost_by : (n : Name) → Has n mid.missing → LostIn m n rows × ¬ ToldOf Fixed m n trace
          lost_by n h = elim (grows.lacks n h) [
            | inl g ↦ (let l = k.keeps.lacks n g in (lost_more m n l.0, l.1))
            | inr g ↦ (lost_now m n (lost_here n g), (λ f. grows.new n g (k.fixed n f)))
          ]

          missing_by : (n : Name) → LostIn m n rows → ¬ ToldOf Fixed m n trace → Has n mid.missing
          missing_by n h none = elim (lost_cases m n h) [
            | inl g ↦ grows.still n (k.keeps.lost n (g, none))
            | inr g ↦ grows.lacking n (loses n g)
          ]

          heard_by : (n : Name) → LostIn m n rows → Below n mid
          heard_by n h = elim (lost_cases m n h) [ inl g ↦ grows.below n (k.lost n g) | inr g ↦ grows.heard n (loses n g) ]

        -- ---- nothing new is held

        quiet_next : Quiet state r → Next
        quiet_next q =
            let g = q.grows in
            let no_draw : (j : ℕ) (n : Name) (ink : ℕ) → ¬ Draws j n ink d.row = λ j n ink h.
            (let b : r.answer.body ≡ Some (Drawop n ink) = (sent_is h.packet h.sends).0 ∙ ap Some h.carries in
            subst (Allowed state) b q.body) in
            let no_fresh : (n : Name) → ¬ Now Fresh m n = λ n h. q.not_fresh (sym a.told ∙ h.told_so) in
            let no_fixed : (n : Name) → ¬ Now Fixed m n = λ n h. q.not_fixed (sym a.told ∙ h.told_so) in
            let not_told : (n : Name) → ¬ ToldOf Fixed m n trace → ¬ ToldOf Fixed m n rows =
            λ n none f. (elim (told_cases Fixed m n f) [ inl x ↦ none x | inr x ↦ no_fixed n x ]) in
            record {
              knows = known (record {
                member = ap (λ (f : FixedPart). f.member) g.fixed ∙ k.member;
                keeps = record {
                  held_is = λ n ink f. (let h = k.keeps.held_is n ink (ap (find name_cmp n) (sym g.held) ∙ f) in
                      (got_more m n h.0, drew_more n.source n ink h.1));
                  got = λ n h. subst (Has n) (sym g.held) (elim (got_cases m n h) [
                    | inl x ↦ k.keeps.got n x
                    | inr x ↦ absurd (elim x [
                      | inl y ↦ no_draw m n y.0 y.1
                      | inr y ↦
                          elim y [ inl z ↦ no_fresh n z | inr z ↦ no_fixed n z ]
                    ])
                  ]);
                  lacks = λ n h. (let l = lost_by r.state g n h in (l.0, not_told n l.1));
                  lost = λ n h. missing_by r.state g n h.0 (λ f. h.1 (told_more Fixed m n f));
                  held_sorted = subst (λ es. T (is_sorted name_cmp es)) (sym g.held) k.keeps.held_sorted;
                  missing_sorted = g.sorted k.keeps.missing_sorted;
                };
                drew = λ n ink h. elim (drew_cases m n ink h) [ inl x ↦ g.below n (k.drew n ink x) | inr x ↦ absurd (no_draw m n ink x) ];
                lost = λ n h. heard_by r.state g n h;
                fixed = λ n h. elim (told_cases Fixed m n h) [ inl x ↦ g.below n (k.fixed n x) | inr x ↦ absurd (no_fixed n x) ];
                plans = λ n h. subst (Has n) (sym g.held) (elim (g.plans n h) [ inl x ↦ k.plans n x | inr x ↦ x ]);
              });
              source = λ j n ink h. absurd (no_draw j n ink h);
              one = one_still no_draw;
              inks = λ p n ink h b. elim b [
                | inl x ↦ absurd (subst (Allowed state) ((sent_is p h).0 ∙ ap Some x) q.body)
                | inr x ↦ (let l = repaired p n ink x.0 h x.1 in drew_more n.source n ink l.1)
              ];
              asks = λ p n scope h b.
                  (let has : Has n state.missing = subst (Allowed state) ((sent_is p h).0 ∙ ap Some b) q.body in
                  subst (λ j. Lacks j n trace) (sym (sent_is p h).1) (k.keeps.lacks n has));
              answers = λ p n ink local h b.
                  (let l = repaired p n ink local h b in (subst (λ j. Got j n trace) (sym (sent_is p h).1) l.0, l.1));
            }
          where
            repaired : (p : Packet) (n : Name) (ink : ℕ) (local : Option Local) → d.row.sent ≡ Some p → p.body ≡ Repair n ink local
                → Got m n trace × Drew n.source n ink trace
            repaired p n ink local h b =
                let allowed : Has n state.repairs × (ink ≡ unwrap_or (find name_cmp n state.held) 0) =
                subst (Allowed state) ((sent_is p h).0 ∙ ap Some b) q.body in
                let has = has_some n state.held (k.plans n allowed.0) in
                let same : ink ≡ has.0 = allowed.1 ∙ ap (λ o. unwrap_or o 0) has.1 in
                k.keeps.held_is n ink (has.1 ∙ ap Some (sym same))

        -- ---- a packet brought a name

        brought_next : (p : Packet) → a.cause ≡ Arrival p → Brought state p.body r → Next
        unfolding facts
        brought_next p arrives b =
            let g = b.grows in
            let n0 = b.name in
            let silent : (x : Packet) → d.row.sent ≡ Some x → ⊥ = sends_none e d r.answer.body b.body a.sends in
            let no_draw : (j : ℕ) (n : Name) (ink : ℕ) → ¬ Draws j n ink d.row = λ j n ink h. silent h.packet h.sends in
            let held : r.state.held ≡ put name_cmp n0 b.ink state.held = b.held ∙ ap (put name_cmp n0 b.ink) g.held in
            let here : (t : Told) → d.row.told ≡ t → Now t m n0 = λ t h. record
            { member = row_member; told_so = h; packet = p; about = about; sent = sent; carries = carries_it p.body n0 b.ink b.brings } in
            let drawn : Drew n0.source n0 b.ink trace = was.inks p n0 b.ink sent b.brings in
            let only : (t : Told) (n : Name) → Now t m n → n0 ≡ n = λ t n h.
            (let same : h.packet ≡ p = same_of h.packet p (sym h.about ∙ about) in
            carries_one p.body n0 n b.ink b.brings (subst (λ (x : Packet). Carries n x.body) same h.carries)) in
            let got_it : Got m n0 rows = (elim b.mends [
              | inl h ↦ inr (inl (told_now Fresh m n0 (here Fresh (a.told ∙ h.0))))
              | inr h ↦ inr (inr (told_now Fixed m n0 (here Fixed (a.told ∙ h.0))))
            ]) in
            let has_it : (n : Name) → n0 ≡ n → Has n r.state.held = λ n q. subst (Has n) (sym held)
            (subst (λ x. Has x (put name_cmp n0 b.ink state.held)) q (has_put n0 b.ink state.held)) in
            let still : (n : Name) → Has n state.held → Has n r.state.held =
            λ n h. subst (Has n) (sym held) (has_more n n0 b.ink state.held h) in
            let held_is : (n : Name) (ink : ℕ) → find name_cmp n r.state.held ≡ Some ink → Got m n rows
            × Drew n.source n ink rows = λ n ink f. (elim (names_apart n n0) [
              | inl q ↦
                  let ink_is : b.ink ≡ ink = same_Some _ _ (sym (put_here n0 b.ink state.held)
                  ∙ ap (λ x. find name_cmp x (put name_cmp n0 b.ink state.held)) (sym q) ∙ ap (find name_cmp n) (sym held) ∙ f) in
                  subst (λ x. Got m x rows × Drew x.source x ink rows) (sym q)
                  (got_it, subst (λ i. Drew n0.source n0 i rows) ink_is (drew_more n0.source n0 b.ink drawn))
              | inr ne ↦
                  let h = k.keeps.held_is n ink (sym (put_there n n0 b.ink state.held ne) ∙ ap (find name_cmp n) (sym held) ∙ f) in
                  (got_more m n h.0, drew_more n.source n ink h.1)
            ]) in
            let got : (n : Name) → Got m n rows → Has n r.state.held = λ n h. (elim (got_cases m n h) [
              | inl x ↦ still n (k.keeps.got n x)
              | inr x ↦ elim x [
                | inl y ↦ absurd (no_draw m n y.0 y.1)
                | inr y ↦ has_it n (elim y [ inl z ↦ only Fresh n z | inr z ↦ only Fixed n z ])
              ]
            ]) in
            record {
              knows = known (record {
                member = ap (λ (f : FixedPart). f.member) (b.fixed ∙ g.fixed) ∙ k.member;
                keeps = record {
                  held_is = held_is;
                  got = got;
                  lacks = λ n h. elim b.mends [
                    | inl x ↦ (let l = lost_by b.mid g n (subst (Has n) x.1 h) in
                        (l.0, (λ f. elim (told_cases Fixed m n f) [ inl y ↦ l.1 y | inr y ↦ absurd (not_both (a.told ∙ x.0) y.told_so) ])))
                    | inr x ↦ (let w = without_less n n0 b.mid.missing (subst (Has n) x.2 h) in
                        let l = lost_by b.mid g n w.1 in
                        (l.0, (λ f. elim (told_cases Fixed m n f) [ inl y ↦ l.1 y | inr y ↦ w.0 (sym (only Fixed n y)) ])))
                  ];
                  lost = λ n h. (let l = missing_by b.mid g n h.0 (λ f. h.1 (told_more Fixed m n f)) in elim b.mends [
                    | inl x ↦ subst (Has n) (sym x.1) l
                    | inr x ↦
                        let ne : n ≢ n0 = λ q. h.1 (subst (λ y. ToldOf Fixed m y rows) (sym q)
                        (told_now Fixed m n0 (here Fixed (a.told ∙ x.0)))) in
                        subst (Has n) (sym x.2) (ap is_some (without_there n n0 b.mid.missing ne) ∙ l)
                  ]);
                  held_sorted = subst (λ es. T (is_sorted name_cmp es)) (sym held) (sorted_put n0 b.ink state.held k.keeps.held_sorted);
                  missing_sorted = elim b.mends [
                    | inl x ↦ subst (λ es. T (is_sorted name_cmp es)) (sym x.1) (g.sorted k.keeps.missing_sorted)
                    | inr x ↦ subst (λ es. T (is_sorted name_cmp es)) (sym x.2)
                        (sorted_without n0 b.mid.missing (g.sorted k.keeps.missing_sorted))
                  ];
                };
                drew = λ n ink h. elim (drew_cases m n ink h)
                    [ inl x ↦ b.below n (g.below n (k.drew n ink x)) | inr x ↦ absurd (no_draw m n ink x) ];
                lost = λ n h. b.below n (heard_by b.mid g n h);
                fixed = λ n h. b.below n (elim (told_cases Fixed m n h) [
                  | inl x ↦ g.below n (k.fixed n x)
                  | inr x ↦ elim b.mends [
                    | inl y ↦ absurd (not_both (a.told ∙ y.0) x.told_so)
                    | inr y ↦ g.below n (subst (λ z. Below z state) (only Fixed n x) (k.lost n0 (k.keeps.lacks n0 y.1).0))
                  ]
                ]);
                plans = λ n h. elim (b.plans n h) [
                  | inl y ↦ still n (elim (g.plans n y) [ inl x ↦ k.plans n x | inr x ↦ x ])
                  | inr y ↦ y
                ];
              });
              source = λ j n ink h. absurd (no_draw j n ink h);
              one = one_still no_draw;
              inks = λ x n ink q h. absurd (silent x q);
              asks = λ x n scope q h. absurd (silent x q);
              answers = λ x n ink local q h. absurd (silent x q);
            }
          where
            same_packet : (x y : Packet) → Some (Arrival x) ≡ Some (Arrival y) → x ≡ y
            same_packet x y h = cc

            not_both : d.row.told ≡ Fresh → d.row.told ≡ Fixed → ⊥
            not_both h q = let x : Fresh ≡ Fixed = sym h ∙ q in cc

            is_arrival : e.cause ≡ Some (Arrival p)
            is_arrival = a.is ∙ ap Some arrives

            about : d.row.about ≡ Of p
            about = a.about ∙ ap (λ c. about_of (Some c) r.answer.body) arrives

            sent_by : Takes facts.cell e → SentIn p trace
            sent_by (inl t) =
                let same : t.flight.packet ≡ p = same_packet _ _ (sym t.cause ∙ is_arrival) in
                subst (λ x. SentIn x trace) same (handing.taken s cs trace e d was.handed steps t).0
            sent_by (inr t) = absurd (t.1 p is_arrival)

            sent : SentIn p trace
            sent = sent_by facts.pending.takes

        -- ---- a name is drawn

        drawn_next : (page ink : ℕ) → a.cause ≡ Draw page ink → Drawn state r → Next
        drawn_next page ink draws b =
            let n0 = b.name in
            let own : n0.source ≡ m = b.source ∙ k.member in
            let row_sent : d.row.sent ≡ Some (packet_of e (Drawop n0 b.ink)) = (subst (λ x. Sends e x d) b.body a.sends).0 in
            let here : Draws m n0 b.ink d.row = record {
              member = row_member;
              cause = facts.does.cause ∙ ap word_of (a.is ∙ ap Some draws);
              about = a.about ∙ ap (λ c. about_of (Some c) r.answer.body) draws ∙ ap (about_of (Some (Draw page ink))) b.body;
              told = a.told ∙ b.told;
              packet = packet_of e (Drawop n0 b.ink);
              sends = row_sent;
              carries = refl;
            } in
            let only : (j : ℕ) (n : Name) (i : ℕ) → Draws j n i d.row → (n ≡ n0) × (i ≡ b.ink) = λ j n i h.
            (let same : h.packet ≡ packet_of e (Drawop n0 b.ink) = same_Some _ _ (sym h.sends ∙ row_sent) in
            same_ops n n0 i b.ink (sym h.carries ∙ ap (λ (x : Packet). x.body) same)) in
            let drawn : Drew n0.source n0 b.ink rows = subst (λ j. Drew j n0 b.ink rows) (sym own) (drew_now m n0 b.ink here) in
            let no_told : (t : Told) → Sent ≢ t → (n : Name) → ¬ Now t m n = λ t ne n h. ne (sym (a.told ∙ b.told) ∙ h.told_so) in
            let no_fresh : (n : Name) → ¬ Now Fresh m n = no_told Fresh (λ q. cc) in
            let no_fixed : (n : Name) → ¬ Now Fixed m n = no_told Fixed (λ q. cc) in
            let no_loss : (n : Name) → ¬ LosesNow m n = λ n h. contains_none n (subst (λ ns. Contains ns n) b.lost (loses n h)) in
            let still : (n : Name) → Has n state.held → Has n r.state.held =
            λ n h. subst (Has n) (sym b.held) (has_more n n0 b.ink state.held h) in
            -- it was not drawn before
            let never : (n : Name) (i : ℕ) → n ≡ n0 → ¬ Drew n.source n i trace = λ n i q h.
            (let x : Drew n0.source n0 i trace = subst (λ y. Drew y.source y i trace) q h in
            b.new (k.drew n0 i (subst (λ j. Drew j n0 i trace) own x))) in
            let held_is : (n : Name) (i : ℕ) → find name_cmp n r.state.held
            ≡ Some i → Got m n rows × Drew n.source n i rows = λ n i f. (elim (names_apart n n0) [
              | inl q ↦
                  let ink_is : b.ink ≡ i = same_Some _ _ (sym (put_here n0 b.ink state.held)
                  ∙ ap (λ x. find name_cmp x (put name_cmp n0 b.ink state.held)) (sym q) ∙ ap (find name_cmp n) (sym b.held) ∙ f) in
                  subst (λ x. Got m x rows × Drew x.source x i rows) (sym q)
                  (inl (b.ink, drew_now m n0 b.ink here), subst (λ y. Drew n0.source n0 y rows) ink_is drawn)
              | inr ne ↦
                  let h = k.keeps.held_is n i (sym (put_there n n0 b.ink state.held ne) ∙ ap (find name_cmp n) (sym b.held) ∙ f) in
                  (got_more m n h.0, drew_more n.source n i h.1)
            ]) in
            let has_it : (n : Name) → n ≡ n0 → Has n r.state.held = λ n q. subst (Has n) (sym b.held)
            (subst (λ x. Has x (put name_cmp n0 b.ink state.held)) (sym q) (has_put n0 b.ink state.held)) in
            record {
              knows = known (record {
                member = ap (λ (f : FixedPart). f.member) b.fixed ∙ k.member;
                keeps = record {
                  held_is = held_is;
                  got = λ n h. elim (got_cases m n h) [
                    | inl x ↦ still n (k.keeps.got n x)
                    | inr x ↦ elim x [
                      | inl y ↦ has_it n (only m n y.0 y.1).0
                      | inr y ↦
                          absurd (elim y [ inl z ↦ no_fresh n z | inr z ↦ no_fixed n z ])
                    ]
                  ];
                  lacks = λ n h. (let l = k.keeps.lacks n (subst (Has n) b.missing h) in
                      (lost_more m n l.0, (λ f. elim (told_cases Fixed m n f) [ inl y ↦ l.1 y | inr y ↦ no_fixed n y ])));
                  lost = λ n h. subst (Has n) (sym b.missing)
                      (k.keeps.lost n (
                        elim (lost_cases m n h.0) [ inl x ↦ x | inr x ↦ absurd (no_loss n x) ],
                        (λ f. h.1 (told_more Fixed m n f)),
                      ));
                  held_sorted = subst (λ es. T (is_sorted name_cmp es)) (sym b.held) (sorted_put n0 b.ink state.held k.keeps.held_sorted);
                  missing_sorted = subst (λ es. T (is_sorted name_cmp es)) (sym b.missing) k.keeps.missing_sorted;
                };
                drew = λ n i h. elim (drew_cases m n i h) [
                  | inl x ↦ b.below n (k.drew n i x)
                  | inr x ↦
                      subst (λ y. Below y r.state) (sym (only m n i x).0) b.heard
                ];
                lost = λ n h. elim (lost_cases m n h) [ inl x ↦ b.below n (k.lost n x) | inr x ↦ absurd (no_loss n x) ];
                fixed = λ n h. elim (told_cases Fixed m n h) [ inl x ↦ b.below n (k.fixed n x) | inr x ↦ absurd (no_fixed n x) ];
                plans = λ n h. still n (k.plans n (subst (Has n) b.repairs h));
              });
              source = λ j n i h. ap (λ (x : Name). x.source) (only j n i h).0 ∙ own ∙ sym row_member ∙ h.member;
              one = λ n x y h q. elim (drew_cases n.source n x h) [
                | inl old ↦ elim (drew_cases n.source n y q)
                    [ inl old2 ↦ was.one n x y old old2 | inr new ↦ absurd (never n x (only n.source n y new).0 old) ]
                | inr new ↦ elim (drew_cases n.source n y q) [
                  | inl old ↦ absurd (never n y (only n.source n x new).0 old)
                  | inr new2 ↦ (only n.source n x new).1 ∙ sym (only n.source n y new2).1
                ]
              ];
              inks = λ p n i q h. (let body : Some (Drawop n0 b.ink) ≡ Some p.body = sym b.body ∙ (sent_is p q).0 in elim h [
                | inl x ↦
                    let same = same_ops n0 n b.ink i (same_Some _ _ (body ∙ ap Some x)) in
                    subst (λ y. Drew y.source y i rows) same.0 (subst (λ y. Drew n0.source n0 y rows) same.1 drawn)
                | inr x ↦ (let y : Some (Drawop n0 b.ink) ≡ Some (Repair n i x.0) = body ∙ ap Some x.1 in cc)
              ]);
              asks = λ p n scope q h.
                  (let y : Some (Drawop n0 b.ink) ≡ Some (Request n scope) = sym b.body ∙ (sent_is p q).0 ∙ ap Some h in cc);
              answers = λ p n i local q h.
                  (let y : Some (Drawop n0 b.ink) ≡ Some (Repair n i local) = sym b.body ∙ (sent_is p q).0 ∙ ap Some h in cc);
            }

        answer_by : (cause : Cause) → a.cause ≡ cause → Rattle.srm_member.proofs.Changes.Effect state cause r → Next
        answer_by cause q (inl h) = quiet_next h
        answer_by (Arrival p) q (inr (inl h)) = brought_next p q h
        answer_by (Draw page ink) q (inr (inr h)) = drawn_next page ink q h
        answer_by Join q (inr h) = absurd (elim h [ inl x ↦ x | inr x ↦ x ])
        answer_by (Arrival p) q (inr (inr h)) = absurd h
        answer_by (Ask n) q (inr h) = absurd (elim h [ inl x ↦ x | inr x ↦ x ])
        answer_by (Answer n) q (inr h) = absurd (elim h [ inl x ↦ x | inr x ↦ x ])
        answer_by (Draw page ink) q (inr (inl h)) = absurd h
        answer_by Report q (inr h) = absurd (elim h [ inl x ↦ x | inr x ↦ x ])

        answer_next : Next
        answer_next = answer_by a.cause refl (effect state e.key.time a.cause)

      next : Next
      next = elim facts.does.how [ inl a ↦ answer_next a | inr l ↦ leave_next l ]

      -- ---- all of it

      pub names_step : Names after rows
      names_step = record {
        handed = handed_step s cs trace e d was.handed steps;
        knows = each_after s (λ j c. CellKnows rows j c.holds c.exit) cs m d next.knows knows_told;
        source = λ j n ink h. elim (drew_cases j n ink h) [ inl x ↦ was.source j n ink x | inr x ↦ next.source j n ink x ];
        one = next.one;
        inks = λ p n ink h b. elim (sent_cases p trace d.row h)
            [ inl x ↦ drew_more n.source n ink (was.inks p n ink x b) | inr x ↦ next.inks p n ink x b ];
        asks = λ first last r p n scope split q h. elim (split_cases trace d.row first r last split) [
          | inl x ↦ subst (λ l. Lacks p.id.sender n l) (sym x.1) (next.asks p n scope (ap (λ (y : Row). y.sent) x.0 ∙ q) h)
          | inr x ↦ was.asks first x.0 r p n scope x.1 q h
        ];
        answers = λ first last r p n ink local split q h. elim (split_cases trace d.row first r last split) [
          | inl x ↦ subst (λ l. Got p.id.sender n l × Drew n.source n ink l)
              (sym x.1) (next.answers p n ink local (ap (λ (y : Row). y.sent) x.0 ∙ q) h)
          | inr x ↦ was.answers first x.0 r p n ink local x.1 q h
        ];
      }

  -- ---- the sequential run

  none_drew : (j : ℕ) (n : Name) (ink : ℕ) → ¬ Drew j n ink []
  none_drew j n ink h = contains_none h.0 h.1

  knows_nothing : (j : ℕ) → j < s.traffic.members → CellKnows [] j (opening_cell s j).holds (opening_cell s j).exit
  knows_nothing j lt = grind arith

  opening_knows : (n i : ℕ) → i + n ≡ s.traffic.members → (j : ℕ) (c : PlainCell) → slice_get (opening_cells s n i) j ≡ Some c
      → CellKnows [] (i + j) c.holds c.exit
  unfolding opening_cells
  opening_knows zero i e j c h = cc
  opening_knows (suc n) i e zero c h =
      let here : i + 0 ≡ i = omega arith in
      subst (λ (x : PlainCell). CellKnows [] (i + 0) x.holds x.exit) (same_Some _ _ h)
      (subst (λ x. CellKnows [] x (opening_cell s i).holds (opening_cell s i).exit) (sym here) (knows_nothing i (omega arith)))
  opening_knows (suc n) i e (suc j) c h =
      let there : suc i + j ≡ i + suc j = omega arith in
      subst (λ x. CellKnows [] x c.holds c.exit) there (opening_knows n (suc i) (omega arith) j c h)

  names_opening : Names (opening s).cells (opening s).trace
  unfolding opening
  names_opening = record {
    handed = handed_opening s;
    knows = λ j c h. (let same : 0 + j ≡ j = omega arith in subst (λ x. CellKnows [] x c.holds c.exit) same
        (opening_knows s.traffic.members 0 (omega arith) j c h));
    source = λ j n ink h. absurd (none_drew j n ink h);
    one = λ n a b h g. absurd (none_drew n.source n a h);
    inks = λ p n ink h b. absurd (contains_none h.0 h.1);
    asks = λ before after r p n scope split q h. absurd (no_split before after r split);
    answers = λ before after r p n ink local split q h. absurd (no_split before after r split);
  }

  pub names_reached : (w : World) → IsReached s w → Names w.cells w.trace
  names_reached w h = run_keeps s (λ v. Names v.cells v.trace) (λ v e d steps g. names_step v.cells v.trace e d g steps) h.0
      (opening s) w names_opening h.1

  -- ---- exits

  ends_by : (w : World) → Names w.cells w.trace → (j : ℕ) (m : MemberState) → m.fixed.member ≡ j → Keeps w.trace j m.held m.missing
      → EndsHolding w.trace j (exit_of m)
  ends_by w names j m member k = record {
    member = member;
    held = λ n ink. (
      (λ c. k.held_is n ink (contained_found m.held k.held_sorted n ink c)),
      (λ h.
          let has = has_some n m.held (k.got n h.0) in
          let same : has.0 ≡ ink = names.one n has.0 ink (k.held_is n has.0 has.1).1 h.1 in
          found_contained m.held n ink (has.1 ∙ ap Some same)),
    );
    drawn = λ n h. (let has = has_some n m.held (k.got n h) in (has.0, (k.held_is n has.0 has.1).1));
    held_rise = ascend m.held k.held_sorted;
    missing = λ n. ((λ c. k.lacks n (named m.missing n c)), (λ h. has_name m.missing n (k.lost n h)));
    missing_rise = ascend m.missing k.missing_sorted;
  }

  ends : (w : World) → Names w.cells w.trace → (j : ℕ) (holds : Option MemberState) (exit : Option Exit) → CellKnows w.trace j holds exit
      → EndsHolding w.trace j (exit_at holds exit)
  ends w names j (Some m) None h = ends_by w names j m h.member h.keeps
  ends w names j (Some m) (Some x) h = absurd h
  ends w names j None None h = absurd h
  ends w names j None (Some x) h = subst (EndsHolding w.trace j) (sym h.1) (ends_by w names j h.0 h.2 h.3)

pub get_map : {A B : Type 0} (f : A → B) (xs : List A) (j : ℕ) (y : B) → slice_get (map f xs) j ≡ Some y
    → (x : A) × (slice_get xs j ≡ Some x) × (f x ≡ y)
get_map f [] j y h = cc
get_map f (x ∷ xs) zero y h = (x, refl, same_Some _ _ h)
get_map f (x ∷ xs) (suc j) y h = get_map f xs j y h

length_map : {A B : Type 0} (f : A → B) (xs : List A) → length (map f xs) ≡ length xs
length_map f [] = refl
length_map f (x ∷ xs) = ap suc (length_map f xs)

pub exits_are_what_rows_say : ExitsAreWhatRowsSay
exits_are_what_rows_say s w fit reached =
    let names = names_reached s fit w reached in (
      length_map (λ (c : PlainCell). exit_at c.holds c.exit) w.cells ∙ names.handed.members,
      (λ j x h.
          let g = get_map (λ (c : PlainCell). exit_at c.holds c.exit) w.cells j x h in
          subst (EndsHolding w.trace j) g.2 (ends s fit w names j g.0.holds g.0.exit (names.knows j g.0 g.1))),
    )

pub requests_are_for_losses : RequestsAreForLosses
requests_are_for_losses s w fit reached before after r p n scope split q h =
    (names_reached s fit w reached).asks before after r p n scope split q h

pub repairs_are_of_held : RepairsAreOfHeld
repairs_are_of_held s w fit reached before after r p n ink local split q h =
    (names_reached s fit w reached).answers before after r p n ink local split q h
