-- Hearers and jobs in pieces, and what came of them.
use Rattle.std.proofs.Common.{arith}
use Rattle.std.proofs.Common.{◌≡◌, List, [], ◌∷◌, ◌++◌, map, All, IfOk, Result, Ok, Err, sym, ap}
use Rattle.std.proofs.Common.{◌∙◌, subst, append_assoc}
use Rattle.std.proofs.lemmas.List.{map-append}
use Rattle.std.proofs.lemmas.List.Elements.{All-nil, All-cons, All-head, All-tail}
use Rattle.std.specs.List.{AllZip}
use Rattle.std.specs.Global.{Vec}
use Rattle.srm_net.specs.Network.{Network}
use Rattle.srm_scenario.specs.Plain.{PlainScenario}
use Rattle.srm_member.specs.Record.{Record}
use Rattle.srm_member.specs.declared.row.Row.{Row}
use Rattle.srm_cell.specs.declared.cell.Cell.{Cell}
use Rattle.srm_cell.specs.declared.fault.CellFault.{CellFault}
use Rattle.srm_cell.specs.declared.sent.Sent.{Sent}
use Rattle.srm_cell.specs.Setting.{traffic_of}
use Rattle.srm_cell.specs.Hearing.{IsSent, packets_in, EachHearsAll}
use Rattle.srm_crew.specs.declared.piece.Piece.{Piece}
use Rattle.srm_crew.specs.declared.piece.Piece.TheVariants.{Jobs, Hearers}
use Rattle.srm_crew.specs.declared.worked.Worked.{Worked}
use Rattle.srm_crew.specs.declared.worked.Worked.TheVariants.{Advanced, Heard}
use Rattle.srm_interfaces.specs.declared.watched.WatchedJob.{WatchedJob}
use Rattle.srm_interfaces.specs.declared.watched.WatchedDone.{WatchedDone}
use Rattle.srm_interfaces.specs.Hearers.{GroupsMayHear, GroupsHear}
use Rattle.srm_interfaces.specs.Watches.{AdvanceWatched}
use Rattle.srm_crew.specs.Watched.{MayWatch}
use Rattle.srm_crew.specs.Pieces.{MayWork, ComesOfPiece, IsJobsOf, AreHearersOf, IsAdvanced, IsAdvancedAs, IsHeard, HeardTogether}
use Rattle.srm_net.proofs.Basics.{zip_append}
use Rattle.srm_interfaces.proofs.InPieces.{all_in}
use Rattle.srm_crew.proofs.JobPieces.{all_in_more}

module _ {M K : Type 0} (f : M → Record) (takes : List K → List (List Row) → List K → Type 0) (k : PlainScenario) (net : Network) where
  -- ---- jobs

  pub jobs_may : (pieces : List (Vec (WatchedJob M K))) (given : List (Piece M K)) → AllZip (λ js p. IsJobsOf js p) pieces given
      → All (λ (js : Vec (WatchedJob M K)). MayWatch f net js.items) pieces
      → All (λ p. MayWork f k net p) given
  jobs_may [] [] z h = All-nil (λ p. MayWork f k net p)
  jobs_may [] (p ∷ ps) z h = absurd z
  jobs_may (js ∷ pieces) [] z h = absurd z
  jobs_may (js ∷ pieces) (p ∷ ps) z h =
      All-cons (λ p. MayWork f k net p) p ps
      (subst (λ p. MayWork f k net p) (sym z.0)
      (All-head (λ (js : Vec (WatchedJob M K)). MayWatch f net js.items) js pieces h))
      (jobs_may pieces ps z.1 (All-tail (λ (js : Vec (WatchedJob M K)). MayWatch f net js.items) js pieces h))

  advanced_is : (js : Vec (WatchedJob M K)) (w : Worked M K) → ComesOfPiece f takes k net (Jobs js) w → IsAdvanced w
  advanced_is js (Advanced r) g = tt
  advanced_is js (Heard r) g = absurd g

  pub jobs_advanced : (pieces : List (Vec (WatchedJob M K))) (given : List (Piece M K)) (all : List (Worked M K))
      → AllZip (λ js p. IsJobsOf js p) pieces given → AllZip (λ p w. ComesOfPiece f takes k net p w) given all → All (λ w. IsAdvanced w) all
  jobs_advanced [] [] [] z g = All-nil (λ w. IsAdvanced w)
  jobs_advanced [] [] (w ∷ ws) z g = absurd g
  jobs_advanced [] (p ∷ ps) all z g = absurd z
  jobs_advanced (js ∷ pieces) [] all z g = absurd z
  jobs_advanced (js ∷ pieces) (p ∷ ps) [] z g = absurd g
  jobs_advanced (js ∷ pieces) (p ∷ ps) (w ∷ ws) z g =
      All-cons (λ w. IsAdvanced w) w ws (advanced_is js w (subst (λ q. ComesOfPiece f takes k net q w) z.0 g.0))
      (jobs_advanced pieces ps ws z.1 g.1)

  pub jobs_gave : (pieces : List (Vec (WatchedJob M K))) (given : List (Piece M K)) (all : List (Worked M K))
      (rs : List (Result (Vec (WatchedDone M K)) CellFault))
      → AllZip (λ js p. IsJobsOf js p) pieces given → AllZip (λ p w. ComesOfPiece f takes k net p w) given all
      → AllZip (λ w r. IsAdvancedAs r w) all rs
      → AllZip (λ (js : Vec (WatchedJob M K)) r. AdvanceWatched f takes k net js.items r) pieces rs
  jobs_gave [] [] [] [] z g r = tt
  jobs_gave [] [] [] (x ∷ rs) z g r = absurd r
  jobs_gave [] [] (w ∷ ws) rs z g r = absurd g
  jobs_gave [] (p ∷ ps) all rs z g r = absurd z
  jobs_gave (js ∷ pieces) [] all rs z g r = absurd z
  jobs_gave (js ∷ pieces) (p ∷ ps) [] rs z g r = absurd g
  jobs_gave (js ∷ pieces) (p ∷ ps) (w ∷ ws) [] z g r = absurd r
  jobs_gave (js ∷ pieces) (p ∷ ps) (w ∷ ws) (x ∷ rs) z g r = (
    subst (λ v. ComesOfPiece f takes k net (Jobs js) v) r.0 (subst (λ q. ComesOfPiece f takes k net q w) z.0 g.0),
    jobs_gave pieces ps ws rs z.1 g.1 r.1,
  )

  -- ---- hearers

  module _ (xs : List Sent) where
    may_hear : (gs : Vec (Vec (Cell M))) (p : Piece M K) → AreHearersOf xs gs p → All (λ x. IsSent k net x) xs
        → GroupsMayHear f (traffic_of k net) (packets_in xs) gs.items → MayWork f k net p
    may_hear gs (Jobs js) is s h = absurd is
    may_hear gs (Hearers sent own) is s h = (
      subst (λ l. All (λ x. IsSent k net x) l) (sym is.0) s,
      subst (λ l. GroupsMayHear f (traffic_of k net) (packets_in l) own.items) (sym is.0)
          (subst (λ (v : Vec (Vec (Cell M))). GroupsMayHear f (traffic_of k net) (packets_in xs) v.items) (sym is.1) h),
    )

    abbrev MayEach : Vec (Vec (Cell M)) → Type 0
    MayEach gs = GroupsMayHear f (traffic_of k net) (packets_in xs) gs.items

    pub hearers_may : (pieces : List (Vec (Vec (Cell M)))) (given : List (Piece M K)) → AllZip (λ gs p. AreHearersOf xs gs p) pieces given
        → All (λ x. IsSent k net x) xs → All (λ gs. MayEach gs) pieces → All (λ p. MayWork f k net p) given
    hearers_may [] [] z s h = All-nil (λ p. MayWork f k net p)
    hearers_may [] (p ∷ ps) z s h = absurd z
    hearers_may (gs ∷ pieces) [] z s h = absurd z
    hearers_may (gs ∷ pieces) (p ∷ ps) z s h =
        All-cons (λ p. MayWork f k net p) p ps (may_hear gs p z.0 s (All-head (λ gs. MayEach gs) gs pieces h))
        (hearers_may pieces ps z.1 s (All-tail (λ gs. MayEach gs) gs pieces h))

    heard_is : (gs : Vec (Vec (Cell M))) (p : Piece M K) (w : Worked M K) → AreHearersOf xs gs p → ComesOfPiece f takes k net p w
        → IsHeard w
    heard_is gs p w is g = grind arith

    pub hearers_heard : (pieces : List (Vec (Vec (Cell M)))) (given : List (Piece M K)) (all : List (Worked M K))
        → AllZip (λ gs p. AreHearersOf xs gs p) pieces given → AllZip (λ p w. ComesOfPiece f takes k net p w) given all
        → All (λ w. IsHeard w) all
    hearers_heard [] [] [] z g = All-nil (λ w. IsHeard w)
    hearers_heard [] [] (w ∷ ws) z g = absurd g
    hearers_heard [] (p ∷ ps) all z g = absurd z
    hearers_heard (gs ∷ pieces) [] all z g = absurd z
    hearers_heard (gs ∷ pieces) (p ∷ ps) [] z g = absurd g
    hearers_heard (gs ∷ pieces) (p ∷ ps) (w ∷ ws) z g =
        All-cons (λ w. IsHeard w) w ws (heard_is gs p w z.0 g.0) (hearers_heard pieces ps ws z.1 g.1)

    one_heard : (gs v : Vec (Vec (Cell M))) (p : Piece M K) → AreHearersOf xs gs p → ComesOfPiece f takes k net p (Heard (Ok v))
        → GroupsHear f (traffic_of k net) (packets_in xs) gs.items v.items
    one_heard gs v p is g = grind arith

    all_heard : (pieces : List (Vec (Vec (Cell M)))) (given : List (Piece M K)) (own : List (Vec (Vec (Cell M))))
        → AllZip (λ gs p. AreHearersOf xs gs p) pieces given
        → AllZip (λ p w. ComesOfPiece f takes k net p w) given (map (λ v. Heard (Ok v)) own)
        → GroupsHear f (traffic_of k net) (packets_in xs) (all_in pieces) (all_in own)
    all_heard [] [] [] z g = tt
    all_heard [] [] (v ∷ own) z g = absurd g
    all_heard [] (p ∷ ps) own z g = absurd z
    all_heard (gs ∷ pieces) [] own z g = absurd z
    all_heard (gs ∷ pieces) (p ∷ ps) [] z g = absurd g
    all_heard (gs ∷ pieces) (p ∷ ps) (v ∷ own) z g =
        zip_append (λ (a b : Vec (Cell M)). EachHearsAll f (traffic_of k net) (packets_in xs) a.items b.items) gs.items v.items
        (all_in pieces) (all_in own) (one_heard gs v p z.0 g.0) (all_heard pieces ps own z.1 g.1)

    -- groups whose pieces heard, and then were put together, heard
    pub hearers_gave : (pieces : List (Vec (Vec (Cell M)))) (given : List (Piece M K)) (all : List (Worked M K))
        (heard : List (Vec (Cell M)))
        → AllZip (λ gs p. AreHearersOf xs gs p) pieces given → AllZip (λ p w. ComesOfPiece f takes k net p w) given all
        → HeardTogether all heard
        → GroupsHear f (traffic_of k net) (packets_in xs) (all_in pieces) heard
    hearers_gave pieces given all heard z g h = grind (arith, all_heard)

-- what holds of a value holds so too
pub if_ok_then : {A E : Type 0} (P Q : A → Type 0) → ((x : A) → P x → Q x) → (r : Result A E) → IfOk r P → IfOk r Q
if_ok_then P Q h (Ok x) p = h x p
if_ok_then P Q h (Err e) p = tt

-- ---- what is put together

module _ {M K : Type 0} where
  -- what was put together of these, and what is left
  abbrev pub HeardSoFar : List (Vec (Cell M)) → List (Worked M K) → List (Worked M K) → Type 0
  HeardSoFar heard left ws =
      (own : List (Vec (Vec (Cell M)))) × (map (λ v. Heard (Ok v)) own ++ left ≡ ws) × (heard ≡ all_in own)

  pub heard_more : (heard new : List (Vec (Cell M))) (w : Worked M K) (left ws : List (Worked M K)) (v : Vec (Vec (Cell M)))
      → HeardSoFar heard (w ∷ left) ws → w ≡ Heard (Ok v) → new ≡ heard ++ v.items → HeardSoFar new left ws
  heard_more heard new w left ws v h is e =
      let longer = ap (λ xs. xs ++ left) (map-append (λ v. Heard (Ok v)) h.0 (v ∷ [])) in
      let split = append_assoc (map (λ v. Heard (Ok v)) h.0) (Heard (Ok v) ∷ []) left in (
        h.0 ++ v ∷ [],
        longer ∙ split ∙ ap (λ x. map (λ v. Heard (Ok v)) h.0 ++ x ∷ left) (sym is) ∙ h.1,
        e ∙ ap (λ l. l ++ v.items) h.2 ∙ sym (all_in_more h.0 v),
      )
