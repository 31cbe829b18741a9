-- What work on each job gives, put together.
use Rattle.std.proofs.Common.{◌≡◌, ◌<◌, ℕ, zero, suc, List, [], ◌∷◌, length, get_or, map, Result, Ok, Err, subst, inl, inr, arith}
use Rattle.std.specs.Prelude.{MatchResult}
use Rattle.std.specs.List.{AllZip, Contains}
use Rattle.std.specs.Global.{Vec}
use Rattle.srm_net.specs.Network.{Network}
use Rattle.srm_scenario.specs.Plain.{PlainScenario}
use Rattle.srm_member.specs.Record.{Record}
use Rattle.srm_cell.specs.declared.job.Job.{Job}
use Rattle.srm_cell.specs.declared.job.Done as job
use Rattle.srm_cell.specs.declared.fault.CellFault.{CellFault}
use Rattle.srm_cell.specs.declared.fault.CellFault.TheVariants as cell
use Rattle.srm_cell.specs.Jobs.{Advances, FirstEnds, TellsFault, own_cells}
use Rattle.srm_interfaces.specs.Crews.{AnyEnds, GathersEach, AdvanceEach, plain_jobs}
use Rattle.srm_cell.specs.Cells.{StepOutcome, Stepped, Spent, Full}

module _ {J D : Type 0} (R : J → Result D CellFault → Type 0) where
  all_gave : (js : List J) (ds : List D) → AllZip R js (map Ok ds) → AllZip (λ j d. R j (Ok d)) js ds
  all_gave [] [] z = tt
  all_gave [] (d ∷ ds) z = absurd z
  all_gave (j ∷ js) [] z = absurd z
  all_gave (j ∷ js) (d ∷ ds) z = (z.0, all_gave js ds z.1)

  pub gathered : (js : List J) (rs : List (Result D CellFault)) (r : Result (Vec D) CellFault) → AllZip R js rs
      → MatchResult r (λ v. (ys : List D) × (rs ≡ map Ok ys) × (v.items ≡ ys)) (λ e. Contains rs (Err e)) → GathersEach R js r
  gathered js rs r z m = grind (arith, all_gave)

module _ {M : Type 0} (f : M → Record) (k : PlainScenario) (net : Network) where
  any_told : (js : List (Job M)) (rs : List (Result (job.Done M) CellFault)) (e : CellFault) (o : StepOutcome Stepped)
      → ((j : Job M) → TellsFault j.till (own_cells f j.cells.items) e → FirstEnds o j.till (own_cells f j.cells.items))
      → AllZip (λ j r. Advances f k net j r) js rs → (i : ℕ) → i < length rs → get_or rs i (Err e) ≡ Err e
      → AnyEnds o (plain_jobs f js)
  any_told [] [] e o so z i lt g = absurd (omega arith)
  any_told [] (r ∷ rs) e o so z i lt g = absurd z
  any_told (j ∷ js) [] e o so z i lt g = absurd z
  any_told (j ∷ js) (r ∷ rs) e o so z zero lt g = inl (so j (subst (Advances f k net j) g z.0))
  any_told (j ∷ js) (r ∷ rs) e o so z (suc i) lt g = inr (any_told js rs e o so z.1 i (omega arith) g)

  pub each_advanced : (js : List (Job M)) (r : Result (Vec (job.Done M)) CellFault) → GathersEach (λ j r. Advances f k net j r) js r
      → AdvanceEach f k net js r
  each_advanced js (Ok v) g = g
  each_advanced js (Err cell.NoMemory) g = tt
  each_advanced js (Err cell.Spent) g = any_told js g.0 cell.Spent Spent (λ j t. t) g.1 g.2.0 g.2.1 g.2.2
  each_advanced js (Err cell.CountFull) g = any_told js g.0 cell.CountFull Full (λ j t. t) g.1 g.2.0 g.2.1 g.2.2
