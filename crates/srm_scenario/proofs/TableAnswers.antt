-- The answer for a table, from what it lists.
use Rattle.std.proofs.Common.{arith}
use Rattle.std.proofs.Common.{◌≡◌, ◌⊎◌, List, [], ◌∷◌, ◌++◌, Some, Result, Ok, Err, codes, refl, sym, ap, subst, ◌∙◌, inl}
use Rattle.std.proofs.Common.{inr}
use Rattle.std.specs.Prelude.{IfOk, IfErr}
use Rattle.toml.specs.Data.{Members}
use Rattle.srm_scenario.specs.declared.fault.ScenarioFault.{ScenarioFault}
use Rattle.srm_scenario.specs.declared.fault.ScenarioFault.TheVariants.{NoMemory}
use Rattle.srm_scenario.specs.declared.draft.Draft.{Draft}
use Rattle.srm_scenario.specs.Accepted.{IsAccepted}
use Rattle.srm_scenario.specs.Described.{array_at, number, listed_drops, described_scenario, topology_of}
use Rattle.srm_scenario.specs.Faults.{first, IsFault, is_star, entries_in, key_faults, meaning_faults, faults_of}
use Rattle.srm_scenario.specs.Faults.{answer, scenario_of_table}
use Rattle.srm_scenario.specs.Drafts.{IsDraft, plain_of, faults_in}
use Rattle.srm_scenario.specs.Plain.{PlainScenario}
use Rattle.srm_scenario.proofs.Acceptance.{empty_parts, accepted_from}
use Rattle.srm_scenario.proofs.FaultLists.{first-left}
use Rattle.srm_scenario.proofs.InRanges.{described_is, described_range, described_pages}
use Rattle.srm_scenario.proofs.Repetition.{stand_for_members}

answer-first : (fs : List ScenarioFault) (s : PlainScenario) (e : ScenarioFault) → first fs ≡ Some e → answer fs s ≡ Err e
answer-first [] s e h = cc
answer-first (f ∷ fs) s e h = let same : f ≡ e = cc in ap Err same

-- the faults of meaning are those of what is listed
faults_same : (ms : Members) (l : Draft) → IsDraft ms l
    → meaning_faults (described_scenario ms) (is_star (topology_of ms))
    (entries_in ms) (listed_drops ms)
    ≡ faults_in l
faults_same ms l h = λ i. meaning_faults (described_is ms l h i) (is_star (h.topology i)) (h.members i) (h.drops i)

all_faults : (ms : Members) (l : Draft) → IsDraft ms l → faults_of ms ≡ faults_in l
unfolding faults_of
all_faults ms l h = (λ i. h.no_fault i ++ faults_same ms l h i)

accepted : (ms : Members) (l : Draft) → IsDraft ms l → faults_in l ≡ [] → scenario_of_table ms ≡ Ok (plain_of l)
unfolding scenario_of_table
accepted ms l h none = (λ i. answer (all_faults ms l h i) (described_is ms l h i)) ∙ ap (λ fs. answer fs (plain_of l)) none

pub answer_ok : (ms : Members) (l : Draft) (r : Result PlainScenario ScenarioFault) → IsDraft ms l → IfOk r (λ _. faults_in l ≡ [])
    → IfOk r (λ s. s ≡ plain_of l)
    → IfOk r (λ s. scenario_of_table ms ≡ Ok s)
answer_ok ms l (Ok s) h none plain = accepted ms l h none ∙ ap Ok (sym plain)
answer_ok ms l (Err e) h none plain = tt

pub key_answer : (ms : Members) (e : ScenarioFault) → IsFault e (key_faults ms) → (e ≡ NoMemory) ⊎ (scenario_of_table ms ≡ Err e)
unfolding scenario_of_table faults_of
key_answer ms e (inl memory) = inl memory
key_answer ms e (inr h) = inr (answer-first (faults_of ms) (described_scenario ms) e (first-left (key_faults ms) _ e h))

pub answer_err : (ms : Members) (l : Draft) (r : Result PlainScenario ScenarioFault) → IsDraft ms l
    → IfErr r (λ e. IsFault e (faults_in l))
    → IfErr r (λ e. (e ≡ NoMemory) ⊎ (scenario_of_table ms ≡ Err e))
unfolding scenario_of_table
answer_err ms l r h f = grind (arith, all_faults)

-- ---- what a table is answered with is accepted

none_told : (fs : List ScenarioFault) (s p : PlainScenario) → answer fs s ≡ Ok p → (fs ≡ []) × (s ≡ p)
none_told [] s p h = let same : s ≡ p = cc in (refl, same)
none_told (f ∷ fs) s p h = cc

pub table_accepted : (ms : Members) (p : PlainScenario) → scenario_of_table ms ≡ Ok p → IsAccepted p
unfolding scenario_of_table faults_of described_scenario
table_accepted ms p h =
    let (none, same) = none_told (faults_of ms) (described_scenario ms) p h in
    let (keys, meant) = empty_parts (key_faults ms) _ none in
    subst IsAccepted same
    (accepted_from (described_scenario ms) (is_star (topology_of ms)) (entries_in ms)
    (listed_drops ms) (described_range ms keys) (described_pages ms keys)
    (sym (stand_for_members (number (codes "scope") ms) (array_at (codes "member") ms))) refl
    meant)
