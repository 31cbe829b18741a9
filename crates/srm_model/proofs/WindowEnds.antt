-- Where windows begin and end.
use Rattle.std.proofs.Common.{◌≡◌, ℕ, ◌<◌, ◌≤◌, ◌+◌, true, false, List, [], ◌∷◌, refl, sym, ap, ◌∙◌, arith, Option, Some, None, unwrap_or}
use Rattle.std.proofs.Common.{nat_lt, ltb-false}
use Rattle.std.proofs.lemmas.Option.{same_Some}
use Rattle.srm_net.specs.Least.{least_delay}
use Rattle.srm_net.proofs.LawProofs.{least_delay_fits}
use Rattle.srm_scenario.specs.Plain.{PlainScenario, network_of}
use Rattle.srm_scenario.specs.Accepted.{IsAccepted}
use Rattle.srm_cell.specs.Setting.{Setting, setting_of}
use Rattle.srm_cell.specs.Cells.{PlainCell, Event, before, time_of}
use Rattle.srm_cell.proofs.CellLemmas.{keep}
use Rattle.srm_cell.proofs.CellSteps.{before_some, some_not_idle}
use Rattle.srm_model.specs.World.{World, least_event}
use Rattle.srm_model.specs.Schedules.{IsQuiet}
use Rattle.srm_model.specs.Windows.{IsWidth, promise_of, least_promise}
use Rattle.srm_model.specs.WindowChains.{IsNext, start_of, IsEndRule, width_rule}
use Rattle.srm_model.specs.WindowLaws.{WidthsAreRules, LeastIsARule, PromisesAreARule, StartsTell}
use Rattle.srm_model.proofs.Lookahead.{least_with_le, link_delays_are_safe, promise_ends_are_safe}
use Rattle.srm_model.proofs.RunLemmas.{least_own}

-- ---- beginnings

starts_by : (until : ℕ) (x : Option Event) → (unwrap_or (time_of x) until < until → (e : Event) × (before until x ≡ Some e)
    × (e.key.time ≡ unwrap_or (time_of x) until)) × (until ≤ unwrap_or (time_of x) until → before until x ≡ None)
starts_by until x = grind arith

pub starts_tell : StartsTell
starts_tell s w = starts_by s.traffic.until (least_event 0 w.cells)

pub start_is : (s : Setting) (w : World) (e : Event) → IsNext s w e → (start_of s w ≡ e.key.time) × (e.key.time < s.traffic.until)
start_is s w e h = let b = before_some s.traffic.until (least_event 0 w.cells) e h in
    (ap (λ x. unwrap_or (time_of x) s.traffic.until) b.0, b.1)

-- what is pending where nothing before an end is, is from there on
quiet_after : (s : Setting) (till : ℕ) (v : World) → IsQuiet till v → (x : Option Event) → least_event 0 v.cells ≡ x
    → till ≤ s.traffic.until → till ≤ unwrap_or (time_of x) s.traffic.until
quiet_after s till v quiet None h within = within
quiet_after s till v quiet (Some e) h within = elim (nat_lt e.key.time till) as (λ b. nat_lt e.key.time till ≡ b → till ≤ e.key.time) [
  | true ↦ λ q.
      let early : before till (least_event 0 v.cells) ≡ Some e = ap (before till) h ∙ ap (λ b. keep b e) q in
      absurd (some_not_idle e (sym (least_own till v.cells e early) ∙ quiet e.key.member))
  | false ↦ λ q. ltb-false _ _ q
] refl

pub starts_after : (s : Setting) (till : ℕ) (v : World) → IsQuiet till v → till ≤ s.traffic.until → till ≤ start_of s v
starts_after s till v quiet within = quiet_after s till v quiet (least_event 0 v.cells) refl within

-- ---- rules

width_is_rule : (p : PlainScenario) (seed width : ℕ) → IsAccepted p → 0 < width → IsWidth p width
    → IsEndRule (setting_of p seed) (width_rule (setting_of p seed) width)
width_is_rule p seed width accepted pos wide =
    let s = setting_of p seed in
    record {
      later = λ w e reached h. let a = start_is s w e h in omega (arith, a.0, a.1);
      within = λ w. omega arith;
      safe = λ w e reached h. link_delays_are_safe p seed accepted w e width (width_rule s width w) reached h wide
          (let a = start_is s w e h in omega (arith, a.0));
    }

pub widths_are_rules : WidthsAreRules
widths_are_rules p seed width accepted pos wide = width_is_rule p seed width accepted pos wide

pub least_is_a_rule : LeastIsARule
least_is_a_rule p seed accepted = elim (least_delay (network_of p)) as
    (λ o. least_delay (network_of p) ≡ o → IsEndRule (setting_of p seed) (width_rule (setting_of p seed) (unwrap_or o p.until))) [
      | None ↦ λ e. width_is_rule p seed p.until accepted accepted.some_ticks (λ d h. let x : None ≡ Some d = sym e ∙ h in cc)
      | Some d ↦ λ e. width_is_rule p seed d accepted (least_delay_fits (network_of p) accepted.network d e).0
          (λ k h. let x = same_Some d k (sym e ∙ h) in omega arith)
    ] refl

pub promise_within : (s : Setting) (i : ℕ) (cs : List PlainCell) → least_promise s i cs ≤ s.traffic.until
promise_within s i [] = omega arith
promise_within s i (c ∷ cs) = let a = least_with_le (least_promise s (i + 1) cs) (promise_of s i c) in
    let b = promise_within s (i + 1) cs in omega arith

pub promises_are_a_rule : PromisesAreARule
promises_are_a_rule s fit = record {
  later = λ w e reached h. (promise_ends_are_safe s w fit reached).1 e h;
  within = λ w. promise_within s 0 w.cells;
  safe = λ w e reached h. (promise_ends_are_safe s w fit reached).0;
}
