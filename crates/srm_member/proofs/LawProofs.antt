-- What holds of every member.
use Rattle.std.proofs.Common.{arith}
use Rattle.std.proofs.Common.{◌≡◌, ◌⊎◌, inl, inr, ℕ, ◌<◌, true, false, cond, refl, ap, sym, ◌∙◌, None, Contains}
use Rattle.std.proofs.lemmas.List.Elements.{All-contains, All-contains_itself}
use Rattle.srm_member.specs.declared.cause.Cause.{Cause}
use Rattle.srm_member.specs.declared.due.Due.{Due}
use Rattle.srm_member.specs.Record.{Active, Gone, MemberState, timers_of}
use Rattle.srm_net.specs.Roles.{is_listener}
use Rattle.srm_member.specs.React.{Reaction, react_listener, react, telling_intervals, intervals_of, react_active}
use Rattle.srm_member.specs.Laws.{FixedPartStays, TimersAreLater, ListenersSendNothing, AnswersAreOne}
use Rattle.srm_member.proofs.AllIn.{AllIn, AllIn-places, AllIn-at_places}
use Rattle.srm_member.proofs.Bounds.{kept_state, kept_react}

-- ---- the fixed part

pub same_fixed : FixedPartStays
same_fixed m at cause = (kept_state m.fixed (λ es. Unit {0}) (λ es. Unit {0}) at (λ n v es lt h. tt) (λ n es h. tt) (λ n v es lt h. tt)
    (λ n es h. tt) (λ n v w es e same h. tt) m cause (record { same = refl; asks = tt; answers = tt })).same

-- ---- timers

pub timers_are_later : TimersAreLater
timers_are_later m at cause d h =
    let Q : Due → Type 0 = λ x. (at < x.time) ⊎ Contains (timers_of m) x in
    let were : AllIn Q (timers_of m) = AllIn-at_places Q (timers_of m) (λ k x lt. inr (All-contains_itself (timers_of m) k x lt)) in
    All-contains Q (timers_of (react m at cause).state) d (AllIn-places Q _ (kept_react Q at (λ x lt. inl lt) m cause were)) h

-- ---- listeners

pub as_listener : (m : MemberState) (at : ℕ) (cause : Cause) → is_listener m.fixed.role ≡ true → react m at cause ≡ react_listener m cause
unfolding react
as_listener m at cause h = ap (λ b. cond b (react_listener m cause) (telling_intervals cause (intervals_of m) (react_active m at cause))) h

pub as_active : (m : MemberState) (at : ℕ) (cause : Cause) → is_listener m.fixed.role ≡ false
    → react m at cause ≡ telling_intervals cause (intervals_of m) (react_active m at cause)
unfolding react
as_active m at cause h = ap (λ b. cond b (react_listener m cause) (telling_intervals cause (intervals_of m) (react_active m at cause))) h

pub no_body : (m : MemberState) (cause : Cause) → (react_listener m cause).answer.body ≡ None
no_body m cause = grind arith

pub listeners_send_nothing : ListenersSendNothing
listeners_send_nothing m at cause role = ap (λ (r : Reaction). r.answer.body) (as_listener m at cause (ap is_listener role))
    ∙ no_body m cause

-- ---- answers

pub answers_are_one : AnswersAreOne
answers_are_one (Active m) at cause a b after later h g = (h.0 ∙ sym g.0, h.1 ∙ sym g.1)
answers_are_one (Gone f) at cause a b after later h g = absurd h
