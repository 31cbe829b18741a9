-- What holds of local recovery.
use Rattle.std.specs.Prelude.{◌≡◌, ◌≢◌, ◌⊎◌, ℕ, ◌+◌, ◌<◌, ◌≤◌, ◌==◌, true, false, [], Option, Some, None}
use Rattle.std.specs.Option.{option_map}
use Rattle.std.specs.FinMap.Entries.{find}
use Rattle.srm_net.specs.declared.packet.Name.{Name}
use Rattle.srm_net.specs.declared.packet.Body.{Body}
use Rattle.srm_net.specs.Names.{name_cmp}
use Rattle.srm_net.specs.Roles.{is_listener}
use Rattle.srm_net.specs.declared.rank.Rank.{Rank}
use Rattle.srm_net.specs.declared.rank.Rank.TheVariants.{Request as asks, Repair as answers}
use Rattle.srm_net.specs.Scopes.{scope_of}
use Rattle.srm_member.specs.declared.cause.Cause.{Cause}
use Rattle.srm_member.specs.declared.cause.Cause.TheVariants.{Arrival, Ask, Answer}
use Rattle.srm_member.specs.declared.fixed.Fixed.{Fixed}
use Rattle.srm_member.specs.declared.steps.Steps.{Steps}
use Rattle.srm_member.specs.declared.steps.Steps.TheVariants.{One, Two}
use Rattle.srm_member.specs.declared.told.Told.TheVariants.{Busy}
use Rattle.srm_member.specs.LocalRecovery.{hops_to, scope_of_request, scope_of_repair, mark_from, serves}
use Rattle.srm_member.specs.LocalRecovery.{is_second_step}
use Rattle.srm_member.specs.Record.{MemberState, Repairing, opening_state}
use Rattle.srm_member.specs.React.{react, has_entry}
use Rattle.srm_member.specs.Pending.{expiry_of}

-- ---- without scopes

-- nothing that a member knows is local: its requests have no scope, no rest has a mark, and each repair timer answers a
-- request of another member that went to all
pub record IsWide (m : MemberState) : Type 0 where
  pub scope : m.fixed.scope ≡ 0
  pub marks : m.marks ≡ []
  pub timers : (n : Name) (r : Repairing) → find name_cmp n m.repairs ≡ Some r
      → (r.width ≡ None) × (is_second_step m.fixed r ≡ false)

-- a packet that arrives has no scope, and is not the member's own
abbrev pub BringsNoScope : Fixed → Cause → Type 0
BringsNoScope f (Arrival p) = (scope_of p.body ≡ None) × ((p.id.sender == f.member) ≡ false)
BringsNoScope f cause = Unit {0}

-- what is sent, if anything is, has no scope
abbrev pub GoesToAll : Option Body → Type 0
GoesToAll None = Unit {0}
GoesToAll (Some b) = scope_of b ≡ None

-- a member whose requests have no scope begins so
abbrev pub MembersBeginWide : Type 0
MembersBeginWide = (f : Fixed) → f.scope ≡ 0 → IsWide (opening_state f)

-- without scopes nothing becomes local, and nothing that is sent has a scope
abbrev pub MembersStayWide : Type 0
MembersStayWide =
    (m : MemberState) (at : ℕ) (cause : Cause) → IsWide m → BringsNoScope m.fixed cause
    → IsWide (react m at cause).state × GoesToAll (react m at cause).answer.body

-- a member with another widen, other tries and other steps
abbrev pub with_widening : ℕ → ℕ → Steps → MemberState → MemberState
with_widening widen tries steps m = record m {
  fixed = record m.fixed { widen = widen; tries = tries; steps = steps };
}

-- without scopes widen, tries and steps decide nothing
abbrev pub WideningDecidesNothing : Type 0
WideningDecidesNothing =
    (m : MemberState) (at : ℕ) (cause : Cause) (widen tries : ℕ) (steps : Steps)
    → IsWide m → BringsNoScope m.fixed cause
    → let r = react m at cause in
    react (with_widening widen tries steps m) at cause ≡ record r { state = with_widening widen tries steps r.state }

-- ---- requests end with no scope

-- a request with ten backoffs has no scope
abbrev pub TenBackoffsGoToAll : Type 0
TenBackoffsGoToAll = (f : Fixed) → f.tries ≤ 10 → scope_of_request f 10 ≡ None

-- ---- who is reached

-- numbers that hops may be, of so many members: alike from either end, and no way is longer than one over another
-- member
pub record AreHops (members : ℕ) (h : ℕ → ℕ → ℕ) : Type 0 where
  pub either_way : (a b : ℕ) → a < members → b < members → h a b ≡ h b a
  pub over : (a b c : ℕ) → a < members → b < members → c < members → h a c ≤ h a b + h b c

-- one of these members, which knows its hops to each of them
pub record KnowsHops (members : ℕ) (h : ℕ → ℕ → ℕ) (f : Fixed) : Type 0 where
  pub member : f.member < members
  pub hops : (other : ℕ) → other < members → hops_to f other ≡ h f.member other

-- who heard a request of width w by r is within the repair of any member that answers it in one step
abbrev pub WhoHeardIsReached : Type 0
WhoHeardIsReached =
    (members : ℕ) (h : ℕ → ℕ → ℕ) → AreHops members h → (f : Fixed) → KnowsHops members h f
    → (r m w : ℕ) → r < members → m < members → h r m ≤ w → h f.member m ≤ scope_of_repair f One r w

-- y is reached by a repair of x for a request of width v by q: it is within the repair, or, in two steps, q is, and y
-- is within the second step
abbrev pub IsReached : (ℕ → ℕ → ℕ) → Fixed → ℕ → ℕ → ℕ → Type 0
IsReached h x q v y =
    let g = scope_of_repair x x.steps q v in
    (h x.member y ≤ g) ⊎ ((x.steps ≡ Two) × (h x.member q ≤ g) × (h q y ≤ v))

-- serving is sound: let x, which heard it, answer a request of width v by q. Where its repair reaches m, and serves a
-- request of width w by r there, all that heard that request are reached
abbrev pub ServingIsSound : Type 0
ServingIsSound =
    (members : ℕ) (h : ℕ → ℕ → ℕ) → AreHops members h
    → (x m : Fixed) → KnowsHops members h x → KnowsHops members h m
    → (q v r w y : ℕ) → q < members → r < members → y < members → h x.member q ≤ v
    → let g = scope_of_repair x x.steps q v in h x.member m.member ≤ g
    → serves m (mark_from m x.member (Some (record { scope = g; requester = q; width = v }))) r (Some w) ≡ true
    → h r y ≤ w → IsReached h x q v y

-- ---- timers

-- when the timer of this rank and name expires, if the member has one
abbrev pub expiry_in : MemberState → Rank → Name → Option ℕ
expiry_in m rank n = expiry_of m.missing m.repairs rank n

-- when the repair timer of this name was set, if the member has one
abbrev pub set_in : MemberState → Name → Option ℕ
set_in m n = option_map (λ (r : Repairing). r.set) (find name_cmp n m.repairs)

-- a request that is told busy leaves every timer where it was
abbrev pub BusyMovesNoTimer : Type 0
BusyMovesNoTimer =
    (m : MemberState) (at : ℕ) (cause : Cause) → (react m at cause).answer.told ≡ Busy
    → let after = (react m at cause).state in
    ((rank : Rank) (n : Name) → expiry_in after rank n ≡ expiry_in m rank n)
    × ((n : Name) → set_in after n ≡ set_in m n)

-- a timer that expires is not kept: a request timer is set anew, for a later time, and a repair timer ends
abbrev pub TimersThatExpireEnd : Type 0
TimersThatExpireEnd =
    (m : MemberState) (at : ℕ) (n : Name) → is_listener m.fixed.role ≡ false
    → (expiry_in (react m at (Ask n)).state asks n ≢ Some at)
    × (expiry_in (react m at (Answer n)).state answers n ≡ None)

-- a repair timer is set only for a name that the member holds then. (Request timers are those of names that it lacks)
abbrev pub RepairTimersAreOfHeldNames : Type 0
RepairTimersAreOfHeldNames =
    (m : MemberState) (at : ℕ) (cause : Cause) (n : Name) → let after = (react m at cause).state in
    has_entry n after.repairs ≡ true → (has_entry n m.repairs ≡ true) ⊎ (has_entry n after.held ≡ true)
