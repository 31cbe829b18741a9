-- What holds of every member.
use Rattle.std.specs.Prelude.{◌≡◌, ◌⊎◌, ℕ, ◌<◌, None, Ok, Contains}
use Rattle.srm_net.specs.declared.role.Role.TheVariants.{Listener}
use Rattle.srm_member.specs.declared.cause.Cause.{Cause}
use Rattle.srm_member.specs.declared.due.Due.{Due}
use Rattle.srm_member.specs.declared.react.React.{React}
use Rattle.srm_member.specs.Record.{Record, MemberState, timers_of}
use Rattle.srm_member.specs.React.{react}
use Rattle.srm_member.specs.Reacts.{Reacts}

-- the fixed part stays
abbrev pub FixedPartStays : Type 0
FixedPartStays = (m : MemberState) (at : ℕ) (cause : Cause) → (react m at cause).state.fixed ≡ m.fixed

-- each timer that is set expires later than now
abbrev pub TimersAreLater : Type 0
TimersAreLater =
    (m : MemberState) (at : ℕ) (cause : Cause) (d : Due) → Contains (timers_of (react m at cause).state) d
    → (at < d.time) ⊎ Contains (timers_of m) d

-- a listener sends nothing
abbrev pub ListenersSendNothing : Type 0
ListenersSendNothing =
    (m : MemberState) (at : ℕ) (cause : Cause) → m.fixed.role ≡ Listener → (react m at cause).answer.body ≡ None

-- a cause has one answer, and leaves one record
abbrev pub AnswersAreOne : Type 0
AnswersAreOne =
    (r : Record) (at : ℕ) (cause : Cause) (a b : React) (after later : Record)
    → Reacts r at cause (Ok a) after → Reacts r at cause (Ok b) later → (a ≡ b) × (after ≡ later)
