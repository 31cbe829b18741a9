-- Members of the tests.
use Rattle.std.specs.Prelude.{ℕ, Bool, [], if◌then◌else◌}
use Rattle.srm_net.specs.declared.role.Role.{Role}
use Rattle.srm_net.specs.declared.role.Role.TheVariants.{Listener, Receiver}
use Rattle.srm_member.specs.declared.fixed.Fixed.{Fixed}
use Rattle.srm_member.specs.declared.backoff.BackoffFactor.TheVariants.{Two}
use Rattle.srm_member.specs.declared.steps.Steps.TheVariants.{One}
use Rattle.srm_member.specs.Intervals.{without_room}
use Rattle.srm_member.specs.Record.{Record, Active, Gone, opening_state}

-- the part that never changes of a member that knows no distance and wants no page
abbrev pub plain_fixed : Role → ℕ → Fixed
plain_fixed role m =
    let none = without_room 0 in
    record {
      member = m;
      role = role;
      backoff = Two;
      c1 = none;
      c2 = none;
      d1 = none;
      d2 = none;
      dist = [];
      hops = [];
      scope = 0;
      widen = 0;
      tries = 1;
      steps = One;
      pages = [];
      seed = 0;
      stream = 0;
    }

-- the record, by whether it is gone, of a member that joins no recovery and counts the drops of its box
abbrev pub probe_record : ℕ → Bool → Record
probe_record m gone = if gone then Gone (plain_fixed Listener m) else Active (opening_state (plain_fixed Listener m))

-- the record, by whether it is gone, of a member that has heard of no page and sends its reports
abbrev pub reporter_record : ℕ → Bool → Record
reporter_record m gone =
    if gone then Gone (plain_fixed Receiver m) else Active (opening_state (plain_fixed Receiver m))
