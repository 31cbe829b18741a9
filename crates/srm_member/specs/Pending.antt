-- A member's timers, and an index of them by time.
use Rattle.std.specs.Prelude.{◌≡◌, ℕ, Bool, true, false, List, [], map, ◌++◌, Option, Some, None, ◌==◌}
use Rattle.std.specs.Prelude.{T}
use Rattle.std.specs.List.{list_any}
use Rattle.std.specs.Option.{option_map}
use Rattle.std.specs.Ordering.{eq_by_cmp, is_gt, is_lt}
use Rattle.std.specs.FinMap.Entries.{find, is_sorted}
use Rattle.srm_net.specs.declared.packet.Name.{Name}
use Rattle.srm_net.specs.declared.rank.Rank.{Rank}
use Rattle.srm_net.specs.declared.rank.Rank.TheVariants.{Request, Repair}
use Rattle.srm_net.specs.Names.{name_cmp}
use Rattle.srm_member.specs.declared.due.Due.{Due}
use Rattle.srm_member.specs.Record.{Missing, Repairing, due_cmp}

-- the request timer of a missing name
abbrev pub request_timer : Name → Missing → Due
request_timer n e = record { time = e.expiry; rank = Request; name = n }

-- the repair timer of a name
abbrev pub repair_timer : Name → Repairing → Due
repair_timer n e = record { time = e.expiry; rank = Repair; name = n }

abbrev pub pending_timers : List (Name × Missing) → List (Name × Repairing) → List Due
pending_timers missing repairs =
    map (λ e. record { time = e.1.expiry; rank = Request; name = e.0 }) missing
    ++ map (λ e. record { time = e.1.expiry; rank = Repair; name = e.0 }) repairs

-- when the timer of this rank and name expires, if it is pending
abbrev pub expiry_of : List (Name × Missing) → List (Name × Repairing) → Rank → Name → Option ℕ
expiry_of missing repairs Request n = option_map (λ (e : Missing). e.expiry) (find name_cmp n missing)
expiry_of missing repairs Repair n = option_map (λ (e : Repairing). e.expiry) (find name_cmp n repairs)
expiry_of missing repairs _ n = None

-- whether a timer that expires at this time, if it is pending, is one of this time
abbrev pub is_at_time : ℕ → Option ℕ → Bool
is_at_time t None = false
is_at_time t (Some x) = x == t

-- the names of the entries rise
abbrev pub RisesByName : {V : Type 0} → List (Name × V) → Type 0
RisesByName es = T (is_sorted name_cmp es)

-- whether the index has a timer
abbrev pub has : List Due → Due → Bool
has index d = list_any (eq_by_cmp due_cmp d) index

-- the first timer of the index: it is there, and none is less; or there is none
abbrev pub IsFirst : List Due → Option Due → Type 0
IsFirst index None = index ≡ []
IsFirst index (Some d) = (has index d ≡ true) × ((e : Due) → has index e ≡ true → is_gt (due_cmp d e) ≡ false)

-- each of the other timers goes behind the first; without a first one there is no other
abbrev pub Leads : Option Due → List Due → Type 0
Leads None others = others ≡ []
Leads (Some d) others = (e : Due) → has others e ≡ true → is_lt (due_cmp d e) ≡ true

-- the keys of both tables rise, and the index has a timer exactly where it is pending
pub record IsIndexed (index : List Due) (missing : List (Name × Missing))
    (repairs : List (Name × Repairing)) : Type 0 where
  pub missing_rise : RisesByName missing
  pub repairs_rise : RisesByName repairs
  pub timers : (d : Due) → has index d ≡ is_at_time d.time (expiry_of missing repairs d.rank d.name)
