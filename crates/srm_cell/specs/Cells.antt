-- One member's cell: its record, what is on the way to it, and the rest of its script. A cell's own step.
use Rattle.std.specs.Prelude.{◌≡◌, ◌≢◌, ℕ, ◌+◌, true, List, [], ◌∷◌, ◌++◌, map, Option, Some, None, nat_lt, ◌==◌}
use Rattle.std.specs.Prelude.{if◌then◌else◌}
use Rattle.std.specs.Ordering.{min_by_ordering}
use Rattle.srm_net.specs.declared.key.Key.{Key}
use Rattle.srm_net.specs.declared.packet.Name.{Name}
use Rattle.srm_net.specs.declared.packet.Body.{Body}
use Rattle.srm_net.specs.declared.packet.Body.TheVariants.{Drawop, Request, Repair, Session}
use Rattle.srm_net.specs.declared.rank.Rank.{Rank}
use Rattle.srm_net.specs.declared.rank.Rank.TheVariants as rank
use Rattle.srm_net.specs.declared.packet.Packet.{Packet}
use Rattle.srm_net.specs.Keys.{key_cmp}
use Rattle.srm_net.specs.Orders.{place}
use Rattle.srm_scenario.specs.declared.mark.Mark.{Mark}
use Rattle.srm_member.specs.declared.cause.Cause.{Cause}
use Rattle.srm_member.specs.declared.cause.Cause.TheVariants.{Join, Arrival, Ask, Answer, Draw, Report}
use Rattle.srm_member.specs.declared.told.Told.TheVariants.{Parted}
use Rattle.srm_member.specs.declared.row.Word.{Word}
use Rattle.srm_member.specs.declared.row.Word.TheVariants as word
use Rattle.srm_member.specs.declared.row.About.{About}
use Rattle.srm_member.specs.declared.row.About.TheVariants.{Nothing, Of, Named}
use Rattle.srm_member.specs.declared.row.Row.{Row}
use Rattle.srm_member.specs.declared.due.Due.{Due}
use Rattle.srm_member.specs.declared.exit.Exit.{Exit}
use Rattle.srm_member.specs.declared.react.React.{React}
use Rattle.srm_member.specs.Record.{Record, Active, Gone, MemberState, timers_of, earliest, exit_of, opening_state}
use Rattle.srm_member.specs.Record.{count_if}
use Rattle.srm_net.specs.Roles.{is_listener}
use Rattle.srm_member.specs.React.{Reaction, react, quietly}
use Rattle.srm_cell.specs.declared.flight.Flight.{Flight}
use Rattle.srm_cell.specs.Setting.{Traffic, Setting, arrival_of, cause_of_mark}
use Rattle.srm_cell.specs.Flights.{flight_cmp}
use Rattle.srm_net.specs.Limits.{most_sent}

-- ---- what a member knows

-- what the member of a record knows: nothing once it is gone
abbrev pub known_of : Record → Option MemberState
known_of (Active m) = Some m
known_of (Gone f) = None

-- its timers: none once it is gone
abbrev pub timers_in : Option MemberState → List Due
timers_in None = []
timers_in (Some m) = timers_of m

-- its next timer
abbrev pub due_in : Option MemberState → Option Due
due_in o = earliest (timers_in o)

-- how many of its timers expire at a tick
abbrev pub expiring_at : ℕ → Option MemberState → ℕ
expiring_at t o = count_if (λ d. d.time == t) (timers_in o)

-- ---- cells

-- what a member knows, or nothing once it is gone; how many packets it sent; the flights to it, in order; the rest of
-- its script; and its exit once it left. The part of a member that never changes is the setting's
pub record PlainCell : Type 0 where
  pub holds : Option MemberState
  pub sent : ℕ
  pub inbox : List Flight
  pub script : List Mark
  pub exit : Option Exit

-- a cell, and whose it is
pub record OwnCell : Type 0 where
  pub member : ℕ
  pub cell : PlainCell

-- member m's cell at the beginning of a run
abbrev pub opening_cell : Setting → ℕ → PlainCell
opening_cell s m = record {
  holds = Some (opening_state (s.fixed m));
  sent = 0;
  inbox = [];
  script = s.script m;
  exit = None;
}

-- a packet's flight to this cell's member, if it has one, joins the inbox
abbrev pub hear_at : Packet → Option ℕ → PlainCell → PlainCell
hear_at p None c = c
hear_at p (Some at) c = record c { inbox = place flight_cmp (record { arrival = at; packet = p }) c.inbox }

-- member m's cell after another member sent a packet
unfoldable pub hear : Traffic → Packet → ℕ → PlainCell → PlainCell
hear t p m c = hear_at p (arrival_of t p m) c

-- ---- pending events

-- an event that a cell has pending, and the cell without it. There is no cause at a leave
pub record Event : Type 0 where
  pub key : Key
  pub cause : Option Cause
  pub rest : PlainCell

-- the event with the lesser key, if there is any
abbrev pub earlier : Option Event → Option Event → Option Event
earlier None e = e
earlier (Some d) None = Some d
earlier (Some d) (Some e) = Some (min_by_ordering (key_cmp d.key e.key) d e)

-- the key of an arrival
abbrev pub arrival_key : ℕ → Flight → Key
arrival_key m f =
    record { time = f.arrival; member = m; rank = rank.Arrival; a = f.packet.id.sender; b = 0; c = f.packet.id.count }

-- the key of a mark
abbrev pub mark_key : ℕ → Mark → Key
mark_key m k = record { time = k.at; member = m; rank = k.rank; a = 0; b = 0; c = k.place }

-- the key of a timer
abbrev pub timer_key : ℕ → Due → Key
timer_key m d =
    record { time = d.time; member = m; rank = d.rank; a = d.name.source; b = d.name.page; c = d.name.number }

-- the keys of all that member m's cell has pending
abbrev pub pending_keys : ℕ → PlainCell → List Key
pending_keys m c = map (arrival_key m) c.inbox ++ (map (mark_key m) c.script ++ map (timer_key m) (timers_in c.holds))

-- the key is none of the list
abbrev pub DiffersFrom : Key → List Key → Type 0
DiffersFrom k [] = Unit {0}
DiffersFrom k (l ∷ ls) = (k ≢ l) × DiffersFrom k ls

-- no two keys of the list are equal
abbrev pub AllDiffer : List Key → Type 0
AllDiffer [] = Unit {0}
AllDiffer (k ∷ ks) = DiffersFrom k ks × AllDiffer ks

-- the first arrival
abbrev pub first_arrival : ℕ → PlainCell → List Flight → Option Event
first_arrival m c [] = None
first_arrival m c (f ∷ fs) = Some (record {
  key = arrival_key m f;
  cause = Some (Arrival f.packet);
  rest = record c { inbox = fs };
})

-- the first mark of the rest of the script
abbrev pub first_mark : ℕ → PlainCell → List Mark → Option Event
first_mark m c [] = None
first_mark m c (k ∷ ks) = Some (record {
  key = mark_key m k;
  cause = cause_of_mark k.rank k;
  rest = record c { script = ks };
})

-- a request timer asks for its name, and a repair timer answers
abbrev pub cause_of_timer : Rank → Name → Cause
cause_of_timer rank.Request n = Ask n
cause_of_timer _ n = Answer n

-- the record's next timer
abbrev pub next_timer : ℕ → PlainCell → Option Due → Option Event
next_timer m c None = None
next_timer m c (Some d) = Some (record {
  key = timer_key m d;
  cause = Some (cause_of_timer d.rank d.name);
  rest = c;
})

-- a cell's least own pending event
unfoldable pub next_event : ℕ → PlainCell → Option Event
next_event m c =
    earlier (first_arrival m c c.inbox) (earlier (first_mark m c c.script) (next_timer m c (due_in c.holds)))

-- the time of an event, if there is one
abbrev pub time_of : Option Event → Option ℕ
time_of None = None
time_of (Some e) = Some e.key.time

-- the least own pending time of a cell, whose member's number is of no account for it
abbrev pub next_time : PlainCell → Option ℕ
next_time c = time_of (next_event 0 c)

-- the event, if its time is before the end
abbrev pub before : ℕ → Option Event → Option Event
before till None = None
before till (Some e) = if nat_lt e.key.time till then Some e else None

-- ---- steps

-- what a step gives: nothing is pending before the end; the packet count is used up; the record is gone, and has no
-- answer; or this
pub data StepOutcome (A : Type 0) : Type 0 where
  Idle : StepOutcome A
  Full : StepOutcome A
  Spent : StepOutcome A
  Done : (value : A) → StepOutcome A

-- a cell after its step, and the step's row. The packet that was sent, if any, is the row's
pub record Stepped : Type 0 where
  pub cell : PlainCell
  pub row : Row

-- the kind of an arrival is that of its packet
abbrev pub word_of_body : Body → Word
word_of_body (Drawop n ink) = word.Data
word_of_body (Request n scope) = word.Request
word_of_body (Repair n ink local) = word.Repair
word_of_body (Session hs) = word.Session

-- the kind of an event
abbrev pub word_of : Option Cause → Word
word_of None = word.Leave
word_of (Some Join) = word.Join
word_of (Some (Arrival p)) = word_of_body p.body
word_of (Some (Ask n)) = word.Ask
word_of (Some (Answer n)) = word.Answer
word_of (Some (Draw page ink)) = word.Draw
word_of (Some Report) = word.Report

-- what an event is about: a draw is about what it drew, if it drew
abbrev pub about_of : Option Cause → Option Body → About
about_of (Some (Arrival p)) body = Of p
about_of (Some (Ask n)) body = Named n
about_of (Some (Answer n)) body = Named n
about_of (Some (Draw page ink)) (Some (Drawop n drawn)) = Named n
about_of _ body = Nothing

-- the row of an event, with the member's answer and the packet that it sent
abbrev pub row_of : Event → React → Option Packet → Row
row_of e a sent = record {
  key = e.key;
  cause = word_of e.cause;
  about = about_of e.cause a.body;
  told = a.told;
  lost = a.lost;
  sent = sent;
  adapted = a.adapted;
}

-- the member's next packet, with this body
abbrev pub packet_of : Event → Body → Packet
packet_of e body = record { id = record { sender = e.key.member; count = e.rest.sent }; sent = e.key.time; body = body }

-- an answer's body becomes a packet, for which the count must not be used up
abbrev pub sending_step : Event → Reaction → Option Body → StepOutcome Stepped
sending_step e r None = Done (record {
  cell = record e.rest { holds = Some r.state };
  row = row_of e r.answer None;
})
sending_step e r (Some body) =
    if nat_lt e.rest.sent most_sent
    then Done (record {
      cell = record e.rest { holds = Some r.state; sent = e.rest.sent + 1 };
      row = row_of e r.answer (Some (packet_of e body));
    })
    else Full

-- the member handles the event. At its leave it ends; once it is gone it has no answer
unfoldable pub handle : Event → Option MemberState → Option Cause → StepOutcome Stepped
handle e (Some m) (Some cause) = let r = react m e.key.time cause in sending_step e r r.answer.body
handle e (Some m) None = Done (record {
  cell = record e.rest { holds = None; exit = Some (exit_of m) };
  row = row_of e (quietly m Parted []).answer None;
})
handle e None cause = Spent

-- what the cell makes of the event, if there is one
abbrev pub step_at : Option Event → StepOutcome Stepped
step_at None = Idle
step_at (Some e) = handle e e.rest.holds e.cause

-- the cell's own step to an end: it takes its least own pending event, if that is before the end
unfoldable pub own_step : ℕ → ℕ → PlainCell → StepOutcome Stepped
own_step till m c = step_at (before till (next_event m c))

-- what a member knows that sends nothing: a listener, or a member that left
abbrev pub Silent : Option MemberState → Type 0
Silent (Some m) = is_listener m.fixed.role ≡ true
Silent None = Unit {0}

-- ---- what is pending at a tick

-- how many flights and marks it has
abbrev pub untimed_at : ℕ → PlainCell → ℕ
untimed_at t c = count_if (λ f. f.arrival == t) c.inbox + count_if (λ k. k.at == t) c.script

-- how many events a cell has pending at a tick
abbrev pub pending_at : ℕ → PlainCell → ℕ
pending_at t c = untimed_at t c + expiring_at t c.holds
