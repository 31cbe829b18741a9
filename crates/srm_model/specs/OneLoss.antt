-- A worked run: two members, one of which loses a packet of the other.
use Rattle.std.specs.Prelude.{ℕ, ◌+◌, ◌-◌, not, ◌&&◌, List, [], ◌∷◌, map, None, ◌==◌, if◌then◌else◌}
use Rattle.srm_net.specs.declared.packet.Name.{Name}
use Rattle.srm_net.specs.declared.rank.Rank.{Rank}
use Rattle.srm_net.specs.declared.rank.Rank.TheVariants.{Join, Draw}
use Rattle.srm_net.specs.declared.role.Role.TheVariants.{Sender, Receiver}
use Rattle.srm_scenario.specs.declared.mark.Mark.{Mark}
use Rattle.srm_member.specs.declared.backoff.BackoffFactor.TheVariants.{Two}
use Rattle.srm_member.specs.declared.steps.Steps.TheVariants.{One}
use Rattle.srm_member.specs.declared.exit.Exit.{Exit}
use Rattle.srm_member.specs.Intervals.{without_room}
use Rattle.srm_cell.specs.Setting.{Setting}
use Rattle.srm_model.specs.World.{last_world, opening, exits_of}
use Rattle.srm_model.specs.Handed.{handing_count}

-- a mark of a script
abbrev pub mark : ℕ → Rank → ℕ → ℕ → Mark
mark at rank place ink = record { at = at; rank = rank; place = place; page = 0; ink = ink }

-- two members, one tick apart. Member 0 draws with ink 7 at 0 and with ink 8 at 10, and its first packet is dropped.
-- Request and repair timers take one and a half, and one, times the distance
abbrev pub one_loss : ℕ → Setting
one_loss until = record {
  traffic = record {
    until = until;
    members = 2;
    join = λ m. 0;
    leave = λ m. None;
    distance = λ a b. (a - b) + (b - a);
    reaches = λ p m. not (p.id.sender == 0 && (p.id.count == 0 && m == 1));
    links = 1;
    crosses = λ p l. not (p.id.sender == 0 && p.id.count == 0);
    drops_at = λ p l. p.id.sender == 0 && p.id.count == 0;
  };
  fixed = λ m. record {
    member = m;
    role = if m == 0 then Sender else Receiver;
    backoff = Two;
    c1 = without_room 1500;
    c2 = without_room 0;
    d1 = without_room 1000;
    d2 = without_room 0;
    dist = if m == 0 then 0 ∷ 1 ∷ [] else 1 ∷ 0 ∷ [];
    hops = if m == 0 then 0 ∷ 1 ∷ [] else 1 ∷ 0 ∷ [];
    scope = 0;
    widen = 0;
    tries = 1;
    steps = One;
    pages = [];
    seed = 42;
    stream = m + 1;
  };
  script = λ m. if m == 0 then mark 0 Join 0 0 ∷ mark 0 Draw 0 7 ∷ mark 10 Draw 1 8 ∷ [] else mark 0 Join 0 0 ∷ [];
}

-- how often the whole run hands each of these packets, of a sender and a count, to a member
unfoldable pub handings : Setting → List (ℕ × ℕ × ℕ) → List ℕ
handings s ks =
    map (λ k. handing_count (record { sender = k.0; count = k.1 }) k.2 (last_world s 100 (opening s)).trace) ks

-- what the members end with
unfoldable pub ends : Setting → List Exit
ends s = exits_of (last_world s 100 (opening s))

-- member 0's drawing operations
abbrev pub first_name : Name
first_name = record { source = 0; page = 0; number = 0 }

abbrev pub second_name : Name
second_name = record { source = 0; page = 0; number = 1 }

abbrev pub an_exit : ℕ → List (Name × ℕ) → List Name → Exit
an_exit m held missing = record { member = m; held = held; missing = missing }
