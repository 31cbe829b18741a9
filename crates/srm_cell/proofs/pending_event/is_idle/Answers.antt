use Rattle.std.proofs.Common.{◌≡◌, ℕ, List, [], ◌∷◌, Option, Some, None, MatchOption, refl, sym, ◌∙◌, slice_get}
use Rattle.std.specs.Option.{option_map}
use Rattle.srm_net.specs.declared.packet.PacketId.{PacketId}
use Rattle.srm_scenario.specs.declared.mark.Mark.{Mark}
use Rattle.srm_cell.specs.declared.flight.Flight.{Flight}
use Rattle.srm_cell.proofs.pending_event.is_idle.Goals as goal

no_mark : (r : Option Mark) (ks : List Mark) → MatchOption r (ks ≡ []) (λ k. (rest : List Mark) × (ks ≡ k ∷ rest)) → r ≡ None → ks ≡ []
no_mark None ks h none = h
no_mark (Some k) ks h none = cc

no_flight : (r : Option (ℕ × PacketId)) (fs : List Flight) → r ≡ option_map (λ (f : Flight). (f.arrival, f.packet.id)) (slice_get fs 0)
    → r ≡ None → fs ≡ []
no_flight r [] is none = refl
no_flight r (f ∷ fs) is none = let x = sym is ∙ none in cc

pub returns-in-None-first-2 : goal.returns-in-None-first-2
returns-in-None-first-2 c = (
  λ idle. (
    no_flight c.first-2.result c.args.inbox.now c.first-2.ensures c.in-None-first-2.is,
    no_mark c.first.result c.args.script.now c.first.ensures c.in-None-first.is,
    c.in-None.is,
  ),
  λ none. refl,
)
