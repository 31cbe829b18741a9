-- Packets that come to every node, by the distances of their senders.
use Rattle.std.proofs.Common.{◌≡◌, ◌≢◌, ◌∙◌, ℕ, ◌+◌, ◌<◌, ◌≤◌, Bool, true, false, not, ◌&&◌, List, length, get_or, slice_get}
use Rattle.std.proofs.Common.{Option, Some, None, if◌then◌else◌, ◌==◌, nat_lt, refl, sym, ap, subst, zero-add, lt-ltb}
use Rattle.std.proofs.lemmas.Bool.{and_parts, false≢true, ne_eqb}
use Rattle.std.proofs.lemmas.List.{length-map}
use Rattle.std.proofs.lemmas.Option.{slice_get-get_or}
use Rattle.std.proofs.lemmas.List.Folds.{list_all_at}
use Rattle.std.proofs.lemmas.List.FromFn.{get_or-map-range_with_len, length-map-range_with_len}
use Rattle.std.specs.List.{list_all}
use Rattle.std.specs.Option.{is_none}
use Rattle.srm_net.specs.declared.packet.Packet.{Packet}
use Rattle.srm_net.specs.Limits.{greatest_distance}
use Rattle.srm_net.specs.Network.{Network, IsNetwork}
use Rattle.srm_net.specs.Paths.{host, distance, reaches}
use Rattle.srm_net.specs.Scopes.{scope_of}
use Rattle.srm_net.specs.Spreads.{PlainSpread}
use Rattle.srm_net.proofs.PathLaws.{host_below, distance_bounded}
use Rattle.srm_net.proofs.SpreadLemmas.{reached_there}
use Rattle.srm_scenario.specs.declared.parts.MemberSpec.{MemberSpec}
use Rattle.srm_scenario.specs.Plain.{PlainScenario, network_of}
use Rattle.srm_scenario.specs.Presence.{is_present}
use Rattle.srm_cell.specs.Setting.{arrival_of, traffic_of, member_at, IsSpreadOf}
use Rattle.srm_engine.specs.Distances.{ComesEverywhereIn}

module _ (s : PlainScenario) (net : Network) (of : net ≡ network_of s) (good : IsNetwork (network_of s)) (p : Packet) (b : PlainSpread)
    (spread : IsSpreadOf net s.drops p b) (ds : List ℕ) (comes : ComesEverywhereIn net b ds) where
  hosts : length net.hosts ≡ length s.members
  hosts = ap (λ (w : Network). length w.hosts) of ∙ length-map s.members (λ (m : MemberSpec). m.node)

  network : IsNetwork net
  network = subst IsNetwork (sym of) good

  pub distances_are_many : length ds ≡ length s.members
  distances_are_many = ap length comes.1 ∙ length-map-range_with_len (λ m. distance net b.sender m) 0 (length net.hosts) ∙ hosts

  module _ (m : ℕ) (lt : m < length s.members) where
    within : m < length net.hosts
    within = subst (λ n. m < n) (sym hosts) lt

    distance_is : (d : ℕ) → get_or ds m d ≡ distance net p.id.sender m
    distance_is d = ap (λ xs. get_or xs m d) comes.1
        ∙ get_or-map-range_with_len (λ k. distance net b.sender k) 0 (length net.hosts) m m d within (zero-add m)
        ∙ ap (λ a. distance net a m) spread.sender

    pub distance_is_short : (d : ℕ) → p.id.sender < length s.members → get_or ds m d ≤ greatest_distance
    distance_is_short d h = subst (λ n. n ≤ greatest_distance) (sym (distance_is d))
        (distance_bounded net network p.id.sender m (subst (λ n. p.id.sender < n) (sym hosts) h) within)

    reached : reaches net s.drops p.id p.sent (scope_of p.body) m ≡ true
    reached =
        let both = and_parts (is_none b.scope) (list_all (λ t. t) b.comes) comes.0 in
        let below = host_below net network m within in
        let told : host net m < length b.comes = subst (λ n. host net m < n) (sym spread.nodes) below in
        let there = slice_get-get_or b.comes (host net m) false told ∙ ap Some (is_told (get_or b.comes (host net m) false) (λ no.
        sym (list_all_at (λ t. t) b.comes (host net m) false told no) ∙ both.1)) in
        ap (λ g. reaches net s.drops p.id p.sent g m) (sym spread.scope_is ∙ without b.scope both.0)
        ∙ sym (reached_there net b s.drops p.id p.sent (scope_of p.body) spread m (host net m) true refl below there)
      where
        is_told : (t : Bool) → (t ≡ false → false ≡ true) → t ≡ true
        is_told true h = refl
        is_told false h = h refl

        without : (scope : Option ℕ) → is_none scope ≡ true → scope ≡ None
        without None h = refl
        without (Some g) h = absurd (false≢true h)

    counted : nat_lt m (length s.members) ≡ true
    counted = lt-ltb m (length s.members) lt

    -- each member but the sender is handed it, if it is present
    pub handed_away : m ≢ p.id.sender → (k : MemberSpec) → slice_get s.members m ≡ Some k → (at : ℕ) → at ≡ p.sent + get_or ds m 0
        → arrival_of (traffic_of s net) p m ≡ (if is_present k.join k.leave s.until at then Some at else None)
    handed_away ne k got at is =
        let away : (m == p.id.sender) ≡ false = ne_eqb m p.id.sender ne in
        let same : member_at s m ≡ k = rw got refl in
        let time : p.sent + distance net p.id.sender m ≡ at = ap (λ d. p.sent + d) (sym (distance_is 0)) ∙ sym is in
        λ i. if counted i && (not (away i) && (reached i && is_present (same i).join (same i).leave s.until (time i)))
        then Some (time i) else None
