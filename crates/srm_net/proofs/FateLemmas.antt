-- What becomes of packets that are not dropped, and which links are on members' ways.
use Rattle.std.proofs.Common.{◌≡◌, ℕ, ◌+◌, ◌==◌, ◌<◌, ◌≤◌, Bool, true, false, cond, not, ◌&&◌, ◌||◌, List, [], ◌∷◌, length, Option, Some}
use Rattle.std.proofs.Common.{None, refl, sym, zero, suc, take}
use Rattle.std.proofs.Common.{ap, ◌∙◌, arith, slice_get, nat_lt, nat_le}
use Rattle.std.specs.List.{list_any}
use Rattle.std.proofs.lemmas.Bool.{or_parts, or_from}
use Rattle.srm_net.specs.declared.link.LinkSpec.{LinkSpec}
use Rattle.srm_net.specs.declared.link.DropSpec.{DropSpec}
use Rattle.srm_net.specs.declared.link.OutageSpec.{OutageSpec}
use Rattle.srm_net.specs.declared.link.LossSpec.{LossSpec}
use Rattle.srm_net.specs.declared.packet.PacketId.{PacketId}
use Rattle.srm_net.specs.Network.{Network, IsNetwork}
use Rattle.srm_net.specs.Paths.{is_in, host, delay_of, end_of, member_route, is_listed, Stop, stop, stops, takes_out}
use Rattle.srm_net.specs.Paths.{crossed_on, dropped_on, hops, is_within, first, reaches, crosses, drops_at}
use Rattle.srm_net.specs.DropRules.{DropRules, is_out, some_ends_after, may_drop}
use Rattle.srm_net.specs.Listed.{is_listed_somewhere}
use Rattle.srm_net.specs.Losses.{is_before_end, takes, is_lost, some_goes_on_after, deciding, loss_word, words_taking}
use Rattle.srm_net.specs.Tables.{some_beyond}
use Rattle.srm_net.specs.Fates.{is_on_way}
use Rattle.srm_net.specs.Laws.{UnlistedReachesAll, UnlistedCrossesItsWays, UnlistedIsNowhereDropped}
use Rattle.srm_net.specs.Laws.{listed_alone, ListedAloneReaches, ListedAloneAtAnyTime}
use Rattle.srm_net.proofs.Lists.{below_get}
use Rattle.srm_net.proofs.DropLemmas.{nowhere_listed}
use Rattle.srm_net.proofs.LossLemmas.{or_none}
use Rattle.srm_net.proofs.PathLaws.{on_route, some_same, none_below}

-- ---- a packet that is not dropped

-- an outage that ends at a tick or before is not on at it or later
off_later : (o : OutageSpec) (sent l t : ℕ) → nat_lt sent o.to ≡ false → sent ≤ t → ((o.link == l) && (nat_le o.from t && nat_lt t o.to))
    ≡ false
off_later o sent l t h k = grind arith

none_out : (os : List OutageSpec) (sent l t : ℕ) → some_ends_after os sent ≡ false → sent ≤ t → is_out os l t ≡ false
none_out [] sent l t h k = refl
none_out (o ∷ os) sent l t h k =
    let p = or_parts (nat_lt sent o.to) (some_ends_after os sent) h in
    or_from ((o.link == l) && (nat_le o.from t && nat_lt t o.to)) (is_out os l t) (off_later o sent l t p.0 k) (none_out os sent l t p.1 k)

-- a loss that does not go on after a tick is not on at it or later
ended : (to : Option ℕ) (sent t : ℕ) → is_before_end to sent ≡ false → sent ≤ t → is_before_end to t ≡ false
ended None sent t h k = h
ended (Some to) sent t h k = grind arith

idle : (a b c d : Bool) → c ≡ false → (a && ((b && c) && d)) ≡ false
idle true true c d h = ap (λ c. c && d) h
idle true false c d h = refl
idle false b c d h = refl

none_lost : (os : List LossSpec) (seed : ℕ) (p : PacketId) (sent l t : ℕ) → some_goes_on_after os sent ≡ false → sent ≤ t
    → is_lost os seed p l t ≡ false
none_lost [] seed p sent l t h k = refl
none_lost (o ∷ os) seed p sent l t h k =
    let q = or_parts (is_before_end o.to sent) (some_goes_on_after os sent) h in
    or_from ((o.link == l) && takes seed p t o) (is_lost os seed p l t)
    (idle (o.link == l) (nat_le o.from t) (is_before_end o.to t)
    (nat_lt (loss_word seed o.stream o.link (deciding o.burst p t)) (words_taking o.rate))
    (ended o.to sent t q.0 k))
    (none_lost os seed p sent l t q.1 k)

-- nothing takes it out at its sending or later
pub spared : (rules : DropRules) (p : PacketId) (sent : ℕ) → may_drop rules p sent ≡ false → (s : Stop) → sent ≤ s.at → takes_out rules p s
    ≡ false
spared rules p sent h s k =
    let q = or_parts (is_listed_somewhere rules.listed p)
    (some_ends_after rules.outages sent || some_goes_on_after rules.losses sent) h in
    let r = or_parts (some_ends_after rules.outages sent) (some_goes_on_after rules.losses sent) q.1 in
    or_from (is_listed rules.listed p s.link) (is_out rules.outages s.link s.at || is_lost rules.losses rules.seed p s.link s.at)
    (nowhere_listed rules.listed p s.link q.0)
    (or_from (is_out rules.outages s.link s.at) (is_lost rules.losses rules.seed p s.link s.at)
    (none_out rules.outages sent s.link s.at r.0 k) (none_lost rules.losses rules.seed p sent s.link s.at r.1 k))

module _ (f : Stop → Bool) (sent : ℕ) (h : (s : Stop) → sent ≤ s.at → f s ≡ false) (links : List LinkSpec) where
  pub none_stops : (u t : ℕ) (ls : List ℕ) → sent ≤ t → list_any f (stops links u t ls) ≡ false
  none_stops u t [] k = refl
  none_stops u t (l ∷ ls) k =
      or_from (f (stop l t)) (list_any f (stops links (end_of u (slice_get links l)) (t + delay_of u (slice_get links l)) ls))
      (h (stop l t) k)
      (none_stops (end_of u (slice_get links l)) (t + delay_of u (slice_get links l)) ls (omega arith))

  crossed_all : (u t : ℕ) (ls : List ℕ) (l : ℕ) → sent ≤ t → crossed_on f (stops links u t ls) l ≡ is_in ls l
  crossed_all u t [] l k = refl
  crossed_all u t (m ∷ ls) l k =
      rw (h (stop m t) k) (ap (λ b. (m == l) || b) (crossed_all (end_of u (slice_get links m)) (t + delay_of u (slice_get links m)) ls l
      (omega arith)))

  dropped_never : (u t : ℕ) (ls : List ℕ) (l : ℕ) → sent ≤ t → dropped_on f (stops links u t ls) l ≡ false
  dropped_never u t [] l k = refl
  dropped_never u t (m ∷ ls) l k =
      rw (h (stop m t) k) (dropped_never (end_of u (slice_get links m)) (t + delay_of u (slice_get links m)) ls l (omega arith))

-- the first stops of a way are those of its first links
take_stops : (links : List LinkSpec) (g u t : ℕ) (ls : List ℕ) → take g (stops links u t ls) ≡ stops links u t (take g ls)
take_stops links zero u t ls = refl
take_stops links (suc g) u t [] = refl
take_stops links (suc g) u t (l ∷ ls) =
    ap (λ ss. stop l t ∷ ss) (take_stops links g (end_of u (slice_get links l)) (t + delay_of u (slice_get links l)) ls)

first_stops : (links : List LinkSpec) (scope : Option ℕ) (u t : ℕ) (ls : List ℕ)
    → first scope (stops links u t ls) ≡ stops links u t (first scope ls)
first_stops links None u t ls = refl
first_stops links (Some g) u t ls = take_stops links g u t ls

pub unlisted_reaches_all : UnlistedReachesAll
unfolding reaches
unlisted_reaches_all w rules p sent h scope m =
    ap (λ b. is_within scope (hops w p.sender m) && not b)
    (none_stops (takes_out rules p) sent (spared rules p sent h) w.links (host w p.sender) sent (member_route w p.sender m) (omega arith))
    ∙ and_true (is_within scope (hops w p.sender m))
  where
    and_true : (b : Bool) → (b && true) ≡ b
    and_true true = refl
    and_true false = refl

pub unlisted_crosses_its_ways : UnlistedCrossesItsWays
unfolding crosses is_on_way
unlisted_crosses_its_ways w rules p sent h l = grind (arith, crossed_all, spared)

pub unlisted_is_nowhere_dropped : UnlistedIsNowhereDropped
unfolding drops_at
unlisted_is_nowhere_dropped w rules p sent h scope l =
    none_below _ (length w.hosts) (λ m.
    ap (λ ss. dropped_on (takes_out rules p) ss l) (first_stops w.links scope (host w p.sender) sent (member_route w p.sender m))
    ∙ dropped_never (takes_out rules p) sent (spared rules p sent h) w.links (host w p.sender) sent
    (first scope (member_route w p.sender m)) l (omega arith))

-- ---- without outages and losses

module _ (drops : List DropSpec) (seed : ℕ) (p : PacketId) (links : List LinkSpec) where
  abbrev lists_alone : DropRules
  lists_alone = listed_alone drops seed

  any_listed : (u t : ℕ) (ls : List ℕ) → list_any (takes_out lists_alone p) (stops links u t ls) ≡ list_any (is_listed drops p) ls
  any_listed u t [] = refl
  any_listed u t (l ∷ ls) =
      λ i. or_none (is_listed drops p l) i || any_listed (end_of u (slice_get links l)) (t + delay_of u (slice_get links l)) ls i

  crossed_any_time : (u s t : ℕ) (ls : List ℕ) (l : ℕ) → crossed_on (takes_out lists_alone p) (stops links u s ls) l
      ≡ crossed_on (takes_out lists_alone p) (stops links u t ls) l
  crossed_any_time u s t [] l = refl
  crossed_any_time u s t (k ∷ ks) l =
      let d = delay_of u (slice_get links k) in
      ap (λ b. not (is_listed drops p k || false) && ((k == l) || b)) (crossed_any_time (end_of u (slice_get links k)) (s + d) (t + d) ks l)

  dropped_any_time : (u s t : ℕ) (ls : List ℕ) (l : ℕ) → dropped_on (takes_out lists_alone p) (stops links u s ls) l
      ≡ dropped_on (takes_out lists_alone p) (stops links u t ls) l
  dropped_any_time u s t [] l = refl
  dropped_any_time u s t (k ∷ ks) l =
      let d = delay_of u (slice_get links k) in
      ap (λ b. cond (is_listed drops p k || false) (k == l) b) (dropped_any_time (end_of u (slice_get links k)) (s + d) (t + d) ks l)

pub listed_alone_reaches : ListedAloneReaches
unfolding reaches
listed_alone_reaches w drops seed p sent scope m =
    ap (λ b. is_within scope (hops w p.sender m) && not b)
    (any_listed drops seed p w.links (host w p.sender) sent (member_route w p.sender m))

pub listed_alone_at_any_time : ListedAloneAtAnyTime
unfolding crosses drops_at
listed_alone_at_any_time w drops seed p sent later scope l =
    let out = takes_out (listed_alone drops seed) p in
    let u = host w p.sender in
    let way = λ (t m : ℕ). first scope (stops w.links u t (member_route w p.sender m)) in
    let cut = λ (t m : ℕ). first_stops w.links scope u t (member_route w p.sender m) in (
      some_same (λ m. crossed_on out (way sent m) l) (λ m. crossed_on out (way later m) l) (length w.hosts) (λ m _.
          ap (λ ss. crossed_on out ss l) (cut sent m)
          ∙ crossed_any_time drops seed p w.links u sent later (first scope (member_route w p.sender m)) l
          ∙ sym (ap (λ ss. crossed_on out ss l) (cut later m))),
      some_same (λ m. dropped_on out (way sent m) l) (λ m. dropped_on out (way later m) l) (length w.hosts) (λ m _.
          ap (λ ss. dropped_on out ss l) (cut sent m)
          ∙ dropped_any_time drops seed p w.links u sent later (first scope (member_route w p.sender m)) l
          ∙ sym (ap (λ ss. dropped_on out ss l) (cut later m))),
    )

-- ---- a link on members' ways

pub on_way_is : (w : Network) → IsNetwork w → (l : ℕ) (k : LinkSpec) → slice_get w.links l ≡ Some k → (a : ℕ) → a < length w.hosts
    → is_on_way w a l ≡ some_beyond w l k (host w a)
unfolding is_on_way
on_way_is w n l k g a h = grind (arith, some_same, on_route)

-- what the tables of sides tell of a member's ways
pub told_on_way : (w : Network) → IsNetwork w → (l a u : ℕ) (any : Bool) → l < length w.links → a < length w.hosts → u ≡ host w a
    → ((k : LinkSpec) → slice_get w.links l ≡ Some k → any ≡ some_beyond w l k u) → any ≡ is_on_way w a l
told_on_way w n l a u any hl ha e anys =
    let k = below_get w.links l hl in
    anys k.0 k.1 ∙ ap (some_beyond w l k.0) e ∙ sym (on_way_is w n l k.0 k.1 a ha)
