-- Links on the ways between members, which are the same for every member.
use Rattle.std.proofs.Common.{◌≡◌, ℕ, zero, suc, ◌<◌, Bool, true, false, not, ◌&&◌, List, [], ◌∷◌, length, Some, refl, sym, ap, ◌∙◌, subst}
use Rattle.std.proofs.Common.{Option, None, IfSome, is_some, inl, inr, arith, eq-eqb, cond, if◌then◌else◌, slice_get, slice_index_or}
use Rattle.std.proofs.Common.{replicate}
use Rattle.std.specs.List.{list_all}
use Rattle.std.specs.Option.{is_none}
use Rattle.std.proofs.lemmas.Bool.{cases_Bool, and_parts, ne_eqb, false≢true}
use Rattle.srm_net.specs.declared.link.LinkSpec.{LinkSpec}
use Rattle.srm_net.specs.declared.net.Net.TheInside.{Inside}
use Rattle.srm_net.specs.declared.packet.PacketId.{PacketId}
use Rattle.srm_net.specs.declared.sides.Sides.{Sides}
use Rattle.srm_net.specs.DropRules.{DropRules}
use Rattle.srm_net.specs.Fates.{is_on_way, joins_members}
use Rattle.srm_net.specs.Laws.{WaysTakeTheSameLinks, EverywhereCrossesTheSame, EverywhereIsNowhereDropped}
use Rattle.srm_net.specs.Network.{Network, IsNetwork}
use Rattle.srm_net.specs.Paths.{host, crosses, drops_at, some_below}
use Rattle.srm_net.specs.Spreads.{PlainSpread, IsSpread, FitsIn, is_everywhere, TellsHops}
use Rattle.srm_net.specs.Tables.{is_beyond, near_end, far_from, some_beyond}
use Rattle.srm_net.specs.Told.{IsTold}
use Rattle.srm_net.proofs.FateLemmas.{on_way_is}
use Rattle.srm_net.proofs.Lists.{below_get, get_index}
use Rattle.srm_net.proofs.OccupiedLemmas.{some_found}
use Rattle.srm_net.proofs.PathLaws.{host_below, some_same}
use Rattle.srm_net.proofs.OnePaths.{joins_others}
use Rattle.srm_net.proofs.SpreadLemmas.{EndsOf, seen_ends, seen_of, not_beyond, by_ends}

and_right : (a b : Bool) → b ≡ true → a ≡ (a && b)
and_right true b h = sym h
and_right false b h = refl

and_left : (a b : Bool) → a ≡ true → b ≡ (a && b)
and_left true b h = refl
and_left false b h = absurd (false≢true h)

some_constant : (b : Bool) (n : ℕ) → (n ≡ 0 → b ≡ false) → some_below (λ _. b) n ≡ b
some_constant b zero h = sym (h refl)
some_constant true (suc n) h = refl
some_constant false (suc n) h = some_constant false n (λ _. refl)

-- ---- a link

module _ (w : Network) (n : IsNetwork w) (l : ℕ) (k : LinkSpec) (g : slice_get w.links l ≡ Some k) where
  -- whether some member is on the side of the link's first end, and of its second
  abbrev some_near : Bool
  some_near = some_below (λ m. not (is_beyond w l k (host w m))) (length w.hosts)

  abbrev some_far : Bool
  some_far = some_below (λ m. is_beyond w l k (host w m)) (length w.hosts)

  beyond_is : (a : ℕ) → a < length w.hosts → some_beyond w l k (host w a) ≡ (some_near && some_far)
  beyond_is a lt =
      elim (cases_Bool (is_beyond w l k (host w a))) [
        | inl h ↦ rw h (and_right some_near some_far (some_found (λ m. is_beyond w l k (host w m)) (length w.hosts) a lt h))
        | inr h ↦ rw h (and_left some_near some_far
            (some_found (λ m. not (is_beyond w l k (host w m))) (length w.hosts) a lt (ap not h)))
      ]

  pub way_joins : (a : ℕ) → a < length w.hosts → is_on_way w a l ≡ (some_near && some_far)
  way_joins a lt = on_way_is w n l k g a lt ∙ beyond_is a lt

  pub joins_is : joins_members w l ≡ (some_near && some_far)
  unfolding joins_members
  joins_is =
      some_same (λ a. is_on_way w a l) (λ _. some_near && some_far) (length w.hosts) way_joins
      ∙ some_constant (some_near && some_far) (length w.hosts) (λ e.
      ap (λ m. some_below (λ j. not (is_beyond w l k (host w j))) m && some_below (λ j. is_beyond w l k (host w j)) m) e)

  pub beyond_joins : (a : ℕ) → a < length w.hosts → some_beyond w l k (host w a) ≡ joins_members w l
  beyond_joins a lt = beyond_is a lt ∙ sym joins_is

pub ways_take_the_same_links : WaysTakeTheSameLinks
ways_take_the_same_links w n a l ha hl =
    let k = below_get w.links l hl in
    way_joins w n l k.0 k.1 a ha ∙ sym (joins_is w n l k.0 k.1)

-- what the tables of sides tell of a link
pub told_joining : (i : Inside) → IsTold i → (w : Network) → i.tree.value ≡ w → (l f : ℕ) (s : Sides) → f ≡ l
    → s ≡ slice_index_or i.sides.items f s → l < length w.links → (s.a && s.b) ≡ joins_members w l
told_joining i t w e l f s q r lt =
    let n : IsNetwork w = subst IsNetwork e t.network in
    let k = below_get w.links l lt in
    let there : slice_get i.tree.value.links l ≡ Some k.0 = ap (λ (v : Network). slice_get v.links l) e ∙ k.1 in
    let told = t.sides l k.0 there in
    let same : s ≡ told.0 = r ∙ ap (λ z. slice_index_or i.sides.items z s) q ∙ get_index i.sides.items l told.0 s told.1 in
    ap (λ (x : Sides). x.a && x.b) same
    ∙ (λ j. told.2.a j && told.2.b j)
    ∙ ap (λ (v : Network). some_below (λ m. not (is_beyond v l k.0 (host v m))) (length v.hosts)
    && some_below (λ m. is_beyond v l k.0 (host v m)) (length v.hosts)) e
    ∙ sym (joins_is w n l k.0 k.1)

-- where it is on no way between members, nobody is beyond it from any member's node
pub none_joined : (w : Network) → IsNetwork w → (l : ℕ) → joins_members w l ≡ false → (k : LinkSpec) → slice_get w.links l ≡ Some k
    → (m : ℕ) → m < length w.hosts → some_beyond w l k (host w m) ≡ false
none_joined w n l none k g m lt = beyond_joins w n l k g m lt ∙ none

-- ---- a packet that comes to every node

all_there : (bs : List Bool) (x : ℕ) → list_all (λ b. b) bs ≡ true → x < length bs → slice_get bs x ≡ Some true
all_there [] x h lt = absurd (omega arith)
all_there (b ∷ bs) zero h lt = ap Some (and_parts b (list_all (λ b. b) bs) h).0
all_there (b ∷ bs) (suc x) h lt = all_there bs x (and_parts b (list_all (λ b. b) bs) h).1 (omega arith)

pub none_left : (o : Option ℕ) (b : Bool) → is_some o ≡ false → b ≡ (is_none o && b)
none_left None b h = refl
none_left (Some g) b h = absurd (false≢true (sym h))

pub all_replicated : (n : ℕ) → true ≡ list_all (λ b. b) (replicate n true)
all_replicated zero = refl
all_replicated (suc n) = all_replicated n

no_scope : (scope : Option ℕ) → is_none scope ≡ true → scope ≡ None
no_scope None h = refl
no_scope (Some g) h = absurd (false≢true h)

-- where hops are told, they are of each node
pub hops_long : (w : Network) (u : ℕ) (o : Option (List ℕ)) → IfSome o (TellsHops w u) → IfSome o (λ hs. length hs ≡ w.nodes)
hops_long w u None h = tt
hops_long w u (Some hs) h = h.nodes

everywhere_there : (w : Network) → IsNetwork w → (rules : DropRules) (p : PacketId) (sent : ℕ) (scope : Option ℕ) (s : PlainSpread)
    → IsSpread w rules p sent scope s → is_everywhere s ≡ true → p.sender < length w.hosts → (l : ℕ) → l < length w.links
    → (crosses w rules p sent scope l ≡ joins_members w l) × (drops_at w rules p sent scope l ≡ false)
everywhere_there w n rules p sent scope s is all hs l lt =
    let both = and_parts (is_none s.scope) (list_all (λ b. b) s.comes) all in
    let none : scope ≡ None = sym is.scope_is ∙ no_scope s.scope both.0 in
    let k = below_get w.links l lt in
    let own : s.sender < length w.hosts = subst (λ m. m < length w.hosts) (sym is.sender) hs in
    let u = host w s.sender in
    let near = near_end w l k.0 u in
    let far = far_from k.0 near in
    let any = some_beyond w l k.0 u in
    let seen = seen_of w l k.0 k.1 u in
    let fits : FitsIn w s = record { sender = own; nodes = is.nodes; hops = hops_long w (host w p.sender) s.hops is.hops } in
    let ends : EndsOf w l u near far = seen_ends w n l u near far any (host_below w n s.sender own) seen in
    let there : (x : ℕ) → x < w.nodes → slice_get s.comes x ≡ Some true = λ x h.
    all_there s.comes x both.1 (subst (λ m. x < m) (sym is.nodes) h) in
    let joins : any ≡ joins_members w l = beyond_joins w n l k.0 k.1 s.sender own in
    subst (λ g. (crosses w rules p sent g l ≡ joins_members w l) × (drops_at w rules p sent g l ≡ false)) (sym none)
    (elim (cases_Bool any) [
      | inl h ↦ (let c = by_ends w n l u near far any seen s fits refl rules p sent scope is true true h (there near ends.near_in)
          (there far ends.far_in) in
          (c.0 ∙ sym h ∙ joins, c.1))
      | inr h ↦ (let c = not_beyond w n l u near far any seen s fits refl rules p sent scope is h in (c.0 ∙ sym h ∙ joins, c.1))
    ])

-- ---- a link between members

one_way : (a b : Bool) → (b ≡ true → a ≡ true) → (a && not b) ≡ cond a (not b) b
one_way true b h = refl
one_way false true h = h refl
one_way false false h = refl

other_way : (a b : Bool) → (a ≡ true → b ≡ true) → (b && not a) ≡ cond a (not b) b
other_way true true h = refl
other_way true false h = h refl
other_way false true h = refl
other_way false false h = refl

turned : (a b : Bool) → (b && a) ≡ (a && b)
turned true true = refl
turned true false = refl
turned false true = refl
turned false false = refl

-- a packet that comes to both ends crosses the link, and one that comes to one of them is dropped there
pub by_both_ends : (w : Network) → IsNetwork w → (l : ℕ) (k : LinkSpec) → slice_get w.links l ≡ Some k → joins_members w l ≡ true
    → (s : PlainSpread) → FitsIn w s → (rules : DropRules) (p : PacketId) (sent : ℕ) (scope : Option ℕ)
    → IsSpread w rules p sent scope s → (a b : Bool) → slice_get s.comes k.a ≡ Some a → slice_get s.comes k.b ≡ Some b
    → (crosses w rules p sent None l ≡ (a && b)) × (drops_at w rules p sent None l ≡ cond a (not b) b)
by_both_ends w n l k g joined s fits rules p sent scope is a b ha hb =
    let u = host w s.sender in
    let near = near_end w l k u in
    let far = far_from k near in
    let any : some_beyond w l k u ≡ true = beyond_joins w n l k g s.sender fits.sender ∙ joined in
    let ends = by_ends w n l u near far (some_beyond w l k u) (seen_of w l k g u) s fits refl rules p sent scope is in
    elim (cases_Bool (is_beyond w l k u)) [
      | inl e ↦
          let near_is : near ≡ k.b = ap (λ t. if t then k.b else k.a) e in
          let far_is : far ≡ k.a =
          ap (far_from k) near_is ∙ ap (λ t. if t then k.b else k.a) (ne_eqb k.a k.b (joins_others w n.tree l k g)) in
          let c = ends b a any (ap (slice_get s.comes) near_is ∙ hb) (ap (slice_get s.comes) far_is ∙ ha) in
          (c.0 ∙ turned a b, c.1 ∙ other_way a b c.2)
      | inr e ↦
          let near_is : near ≡ k.a = ap (λ t. if t then k.b else k.a) e in
          let far_is : far ≡ k.b = ap (far_from k) near_is ∙ ap (λ t. if t then k.b else k.a) (eq-eqb k.a k.a refl) in
          let c = ends a b any (ap (slice_get s.comes) near_is ∙ ha) (ap (slice_get s.comes) far_is ∙ hb) in
          (c.0, c.1 ∙ one_way a b c.2)
    ]

pub everywhere_crosses_the_same : EverywhereCrossesTheSame
everywhere_crosses_the_same w n rules p sent scope s is all hs l lt = (everywhere_there w n rules p sent scope s is all hs l lt).0

pub everywhere_is_nowhere_dropped : EverywhereIsNowhereDropped
everywhere_is_nowhere_dropped w n rules p sent scope s is all hs l lt = (everywhere_there w n rules p sent scope s is all hs l lt).1
