-- What has no fault is as every accepted scenario is.
use Rattle.std.proofs.Common.{◌≡◌, ℕ, ◌+◌, ◌<◌, Bool, true, false, not, cond, List, [], ◌∷◌, ◌++◌, length, map}
use Rattle.std.proofs.Common.{nat_eq, Ordering, refl, sym, ap, ◌∙◌, subst, arith}
use Rattle.std.proofs.Common.{inl, inr}
use Rattle.std.proofs.lemmas.Bool.{cases_Bool, false≢true, or_right}
use Rattle.std.proofs.lemmas.Bool.Decides.{nat_tests}
use Rattle.std.proofs.lemmas.List.Elements.{All-from_recursion}
use Rattle.std.specs.List.{AllByRecursion, IsDistinct}
use Rattle.std.specs.Ordering.{match_ordering}
use Rattle.std.specs.Prelude.{◌||◌, ◌==◌}
use Rattle.srm_net.specs.declared.link.DropSpec.{DropSpec}
use Rattle.srm_net.specs.declared.link.OutageSpec.{OutageSpec}
use Rattle.srm_net.specs.declared.link.LossSpec.{LossSpec}
use Rattle.srm_net.specs.DropSets.{with_once, ordered_once}
use Rattle.srm_net.specs.Network.{HasDelays}
use Rattle.srm_net.specs.Paths.{drop_cmp}
use Rattle.srm_net.proofs.DropLemmas.{drops_ascend}
use Rattle.srm_scenario.specs.declared.entry.MemberEntry.{MemberEntry}
use Rattle.srm_scenario.specs.declared.fault.ScenarioFault.{ScenarioFault}
use Rattle.srm_scenario.specs.declared.fault.ScenarioFault.TheVariants.{NotTree, BadDraw, BadSession, BadDrop, BadOutage, BadLoss}
use Rattle.srm_scenario.specs.declared.parts.DrawSpec.{DrawSpec}
use Rattle.srm_scenario.specs.declared.parts.MemberSpec.{MemberSpec}
use Rattle.srm_scenario.specs.declared.parts.SessionSpec.{SessionSpec}
use Rattle.srm_scenario.specs.Accepted.{IsMember, IsDraw, IsSession, IsDrop, IsOutage, IsLoss, IsAccepted}
use Rattle.srm_net.specs.Roles.{is_late}
use Rattle.srm_scenario.specs.Faults.{faults_by, fault_unless, leaves_after, is_taken, member_faults}
use Rattle.srm_scenario.specs.Faults.{fits_draw, fits_session, fits_drop, fits_outage, fits_loss, meaning_faults}
use Rattle.srm_scenario.specs.Plain.{PlainScenario, network_of}
use Rattle.srm_scenario.specs.Ranges.{MemberInRange, HasItsPages, InRange}
use Rattle.srm_scenario.specs.Trees.{is_tree}
use Rattle.srm_scenario.proofs.TreeLemmas.{tree_from_test}
use Rattle.srm_scenario.proofs.Placed.{all_weaker}

-- ---- lists of faults without one

pub empty_parts : {A : Type 0} (xs ys : List A) → xs ++ ys ≡ [] → (xs ≡ []) × (ys ≡ [])
empty_parts [] ys h = (refl, h)
empty_parts (x ∷ xs) ys h = cc

pub unless_true : (b : Bool) (f : ScenarioFault) → fault_unless b f ≡ [] → b ≡ true
unless_true true f h = refl
unless_true false f h = cc

pub none_by : {A : Type 0} (fault : ℕ → ScenarioFault) (test : A → Bool) (i : ℕ) (xs : List A) → faults_by fault test i xs ≡ []
    → AllByRecursion (λ x. test x ≡ true) xs
none_by fault test i [] h = tt
none_by fault test i (x ∷ xs) h = by (test x) refl (none_by fault test (i + 1) xs) h
  where
    by : (b : Bool) → test x ≡ b → (faults_by fault test (i + 1) xs ≡ [] → AllByRecursion (λ y. test y ≡ true) xs)
        → cond b (faults_by fault test (i + 1) xs) (fault i ∷ faults_by fault test (i + 1) xs) ≡ [] → (test x ≡ true)
        × AllByRecursion (λ y. test y ≡ true) xs
    by true e rest h = (e, rest h)
    by false e rest h = cc

-- ---- draws, session messages, drops and outages

draw_fits : (s : PlainScenario) (d : DrawSpec) → fits_draw s.until s.members d ≡ true → IsDraw s d
draw_fits s d h = grind arith

session_fits : (s : PlainScenario) (r : SessionSpec) → fits_session s.until s.members r ≡ true → IsSession s r
session_fits s r h = grind arith

drop_fits : (s : PlainScenario) (d : DropSpec) → fits_drop (length s.links) (length s.members) d ≡ true → IsDrop s d
drop_fits s d h = grind arith

outage_fits : (s : PlainScenario) (o : OutageSpec) → fits_outage (length s.links) o ≡ true → IsOutage s o
outage_fits s o h = grind arith

loss_fits : (s : PlainScenario) (o : LossSpec) → fits_loss (length s.links) o ≡ true → IsLoss s o
loss_fits s o h = grind arith

all_matched : {A : Type 0} (P : A → Type 0) (o : Ordering) (xs ys zs : List A) → AllByRecursion P xs → AllByRecursion P ys
    → AllByRecursion P zs → AllByRecursion P (match_ordering o xs ys zs)
all_matched P o xs ys zs p q r = grind arith

all_with : {A : Type 0} (cmp : A → A → Ordering) (P : A → Type 0) (x : A) (ys : List A) → P x → AllByRecursion P ys
    → AllByRecursion P (with_once cmp x ys)
all_with cmp P x [] h g = (h, tt)
all_with cmp P x (y ∷ ys) h g = all_matched P (cmp x y) (x ∷ y ∷ ys) (y ∷ ys) (y ∷ with_once cmp x ys) (h, g) g
    (g.0, all_with cmp P x ys h g.1)

all_once : {A : Type 0} (cmp : A → A → Ordering) (P : A → Type 0) (xs : List A) → AllByRecursion P xs
    → AllByRecursion P (ordered_once cmp xs)
all_once cmp P [] h = tt
all_once cmp P (x ∷ xs) h = all_with cmp P x (ordered_once cmp xs) h.0 (all_once cmp P xs h.1)

-- ---- members

pub record Fits (until nodes : ℕ) (star : Bool) (earlier : List MemberEntry) (e : MemberEntry) : Type 0 where
  pub within : e.spec.node < nodes
  pub free : is_taken earlier e.spec.node ≡ false
  pub early : e.spec.join < until
  pub leaves_later : leaves_after e.spec.join e.spec.leave ≡ true
  pub paged : (not e.has_pages || is_late e.spec.role) ≡ true

one_member : (until nodes : ℕ) (star : Bool) (earlier : List MemberEntry) (e : MemberEntry) → Fits until nodes star earlier e
    → MemberInRange e.spec → HasItsPages e → IsMember until e.spec
one_member until nodes star earlier e f range its = grind arith

head_faults : (until nodes : ℕ) (star : Bool) (earlier : List MemberEntry) (i : ℕ) (e : MemberEntry) (es : List MemberEntry)
    → member_faults until nodes star earlier i (e ∷ es) ≡ []
    → Fits until nodes star earlier e × (member_faults until nodes star (earlier ++ e ∷ []) (i + 1) es ≡ [])
head_faults until nodes star earlier i e es h = grind arith

members_fit : (until nodes : ℕ) (star : Bool) (earlier : List MemberEntry) (i : ℕ) (es : List MemberEntry)
    → member_faults until nodes star earlier i es ≡ []
    → AllByRecursion MemberInRange (map (λ e. e.spec) es) → AllByRecursion HasItsPages es
    → AllByRecursion (IsMember until) (map (λ e. e.spec) es)
members_fit until nodes star earlier i [] h range its = tt
members_fit until nodes star earlier i (e ∷ es) h range its =
    let p = head_faults until nodes star earlier i e es h in
    (one_member until nodes star earlier e p.0 range.0 its.0, members_fit until nodes star (earlier ++ e ∷ []) (i + 1) es p.1 range.1 its.1)

nodes_within : (until nodes : ℕ) (star : Bool) (earlier : List MemberEntry) (i : ℕ) (es : List MemberEntry)
    → member_faults until nodes star earlier i es ≡ []
    → AllByRecursion (λ n. n < nodes) (map (λ k. k.node) (map (λ e. e.spec) es))
nodes_within until nodes star earlier i [] h = tt
nodes_within until nodes star earlier i (e ∷ es) h =
    let p = head_faults until nodes star earlier i e es h in (p.0.within, nodes_within until nodes star (earlier ++ e ∷ []) (i + 1) es p.1)

taken_more : (earlier : List MemberEntry) (e : MemberEntry) (n : ℕ) → is_taken (earlier ++ e ∷ []) n
    ≡ (is_taken earlier n || (e.spec.node == n))
taken_more [] e n = by (e.spec.node == n)
  where
    by : (b : Bool) → (b || false) ≡ (false || b)
    by true = refl
    by false = refl
taken_more (x ∷ xs) e n = ap (λ b. (x.spec.node == n) || b) (taken_more xs e n) ∙ by (x.spec.node == n)
  where
    by : (b : Bool) → (b || (is_taken xs n || (e.spec.node == n))) ≡ ((b || is_taken xs n) || (e.spec.node == n))
    by true = refl
    by false = refl

-- no later member is on a node that is taken
none_on : (until nodes : ℕ) (star : Bool) (earlier : List MemberEntry) (i : ℕ) (es : List MemberEntry) (n : ℕ) → is_taken earlier n ≡ true
    → member_faults until nodes star earlier i es ≡ []
    → AllByRecursion (λ m. nat_eq n m ≡ false) (map (λ k. k.node) (map (λ e. e.spec) es))
none_on until nodes star earlier i [] n taken h = tt
none_on until nodes star earlier i (e ∷ es) n taken h =
    let p = head_faults until nodes star earlier i e es h in
    let other : nat_eq n e.spec.node ≡ false = elim (cases_Bool (nat_eq n e.spec.node)) [
      | inl same ↦ (let is : n ≡ e.spec.node = grind (arith, nat_tests) in
          absurd (false≢true (sym p.0.free ∙ ap (is_taken earlier) (sym is) ∙ taken)))
      | inr other ↦ other
    ] in (
      other,
      none_on until nodes star (earlier ++ e ∷ []) (i + 1) es n (taken_more earlier e n ∙ ap (λ b. b || (e.spec.node == n)) taken)
          p.1,
    )

nodes_apart : (until nodes : ℕ) (star : Bool) (earlier : List MemberEntry) (i : ℕ) (es : List MemberEntry)
    → member_faults until nodes star earlier i es ≡ []
    → IsDistinct nat_eq (map (λ k. k.node) (map (λ e. e.spec) es))
unfolding IsDistinct
nodes_apart until nodes star earlier i [] h = tt
nodes_apart until nodes star earlier i (e ∷ es) h =
    let p = head_faults until nodes star earlier i e es h in
    let self : (e.spec.node == e.spec.node) ≡ true = grind (arith, nat_tests) in
    let here : is_taken (earlier ++ e ∷ []) e.spec.node ≡ true = taken_more earlier e e.spec.node
    ∙ ap (λ b. is_taken earlier e.spec.node || b) self ∙ or_right (is_taken earlier e.spec.node) true refl in (
      none_on until nodes star (earlier ++ e ∷ []) (i + 1) es e.spec.node here p.1,
      nodes_apart until nodes star (earlier ++ e ∷ []) (i + 1) es p.1,
    )

-- ---- all together

pub accepted_from : (s : PlainScenario) (star : Bool) (entries : List MemberEntry) (listed : List DropSpec) → InRange s
    → AllByRecursion HasItsPages entries
    → s.members ≡ map (λ e. e.spec) entries → s.drops.listed ≡ ordered_once drop_cmp listed → meaning_faults s star entries listed ≡ []
    → IsAccepted s
unfolding meaning_faults
accepted_from s star entries listed range its members drops h =
    let (tree, h1) = empty_parts (fault_unless (is_tree (network_of s)) NotTree) _ h in
    let (placed, h2) = empty_parts (member_faults s.until s.nodes star [] 0 entries) _ h1 in
    let (drawn, h3) = empty_parts (faults_by BadDraw (fits_draw s.until s.members) 0 s.draws) _ h2 in
    let (told, h4) = empty_parts (faults_by BadSession (fits_session s.until s.members) 0 s.sessions) _ h3 in
    let (dropped, h5) = empty_parts (faults_by BadDrop (fits_drop (length s.links) (length s.members)) 0 listed) _ h4 in
    let (out, h6) = empty_parts (faults_by BadOutage (fits_outage (length s.links)) 0 s.drops.outages) _ h5 in
    let (lost, h7) = empty_parts (faults_by BadLoss (fits_loss (length s.links)) 0 s.drops.losses) _ h6 in
    let ranges : AllByRecursion MemberInRange (map (λ e. e.spec) entries) =
    subst (λ (l : List MemberSpec). AllByRecursion MemberInRange l) members range.members in
    let fit : AllByRecursion (IsMember s.until) s.members = subst (λ (l : List MemberSpec). AllByRecursion (IsMember s.until) l)
    (sym members) (members_fit s.until s.nodes star [] 0 entries placed ranges its) in
    let hosts : AllByRecursion (λ n. n < s.nodes) (map (λ k. k.node) s.members) =
    subst (λ (l : List MemberSpec). AllByRecursion (λ n. n < s.nodes) (map (λ k. k.node) l)) (sym members)
    (nodes_within s.until s.nodes star [] 0 entries placed) in
    let apart : IsDistinct nat_eq (map (λ k. k.node) s.members) = subst (λ (l : List MemberSpec). IsDistinct nat_eq (map (λ k. k.node) l))
    (sym members) (nodes_apart s.until s.nodes star [] 0 entries placed) in
    let listed_fit = all_once drop_cmp (IsDrop s) listed
    (all_weaker _ (IsDrop s) (drop_fits s) listed (none_by BadDrop (fits_drop (length s.links) (length s.members)) 0 listed dropped)) in
    record {
      some_ticks = range.some_ticks;
      few_ticks = range.few_ticks;
      constants = range.constants;
      recovery = range.recovery;
      network = record {
        tree = tree_from_test (network_of s) (unless_true _ NotTree tree);
        delays = All-from_recursion HasDelays s.links range.delays;
        hosts = (All-from_recursion (λ n. n < s.nodes) _ hosts, apart);
      };
      members = All-from_recursion (IsMember s.until) s.members fit;
      draws = All-from_recursion (IsDraw s) s.draws (all_weaker _ (IsDraw s)
          (draw_fits s) s.draws (none_by BadDraw (fits_draw s.until s.members) 0 s.draws drawn));
      few_draws = range.few_draws;
      sessions = All-from_recursion (IsSession s) s.sessions
          (all_weaker _ (IsSession s) (session_fits s) s.sessions (none_by BadSession (fits_session s.until s.members) 0 s.sessions told));
      few_sessions = range.few_sessions;
      drops = All-from_recursion (IsDrop s) s.drops.listed
          (subst (λ (l : List DropSpec). AllByRecursion (IsDrop s) l) (sym drops) listed_fit);
      drops_ascend = subst (λ (l : List DropSpec). Rattle.srm_net.specs.Orders.Ascends drop_cmp l) (sym drops) (drops_ascend listed);
      outages = All-from_recursion (IsOutage s) s.drops.outages
          (all_weaker _ (IsOutage s) (outage_fits s) s.drops.outages
          (none_by BadOutage (fits_outage (length s.links)) 0 s.drops.outages out));
      losses = All-from_recursion (IsLoss s) s.drops.losses
          (all_weaker _ (IsLoss s) (loss_fits s) s.drops.losses
          (none_by BadLoss (fits_loss (length s.links)) 0 s.drops.losses lost));
    }
