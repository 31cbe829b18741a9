-- What a top table that fits its rules holds.
use Rattle.std.proofs.Common.{slice_get, ◌≡◌, ℕ, suc, ◌+◌, ◌≤◌, Bool, true, false, not, length, Option, Some, None, is_some, codes, refl}
use Rattle.std.proofs.Common.{ap, subst, sym, ◌∙◌, arith, sum_by, nat_le, unwrap_or, inl, inr}
use Rattle.std.proofs.lemmas.Bool.{false≢true, and_parts, cases_Bool, or_right}
use Rattle.std.proofs.lemmas.List.Sums.{sum_by-cons}
use Rattle.std.specs.List.{list_all}
use Rattle.std.proofs.lemmas.Bool.Decides.{nat_tests}
use Rattle.std.specs.Prelude.{◌&&◌, ◌||◌, if◌then◌else◌}
use Rattle.toml.specs.Data.{Data, Items, Members, no_items, item, string, integer, float, boolean, datetime, array, table, get_member}
use Rattle.srm_net.specs.Limits.{end_of_time, most_links, most_nodes}
use Rattle.srm_net.specs.Network.{IsLinkDelay}
use Rattle.srm_scenario.specs.declared.file_key.FileKey.{FileKey}
use Rattle.srm_scenario.specs.declared.file_key.FileKey.TheVariants as key
use Rattle.srm_scenario.specs.declared.rule.ValueKind.TheVariants.{Whole, Word, Numbers, Each, Elements, Repeated}
use Rattle.srm_scenario.specs.declared.rule.Need.TheVariants.{Required, Optional, Refused}
use Rattle.srm_scenario.specs.declared.rule.Rule.{Rule}
use Rattle.srm_scenario.specs.declared.topology.Topology.{Topology}
use Rattle.srm_scenario.specs.declared.topology.Topology.TheVariants.{Chain, Star, Tree}
use Rattle.srm_scenario.specs.declared.version.Version.{Version}
use Rattle.srm_scenario.specs.Keys.{name_of}
use Rattle.srm_scenario.specs.Accepted.{AreConstants, HasRoom, IsRecovery}
use Rattle.srm_scenario.specs.KeyLimits.{greatest_delay, greatest_limit, greatest_scope, most_tries}
use Rattle.srm_scenario.specs.Rules.{rule, fits_rules, is_met, is_text, meets, most_nodes_in, last_number, allows_back}
use Rattle.srm_scenario.specs.Rules.{topology_rule, degree_rule, constant_rule, allows_limits, allows_scopes, rule_if, scope_rule}
use Rattle.srm_scenario.specs.Rules.{back_rule, count_items, count_made, times_repeated, rule_where, listed_in, topologies_in, is_kind}
use Rattle.srm_scenario.specs.Rules.{is_whole, all_whole, optional_number}
use Rattle.srm_scenario.specs.Described.{number, is_text_or, says, array_of, array_at, items_list, version_of, topology_of}
use Rattle.srm_scenario.specs.Described.{nodes_in, delays_of, constants_of, number_or, recovery_of, room_of, form_of, given_nodes}
use Rattle.srm_scenario.specs.Described.{names_parents}
use Rattle.srm_scenario.specs.Faults.{rules_of_top}
use Rattle.srm_scenario.specs.LookUps.{HasDegree, AreDelays, FewElements}
use Rattle.srm_scenario.proofs.KeyRanges.{number_fits, or_fits, required_number, rule_met, back_fits}

pub few_nodes : (v : Version) → (most_nodes_in v ≤ most_nodes) × (last_number v ≤ most_links) × (last_number v + 1 ≡ most_nodes_in v)
few_nodes v = grind arith

-- ---- the topology

-- of a topology's word, which of three it is says which topology it names
abbrev named : Bool → Bool → Bool → ℕ → Option Topology
named tree chain star degree = if tree then Some (Tree degree) else if chain then Some Chain else if star then Some Star else None

named_one : (t c s : Bool) (n : ℕ) → (t || (c || s)) ≡ is_some (named t c s n)
named_one true c s n = refl
named_one false true s n = refl
named_one false false true n = refl
named_one false false false n = refl

-- a word that is there is one of a topology that is made of its size, or says that parents are given
known_word : (v : Version) (d : Data) → is_kind (Word (topologies_in v)) d ≡ true
    → ((is_text (codes "tree") d || (is_text (codes "chain") d || is_text (codes "star") d)) || is_text (codes "parents") d) ≡ true
known_word v d h = grind arith

shaped_known : (v : Version) (o : Option Data) → meets Optional (Word (topologies_in v)) o ≡ true → is_some o ≡ true
    → ((is_text_or (codes "tree") o || (is_text_or (codes "chain") o || is_text_or (codes "star") o))
    || is_text_or (codes "parents") o) ≡ true
shaped_known v None h e = absurd (false≢true e)
shaped_known v (Some d) h e = known_word v d h

degree_by : (v : Version) (ms : Members) (t c s : Bool) → is_met ms (degree_rule v t) ≡ true
    → HasDegree (named t c s (number (codes "degree") ms))
degree_by v ms true c s h =
    let r = required_number key.Degree 2 (last_number v) ms h in
    let few = few_nodes v in
    (r.0, omega (arith, r.1, few.1))
degree_by v ms false true s h = tt
degree_by v ms false false true h = tt
degree_by v ms false false false h = tt

-- ---- what a topology decides

delays_by : (v : Version) (ms : Members) (o : Option Topology) (others more : Bool)
    → is_met ms (rule_where (is_some o || others) key.Delay (Whole 1 greatest_delay)) ≡ true
    → is_met ms (back_rule ((is_some o || more) && allows_back v)) ≡ true → AreDelays o (delays_of ms)
delays_by v ms None others more d b = tt
delays_by v ms (Some t) others more d b =
    let there = required_number key.Delay 1 greatest_delay ms d in
    (there, back_fits ms (allows_back v) b there)

-- ---- constants

constant_room : (v : Version) (allowed : Bool) (ms : Members) (k l m : FileKey) → is_met ms (constant_rule k v) ≡ true
    → is_met ms (rule_if allowed l (Whole 0 (number (name_of k) ms))) ≡ true
    → is_met ms (rule_if allowed m (Whole (number (name_of k) ms) greatest_limit)) ≡ true
    → HasRoom (number_or (name_of l) (name_of k) ms) (number (name_of k) ms) (number_or (name_of m) (name_of k) ms)
constant_room v allowed ms k l m first least most = grind arith

-- ---- arrays

count-list : (ds : Items) → count_items ds ≡ length (items_list ds)
count-list no_items = refl
count-list (item d ds) = ap suc (count-list ds)

few_listed : (k : FileKey) (most : ℕ) (ms : Members) → is_met ms (rule k (Elements most) Optional) ≡ true
    → length (array_at (name_of k) ms) ≤ most
few_listed k most ms h = grind (arith, count-list)

count-made : (ds : Items) → count_made ds ≡ sum_by times_repeated (items_list ds)
count-made no_items = refl
count-made (item d ds) = ap (λ n. times_repeated d + n) (count-made ds) ∙ sym (sum_by-cons times_repeated d (items_list ds))

few_repeated : (k : FileKey) (most : ℕ) (ms : Members) → is_met ms (rule k (Repeated most) Optional) ≡ true
    → sum_by times_repeated (array_at (name_of k) ms) ≤ most
few_repeated k most ms h = grind (arith, count-made)

few_elements : (v : Version) (k : FileKey) (ms : Members) → is_met ms (rule k (listed_in v) Optional) ≡ true
    → FewElements v (array_at (name_of k) ms)
few_elements v k ms h = grind (arith, few_listed, few_repeated)

-- parents that are given are few, and each of them is a node's number
numbers_met : (here : Bool) (k : FileKey) (most high : ℕ) (ms : Members) → is_met ms (rule_where here k (Numbers most high)) ≡ true
    → (length (array_at (name_of k) ms) ≤ most) × (list_all (is_whole 0 high) (array_at (name_of k) ms) ≡ true)
numbers_met here k most high ms h = by here (get_member (name_of k) ms) h
  where
    whole : (ds : Items) → all_whole 0 high ds ≡ true → list_all (is_whole 0 high) (items_list ds) ≡ true
    whole no_items e = refl
    whole (item d ds) e =
        let (one, rest) = and_parts (is_whole 0 high d) (all_whole 0 high ds) e in
        (λ i. one i && whole ds rest i)

    by : (b : Bool) (o : Option Data) → meets (if b then Required else Refused) (Numbers most high) o ≡ true
        → (length (array_of o) ≤ most) × (list_all (is_whole 0 high) (array_of o) ≡ true)
    by b None e = (omega arith, refl)
    by false (Some d) e = absurd (false≢true e)
    by true (Some (array ds)) e =
        let (few, all) = and_parts (nat_le (count_items ds) most) (all_whole 0 high ds) e in
        let le : count_items ds ≤ most = grind (arith, nat_tests) in
        (subst (λ n. n ≤ most) (count-list ds) le, whole ds all)
    by true (Some (string t)) e = absurd (false≢true e)
    by true (Some (integer t)) e = absurd (false≢true e)
    by true (Some (float t)) e = absurd (false≢true e)
    by true (Some (boolean t)) e = absurd (false≢true e)
    by true (Some (datetime t)) e = absurd (false≢true e)
    by true (Some (table t)) e = absurd (false≢true e)

-- ---- a table that fits

module _ (ms : Members) (h : fits_rules (rules_of_top ms) ms ≡ true) where
  abbrev shaped : Bool
  shaped = is_some (get_member (codes "topology") ms)

  met : (n : ℕ) (r : Rule) → slice_get (rules_of_top ms) n ≡ Some r → is_met ms r ≡ true
  met n r e = rule_met (rules_of_top ms) ms h n r e

  pub until_fits : (1 ≤ number (codes "until") ms) × (number (codes "until") ms ≤ end_of_time)
  until_fits = number_fits (rules_of_top ms) ms h 1 key.Until 1 end_of_time refl

  -- a constant, by the places of the rules of its first, its least and its greatest value
  room_at : (k l m : FileKey) (i : ℕ) → slice_get (rules_of_top ms) (2 + i) ≡ Some (constant_rule k (version_of ms))
      → slice_get (rules_of_top ms) (6 + i) ≡ Some (rule_if (allows_limits (version_of ms)) l (Whole 0 (number (name_of k) ms)))
      → slice_get (rules_of_top ms) (10 + i)
      ≡ Some (rule_if (allows_limits (version_of ms)) m (Whole (number (name_of k) ms) greatest_limit))
      → HasRoom (number_or (name_of l) (name_of k) ms) (number (name_of k) ms) (number_or (name_of m) (name_of k) ms)
  room_at k l m i first least most =
      constant_room (version_of ms) (allows_limits (version_of ms)) ms k l m (met (2 + i) _ first) (met (6 + i) _ least)
      (met (10 + i) _ most)

  backoff_fits : (2 ≤ (room_of ms).backoff) × ((room_of ms).backoff ≤ 3)
  backoff_fits =
      or_fits (allows_limits (version_of ms)) key.Backoff 2 3 2 ms
      (met 14 (rule_if (allows_limits (version_of ms)) key.Backoff (Whole 2 3)) refl)
      (omega arith) (omega arith)

  pub constants_fit : AreConstants (constants_of ms) (room_of ms)
  constants_fit = record {
    c1 = room_at key.C1 key.C1Least key.C1Most 0 refl refl refl;
    c2 = room_at key.C2 key.C2Least key.C2Most 1 refl refl refl;
    d1 = room_at key.D1 key.D1Least key.D1Most 2 refl refl refl;
    d2 = room_at key.D2 key.D2Least key.D2Most 3 refl refl refl;
    twice = backoff_fits.0;
    thrice = backoff_fits.1;
  }

  pub scope_fits : number (codes "scope") ms ≤ greatest_scope
  scope_fits =
      (or_fits (allows_scopes (version_of ms)) key.Scope 0 greatest_scope 0 ms (met 15 (scope_rule (version_of ms)) refl) (omega arith)
      (omega arith)).1

  -- a number of local recovery, which lies in its range where it is given, and is another one where it is not
  recovery_at : (k : FileKey) (low high other i : ℕ)
      → slice_get (rules_of_top ms) i ≡ Some (rule_if (allows_scopes (version_of ms)) k (Whole low high)) → low ≤ other → other ≤ high
      → (low ≤ unwrap_or (optional_number (name_of k) ms) other) × (unwrap_or (optional_number (name_of k) ms) other ≤ high)
  recovery_at k low high other i is least most = or_fits (allows_scopes (version_of ms)) k low high other ms (met i _ is) least most

  pub recovery_fits : IsRecovery (recovery_of ms)
  recovery_fits =
      let widen = recovery_at key.Widen 0 greatest_scope 0 16 refl (omega arith) (omega arith) in
      let tries = recovery_at key.Tries 1 most_tries 1 17 refl (omega arith) (omega arith) in
      let steps = recovery_at key.Steps 1 2 2 18 refl (omega arith) (omega arith) in
      record {
        widen = widen.1;
        some_tries = tries.0;
        few_tries = tries.1;
        one_step = steps.0;
        two_steps = steps.1;
      }

  topology_met : is_met ms (topology_rule (version_of ms)) ≡ true
  topology_met = met 20 _ refl

  degree_met : is_met ms (degree_rule (version_of ms) (says (codes "topology") (codes "tree") ms)) ≡ true
  degree_met = met 24 _ refl

  sized : (form_of ms).sized ≡ is_some (topology_of ms)
  sized = named_one (says (codes "topology") (codes "tree") ms) (says (codes "topology") (codes "chain") ms)
      (says (codes "topology") (codes "star") ms) (number (codes "degree") ms)

  pub topology_fits : HasDegree (topology_of ms)
  topology_fits = degree_by (version_of ms) ms (says (codes "topology") (codes "tree") ms) (says (codes "topology") (codes "chain") ms)
      (says (codes "topology") (codes "star") ms) degree_met

  pub tree_degree : says (codes "topology") (codes "tree") ms ≡ true → number (codes "degree") ms ≤ most_links
  tree_degree e =
      let r = required_number key.Degree 2 (last_number (version_of ms)) ms
      (subst (λ b. is_met ms (degree_rule (version_of ms) b) ≡ true) e degree_met) in
      let few = few_nodes (version_of ms) in
      omega (arith, r.1, few.1)

  parents_met : (length (array_at (codes "parent") ms) ≤ last_number (version_of ms))
      × (list_all (is_whole 0 (last_number (version_of ms))) (array_at (codes "parent") ms) ≡ true)
  parents_met = numbers_met (names_parents ms) key.Parent (last_number (version_of ms)) (last_number (version_of ms)) ms (met 32 _ refl)

  pub few_parents : length (array_at (codes "parent") ms) ≤ most_links
  few_parents =
      let few = parents_met.0 in
      let most = few_nodes (version_of ms) in
      omega (arith, few, most.1)

  pub whole_parents : list_all (is_whole 0 (last_number (version_of ms))) (array_at (codes "parent") ms) ≡ true
  whole_parents = parents_met.1

  -- where nothing is made of its size, as many nodes are given as may be there
  given_fit : is_some (topology_of ms) ≡ false
      → (1 ≤ given_nodes ms) × (given_nodes ms ≤ most_nodes_in (version_of ms))
  given_fit none = by (names_parents ms) refl
    where
      by : (b : Bool) → names_parents ms ≡ b
          → (1 ≤ (if b then length (array_at (codes "parent") ms) + 1 else number (codes "nodes") ms))
          × ((if b then length (array_at (codes "parent") ms) + 1 else number (codes "nodes") ms) ≤ most_nodes_in (version_of ms))
      by true e =
          let few = parents_met.0 in
          let most = few_nodes (version_of ms) in
          (omega arith, omega (arith, few, most.2))
      by false e =
          let free : shaped ≡ false = elim (cases_Bool shaped) [
            | inl there ↦ absurd (false≢true
                (sym ((λ i. (sized ∙ none) i || e i)) ∙ shaped_known (version_of ms) (get_member (codes "topology") ms) topology_met there))
            | inr free ↦ free
          ] in
          required_number key.Nodes 1 (most_nodes_in (version_of ms)) ms
          (subst (λ b. is_met ms (rule_where (not b) key.Nodes (Whole 1 (most_nodes_in (version_of ms)))) ≡ true) free (met 19 _ refl))

  pub nodes_fit : (1 ≤ nodes_in (topology_of ms) ms) × (nodes_in (topology_of ms) ms ≤ most_nodes_in (version_of ms))
  nodes_fit = by (topology_of ms) refl
    where
      by : (o : Option Topology) → topology_of ms ≡ o → (1 ≤ nodes_in o ms) × (nodes_in o ms ≤ most_nodes_in (version_of ms))
      by None e = given_fit (ap is_some e)
      by (Some t) e =
          required_number key.Size 1 (most_nodes_in (version_of ms)) ms
          (subst (λ b. is_met ms (rule_where b key.Size (Whole 1 (most_nodes_in (version_of ms)))) ≡ true) (sized ∙ ap is_some e)
          (met 21 _ refl))

  abbrev delays_listed : Bool
  delays_listed = names_parents ms && not (is_some (get_member (codes "delays") ms))

  abbrev backs_listed : Bool
  backs_listed = names_parents ms && not (is_some (get_member (codes "backs") ms))

  delay_met : is_met ms (rule_where (is_some (topology_of ms) || delays_listed) key.Delay (Whole 1 greatest_delay)) ≡ true
  delay_met = subst (λ b. is_met ms (rule_where (b || delays_listed) key.Delay (Whole 1 greatest_delay)) ≡ true) sized (met 22 _ refl)

  back_met : is_met ms (back_rule ((is_some (topology_of ms) || backs_listed) && allows_back (version_of ms))) ≡ true
  back_met = subst (λ b. is_met ms (back_rule ((b || backs_listed) && allows_back (version_of ms))) ≡ true) sized (met 23 _ refl)

  pub delays_fit : AreDelays (topology_of ms) (delays_of ms)
  delays_fit = delays_by (version_of ms) ms (topology_of ms) delays_listed backs_listed delay_met back_met

  pub delays_met : is_met ms (rule_if (names_parents ms) key.Delays (Each (length (array_at (codes "parent") ms)) 1 greatest_delay)) ≡ true
  delays_met = met 33 _ refl

  pub backs_met : is_met ms (rule_if (names_parents ms) key.Backs (Each (length (array_at (codes "parent") ms)) 1 greatest_delay)) ≡ true
  backs_met = met 34 _ refl

  -- where parents are given without delays of each link, one delay is given for all
  pub one_delay : names_parents ms ≡ true → is_some (get_member (codes "delays") ms) ≡ false → IsLinkDelay (number (codes "delay") ms)
  one_delay p none =
      required_number key.Delay 1 greatest_delay ms
      (subst (λ b. is_met ms (rule_where b key.Delay (Whole 1 greatest_delay)) ≡ true)
      (ap (λ b. is_some (topology_of ms) || b) (λ i. p i && not (none i)) ∙ or_right (is_some (topology_of ms)) true refl) delay_met)

  -- and the way back is in range where the way there is
  pub one_back : (other : ℕ) → IsLinkDelay other → IsLinkDelay (unwrap_or (optional_number (codes "back") ms) other)
  one_back other fits =
      or_fits ((is_some (topology_of ms) || backs_listed) && allows_back (version_of ms)) key.Back 1 greatest_delay other ms back_met
      fits.0 fits.1

  pub draws_fit : FewElements (version_of ms) (array_at (codes "draw") ms)
  draws_fit = few_elements (version_of ms) key.Draw ms (met 27 _ refl)

  pub sessions_fit : FewElements (version_of ms) (array_at (codes "session") ms)
  sessions_fit = few_elements (version_of ms) key.Session ms (met 28 _ refl)
