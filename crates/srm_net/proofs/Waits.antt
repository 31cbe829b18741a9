-- A tree that grows by steps that waited.
use Rattle.std.proofs.lemmas.Grind.{elements}
use Rattle.std.proofs.Common.{◌≡◌, ◌⊎◌, ℕ, ◌+◌, ◌-◌, ◌*◌, ◌<◌, ◌≤◌, Bool, true, false, List, [], ◌∷◌, ◌++◌, length, reverse}
use Rattle.std.proofs.Common.{Some, refl, sym, ap, ◌∙◌, subst, inl, inr, arith, slice_get, slice_set, slice_index_or, All}
use Rattle.std.proofs.lemmas.Bool.{both_ways, false≢true}
use Rattle.std.proofs.lemmas.List.{reverse-append, map-append, length-set, length_push}
use Rattle.srm_net.specs.declared.link.LinkSpec.{LinkSpec}
use Rattle.srm_net.specs.declared.attaching.Attaching.{Attaching}
use Rattle.srm_net.specs.Network.{plain_network, Joins, IsWithin, IsTree}
use Rattle.srm_net.specs.Paths.{is_in}
use Rattle.srm_net.specs.Growth.{Attaches, attached, Grows, newest, IsAbove}
use Rattle.srm_net.specs.Known.{is_known}
use Rattle.srm_net.specs.Waiting.{targets, LeadsFrom, Wait, AddsSteps, IsGrowing, steps_left}
use Rattle.srm_net.proofs.Lists.{all_get, read_mark}
use Rattle.srm_net.proofs.Marks.{KnownAre, known_more}
use Rattle.srm_net.proofs.Numbers.{in_head, in_append_left, in_append_right, in_append_cases, one_missing, few_apart}
use Rattle.srm_net.proofs.Growing.{attached_length, attached_apart, attached_below, beyond_old, joins_below, leaves_by}
use Rattle.srm_net.proofs.Growing.{root_attached}

-- ---- above

above_on : (ss : List Attaching) (p q x : ℕ) → IsAbove ss p q → IsAbove ss q x → IsAbove ss p x
above_on ss p q x a b l h = b l (a l h)

above_kept : (s : Attaching) (ss : List Attaching) (p x : ℕ) → is_in (attached ss) s.node ≡ false → is_in (attached ss) p ≡ true
    → is_in (attached ss) x ≡ true → IsAbove ss p x → IsAbove (s ∷ ss) p x
above_kept s ss p x new hp hx a l h = beyond_old s ss l x new hx ∙ a l (sym (beyond_old s ss l p new hp) ∙ h)

above_new : (s : Attaching) (ss : List Attaching) (p : ℕ) → is_in (attached ss) s.node ≡ false → is_in (attached ss) p ≡ true
    → IsAbove ss p s.parent → IsAbove (s ∷ ss) p s.node
above_new s ss p new hp a l h = grind arith

-- ---- waiting

leads_kept : (links : List LinkSpec) (s : Attaching) (ss : List Attaching) (r : Attaching) → LeadsFrom links ss r
    → LeadsFrom links (s ∷ ss) r
leads_kept links s ss r f = grind arith

waits_kept : (links : List LinkSpec) (s : Attaching) (ss : List Attaching) (x : ℕ) (rest : List Attaching)
    → is_in (attached ss) s.node ≡ false → is_in (attached ss) x ≡ true → Wait links ss x rest → Wait links (s ∷ ss) x rest
waits_kept links s ss x [] new hx w = tt
waits_kept links s ss x (r ∷ rest) new hx w = (
  leads_kept links s ss r w.0,
  above_kept s ss r.parent x new w.0.parent hx w.1,
  waits_kept links s ss r.parent rest new w.0.parent w.2,
)

-- once the first of them is taken, the others wait at its node
pub waits_new : (links : List LinkSpec) (s : Attaching) (ss : List Attaching) (rest : List Attaching) → is_in (attached ss) s.node ≡ false
    → Wait links ss s.parent rest → Wait links (s ∷ ss) s.node rest
waits_new links s ss [] new w = tt
waits_new links s ss (r ∷ rest) new w = (
  leads_kept links s ss r w.0,
  above_new s ss r.parent new w.0.parent w.1,
  waits_kept links s ss r.parent rest new w.0.parent w.2,
)

-- and where it is left out, at the same node as before
pub waits_skip : (links : List LinkSpec) (ss : List Attaching) (x : ℕ) (s : Attaching) (rest : List Attaching)
    → Wait links ss x (s ∷ rest) → Wait links ss x rest
waits_skip links ss x s [] w = tt
waits_skip links ss x s (r ∷ rest) w = (w.2.0, above_on ss r.parent s.parent x w.2.1 w.1, w.2.2)

pub waits_push : (links : List LinkSpec) (ss : List Attaching) (x : ℕ) (ps : List Attaching) (s : Attaching) → s.parent ≡ x
    → LeadsFrom links ss s → Wait links ss x (reverse ps) → Wait links ss x (reverse (ps ++ s ∷ []))
waits_push links ss x ps s e f w = grind (arith, reverse-append)

pub attaches_waited : (links : List LinkSpec) (ss : List Attaching) (s : Attaching) → LeadsFrom links ss s
    → is_in (attached ss) s.node ≡ false → Attaches links (attached ss) s
attaches_waited links ss s f new = record { spec = f.spec; link = f.link; joins = f.joins; parent = f.parent; node = new }

pub leads_below : (nodes : ℕ) (links : List LinkSpec) (ss : List Attaching) (s : Attaching)
    → All (IsWithin nodes) links → LeadsFrom links ss s
    → s.node < nodes
leads_below nodes links ss s ends f =
    (joins_below nodes f.spec s.parent s.node (all_get (IsWithin nodes) links s.link f.spec ends f.link) f.joins).1

-- ---- all neighbours

-- each neighbour of an attached node is attached, or a step to it waits
abbrev pub Covers : List LinkSpec → List Attaching → List Attaching → Type 0
Covers links ss pending =
    (l : ℕ) (k : LinkSpec) (u x : ℕ) → slice_get links l ≡ Some k → Joins k u x → is_in (attached ss) u ≡ true
    → (is_in (attached ss) x ≡ true) ⊎ (is_in (targets pending) x ≡ true)

target_cases : (ps : List Attaching) (s : Attaching) (x : ℕ) → is_in (targets (ps ++ s ∷ [])) x ≡ true
    → (is_in (targets ps) x ≡ true) ⊎ (s.node ≡ x)
target_cases ps s x h = grind (arith, in_append_cases, map-append)

pub covers_skip : (links : List LinkSpec) (ss ps : List Attaching) (s : Attaching) → is_in (attached ss) s.node ≡ true
    → Covers links ss (ps ++ s ∷ [])
    → Covers links ss ps
covers_skip links ss ps s known c l k u x g j i = grind (arith, target_cases)

pub covers_new : (nodes : ℕ) (links : List LinkSpec) (s : Attaching) (ss : List Attaching) (marks : List Bool) (ps new : List Attaching)
    → All (IsWithin nodes) links
    → KnownAre nodes (s ∷ ss) marks → AddsSteps links marks s.node ps new → Covers links ss (ps ++ s ∷ []) → Covers links (s ∷ ss) new
covers_new nodes links s ss marks ps new ends agree a c l k u x g j i = grind (arith, elements, target_cases)

-- ---- the end

-- no more nodes are attached than there are
pub attached_fit : (nodes : ℕ) (links : List LinkSpec) (ss : List Attaching) → 1 ≤ nodes → All (IsWithin nodes) links → Grows links ss
    → length ss + 1 ≤ nodes
attached_fit nodes links ss some ends g =
    let k = few_apart nodes (attached ss) (attached_apart links ss g) (attached_below nodes links ss some ends g) in
    let long = attached_length ss in
    omega arith

-- where no step waits, and some node is not attached, there is no tree
pub stuck_no_tree : (nodes : ℕ) (links : List LinkSpec) (ss : List Attaching) → length ss + 1 < nodes → Covers links ss []
    → (t : IsTree (plain_network nodes links [])) → ⊥
stuck_no_tree nodes links ss few c t =
    let long = attached_length ss in
    let missing = one_missing nodes (attached ss) (omega arith) in
    let path = t.connected 0 missing.0 t.some_nodes missing.1 in
    let out = leaves_by links (attached ss) 0 path.0 missing.0 path.1.0 path.1.1 (root_attached ss) missing.2 in
    let s = out.0 in
    let a = out.1 in
    elim (c s.link a.spec s.parent s.node a.link a.joins a.parent) [ inl e ↦ both_ways _ a.node e | inr e ↦ false≢true e ]

-- ---- one more waits

pub target_kept : (ps : List Attaching) (s : Attaching) (x : ℕ) → is_in (targets ps) x ≡ true → is_in (targets (ps ++ s ∷ [])) x ≡ true
target_kept ps s x h =
    subst (λ ns. is_in ns x ≡ true) (sym (map-append (λ (t : Attaching). t.node) ps (s ∷ [])))
    (in_append_left (targets ps) (s.node ∷ []) x h)

pub target_new : (ps : List Attaching) (s : Attaching) (x : ℕ) → s.node ≡ x → is_in (targets (ps ++ s ∷ [])) x ≡ true
target_new ps s x e = grind (arith, map-append, in_append_right)

-- ---- it ends

pub none_left : (ps : List Attaching) → length ps ≡ 0 → ps ≡ []
none_left [] e = refl
none_left (s ∷ ss) e = absurd (omega arith)

pub fewer_wait : (m n links old new : ℕ) → m ≡ n + 1 → new ≤ old + links → n * (links + 1) + new < m * (links + 1) + (old + 1)
fewer_wait m n links old new e h = grind arith

-- ---- the step that comes next

module _ (nodes : ℕ) (links : List LinkSpec) (known : List Bool) (ss ps : List Attaching) (s : Attaching)
    (g : IsGrowing nodes links known ss (ps ++ s ∷ [])) where
  next : Wait links ss (newest ss) (s ∷ reverse ps)
  next = subst (Wait links ss (newest ss)) (reverse-append ps (s ∷ [])) g.waits

  pub next_below : s.node < nodes
  next_below = leads_below nodes links ss s g.ends next.0

  -- the mark of its node, as it is read
  pub next_mark : (i : ℕ) (b : Bool) → i ≡ s.node → b ≡ slice_index_or known i b → is_known known s.node ≡ b
  next_mark i b e r = read_mark known i s.node b e (subst (λ n. s.node < n) (sym g.long) next_below) r

  -- where its node is attached it is left out
  pub growing_skip : is_known known s.node ≡ true → IsGrowing nodes links known ss ps
  growing_skip h = record {
    some = g.some;
    ends = g.ends;
    long = g.long;
    marks = g.marks;
    grown = g.grown;
    ordered = g.ordered;
    waits = waits_skip links ss (newest ss) s (reverse ps) next;
    covers = covers_skip links ss ps s (sym (g.marks s.node next_below) ∙ h) g.covers;
  }

  module _ (h : is_known known s.node ≡ false) (marks : List Bool) (all : List Attaching) (is : marks ≡ slice_set known s.node true)
      (adds : AddsSteps links marks s.node ps all) where
    new : is_in (attached ss) s.node ≡ false
    new = sym (g.marks s.node next_below) ∙ h

    grown : Grows links (s ∷ ss)
    grown = (attaches_waited links ss s next.0 new, g.grown)

    -- and else it is attached
    pub growing_more : IsGrowing nodes links marks (s ∷ ss) all
    growing_more =
        let marked = subst (KnownAre nodes (s ∷ ss)) (sym is) (known_more nodes ss s known g.long next_below g.marks) in
        record {
          some = g.some;
          ends = g.ends;
          long = ap length is ∙ length-set known s.node true ∙ g.long;
          marks = marked;
          grown = grown;
          ordered = (next.1, g.ordered);
          waits = adds.wait (s ∷ ss) (in_head s.node (attached ss)) (waits_new links s ss (reverse ps) new next.2);
          covers = covers_new nodes links s ss marks ps all g.ends marked adds g.covers;
        }

    pub fewer_left : (steps more : List Attaching) → length steps ≡ length ss → length more ≡ length steps + 1
        → steps_left nodes links more all < steps_left nodes links steps (ps ++ s ∷ [])
    fewer_left steps more e f =
        let fit = attached_fit nodes links (s ∷ ss) g.some g.ends grown in
        subst (λ n. (nodes - length more) * (length links + 1) + length all < (nodes - length steps) * (length links + 1) + n)
        (sym (length_push ps s)) (fewer_wait (nodes - length steps) (nodes - length more) (length links) (length ps) (length all)
        (omega arith) adds.few)
