-- Nodes that are marked.
use Rattle.std.proofs.Common.{◌≡◌, ℕ, ◌<◌, Bool, true, false, cond, List, [], ◌∷◌, ◌++◌, length, refl}
use Rattle.std.proofs.Common.{sym, ap, ◌∙◌, arith, eqb, slice_set, ◌||◌, ◌==◌}
use Rattle.std.proofs.lemmas.List.{get_or-set_same, get_or-set_other}
use Rattle.srm_net.specs.declared.attaching.Attaching.{Attaching}
use Rattle.srm_net.specs.Growth.{attached}
use Rattle.srm_net.specs.Paths.{is_in}
use Rattle.srm_net.specs.Known.{is_known}
use Rattle.srm_net.proofs.DropLemmas.{any_push}

-- of the nodes, those of this list are marked
abbrev pub Marks : ℕ → List ℕ → List Bool → Type 0
Marks nodes xs known = (x : ℕ) → x < nodes → is_known known x ≡ is_in xs x

-- the nodes marked as known are the attached ones
abbrev pub KnownAre : ℕ → List Attaching → List Bool → Type 0
KnownAre nodes ss known = Marks nodes (attached ss) known

-- whether a node is marked, after one of them was
pub known_set : (known : List Bool) (n : ℕ) → n < length known → (x : ℕ) → is_known (slice_set known n true) x
    ≡ cond (eqb n x) true (is_known known x)
known_set known n h x = grind (arith, get_or-set_same, get_or-set_other)

in_cons : (n : ℕ) (xs : List ℕ) (x : ℕ) → is_in (n ∷ xs) x ≡ cond (eqb n x) true (is_in xs x)
in_cons n xs x = elim (eqb n x) as (λ b. (b || is_in xs x) ≡ cond b true (is_in xs x)) [ true ↦ refl | false ↦ refl ]

pub mark_more : (nodes : ℕ) (xs : List ℕ) (n : ℕ) (known : List Bool) → length known ≡ nodes → n < nodes → Marks nodes xs known
    → Marks nodes (n ∷ xs) (slice_set known n true)
mark_more nodes xs n known e h k x lt =
    known_set known n (omega arith) x ∙ ap (λ b. cond (eqb n x) true b) (k x lt) ∙ sym (in_cons n xs x)

-- the same with the new one at the end
pub mark_push : (nodes : ℕ) (xs : List ℕ) (n : ℕ) (known : List Bool) → length known ≡ nodes → n < nodes → Marks nodes xs known
    → Marks nodes (xs ++ n ∷ []) (slice_set known n true)
mark_push nodes xs n known e h k x lt =
    known_set known n (omega arith) x ∙ ap (λ b. cond (eqb n x) true b) (k x lt) ∙ sym (any_push (λ m. m == x) xs n)

pub known_more : (nodes : ℕ) (ss : List Attaching) (s : Attaching) (known : List Bool) → length known ≡ nodes → s.node < nodes
    → KnownAre nodes ss known → KnownAre nodes (s ∷ ss) (slice_set known s.node true)
known_more nodes ss s known e h k = mark_more nodes (attached ss) s.node known e h k
