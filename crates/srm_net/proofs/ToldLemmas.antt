-- What a network's tables of sides and of least distances give.
use Rattle.std.proofs.Common.{◌≡◌, ℕ, ◌+◌, ◌<◌, Bool, cond, List, [], ◌∷◌, ◌++◌, length, Option}
use Rattle.std.proofs.Common.{Some, sym, ◌∙◌, subst, inl, inr, arith, slice_get, slice_index_or}
use Rattle.std.proofs.lemmas.Bool.{cases_eq}
use Rattle.srm_net.specs.declared.link.LinkSpec.{LinkSpec}
use Rattle.srm_net.specs.declared.sides.Sides.{Sides}
use Rattle.srm_net.specs.declared.net.Net.TheInside.{Inside}
use Rattle.srm_net.specs.Network.{Network}
use Rattle.srm_net.specs.Tables.{is_beyond, near_end, some_beyond, TellsSides}
use Rattle.srm_net.specs.Least.{out}
use Rattle.srm_net.specs.Told.{IsTold}
use Rattle.srm_net.proofs.Lists.{get_below, below_get, get_index, get_push_old, get_push_new}

-- what the sides of a link tell
pub sides_told : (n : Inside) → IsTold n → (l : ℕ) (k : LinkSpec) → slice_get n.tree.value.links l ≡ Some k → (s : Sides) → s
    ≡ slice_index_or n.sides.items l s → (u : ℕ) → (b : Bool) → is_beyond n.tree.value l k u ≡ b
    → cond b s.a s.b ≡ some_beyond n.tree.value l k u
sides_told n i l k g s r u b q = grind (arith, get_index)

pub side_below : (n : Inside) → IsTold n → (l : ℕ) → l < length n.tree.value.links → l < length n.sides.items
side_below n i l h = let k = below_get n.tree.value.links l h in let told = i.sides l k.0 k.1 in get_below n.sides.items l told.0 told.1

-- ---- at the network that callers see

module _ (w n : Network) (e : w ≡ n) (l u : ℕ) (spec : LinkSpec) (g : slice_get w.links l ≡ Some spec) (k : LinkSpec)
    (h : slice_get n.links l ≡ Some k) where
  pub near_seen : (b : Bool) → ((j : LinkSpec) → slice_get w.links l ≡ Some j → b ≡ is_beyond w l j u) → cond b spec.b spec.a
      ≡ near_end n l k u
  near_seen b t = grind arith

pub any_seen : (i : Inside) → IsTold i → (n : Network) → i.tree.value ≡ n → (l u f : ℕ) (s : Sides) → f ≡ l
    → s ≡ slice_index_or i.sides.items f s
    → (k : LinkSpec) → slice_get n.links l ≡ Some k
    → (b : Bool) → ((j : LinkSpec) → slice_get i.tree.value.links l ≡ Some j → b ≡ is_beyond i.tree.value l j u)
    → cond b s.a s.b ≡ some_beyond n l k u
any_seen i t n e l u f s q r k h b y = grind (arith, sides_told)

-- ---- making the tables

-- the sides of the links below a number are told
abbrev pub SidesBelow : Network → ℕ → List Sides → Type 0
SidesBelow w n all = (l : ℕ) (k : LinkSpec) → l < n → slice_get w.links l ≡ Some k → (s : Sides) × (slice_get all l ≡ Some s)
    × TellsSides w l k s

pub sides_more : (w : Network) (n : ℕ) (all : List Sides) (s : Sides) → length all ≡ n → SidesBelow w n all
    → ((k : LinkSpec) → slice_get w.links n ≡ Some k → TellsSides w n k s) → SidesBelow w (n + 1) (all ++ s ∷ [])
sides_more w n all s e below new l k h g =
    elim (cases_eq l n) [
      | inl q ↦ subst (λ m. (t : Sides) × (slice_get (all ++ s ∷ []) m ≡ Some t) × TellsSides w m k t) (sym q)
          (s, get_push_new all s n e, new k (subst (λ m. slice_get w.links m ≡ Some k) q g))
      | inr q ↦ (let b = below l k (omega arith) g in (b.0, get_push_old all s l (omega arith) ∙ b.1, b.2))
    ]

-- the least distances of the members below a number are told
abbrev pub OutsBelow : Network → ℕ → List (Option ℕ) → Type 0
OutsBelow w n all = (m : ℕ) → m < n → slice_get all m ≡ Some (out w m)
