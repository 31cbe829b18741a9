-- Lists in blocks.
use Rattle.std.proofs.Common.{◌≡◌, ◌≢◌, ℕ, ◌<◌, ◌+◌, List, [], ◌∷◌, ◌++◌, length, slice_index_or, take, drop, sym, ap, ◌∙◌}
use Rattle.std.proofs.Common.{append-nil, append_assoc, Bool, false, true≢false, nat_eq, refl}
use Rattle.std.proofs.lemmas.List.{take_more, take-append-drop}
use Rattle.srm_cell.specs.Lines.{Deque, in_blocks, AreFilled}

module _ {A : Type 0} where
  blocks_both : (bs cs : List (Deque A)) → in_blocks (bs ++ cs) ≡ in_blocks bs ++ in_blocks cs
  blocks_both [] cs = refl
  blocks_both (b ∷ bs) cs = ap (λ l. b.items ++ l) (blocks_both bs cs) ∙ sym (append_assoc b.items (in_blocks bs) (in_blocks cs))

  -- one block more behind the others
  pub blocks_more : (bs : List (Deque A)) (b : Deque A) → in_blocks (bs ++ b ∷ []) ≡ in_blocks bs ++ b.items
  blocks_more bs b = blocks_both bs (b ∷ []) ∙ ap (λ l. in_blocks bs ++ l) (append-nil b.items)

  -- the first blocks, with one block more
  pub one_block_more : (bs : List (Deque A)) (i : ℕ) (b : Deque A) → i < length bs → b ≡ slice_index_or bs i b
      → in_blocks (take (i + 1) bs) ≡ in_blocks (take i bs) ++ b.items
  one_block_more bs i b lt is =
      ap in_blocks (take_more bs i b lt ∙ ap (λ c. take i bs ++ c ∷ []) (sym is)) ∙ blocks_more (take i bs) b

  -- what stands before a block, in it and behind it
  pub around_block : (bs : List (Deque A)) (i : ℕ) (b : Deque A) → i < length bs → b ≡ slice_index_or bs i b
      → (in_blocks (take i bs) ++ b.items) ++ in_blocks (drop (i + 1) bs) ≡ in_blocks bs
  around_block bs i b lt is =
      ap (λ l. l ++ in_blocks (drop (i + 1) bs)) (sym (one_block_more bs i b lt is))
      ∙ sym (blocks_both (take (i + 1) bs) (drop (i + 1) bs)) ∙ ap in_blocks (take-append-drop (i + 1) bs)

  pub filled_more : (bs : List (Deque A)) (b : Deque A) → AreFilled bs → b.items ≢ [] → AreFilled (bs ++ b ∷ [])
  filled_more [] b h some = (some, tt)
  filled_more (c ∷ bs) b h some = (h.0, filled_more bs b h.1 some)

  pub front_none : (xs ys : List A) → xs ++ ys ≡ [] → xs ≡ []
  front_none [] ys h = refl
  front_none (x ∷ xs) ys h = cc

  pub some_told : (l : List A) (n : ℕ) (b : Bool) → n ≡ length l → b ≡ nat_eq n 0 → b ≡ false → l ≢ []
  some_told [] n b len is not none = true≢false (sym (is ∙ ap (λ k. nat_eq k 0) len) ∙ not)
  some_told (x ∷ l) n b len is not none = cc
