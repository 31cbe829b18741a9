-- Numbers in fives.
use Rattle.std.proofs.Common.{◌≡◌, ◌<◌, ℕ, zero, suc, ◌*◌, List, ◌++◌, length, take, drop, sym, ap, ◌∙◌, arith, slice_index_or}
use Rattle.std.specs.List.{concat}
use Rattle.std.specs.Simd.{first_chunks}
use Rattle.std.proofs.lemmas.List.{nil_from_length, take-append-drop, length-drop, length-take-le}

-- the chunks of five numbers, joined, are the numbers
pub chunks_joined : (k : ℕ) (ns : List ℕ) → length ns ≡ 5 * k → concat (first_chunks 5 k ns) ≡ ns
chunks_joined zero ns e = sym (nil_from_length ns e)
chunks_joined (suc k) ns e =
    let behind : length (drop 5 ns) ≡ 5 * k = (let l = length-drop 5 ns in omega arith) in
    ap (λ rest. take 5 ns ++ rest) (chunks_joined k (drop 5 ns) behind) ∙ take-append-drop 5 ns

-- each of the chunks has five numbers
pub chunks_are_fives : (k : ℕ) (ns : List ℕ) → length ns ≡ 5 * k → (i : ℕ) (d : List ℕ) → i < length (first_chunks 5 k ns)
    → length (slice_index_or (first_chunks 5 k ns) i d) ≡ 5
chunks_are_fives zero ns e i d lt = absurd (omega arith)
chunks_are_fives (suc k) ns e zero d lt = length-take-le 5 ns (omega arith)
chunks_are_fives (suc k) ns e (suc i) d lt =
    let behind : length (drop 5 ns) ≡ 5 * k = (let l = length-drop 5 ns in omega arith) in
    chunks_are_fives k (drop 5 ns) behind i d (omega arith)
