-- How what a sink writes composes over calls.
use Rattle.std.specs.Prelude.{◌≡◌, ℕ, ◌+◌, ◌-◌, ◌^◌, min, List, [], ◌++◌, length, Option, refl}
use Rattle.std.proofs.Common.{◌∙◌, ap, sym, subst, append_assoc, append-nil, length-append, add_assoc, arith}
use Rattle.std.proofs.KnownBytes.{Appends-nil, Appends-trans}
use Rattle.std.proofs.Math.Nat.{add-zero, min-eq_left, min-eq_right, min-le_right}
use Rattle.std.proofs.lemmas.Grind.{flat_map-append}
use Rattle.srm_member.specs.declared.row.Row.{Row}
use Rattle.srm_report.specs.declared.listing.standing.Standing.{Standing}
use Rattle.srm_report.specs.declared.listing.standing.Standing.TheVariants.{Fresh, Live, NoMemory, Stopped}
use Rattle.srm_report.specs.declared.listing.listing_sink.ListingSink.{ListingSink}
use Rattle.srm_report.specs.Listings.{Form, lines_in}
use Rattle.srm_report.specs.Standings.{lead, text_next, IsText, GrewBy, Took, TakesBut}
use Rattle.srm_report.specs.ListingSinks.{outlet_under, gathered_by, written_by}
use Rattle.srm_report.specs.ListingSinks.{PutsAll, PutsFront, PutsRows, PutsPart, AreOverOne}

-- ---- text

module _ (f : Form) where
  pub more_lines : (xs ys : List Row) → lines_in f (xs ++ ys) ≡ lines_in f xs ++ lines_in f ys
  more_lines xs ys = flat_map-append f.line xs ys

  -- the text of more rows is longer
  pub next_more :
      (at : Standing) (xs ys : List Row) → text_next f at (xs ++ ys) ≡ text_next f at xs ++ lines_in f ys
  next_more at xs ys =
      ap (λ (l : List ℕ). lead f at ++ l) (more_lines xs ys)
      ∙ sym (append_assoc (lead f at) (lines_in f xs) (lines_in f ys))

  none_text : (at : Standing) → IsText f at at [] []
  none_text Fresh = (refl, refl, refl)
  none_text Live = refl
  none_text NoMemory = refl
  none_text Stopped = refl

  -- after these rows, those that come next have no header, or these were none
  text_after :
      (at mid : Standing) (xs ys : List Row) (t : List ℕ) → IsText f at mid xs t
      → text_next f at (xs ++ ys) ≡ t ++ text_next f mid ys
  text_after at Fresh xs ys t h =
      ap (λ (s : Standing). text_next f s (xs ++ ys)) h.0 ∙ ap (λ (l : List Row). text_next f Fresh (l ++ ys)) h.1
      ∙ ap (λ (l : List ℕ). l ++ text_next f Fresh ys) (sym h.2)
  text_after at Live xs ys t h = next_more at xs ys ∙ ap (λ (l : List ℕ). l ++ lines_in f ys) (sym h)
  text_after at NoMemory xs ys t h = next_more at xs ys ∙ ap (λ (l : List ℕ). l ++ lines_in f ys) (sym h)
  text_after at Stopped xs ys t h = next_more at xs ys ∙ ap (λ (l : List ℕ). l ++ lines_in f ys) (sym h)

  text_more :
      (at mid end : Standing) (xs ys : List Row) (t u : List ℕ) → IsText f at mid xs t → IsText f mid end ys u
      → IsText f at end (xs ++ ys) (t ++ u)
  text_more at mid Live xs ys t u h k = ap (λ (l : List ℕ). t ++ l) k ∙ sym (text_after at mid xs ys t h)
  text_more at mid NoMemory xs ys t u h k = ap (λ (l : List ℕ). t ++ l) k ∙ sym (text_after at mid xs ys t h)
  text_more at mid Stopped xs ys t u h k = ap (λ (l : List ℕ). t ++ l) k ∙ sym (text_after at mid xs ys t h)
  text_more at Fresh Fresh xs ys t u h k =
      (h.0, ap (λ (l : List Row). l ++ ys) h.1 ∙ k.1, ap (λ (l : List ℕ). l ++ u) h.2 ∙ k.2)
  text_more at Live Fresh xs ys t u h k = cc
  text_more at NoMemory Fresh xs ys t u h k = cc
  text_more at Stopped Fresh xs ys t u h k = cc

-- ---- counts

pub count_none : (a : ℕ) → GrewBy a 0 a
count_none a = ap (λ n. min n (2 ^ 64 - 1)) (sym (add-zero a))

-- a sum of a number that is cut is cut as that of the number
cut_sum : (x y m most : ℕ) → min x most ≡ min y most → min (x + m) most ≡ min (y + m) most
cut_sum x y m most e = grind (arith, min-eq_left, min-eq_right)

pub count_more : (a n b m c : ℕ) → GrewBy a n b → GrewBy b m c → GrewBy a (n + m) c
count_more a n b m c h k = k ∙ cut_sum b (a + n) m (2 ^ 64 - 1) h ∙ ap (λ x. min x (2 ^ 64 - 1)) (add_assoc a n m)

-- a count that stops is grown
pub count_cut : (a n b : ℕ) → b ≡ min (a + n) (2 ^ 64 - 1) → GrewBy a n b
count_cut a n b e = ap (λ x. min x (2 ^ 64 - 1)) e ∙ min-eq_left (min-le_right (a + n) (2 ^ 64 - 1))

-- ---- outlets

joins : (g t o b u p r : List ℕ) → g ++ t ≡ o ++ b → b ++ u ≡ p ++ r → g ++ (t ++ u) ≡ (o ++ p) ++ r
joins g t o b u p r h k =
    sym (append_assoc g t u) ∙ ap (λ (l : List ℕ). l ++ u) h ∙ append_assoc o b u ∙ ap (λ (l : List ℕ). o ++ l) k
    ∙ sym (append_assoc o p r)

module _ {O : Type 0} (taken : O → Option (List ℕ)) where
  pub took_none : (a : O) (n : ℕ) → Took taken a n [] a n
  took_none a n = record { bytes = Appends-nil (taken a); counted = count_none n }

  -- of what is left, with more behind it, some is taken
  pub but_more :
      (a b c : O) (n m k : ℕ) (g t left u rest : List ℕ) → TakesBut taken a n (g ++ t) b m left
      → TakesBut taken b m (left ++ u) c k rest → TakesBut taken a n (g ++ (t ++ u)) c k rest
  but_more a b c n m k g t left u rest h j = (
    h.0 ++ j.0,
    joins g t h.0 left u j.0 rest h.1 j.1,
    record {
      bytes = Appends-trans (taken a) (taken b) (taken c) h.0 j.0 h.2.bytes j.2.bytes;
      counted = subst (λ l. GrewBy n l k) (sym (length-append h.0 j.0))
          (count_more n (length h.0) m (length j.0) k h.2.counted j.2.counted);
    },
  )

-- ---- sinks

pub one_self : {L O : Type 0} (a : ListingSink L O) → AreOverOne a a
one_self a = (refl, refl)

pub over_one_more : {L O : Type 0} (a b c : ListingSink L O) → AreOverOne a b → AreOverOne b c → AreOverOne a c
over_one_more a b c h k = (k.0 ∙ h.0, k.1 ∙ h.1)

module _ {L O : Type 0} (taken : O → Option (List ℕ)) where
  pub all_none : (a : ListingSink L O) → PutsAll taken a [] a
  all_none a = ([], append-nil (gathered_by a), took_none taken (outlet_under a) (written_by a))

  pub all_more :
      (a b c : ListingSink L O) (t u : List ℕ) → PutsAll taken a t b → PutsAll taken b u c → PutsAll taken a (t ++ u) c
  all_more a b c t u =
      but_more taken (outlet_under a) (outlet_under b) (outlet_under c) (written_by a) (written_by b) (written_by c)
      (gathered_by a) t (gathered_by b) u (gathered_by c)

  pub front_none : (a : ListingSink L O) (t : List ℕ) → PutsFront taken a t a
  front_none a t = ([], gathered_by a ++ t, refl, took_none taken (outlet_under a) (written_by a))

  pub front_more :
      (a b c : ListingSink L O) (t u : List ℕ) → PutsAll taken a t b → PutsFront taken b u c
      → PutsFront taken a (t ++ u) c
  front_more a b c t u h k =
      let all = but_more taken (outlet_under a) (outlet_under b) (outlet_under c) (written_by a) (written_by b)
      (written_by c) (gathered_by a) t (gathered_by b) u k.1 h (k.0, k.2, k.3) in
      (all.0, k.1, all.1, all.2)

  pub front_longer : (a b : ListingSink L O) (t u : List ℕ) → PutsFront taken a t b → PutsFront taken a (t ++ u) b
  front_longer a b t u k = (
    k.0,
    k.1 ++ u,
    sym (append_assoc (gathered_by a) t u) ∙ ap (λ (l : List ℕ). l ++ u) k.2 ∙ append_assoc k.0 k.1 u,
    k.3,
  )

  module _ (f : Form) where
    pub rows_none : (a : ListingSink L O) → PutsRows taken f a [] a
    rows_none a = ([], none_text f a.standing, all_none a)

    pub rows_more :
        (a b c : ListingSink L O) (xs ys : List Row) → PutsRows taken f a xs b → PutsRows taken f b ys c
        → PutsRows taken f a (xs ++ ys) c
    rows_more a b c xs ys h k = (
      h.0 ++ k.0,
      text_more f a.standing b.standing c.standing xs ys h.0 k.0 h.1 k.1,
      all_more a b c h.0 k.0 h.2 k.2,
    )

    pub part_none : (a : ListingSink L O) → PutsPart taken f a [] a
    part_none a = front_none a (text_next f a.standing [])

    pub part_more :
        (a b c : ListingSink L O) (xs ys : List Row) → PutsRows taken f a xs b → PutsPart taken f b ys c
        → PutsPart taken f a (xs ++ ys) c
    part_more a b c xs ys h k =
        subst (λ (l : List ℕ). PutsFront taken a l c) (sym (text_after f a.standing b.standing xs ys h.0 h.1))
        (front_more a b c h.0 (text_next f b.standing ys) h.2 k)

    pub part_longer :
        (a b : ListingSink L O) (xs ys : List Row) → PutsPart taken f a xs b → PutsPart taken f a (xs ++ ys) b
    part_longer a b xs ys k =
        subst (λ (l : List ℕ). PutsFront taken a l b) (sym (next_more f a.standing xs ys))
        (front_longer a b (text_next f a.standing xs) (lines_in f ys) k)
