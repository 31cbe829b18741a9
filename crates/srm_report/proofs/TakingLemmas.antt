-- Rows that are taken in one by one.
use Rattle.std.proofs.Common.{◌≡◌, ◌∙◌, ℕ, ◌+◌, ◌<◌, ◌≤◌, List, [], ◌∷◌, ◌++◌, length, take, get_or, ap, sym, subst, le_of_eq}
use Rattle.std.proofs.Math.Seq.{take-length}
use Rattle.std.proofs.lemmas.List.{take_more}
use Rattle.srm_member.specs.declared.row.Row.{Row}
use Rattle.srm_interfaces.specs.Watches.{KeepMembers}

module _ {S : Type 0} (Takes : S → List Row → S → Type 0) where
  pub next_row : ((a b c : S) (xs ys : List Row) → Takes a xs b → Takes b ys c → Takes a (xs ++ ys) c)
      → (a b c : S) (rows : List Row) (i : ℕ) (r : Row) → i < length rows → r ≡ get_or rows i r
      → Takes a (take i rows) b → Takes b (r ∷ []) c → Takes a (take (i + 1) rows) c
  next_row more a b c rows i r lt is h k =
      subst (λ l. Takes a l c) (sym (take_more rows i r lt ∙ ap (λ q. take i rows ++ q ∷ []) (sym is)))
      (more a b c (take i rows) (r ∷ []) h k)

  pub all_rows : (a b : S) (rows : List Row) (i : ℕ) → i ≡ length rows → Takes a (take i rows) b → Takes a rows b
  all_rows a b rows i whole h = subst (λ l. Takes a l b) (ap (λ n. take n rows) whole ∙ take-length rows) h

-- what was kept of so many members, seen as this list
pub as_seen : {K : Type 0} (keeps : K → List Row → Type 0) (rows : List Row) (kept seen : List K) (n m : ℕ) → seen ≡ kept
    → length kept ≡ n → n ≡ m → KeepMembers keeps 0 kept rows → (m ≤ length seen) × KeepMembers keeps 0 seen rows
as_seen keeps rows kept seen n m is long many h = (
  le_of_eq (sym many ∙ sym long ∙ ap length (sym is)),
  subst (λ (l : List _). KeepMembers keeps 0 l rows) (sym is) h,
)
