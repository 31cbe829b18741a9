-- Tables of names and of pages: what an entry put in, or taken out, changes.
use Rattle.std.proofs.Common.{◌≡◌, zero, suc, Bool, true, false, cond, not, T, List, [], ◌∷◌, map, refl, sym, ap, ◌∙◌, subst}
use Rattle.std.proofs.Common.{◌≢◌, ◌⊎◌, inl, inr, arith, Less, Equal, Some, None, is_some}
use Rattle.std.specs.List.{Contains}
use Rattle.std.specs.Ordering.{eq_by_cmp, is_eq}
use Rattle.std.specs.FinMap.Entries.{put, find, is_sorted, below_all, same_entries}
use Rattle.std.specs.FinMap.Entries.{find-put, find-where_key, is_sorted-put, is_sorted-where_key}
use Rattle.std.proofs.lemmas.List.Elements.{Contains-append_right}
use Rattle.std.proofs.lemmas.Cmp.{tied_itself}
use Rattle.srm_net.specs.declared.packet.Name.{Name}
use Rattle.srm_net.specs.declared.packet.PageId.{PageId}
use Rattle.srm_net.specs.Names.{name_cmp, page_cmp}
use Rattle.srm_net.specs.Orders.{AllAfter, Ascends}
use Rattle.srm_net.proofs.TotalOrders.{name_total, page_total, tied_names, tied_pages, name_self}
use Rattle.srm_net.proofs.Basics.{is_Equal, T_first, T_second, T_less}
use Rattle.srm_member.specs.React.{without, has_entry}

-- ---- names and pages that tie are the same

pub same_names : (n k : Name) → eq_by_cmp name_cmp n k ≡ true → n ≡ k
same_names n k h = tied_names n k (is_Equal _ h)

pub same_pages : (p q : PageId) → eq_by_cmp page_cmp p q ≡ true → p ≡ q
same_pages p q h = tied_pages p q (is_Equal _ h)

pub name_is : (n : Name) → eq_by_cmp name_cmp n n ≡ true
name_is n = ap is_eq (name_self n)

pub page_is : (p : PageId) → eq_by_cmp page_cmp p p ≡ true
page_is p = ap is_eq (tied_itself page_total p)

pub other_names : (n k : Name) → n ≢ k → eq_by_cmp name_cmp n k ≡ false
other_names n k ne = grind arith

-- two names are one, or not
pub names_apart : (n k : Name) → (n ≡ k) ⊎ (n ≢ k)
names_apart n k = grind arith

-- an entry that stands in a table, put in once more
pub put_found : {V : Type 0} (p : PageId) (v : V) (es : List (PageId × V)) → T (is_sorted page_cmp es) → find page_cmp p es ≡ Some v
    → put page_cmp p v es ≡ es
put_found p v es h found =
    same_entries page_cmp page_total tied_pages _ _ (is_sorted-put page_cmp page_total p v es h) h
    (λ q. find-put page_cmp page_total q p v es ∙ same_value q)
  where
    same_value : (q : PageId) → cond (eq_by_cmp page_cmp q p) (Some v) (find page_cmp q es) ≡ find page_cmp q es
    same_value q = elim (eq_by_cmp page_cmp q p)
        as (λ b. eq_by_cmp page_cmp q p ≡ b → cond b (Some v) (find page_cmp q es) ≡ find page_cmp q es) [
          | true ↦ λ e. sym found ∙ ap (λ k. find page_cmp k es) (sym (same_pages q p e))
          | false ↦ λ e. refl
        ] refl

-- ---- an entry put in, or taken out

module _ {V : Type 0} where
  -- the table has an entry for the name
  abbrev pub Has : Name → List (Name × V) → Type 0
  Has n es = has_entry n es ≡ true

  pub put_here : (n : Name) (v : V) (es : List (Name × V)) → find name_cmp n (put name_cmp n v es) ≡ Some v
  put_here n v es = find-put name_cmp name_total n n v es ∙ ap (λ b. cond b (Some v) (find name_cmp n es)) (name_is n)

  pub put_there : (k n : Name) (v : V) (es : List (Name × V)) → k ≢ n → find name_cmp k (put name_cmp n v es) ≡ find name_cmp k es
  put_there k n v es ne = find-put name_cmp name_total k n v es ∙ ap (λ b. cond b (Some v) (find name_cmp k es)) (other_names k n ne)

  pub has_put : (n : Name) (v : V) (es : List (Name × V)) → Has n (put name_cmp n v es)
  has_put n v es = ap is_some (put_here n v es)

  pub has_more : (k n : Name) (v : V) (es : List (Name × V)) → Has k es → Has k (put name_cmp n v es)
  has_more k n v es h = grind (arith, has_put, put_there)

  pub has_cases : (k n : Name) (v : V) (es : List (Name × V)) → Has k (put name_cmp n v es) → (k ≡ n) ⊎ Has k es
  has_cases k n v es h = grind (arith, put_there)

  without_find : (k n : Name) (es : List (Name × V)) → find name_cmp k (without n es)
      ≡ cond (not (eq_by_cmp name_cmp n k)) (find name_cmp k es) None
  without_find k n es = find-where_key name_cmp (λ x. not (eq_by_cmp name_cmp n x)) k
      (λ x tie. ap (λ y. not (eq_by_cmp name_cmp n y)) (sym (tied_names k x tie))) es

  pub without_here : (n : Name) (es : List (Name × V)) → Has n (without n es) → ⊥
  without_here n es h = grind (arith, without_find)

  pub without_there : (k n : Name) (es : List (Name × V)) → k ≢ n → find name_cmp k (without n es) ≡ find name_cmp k es
  without_there k n es ne = without_find k n es ∙ ap (λ b. cond (not b) (find name_cmp k es) None) (other_names n k (λ e. ne (sym e)))

  pub without_less : (k n : Name) (es : List (Name × V)) → Has k (without n es) → (k ≢ n) × Has k es
  without_less k n es h = grind (arith, without_here, without_there)

  pub sorted_put : (n : Name) (v : V) (es : List (Name × V)) → T (is_sorted name_cmp es) → T (is_sorted name_cmp (put name_cmp n v es))
  sorted_put n v es h = is_sorted-put name_cmp name_total n v es h

  pub sorted_without : (n : Name) (es : List (Name × V)) → T (is_sorted name_cmp es) → T (is_sorted name_cmp (without n es))
  sorted_without n es h = is_sorted-where_key name_cmp (λ x. not (eq_by_cmp name_cmp n x)) es h

  pub has_some : (n : Name) (es : List (Name × V)) → Has n es → (v : V) × (find name_cmp n es ≡ Some v)
  has_some n es h = grind arith

  -- ---- entries of a table that rises

  -- the names of a table
  abbrev pub names_of : List (Name × V) → List Name
  names_of es = map (λ e. e.0) es

  after_all : (k : Name) (es : List (Name × V)) → T (below_all name_cmp k es) → AllAfter name_cmp k (names_of es)
  after_all k [] h = tt
  after_all k (e ∷ es) h = (T_less _ (T_first _ _ h), after_all k es (T_second _ _ h))

  pub ascend : (es : List (Name × V)) → T (is_sorted name_cmp es) → Ascends name_cmp (names_of es)
  ascend [] h = tt
  ascend (e ∷ es) h = (after_all e.0 es (T_first _ _ h), ascend es (T_second _ _ h))

  -- what stands in a list that is greater than k is not k
  not_in : (k : Name) (es : List (Name × V)) → T (below_all name_cmp k es) → (v : V) → Contains es (k, v) → ⊥
  not_in k [] h v c = let l = c.1 in omega arith
  not_in k (e ∷ es) h v (zero, l, q) =
      let less : name_cmp k e.0 ≡ Less = T_less _ (T_first _ _ h) in
      let tie : name_cmp k e.0 ≡ Equal = ap (λ (x : Name × V). name_cmp k x.0) q ∙ name_self k in
      let x : Less ≡ Equal = sym less ∙ tie in
      cc
  not_in k (e ∷ es) h v (suc i, l, q) = not_in k es (T_second _ _ h) v (i, omega arith, q)

  pub contained_found : (es : List (Name × V)) → T (is_sorted name_cmp es) → (k : Name) (v : V) → Contains es (k, v) → find name_cmp k es
      ≡ Some v
  contained_found [] s k v c = absurd (let l = c.1 in omega arith)
  contained_found (e ∷ es) s k v (zero, l, q) =
      let same : e ≡ (k, v) = q in
      let tie : eq_by_cmp name_cmp k e.0 ≡ true = ap (λ (x : Name × V). eq_by_cmp name_cmp k x.0) same ∙ name_is k in
      ap (λ b. cond b (Some e.1) (find name_cmp k es)) tie ∙ ap (λ (x : Name × V). Some x.1) same
  contained_found (e ∷ es) s k v (suc i, l, q) = elim (names_apart k e.0) [
    | inl same ↦ absurd (not_in e.0 es (T_first _ _ s) v (subst (λ x. Contains es (x, v)) same (i, omega arith, q)))
    | inr ne ↦ ap (λ b. cond b (Some e.1) (find name_cmp k es)) (other_names k e.0 ne)
        ∙ contained_found es (T_second _ _ s) k v (i, omega arith, q)
  ]

  pub found_contained : (es : List (Name × V)) (k : Name) (v : V) → find name_cmp k es ≡ Some v → Contains es (k, v)
  found_contained [] k v h = cc
  found_contained (e ∷ es) k v h = elim (eq_by_cmp name_cmp k e.0) as (λ b. eq_by_cmp name_cmp k e.0 ≡ b → Contains (e ∷ es) (k, v)) [
    | true ↦ λ q.
        let value : Some e.1 ≡ Some v = sym (ap (λ b. cond b (Some e.1) (find name_cmp k es)) q) ∙ h in
        let name : e.0 ≡ k = sym (same_names k e.0 q) in
        let same : e.1 ≡ v = cc in
        (0, omega arith, (λ i. (name i, same i)))
    | false ↦ λ q. Contains-append_right (e ∷ []) es (k, v)
        (found_contained es k v (sym (ap (λ b. cond b (Some e.1) (find name_cmp k es)) q) ∙ h))
  ] refl

  -- the names of a table are those of its entries
  pub named : (es : List (Name × V)) (k : Name) → Contains (names_of es) k → Has k es
  named [] k c = absurd (let l = c.1 in omega arith)
  named (e ∷ es) k (zero, l, q) =
      let tie : eq_by_cmp name_cmp k e.0 ≡ true = ap (eq_by_cmp name_cmp k) q ∙ name_is k in
      ap (λ b. is_some (cond b (Some e.1) (find name_cmp k es))) tie
  named (e ∷ es) k (suc i, l, q) = by_test (eq_by_cmp name_cmp k e.0) (named es k (i, omega arith, q))
    where
      by_test : (b : Bool) → Has k es → is_some (cond b (Some e.1) (find name_cmp k es)) ≡ true
      by_test true h = refl
      by_test false h = h

  pub has_name : (es : List (Name × V)) (k : Name) → Has k es → Contains (names_of es) k
  has_name [] k h = cc
  has_name (e ∷ es) k h = elim (eq_by_cmp name_cmp k e.0) as (λ b. eq_by_cmp name_cmp k e.0 ≡ b → Contains (names_of (e ∷ es)) k) [
    | true ↦ λ q. (0, omega arith, sym (same_names k e.0 q))
    | false ↦ λ q. Contains-append_right (e.0 ∷ []) (names_of es) k
        (has_name es k (sym (ap (λ b. is_some (cond b (Some e.1) (find name_cmp k es))) q) ∙ h))
  ] refl

-- ---- a page's entry

module _ {V : Type 0} where
  pub page_here : (p : PageId) (v : V) (es : List (PageId × V)) → find page_cmp p (put page_cmp p v es) ≡ Some v
  page_here p v es = find-put page_cmp page_total p p v es ∙ ap (λ b. cond b (Some v) (find page_cmp p es)) (page_is p)

  -- another page, whose entry stays, or this one
  pub page_cases : (q p : PageId) (v : V) (es : List (PageId × V)) → (q ≡ p) ⊎ (find page_cmp q (put page_cmp p v es) ≡ find page_cmp q es)
  page_cases q p v es = elim (eq_by_cmp page_cmp q p) as (λ b. eq_by_cmp page_cmp q p ≡ b → (q ≡ p)
      ⊎ (find page_cmp q (put page_cmp p v es) ≡ find page_cmp q es)) [
        | true ↦ λ e. inl (same_pages q p e)
        | false ↦ λ e. inr (find-put page_cmp page_total q p v es ∙ ap (λ b. cond b (Some v) (find page_cmp q es)) e)
      ] refl
