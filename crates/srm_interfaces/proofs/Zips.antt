-- Two lists, item by item.
use Rattle.std.proofs.Common.{arith}
use Rattle.std.proofs.Common.{◌≡◌, List, [], ◌∷◌, ◌++◌, sym, ap, ◌∙◌, subst, append_assoc, append-nil}
use Rattle.std.specs.List.{AllZip}

module _ {A B : Type 0} (R : A → B → Type 0) where
  zip_push : (xs : List A) (ys : List B) (x : A) (y : B) → AllZip R xs ys → R x y → AllZip R (xs ++ x ∷ []) (ys ++ y ∷ [])
  zip_push [] [] x y z r = (r, tt)
  zip_push [] (b ∷ ys) x y z r = absurd z
  zip_push (a ∷ xs) [] x y z r = absurd z
  zip_push (a ∷ xs) (b ∷ ys) x y z r = (z.0, zip_push xs ys x y z.1 r)

  -- these came of the items so far, and so many are left
  pub record ZipSoFar (whole left : List A) (done : List B) : Type 0 where
    pub front : List A
    pub is : front ++ left ≡ whole
    pub zipped : AllZip R front done

  pub zip_none : (whole left : List A) (done : List B) → left ≡ whole → done ≡ [] → ZipSoFar whole left done
  zip_none whole left done e n = record { front = []; is = e; zipped = subst (AllZip R []) (sym n) tt }

  pub zip_more : (whole left : List A) (done new : List B) (x : A) (y : B) → ZipSoFar whole (x ∷ left) done → R x y
      → new ≡ done ++ y ∷ [] → ZipSoFar whole left new
  zip_more whole left done new x y z r e = grind (arith, append_assoc, zip_push)

  pub zip_all : (whole left : List A) (done : List B) → ZipSoFar whole left done → left ≡ [] → AllZip R whole done
  zip_all whole left done z e =
      subst (λ l. AllZip R l done) (sym (append-nil z.front) ∙ ap (λ l. z.front ++ l) (sym e) ∙ z.is) z.zipped
