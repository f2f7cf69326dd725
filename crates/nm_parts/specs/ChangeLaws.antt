-- The changes of a commit, one after the other. For proofs alone: those of `apply_changes`, `file_all` and `nm_state`.
use Rattle.std.proofs.Common.{◌≡◌, sym, ap, subst, refl, ◌∙◌, ℕ, zero, suc, ◌+◌, ◌<◌, ◌≤◌, List, [], ◌∷◌, ◌++◌, length, take, arith}
use Rattle.std.specs.Prelude.{fold, slice_index_or}
use Rattle.std.proofs.lemmas.List.{take_more}
use Rattle.nm_base.specs.declared.facts.Facts.{Facts}
use Rattle.nm_commit.specs.Files.{FitChanges, FitsChange, changed}
use Rattle.nm_commit.specs.declared.change.Change.{Change}
use Rattle.nm_model_index.specs.Index.{applied}
use Rattle.nm_model_index.specs.declared.base.Base.{Base}

fits_there : (files : List (List ℕ × Facts)) (xs : List Change) (i : ℕ) (d : Change) → i < length xs → FitChanges files xs → FitsChange (fold changed files (take i xs)) (slice_index_or xs i d)
fits_there files [] i d lt fits = absurd (omega (arith, lt))
fits_there files (x ∷ xs) zero d lt fits = fits.0
fits_there files (x ∷ xs) (suc i) d lt fits = fits_there (changed files x) xs i d (omega (arith, lt)) fits.1

module _ (follow : (index : Base) (change : Change) → (applied index change).files ≡ changed index.files change) where
  files_after : (xs : List Change) (index : Base) → (fold applied index xs).files ≡ fold changed index.files xs
  files_after [] index = refl
  files_after (x ∷ xs) index = files_after xs (applied index x) ∙ ap (λ files. fold changed files xs) (follow index x)

  -- each change fits what those before it leave
  pub fits_at : (index at : Base) (xs : List Change) (i : ℕ) (x : Change) → i < length xs → FitChanges index.files xs → at ≡ fold applied index (take i xs) → x ≡ slice_index_or xs i x → FitsChange at.files x
  fits_at index at xs i x lt fits is item =
      subst (λ change. FitsChange at.files change) (sym item) (subst (λ files. FitsChange files (slice_index_or xs i x)) (sym (ap (λ b. b.files) is ∙ files_after (take i xs) index)) (fits_there index.files xs i x lt fits))

module _ (never : (index : Base) (change : Change) → index.next ≤ (applied index change).next) where
  -- no change lets the next number fall
  pub rises : (xs : List Change) (index : Base) → index.next ≤ (fold applied index xs).next
  rises [] index = omega arith
  rises (x ∷ xs) index = omega (arith, never index x, rises xs (applied index x))

  next_there : (index : Base) (xs : List Change) (i : ℕ) (d : Change) → i < length xs → (applied (fold applied index (take i xs)) (slice_index_or xs i d)).next ≤ (fold applied index xs).next
  next_there index [] i d lt = absurd (omega (arith, lt))
  next_there index (x ∷ xs) zero d lt = rises xs (applied index x)
  next_there index (x ∷ xs) (suc i) d lt = next_there (applied index x) xs i d (omega (arith, lt))

  -- no change passes what all together reach
  pub room_at : (index at : Base) (xs : List Change) (i : ℕ) (x : Change) (most : ℕ) → i < length xs → (fold applied index xs).next ≤ most → at ≡ fold applied index (take i xs) → x ≡ slice_index_or xs i x → (applied at x).next ≤ most
  room_at index at xs i x most lt room is item =
      let here : (applied at x).next ≡ (applied (fold applied index (take i xs)) (slice_index_or xs i x)).next = ap (λ b. (applied b x).next) is ∙ ap (λ change. (applied (fold applied index (take i xs)) change).next) item in
      omega (arith, here, next_there index xs i x lt, room)

-- ---- what fits so far

fits_more : (files : List (List ℕ × Facts)) (xs ys : List Change) → FitChanges files xs → FitChanges (fold changed files xs) ys → FitChanges files (xs ++ ys)
fits_more files [] ys p q = q
fits_more files (x ∷ xs) ys p q = (p.0, fits_more (changed files x) xs ys p.1 q)

module _ (files after : List (List ℕ × Facts)) (xs : List Change) (i : ℕ) (x : Change) (is : after ≡ fold changed files (take i xs)) (lt : i < length xs) (item : x ≡ slice_index_or xs i x) where
  -- what fits, and then a change that fits
  pub fit_more : FitChanges files (take i xs) → FitsChange after x → FitChanges files (take (i + 1) xs)
  fit_more p q =
      let here : FitsChange (fold changed files (take i xs)) (slice_index_or xs i x) = subst (FitsChange (fold changed files (take i xs))) item (subst (λ fs. FitsChange fs x) is q) in
      subst (FitChanges files) (sym (take_more xs i x lt)) (fits_more files (take i xs) (slice_index_or xs i x ∷ []) p (here, tt))

  -- where all fit, each fits
  pub fit_at : FitChanges files xs → FitsChange after x
  fit_at p = subst (λ fs. FitsChange fs x) (sym is) (subst (FitsChange (fold changed files (take i xs))) (sym item) (fits_there files xs i x lt p))
