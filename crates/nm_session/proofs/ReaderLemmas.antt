-- The readers of the lanes read one list. For the proofs of `lanes_with` and `run_session`.
use Rattle.std.proofs.Common.{◌≡◌, MatchOption, replicate, ℕ, ◌<◌, List, [], ◌∷◌, ◌++◌, Option, None, Some, IfSome, length, zero, suc, refl, sym, subst, arith}
use Rattle.std.specs.List.{AllByRecursion, slice_index_or}
use Rattle.logbook.specs.Pages.{Book}
use Rattle.nm_publish.specs.Published.{Published}

pub all-by : {X : Type 0} (P : X → Type 0) (xs : List X) → AllByRecursion P xs → (k : ℕ) (d : X) → k < length xs → P (slice_index_or xs k d)
all-by P [] h k d within = absurd (omega (arith, within))
all-by P (x ∷ xs) h zero d within = h.0
all-by P (x ∷ xs) h (suc k) d within = all-by P xs h.1 k d (omega (arith, within))

pub all-replicated : (n : ℕ) (p : Published) → AllByRecursion (λ (reader : Published). reader.book ≡ p.book) (replicate n p)
all-replicated zero p = tt
all-replicated (suc n) p = (refl, all-replicated n p)

front-of : (book : Book) (xs : List Published) (last : Published) → AllByRecursion (λ (reader : Published). reader.book ≡ book) (xs ++ last ∷ [])
    → (last.book ≡ book) × AllByRecursion (λ (reader : Published). reader.book ≡ book) xs
front-of book [] last h = (h.0, tt)
front-of book (x ∷ xs) last h = let rest = front-of book xs last h.1 in (rest.0, (h.0, rest.1))

pub popped : (book : Book) (old new : List Published) (result : Option Published) → MatchOption result ((old ≡ []) × (new ≡ [])) (λ last. old ≡ new ++ last ∷ []) → AllByRecursion (λ (reader : Published). reader.book ≡ book) old
    → IfSome result (λ reader. reader.book ≡ book) × AllByRecursion (λ (reader : Published). reader.book ≡ book) new
popped book old new None is h = (tt, subst (AllByRecursion (λ (reader : Published). reader.book ≡ book)) (sym is.1) tt)
popped book old new (Some last) is h = front-of book new last (subst (AllByRecursion (λ (reader : Published). reader.book ≡ book)) is h)
