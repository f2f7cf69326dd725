-- The texts of lines that run out of memory. For the proofs of `take_fallback` and `fallbacks_for`.
use Rattle.std.proofs.Common.{◌≡◌, ℕ, List, [], ◌∷◌, ◌++◌, codes}
use Rattle.nm_trace.specs.ReservedLog.{AreFallbacks}

pub fallbacks-more : (fallbacks : List (List ℕ)) (text : List ℕ) → AreFallbacks fallbacks → text ≡ codes "notmuch: no memory\n" → AreFallbacks (fallbacks ++ text ∷ [])
fallbacks-more [] text all is = (is, tt)
fallbacks-more (other ∷ fallbacks) text all is = (all.0, fallbacks-more fallbacks text all.1 is)

pub fallbacks-front : (fallbacks : List (List ℕ)) (text : List ℕ) → AreFallbacks (fallbacks ++ text ∷ []) → AreFallbacks fallbacks
fallbacks-front [] text all = tt
fallbacks-front (other ∷ fallbacks) text all = (all.0, fallbacks-front fallbacks text all.1)

pub fallbacks-last : (fallbacks : List (List ℕ)) (text : List ℕ) → AreFallbacks (fallbacks ++ text ∷ []) → text ≡ codes "notmuch: no memory\n"
fallbacks-last [] text all = all.0
fallbacks-last (other ∷ fallbacks) text all = fallbacks-last fallbacks text all.1
