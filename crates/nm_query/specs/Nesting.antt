-- How deep a query nests: a level is a `(` that isn't closed yet, or a `not` or `-` whose operand hasn't ended.
-- Cited by `nesting`.
use Rattle.std.specs.Prelude.{◌≡◌, ℕ, ◌+◌, ◌-◌, Bool, false, ◌||◌, List, [], ◌∷◌, length, nat_lt, sum}
use Rattle.nm_query.specs.declared.nesting.Nesting.{Nesting}
use Rattle.nm_query.specs.declared.token.Placed.{Placed}
use Rattle.nm_query.specs.declared.token.Token.{Token}
use Rattle.nm_query.specs.declared.token.Token.TheVariants.{Binary, Close, Negation, Open, Term}

-- The lists are of the negations that have not ended: inside each parenthesis that is open, the innermost first, and outside of all.

-- a `)` ends the negations inside its parenthesis and before it
abbrev pub after_close : List ℕ → List ℕ
after_close [] = []
after_close (inner ∷ []) = inner ∷ []
after_close (inner ∷ outer ∷ more) = 0 ∷ more

-- a term ends the innermost
abbrev pub after_term : List ℕ → List ℕ
after_term [] = []
after_term (inner ∷ more) = 0 ∷ more

-- one negation more waits
abbrev pub after_negation : List ℕ → List ℕ
after_negation [] = []
after_negation (inner ∷ more) = (inner + 1) ∷ more

-- a term and a closed parenthesis end the negations before them; a `)` that closes nothing is passed over
abbrev pub negations_after : List ℕ → Token → List ℕ
negations_after negations Open = 0 ∷ negations
negations_after negations Close = after_close negations
negations_after negations Negation = after_negation negations
negations_after negations (Binary operator) = negations
negations_after negations (Term item) = after_term negations

-- how many levels that are
abbrev pub depth_of : List ℕ → ℕ
depth_of negations = sum negations + length negations - 1

-- the number of levels is that of these negations
abbrev pub IsCounted : Nesting → Type 0
IsCounted nesting = nesting.depth + 1 ≡ sum (nesting.inner ∷ nesting.outer) + length (nesting.inner ∷ nesting.outer)

-- some place in these tokens is deeper than 64
abbrev pub passes_depth : List ℕ → List Placed → Bool
passes_depth negations [] = false
passes_depth negations (placed ∷ more) =
    nat_lt 64 (depth_of (negations_after negations placed.token)) || passes_depth (negations_after negations placed.token) more

-- a query that nests deeper than 64
abbrev pub is_too_deep : List Placed → Bool
is_too_deep tokens = passes_depth (0 ∷ []) tokens
