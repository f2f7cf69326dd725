-- Faults of structure: a parenthesis without its fellow, and an operator or a `(` without what it needs beside it.
-- Cited by `faults`.
use Rattle.std.specs.Prelude.{ℕ, zero, suc, Bool, true, false, ◌||◌, ◌&&◌, not, List, [], ◌∷◌, nat_le, Option, Some, None, if◌then◌else◌}
use Rattle.nm_query.specs.declared.query_error.QueryError.{QueryError}
use Rattle.nm_query.specs.declared.query_error.QueryError.TheVariants.{BadQuery}
use Rattle.nm_query.specs.declared.query_error.QueryKind.TheVariants as kind
use Rattle.nm_query.specs.declared.token.Placed.{Placed}
use Rattle.nm_query.specs.declared.token.Token.{Token}
use Rattle.nm_query.specs.declared.token.Token.TheVariants.{Binary, Close, Negation, Open, Term}

-- what becomes of this many open parentheses at a token, where the tokens after it say whether they are closed
abbrev pub closed_at : ℕ → Token → (ℕ → Bool) → Bool
closed_at opened Open after = after (suc opened)
closed_at zero Close after = true
closed_at (suc opened) Close after = after opened
closed_at opened Negation after = after opened
closed_at opened (Binary operator) after = after opened
closed_at opened (Term item) after = after opened

-- a `)` is in these tokens that closes a `(` before them, in which n others are open
abbrev pub is_closed : ℕ → List Placed → Bool
is_closed opened [] = false
is_closed opened (placed ∷ more) = closed_at opened placed.token (λ opened. is_closed opened more)

-- the place of this token where it is a parenthesis without its fellow, and else what the tokens after it say
abbrev pub unmatched_at : ℕ → ℕ → Token → Bool → (ℕ → Option ℕ) → Option ℕ
unmatched_at opened at Open closed after = if closed then after (suc opened) else Some at
unmatched_at zero at Close closed after = Some at
unmatched_at (suc opened) at Close closed after = after opened
unmatched_at opened at Negation closed after = after opened
unmatched_at opened at (Binary operator) closed after = after opened
unmatched_at opened at (Term item) closed after = after opened

-- the first parenthesis without its fellow, where n are open
abbrev pub unmatched_from : ℕ → List Placed → Option ℕ
unmatched_from opened [] = None
unmatched_from opened (placed ∷ more) = unmatched_at opened placed.at placed.token (is_closed 0 more) (λ opened. unmatched_from opened more)

-- it needs an operand before it
abbrev pub needs_before : Token → Bool
needs_before Open = false
needs_before Close = false
needs_before Negation = false
needs_before (Binary operator) = true
needs_before (Term item) = false

-- it needs one after it
abbrev pub needs_after : Token → Bool
needs_after Open = true
needs_after Close = false
needs_after Negation = true
needs_after (Binary operator) = true
needs_after (Term item) = false

-- an operand begins with it
abbrev pub begins_operand : Token → Bool
begins_operand Open = true
begins_operand Close = false
begins_operand Negation = true
begins_operand (Binary operator) = false
begins_operand (Term item) = true

-- an operand ends with it
abbrev pub ends_operand : Token → Bool
ends_operand Open = false
ends_operand Close = true
ends_operand Negation = false
ends_operand (Binary operator) = false
ends_operand (Term item) = true

-- an operand begins here
abbrev pub begin_operand : List Placed → Bool
begin_operand [] = false
begin_operand (placed ∷ more) = begins_operand placed.token

-- it lacks an operand, by whether one ends before it and by the tokens after it
abbrev pub lacks_operand : Bool → Token → List Placed → Bool
lacks_operand before token after = (needs_before token && not before) || (needs_after token && not (begin_operand after))

-- the first token that lacks an operand
abbrev pub lacking_from : Bool → List Placed → Option ℕ
lacking_from before [] = None
lacking_from before (placed ∷ more) =
    if lacks_operand before placed.token more then Some placed.at else lacking_from (ends_operand placed.token) more

-- of two faults the first, and at one place that of the parenthesis
abbrev pub first_fault : Option ℕ → Option ℕ → Option QueryError
first_fault None None = None
first_fault None (Some operand) = Some (BadQuery operand kind.Operand)
first_fault (Some paren) None = Some (BadQuery paren kind.Paren)
first_fault (Some paren) (Some operand) = if nat_le paren operand then Some (BadQuery paren kind.Paren) else Some (BadQuery operand kind.Operand)

-- the first fault of structure
abbrev pub structure_fault : List Placed → Option QueryError
structure_fault tokens = first_fault (unmatched_from 0 tokens) (lacking_from false tokens)
