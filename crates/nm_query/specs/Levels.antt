-- The tree of a list of tokens, read from the left: a level for each parenthesis that is open.
-- Cited by `level` and `tree_reader`.
use Rattle.std.specs.Prelude.{ℕ, zero, suc, ◌+◌, ◌==◌, List, [], ◌∷◌, ◌++◌, fold, if◌then◌else◌}
use Rattle.nm_query.specs.Groups.{group_query, joined}
use Rattle.nm_query.specs.declared.level.Level.{Level}
use Rattle.nm_query.specs.declared.query.Query.{Query}
use Rattle.nm_query.specs.declared.query.Query.TheVariants as tree
use Rattle.nm_query.specs.declared.tree_reader.Reading.{Reading}
use Rattle.nm_query.specs.declared.token.Item.{Item}
use Rattle.nm_query.specs.declared.token.Operator.{Operator}
use Rattle.nm_query.specs.declared.token.Operator.TheVariants.{Conjunction, Disjunction, Exclusion}
use Rattle.nm_query.specs.declared.token.Placed.{Placed}
use Rattle.nm_query.specs.declared.token.TermKind.TheVariants as joins
use Rattle.nm_query.specs.declared.token.Token.{Token}
use Rattle.nm_query.specs.declared.token.Token.TheVariants.{Binary, Close, Negation, Open, Term}

-- nothing read yet
abbrev pub blank : Level
blank = record { disjuncts = []; exclusives = []; conjuncts = []; items = []; negations = 0 }

-- negated n times
abbrev pub negated : ℕ → Query → Query
negated zero query = query
negated (suc n) query = negated n (tree.Not query)

-- an operand; negated it is joined with no others by Or
abbrev pub operand : ℕ → Item → Item
operand negations item = if negations == 0 then item else record { kind = joins.Other; query = negated negations item.query }

-- an operand has ended
abbrev pub with_item : Item → Level → Level
with_item item level = record level { items = level.items ++ operand level.negations item ∷ []; negations = 0 }

-- the group ends
abbrev pub end_group : Level → Level
end_group level = record level { conjuncts = level.conjuncts ++ group_query level.items ∷ []; items = [] }

-- and with it what `and` joins
abbrev pub end_conjunction : Level → Level
end_conjunction level = let ended = end_group level in
    record ended { exclusives = ended.exclusives ++ joined Conjunction ended.conjuncts ∷ []; conjuncts = [] }

-- and what `xor` joins
abbrev pub end_exclusion : Level → Level
end_exclusion level = let ended = end_conjunction level in
    record ended { disjuncts = ended.disjuncts ++ joined Exclusion ended.exclusives ∷ []; exclusives = [] }

-- what a level asks where it ends
abbrev pub level_query : Level → Query
level_query level = joined Disjunction (end_exclusion level).disjuncts

-- an operator ends what binds tighter than it
abbrev pub after_operator : Operator → Level → Level
after_operator Conjunction level = end_group level
after_operator Exclusion level = end_conjunction level
after_operator Disjunction level = end_exclusion level

-- a parenthesis that closes makes an operand of its level
abbrev pub closed : Level → List Level → Reading
closed inner [] = record { inner = inner; outer = [] }
closed inner (level ∷ outer) = record { inner = with_item (record { kind = joins.Other; query = level_query inner }) level; outer = outer }

-- what was read, after one token more
abbrev pub after : Token → Reading → Reading
after Open reading = record { inner = blank; outer = reading.inner ∷ reading.outer }
after Close reading = closed reading.inner reading.outer
after Negation reading = let inner = reading.inner in record reading { inner = record inner { negations = inner.negations + 1 } }
after (Binary operator) reading = record reading { inner = after_operator operator reading.inner }
after (Term item) reading = record reading { inner = with_item item reading.inner }

-- and after these tokens
abbrev pub read_after : Reading → List Placed → Reading
read_after reading tokens = fold (λ reading placed. after placed.token reading) reading tokens

-- before the first token
abbrev pub nothing_read : Reading
nothing_read = record { inner = blank; outer = [] }

-- what the tokens ask
abbrev pub tree_of : List Placed → Query
tree_of tokens = level_query (read_after nothing_read tokens).inner
