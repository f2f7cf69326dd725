-- Texts by which laws are stated: `*` in parentheses and after signs, and terms of words. Cited by `token_laws`.
use Rattle.std.specs.Prelude.{ℕ, zero, suc, ◌+◌, true, false, List, [], ◌∷◌, ◌++◌, Option}
use Rattle.nm_base.specs.declared.facts.Field.{Field}
use Rattle.nm_query.specs.Grammar.{placed}
use Rattle.nm_query.specs.Terms.{other_item}
use Rattle.nm_query.specs.declared.query.Query.{Query}
use Rattle.nm_query.specs.declared.query.Query.TheVariants as tree
use Rattle.nm_query.specs.declared.token.Placed.{Placed}
use Rattle.nm_query.specs.declared.token.Token.{Token}
use Rattle.nm_query.specs.declared.token.Token.TheVariants.{Term}
use Rattle.nm_words.specs.Words.{words_of}

-- `*` in n pairs of parentheses
abbrev pub in_pairs : ℕ → List ℕ
in_pairs zero = 42 ∷ []
in_pairs (suc n) = 40 ∷ (in_pairs n ++ 41 ∷ [])

-- `*` after n `-`
abbrev pub after_signs : ℕ → List ℕ
after_signs zero = 42 ∷ []
after_signs (suc n) = 45 ∷ after_signs n

-- every message, negated so often
abbrev pub nots : ℕ → Query
nots zero = tree.All
nots (suc n) = tree.Not (nots n)

-- a term that asks the words of a text of this field, or of any
abbrev pub words_term : Option Field → List ℕ → Token
words_term field text = Term (other_item (tree.Words field (words_of text) false))

-- the same, with the front of a word at its end
abbrev pub front_term : Option Field → List ℕ → Token
front_term field text = Term (other_item (tree.Words field (words_of text) true))

-- a token n bytes further on
abbrev pub further : ℕ → Placed → Placed
further by token = placed (token.at + by) token.token
