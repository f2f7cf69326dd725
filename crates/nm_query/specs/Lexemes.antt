-- What begins at a place of a query: white space, a parenthesis, an operator or a term. Cited by `lexeme`.
use Rattle.std.specs.Prelude.{ℕ, ◌+◌, Bool, false, ◌&&◌, not, List, [], ◌∷◌, length, drop, Some, None, Result, Ok, Err, codes, if◌then◌else◌}
use Rattle.std.specs.List.{before_first}
use Rattle.std.specs.Str.{bytes_eq}
use Rattle.nm_base.specs.Bounds.{is_white_space}
use Rattle.nm_text.specs.Case.{same_ignoring_case}
use Rattle.nm_query.specs.Prefixes.{begins_what_is_not_here, field_prefix, folder_prefix, tag_prefix}
use Rattle.nm_query.specs.Terms.{field_query, name_query, other_item, run_query, term_kind, words_query}
use Rattle.nm_query.specs.Values.{begins_with, ends_run, ends_value, quoted_value, value_at}
use Rattle.nm_query.specs.declared.prefixes.FieldPrefix.{FieldPrefix}
use Rattle.nm_query.specs.declared.prefixes.NamePrefix.{NamePrefix}
use Rattle.nm_query.specs.declared.query.Query.{Query}
use Rattle.nm_query.specs.declared.query.Query.TheVariants as tree
use Rattle.nm_query.specs.declared.query_error.QueryError.{QueryError}
use Rattle.nm_query.specs.declared.query_error.QueryError.TheVariants.{BadQuery}
use Rattle.nm_query.specs.declared.query_error.QueryKind.TheVariants as kind
use Rattle.nm_query.specs.declared.token.Lexeme.{Lexeme}
use Rattle.nm_query.specs.declared.token.Operator.TheVariants.{Conjunction, Disjunction, Exclusion}
use Rattle.nm_query.specs.declared.token.TermKind.{TermKind}
use Rattle.nm_query.specs.declared.token.TermKind.TheVariants as joins
use Rattle.nm_query.specs.declared.token.Token.{Token}
use Rattle.nm_query.specs.declared.token.Token.TheVariants.{Binary, Close, Negation, Open, Term}
use Rattle.nm_query.specs.declared.values.Value.{Value}

-- n bytes that are no token
abbrev pub passed : ℕ → Lexeme
passed len = record { token = None; len = len }

-- a token of n bytes
abbrev pub token_of : Token → ℕ → Lexeme
token_of token len = record { token = Some token; len = len }

-- a term of n bytes, or why it is none
abbrev pub term_of : TermKind → ℕ → Result Query QueryError → Result Lexeme QueryError
term_of kind len query = elim query [ Ok query ↦ Ok (token_of (Term (record { kind = kind; query = query })) len) | Err refusal ↦ Err refusal ]

-- a term of a field whose prefix has n bytes
abbrev pub field_value_term : ℕ → FieldPrefix → Result Value QueryError → Result Lexeme QueryError
field_value_term at prefix value = elim value [
  | Ok value ↦ term_of joins.Other (prefix.len + value.len) (field_query at (at + prefix.len) prefix.field value)
  | Err refusal ↦ Err refusal
]

-- the term of a field at this place, by its prefix and what comes after that
abbrev pub field_term : ℕ → FieldPrefix → List ℕ → Result Lexeme QueryError
field_term at prefix text =
    if begins_with 40 text then Err (BadQuery at kind.NotHere)
    else field_value_term at prefix (value_at ends_run (at + prefix.len) text)

-- a term of a name whose prefix has n bytes
abbrev pub name_value_term : ℕ → NamePrefix → Result Value QueryError → Result Lexeme QueryError
name_value_term at prefix value = elim value [
  | Ok value ↦ term_of (term_kind prefix.name) (prefix.len + value.len) (name_query at (at + prefix.len) prefix.name value)
  | Err refusal ↦ Err refusal
]

-- the term of a name at this place, by its prefix and what comes after that
abbrev pub name_term : ℕ → NamePrefix → List ℕ → Result Lexeme QueryError
name_term at prefix text = name_value_term at prefix (value_at ends_value (at + prefix.len) text)

-- a quoted text by itself
abbrev pub quoted_term : Result Value QueryError → Result Lexeme QueryError
quoted_term value = elim value [
  | Ok value ↦ Ok (token_of (Term (other_item (words_query None value.said))) value.len)
  | Err refusal ↦ Err refusal
]

-- an operator in any case, `*` for every message, or words
abbrev pub run_token : List ℕ → Token
run_token run =
    if same_ignoring_case run (codes "and") then Binary Conjunction
    else (if same_ignoring_case run (codes "or") then Binary Disjunction
    else (if same_ignoring_case run (codes "xor") then Binary Exclusion
    else (if same_ignoring_case run (codes "not") then Negation
    else (if bytes_eq run (codes "*") then Term (other_item tree.All)
    else Term (other_item (run_query None run))))))

-- a run by itself
abbrev pub run_lexeme : List ℕ → Lexeme
run_lexeme run = token_of (run_token run) (length run)

-- a run: an operator or words, where it begins with no form that is not there
abbrev pub unprefixed_at : ℕ → List ℕ → Result Lexeme QueryError
unprefixed_at at text = if begins_what_is_not_here text then Err (BadQuery at kind.NotHere) else Ok (run_lexeme (before_first ends_run text))

-- a term that begins with no name of a tag, an id or a thread
abbrev pub further_at : ℕ → List ℕ → Result Lexeme QueryError
further_at at text = elim (folder_prefix text) [
  | Some prefix ↦ name_term at prefix (drop prefix.len text)
  | None ↦ unprefixed_at at text
]

-- a term that begins with no field
abbrev pub unfielded_at : ℕ → List ℕ → Result Lexeme QueryError
unfielded_at at text = elim (tag_prefix text) [
  | Some prefix ↦ name_term at prefix (drop prefix.len text)
  | None ↦ further_at at text
]

-- a term with or without a prefix, or an operator that is a word
abbrev pub word_at : ℕ → List ℕ → Result Lexeme QueryError
word_at at text = elim (field_prefix text) [
  | Some prefix ↦ field_term at prefix (drop prefix.len text)
  | None ↦ unfielded_at at text
]

-- a byte that is no white space is at the front
abbrev pub goes_on : List ℕ → Bool
goes_on [] = false
goes_on (b ∷ more) = not (is_white_space b)

-- a run begins here: a byte that doesn't end one
abbrev pub begins_run : List ℕ → Bool
begins_run [] = false
begins_run (b ∷ more) = not (ends_run b)

-- `-` negates and `+` says nothing, where a byte that is no white space follows at once
abbrev pub sign_at : ℕ → List ℕ → Result Lexeme QueryError
sign_at at text =
    if begins_with 45 text && goes_on (drop 1 text) then Ok (token_of Negation 1)
    else (if begins_with 43 text && goes_on (drop 1 text) then Ok (passed 1) else word_at at text)

-- what begins at this place, with the first byte of this text
abbrev pub lexeme_at : ℕ → List ℕ → Result Lexeme QueryError
lexeme_at at text =
    if not (goes_on text) then Ok (passed 1)
    else (if begins_with 40 text then Ok (token_of Open 1)
    else (if begins_with 41 text then Ok (token_of Close 1)
    else (if begins_with 34 text then quoted_term (quoted_value at (drop 1 text))
    else sign_at at text)))
