-- With which others a term is joined is seen in its tree. For the proof of `two_terms_of_a_kind_are_joined_by_or`.
use Rattle.std.proofs.Common.{◌≡◌, ℕ, zero, suc, ◌+◌, ◌-◌, Bool, true, false, cond, not, ◌==◌, ◌&&◌, List, [], ◌∷◌, length, take, drop, refl, subst}
use Rattle.std.specs.Prelude.{Option, Some, None, Result, Ok, Err, codes, slice_index, nat_le}
use Rattle.std.specs.Str.{bytes_eq}
use Rattle.std.specs.List.{before_first}
use Rattle.nm_base.specs.declared.facts.Field.{Field}
use Rattle.nm_dates.specs.Ends.{end_of}
use Rattle.nm_dates.specs.declared.end.End.{End}
use Rattle.nm_words.specs.Words.{words_of}
use Rattle.nm_text.specs.Case.{same_ignoring_case}
use Rattle.nm_query.specs.Grammar.{placed}
use Rattle.nm_query.specs.Lexemes.{field_term, further_at, goes_on, lexeme_at, name_term, passed, quoted_term, run_lexeme, run_token, term_of, token_of, unfielded_at, unprefixed_at, word_at}
use Rattle.nm_query.specs.Prefixes.{begins_what_is_not_here, field_prefix, folder_prefix, tag_prefix}
use Rattle.nm_query.specs.PrintedTree.{IsTerm, kind_of}
use Rattle.nm_query.specs.Terms.{before_dots, date_query, dates_of, ends_with, field_query, is_pattern, is_same_end, lacks_value, name_query, named_query, one_date, optional_end, other_item, path_query, range_query, run_query, said_query, second_place, takes_pattern, term_kind, thread_number, two_dates, with_from, without_last, words_query}
use Rattle.nm_query.specs.Tokens.{after_token, before_tokens, followed, tokens_from}
use Rattle.nm_query.specs.Values.{begins_with, ends_run, ends_value, quoted_value, value_at}
use Rattle.nm_query.specs.declared.prefixes.FieldPrefix.{FieldPrefix}
use Rattle.nm_query.specs.declared.prefixes.Name.{Name}
use Rattle.nm_query.specs.declared.prefixes.Name.TheVariants as name
use Rattle.nm_query.specs.declared.prefixes.NamePrefix.{NamePrefix}
use Rattle.nm_query.specs.declared.query.Query.{Query}
use Rattle.nm_query.specs.declared.query.Query.TheVariants as tree
use Rattle.nm_query.specs.declared.query_error.QueryError.{QueryError}
use Rattle.nm_query.specs.declared.query_error.QueryError.TheVariants.{BadDate, BadQuery}
use Rattle.nm_query.specs.declared.query_error.QueryKind.TheVariants as kind
use Rattle.nm_query.specs.declared.token.Item.{Item}
use Rattle.nm_query.specs.declared.token.Lexeme.{Lexeme}
use Rattle.nm_query.specs.declared.token.Operator.TheVariants.{Conjunction, Disjunction, Exclusion}
use Rattle.nm_query.specs.declared.token.Placed.{Placed}
use Rattle.nm_query.specs.declared.token.TermKind.{TermKind}
use Rattle.nm_query.specs.declared.token.TermKind.TheVariants as joins
use Rattle.nm_query.specs.declared.token.Token.{Token}
use Rattle.nm_query.specs.declared.token.Token.TheVariants.{Binary, Close, Negation, Open, Term}
use Rattle.nm_query.specs.declared.values.Value.{Value}

-- a tree that is read is of this kind
abbrev IsKind : TermKind → Result Query QueryError → Type 0
IsKind kind (Ok query) = kind ≡ kind_of query
IsKind kind (Err refusal) = Unit {0}

kind-cond : (kind : TermKind) (test : Bool) (x y : Result Query QueryError) → IsKind kind x → IsKind kind y → IsKind kind (cond test x y)
kind-cond kind true x y first second = first
kind-cond kind false x y first second = second

kind-to : (from : Option End) (to : Result (Option End) QueryError) → IsKind joins.Other (with_from from to)
kind-to from (Ok end) = refl
kind-to from (Err refusal) = tt

abbrev ended : ℕ → Option End → Result End QueryError
ended at end = elim end [ Some end ↦ Ok end | None ↦ Err (BadDate at) ]

abbrev for_both : Result End QueryError → Result Query QueryError
for_both end = elim end [ Ok end ↦ Ok (dates_of (Some end) (Some end)) | Err refusal ↦ Err refusal ]

kind-one : (at : ℕ) (text : List ℕ) → IsKind joins.Other (one_date at text)
kind-one at text = elim (end_of text) as (λ end. IsKind joins.Other (for_both (ended at end))) [
  | Some end ↦ refl
  | None ↦ tt
]

kind-two : (from to : Result (Option End) QueryError) → IsKind joins.Other (elim from [ Ok end ↦ with_from end to | Err refusal ↦ Err refusal ])
kind-two (Ok end) to = kind-to end to
kind-two (Err refusal) to = tt

kind-date : (from : ℕ) (value : Value) → IsKind joins.Other (date_query from value)
kind-date from value =
    let dots : ℕ = before_dots value.said in
    let first : List ℕ = take dots value.said in
    let last : List ℕ = drop (dots + 2) value.said in
    let at_to : ℕ = second_place from value.quoted dots in
    kind-cond joins.Other (dots == length value.said) (one_date from value.said) (range_query from at_to first last) (kind-one from value.said)
    (kind-cond joins.Other (is_same_end first last) (one_date from first) (two_dates from first at_to last) (kind-one from first) (kind-two (optional_end from first) (optional_end at_to last)))

kind-path : (text : List ℕ) → joins.Path ≡ kind_of (path_query text)
kind-path text =
    let below : Bool = nat_le 3 (length text) && bytes_eq (drop (length text - 3) text) (codes "/**") in
    elim (bytes_eq text (codes "**")) as (λ v. joins.Path ≡ kind_of (cond v (tree.Path [] true) (cond below (tree.Path (take (length text - 3) text) true) (tree.Path text false)))) [
      | true ↦ refl
      | false ↦ elim below as (λ v. joins.Path ≡ kind_of (cond v (tree.Path (take (length text - 3) text) true) (tree.Path text false))) [ true ↦ refl | false ↦ refl ]
    ]

kind-named : (at from : ℕ) (name : Name) (value : Value) → IsKind (term_kind name) (named_query at from name value)
kind-named at from name.Tag value = kind-cond joins.Tag (is_pattern value.said) (Err (BadQuery at kind.NotHere)) (Ok (tree.Tag value.said)) tt refl
kind-named at from name.Is value = refl
kind-named at from name.Id value = refl
kind-named at from name.Thread value = kind-cond joins.Thread (slice_index value.said 0 == 123) (Err (BadQuery at kind.NotHere)) (Ok (tree.Thread (thread_number value.said))) tt refl
kind-named at from name.Folder value = refl
kind-named at from name.Path value = kind-cond joins.Path (is_pattern value.said) (Err (BadQuery at kind.NotHere)) (Ok (path_query value.said)) tt (kind-path value.said)
kind-named at from name.Mime value = refl
kind-named at from name.Date value = kind-date from value

kind-run : (field : Option Field) (run : List ℕ) → joins.Other ≡ kind_of (run_query field run)
kind-run field run = elim (ends_with 42 run) as (λ v. joins.Other ≡ kind_of (cond v (tree.Words field (words_of (without_last run)) true) (words_query field run))) [ true ↦ refl | false ↦ refl ]

kind-said : (field : Option Field) (value : Value) → joins.Other ≡ kind_of (said_query field value)
kind-said field value = elim value.quoted as (λ v. joins.Other ≡ kind_of (cond v (words_query field value.said) (run_query field value.said))) [ true ↦ refl | false ↦ kind-run field value.said ]

kind-name : (at from : ℕ) (name : Name) (value : Value) → IsKind (term_kind name) (name_query at from name value)
kind-name at from name value = kind-cond (term_kind name) (lacks_value name value) (Err (BadQuery from kind.Value)) (named_query at from name value) tt (kind-named at from name value)

kind-field : (at from : ℕ) (field : Field) (value : Value) → IsKind joins.Other (field_query at from field value)
kind-field at from field value =
    let pattern : Bool = takes_pattern field && is_pattern value.said in
    let said : Query = said_query (Some field) value in
    kind-cond joins.Other (length value.said == 0) (Err (BadQuery from kind.Value)) (cond pattern (Err (BadQuery at kind.NotHere)) (Ok said)) tt
    (kind-cond joins.Other pattern (Err (BadQuery at kind.NotHere)) (Ok said) tt (kind-said (Some field) value))

-- A token whose term is of the kind that its tree shows.

abbrev Shows : Token → Type 0
Shows Open = Unit {0}
Shows Close = Unit {0}
Shows Negation = Unit {0}
Shows (Binary operator) = Unit {0}
Shows (Term item) = item.kind ≡ kind_of item.query

abbrev MayShow : Option Token → Type 0
MayShow None = Unit {0}
MayShow (Some token) = Shows token

abbrev LexemeShows : Result Lexeme QueryError → Type 0
LexemeShows (Ok lexeme) = MayShow lexeme.token
LexemeShows (Err refusal) = Unit {0}

shows-cond : (test : Bool) (x y : Result Lexeme QueryError) → LexemeShows x → LexemeShows y → LexemeShows (cond test x y)
shows-cond true x y first second = first
shows-cond false x y first second = second

shows-term : (kind : TermKind) (len : ℕ) (query : Result Query QueryError) → IsKind kind query → LexemeShows (term_of kind len query)
shows-term kind len (Ok query) is = is
shows-term kind len (Err refusal) is = tt

shows-value : (value : Result Value QueryError) (asked : Value → Result Lexeme QueryError) → ((value : Value) → LexemeShows (asked value)) → LexemeShows (elim value [ Ok value ↦ asked value | Err refusal ↦ Err refusal ])
shows-value (Ok value) asked shows = shows value
shows-value (Err refusal) asked shows = tt

shows-field : (at : ℕ) (prefix : FieldPrefix) (text : List ℕ) → LexemeShows (field_term at prefix text)
shows-field at prefix text =
    let value : Result Value QueryError = value_at ends_run (at + prefix.len) text in
    let asked : Value → Result Lexeme QueryError = λ value. term_of joins.Other (prefix.len + value.len) (field_query at (at + prefix.len) prefix.field value) in
    shows-cond (begins_with 40 text) (Err (BadQuery at kind.NotHere)) (elim value [ Ok value ↦ asked value | Err refusal ↦ Err refusal ]) tt
    (shows-value value asked (λ value. shows-term joins.Other (prefix.len + value.len) (field_query at (at + prefix.len) prefix.field value) (kind-field at (at + prefix.len) prefix.field value)))

shows-name : (at : ℕ) (prefix : NamePrefix) (text : List ℕ) → LexemeShows (name_term at prefix text)
shows-name at prefix text =
    let asked : Value → Result Lexeme QueryError = λ value. term_of (term_kind prefix.name) (prefix.len + value.len) (name_query at (at + prefix.len) prefix.name value) in
    shows-value (value_at ends_value (at + prefix.len) text) asked
    (λ value. shows-term (term_kind prefix.name) (prefix.len + value.len) (name_query at (at + prefix.len) prefix.name value) (kind-name at (at + prefix.len) prefix.name value))

shows-if : (test : Bool) (x y : Token) → Shows x → Shows y → Shows (cond test x y)
shows-if true x y first second = first
shows-if false x y first second = second

shows-run : (run : List ℕ) → Shows (run_token run)
shows-run run =
    let words : Token = Term (other_item (run_query None run)) in
    let all : Token = Term (other_item tree.All) in
    let star : Token = cond (bytes_eq run (codes "*")) all words in
    let negation : Token = cond (same_ignoring_case run (codes "not")) Negation star in
    let exclusion : Token = cond (same_ignoring_case run (codes "xor")) (Binary Exclusion) negation in
    let disjunction : Token = cond (same_ignoring_case run (codes "or")) (Binary Disjunction) exclusion in
    shows-if (same_ignoring_case run (codes "and")) (Binary Conjunction) disjunction tt
    (shows-if (same_ignoring_case run (codes "or")) (Binary Disjunction) exclusion tt
    (shows-if (same_ignoring_case run (codes "xor")) (Binary Exclusion) negation tt
    (shows-if (same_ignoring_case run (codes "not")) Negation star tt
    (shows-if (bytes_eq run (codes "*")) all words refl (kind-run None run)))))

shows-prefix : {A : Type 0} (found : Option A) (term : A → Result Lexeme QueryError) (other : Result Lexeme QueryError) → ((prefix : A) → LexemeShows (term prefix)) → LexemeShows other →
    LexemeShows (elim found [ Some prefix ↦ term prefix | None ↦ other ])
shows-prefix None term other shows without = without
shows-prefix (Some prefix) term other shows without = shows prefix

shows-word : (at : ℕ) (text : List ℕ) → LexemeShows (word_at at text)
shows-word at text =
    shows-prefix (field_prefix text) (λ prefix. field_term at prefix (drop prefix.len text)) (unfielded_at at text) (λ prefix. shows-field at prefix (drop prefix.len text))
    (shows-prefix (tag_prefix text) (λ prefix. name_term at prefix (drop prefix.len text)) (further_at at text) (λ prefix. shows-name at prefix (drop prefix.len text))
    (shows-prefix (folder_prefix text) (λ prefix. name_term at prefix (drop prefix.len text)) (unprefixed_at at text) (λ prefix. shows-name at prefix (drop prefix.len text))
    (shows-cond (begins_what_is_not_here text) (Err (BadQuery at kind.NotHere)) (Ok (run_lexeme (before_first ends_run text))) tt (shows-run (before_first ends_run text)))))

shows-lexeme : (at : ℕ) (text : List ℕ) → LexemeShows (lexeme_at at text)
shows-lexeme at text =
    let word : Result Lexeme QueryError = word_at at text in
    let plus : Result Lexeme QueryError = cond (begins_with 43 text && goes_on (drop 1 text)) (Ok (passed 1)) word in
    let sign : Result Lexeme QueryError = cond (begins_with 45 text && goes_on (drop 1 text)) (Ok (token_of Negation 1)) plus in
    let quote : Result Lexeme QueryError = cond (begins_with 34 text) (quoted_term (quoted_value at (drop 1 text))) sign in
    let close_ : Result Lexeme QueryError = cond (begins_with 41 text) (Ok (token_of Close 1)) quote in
    let open_ : Result Lexeme QueryError = cond (begins_with 40 text) (Ok (token_of Open 1)) close_ in
    shows-cond (not (goes_on text)) (Ok (passed 1)) open_ tt
    (shows-cond (begins_with 40 text) (Ok (token_of Open 1)) close_ tt
    (shows-cond (begins_with 41 text) (Ok (token_of Close 1)) quote tt
    (shows-cond (begins_with 34 text) (quoted_term (quoted_value at (drop 1 text))) sign
    (shows-value (quoted_value at (drop 1 text)) (λ value. Ok (token_of (Term (other_item (words_query None value.said))) value.len)) (λ value. refl))
    (shows-cond (begins_with 45 text && goes_on (drop 1 text)) (Ok (token_of Negation 1)) plus tt
    (shows-cond (begins_with 43 text && goes_on (drop 1 text)) (Ok (passed 1)) word tt (shows-word at text))))))

abbrev AllShow : List Placed → Type 0
AllShow [] = Unit {0}
AllShow (first ∷ more) = Shows first.token × AllShow more

abbrev TokensShow : Result (List Placed) QueryError → Type 0
TokensShow (Ok tokens) = AllShow tokens
TokensShow (Err refusal) = Unit {0}

shows-more : (at : ℕ) (lexeme : Lexeme) (more : Result (List Placed) QueryError) → MayShow lexeme.token → TokensShow more → TokensShow (before_tokens at lexeme more)
shows-more at lexeme (Ok more) here after = elim lexeme.token as (λ token. MayShow token → AllShow (after_token at token more)) [
  | None ↦ λ none. after
  | Some token ↦ λ shows. (shows, after)
] here
shows-more at lexeme (Err refusal) here after = tt

shows-followed : (at : ℕ) (lexeme : Result Lexeme QueryError) (after : ℕ → Result (List Placed) QueryError) → LexemeShows lexeme → ((len : ℕ) → TokensShow (after len)) → TokensShow (followed at lexeme after)
shows-followed at (Ok lexeme) after here then = shows-more at lexeme (after lexeme.len) here (then lexeme.len)
shows-followed at (Err refusal) after here then = tt

shows-tokens : (text : List ℕ) (inside at : ℕ) → TokensShow (tokens_from inside at text)
shows-tokens [] inside at = tt
shows-tokens (b ∷ more) (suc inside) at = shows-tokens more inside (at + 1)
shows-tokens (b ∷ more) zero at =
    shows-followed at (lexeme_at at (b ∷ more)) (λ len. tokens_from (len - 1) (at + 1) more) (shows-lexeme at (b ∷ more)) (λ len. shows-tokens more (len - 1) (at + 1))

pub kind-term : (text : List ℕ) (item : Item) → IsTerm text item → item.kind ≡ kind_of item.query
kind-term text item term =
    let shows : AllShow (placed term.at (Term item) ∷ []) = subst TokensShow term.cut (shows-tokens text 0 0) in
    shows.0
