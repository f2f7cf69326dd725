-- What a value asks doesn't hang on its place: only refusals do. For `LexemeLemmas`.
use Rattle.std.proofs.Common.{◌≡◌, ℕ, ◌+◌, Bool, true, false, cond, ◌&&◌, ◌==◌, List, length, take, drop, refl, ap, ◌∙◌}
use Rattle.std.specs.Prelude.{Option, Some, None, Result, Ok, Err, slice_index}
use Rattle.nm_base.specs.declared.facts.Field.{Field}
use Rattle.nm_dates.specs.Ends.{end_of}
use Rattle.nm_dates.specs.declared.end.End.{End}
use Rattle.nm_query.specs.Terms.{before_dots, date_query, dates_of, end_at, field_query, is_pattern, is_same_end, lacks_value, name_query, named_query, one_date, optional_end, path_query, range_query, said_query, second_place, takes_pattern, thread_number, two_dates, with_from}
use Rattle.nm_query.specs.declared.prefixes.Name.{Name}
use Rattle.nm_query.specs.declared.prefixes.Name.TheVariants as name
use Rattle.nm_query.specs.declared.query.Query.{Query}
use Rattle.nm_query.specs.declared.query.Query.TheVariants as tree
use Rattle.nm_query.specs.declared.query_error.QueryError.{QueryError}
use Rattle.nm_query.specs.declared.query_error.QueryError.TheVariants.{BadDate, BadQuery}
use Rattle.nm_query.specs.declared.query_error.QueryKind.TheVariants as kind
use Rattle.nm_query.specs.declared.values.Value.{Value}

-- what the one answers Ok, the other does
abbrev pub Keeps : {A : Type 0} → Result A QueryError → Result A QueryError → Type 0
Keeps {A} first second = (value : A) → first ≡ Ok value → second ≡ Ok value

pub keeps-same : {A : Type 0} (result : Result A QueryError) → Keeps result result
keeps-same result value h = h

pub keeps-fault : {A : Type 0} (first : QueryError) (second : Result A QueryError) → (let fault : Result A QueryError = Err first in Keeps fault second)
keeps-fault first second value h = absurd (cc)

pub keeps-cond : {A : Type 0} (test : Bool) (x x' y y' : Result A QueryError) → Keeps x x' → Keeps y y' → Keeps (cond test x y) (cond test x' y')
keeps-cond true x x' y y' first second = first
keeps-cond false x x' y y' first second = second

abbrev ended : ℕ → Option End → Result End QueryError
ended at end = elim end [ Some end ↦ Ok end | None ↦ Err (BadDate at) ]

abbrev some_end : Result End QueryError → Result (Option End) QueryError
some_end end = elim end [ Ok end ↦ Ok (Some end) | Err refusal ↦ Err refusal ]

abbrev for_both : Result End QueryError → Result Query QueryError
for_both end = elim end [ Ok end ↦ Ok (dates_of (Some end) (Some end)) | Err refusal ↦ Err refusal ]

keeps-one : (at place : ℕ) (text : List ℕ) → Keeps (one_date at text) (one_date place text)
keeps-one at place text = elim (end_of text) as (λ end. Keeps (for_both (ended at end)) (for_both (ended place end))) [
  | Some end ↦ λ value h. h
  | None ↦ λ value h. absurd (cc)
]

keeps-optional : (at place : ℕ) (text : List ℕ) → Keeps (optional_end at text) (optional_end place text)
keeps-optional at place text = elim (length text == 0) as (λ v. Keeps (cond v (Ok None) (some_end (end_at at text))) (cond v (Ok None) (some_end (end_at place text)))) [
  | true ↦ λ value h. h
  | false ↦ elim (end_of text) as (λ end. Keeps (some_end (ended at end)) (some_end (ended place end))) [
    | Some end ↦ λ value h. h
    | None ↦ λ value h. absurd (cc)
  ]
]

keeps-to : (from : Option End) (first second : Result (Option End) QueryError) → Keeps first second → Keeps (with_from from first) (with_from from second)
keeps-to from (Ok end) second keeps value h = ap (with_from from) (keeps end refl) ∙ h
keeps-to from (Err refusal) second keeps value h = absurd (cc)

abbrev from_and : Result (Option End) QueryError → Result (Option End) QueryError → Result Query QueryError
from_and from to = elim from [ Ok end ↦ with_from end to | Err refusal ↦ Err refusal ]

keeps-ends : (first second to to' : Result (Option End) QueryError) → Keeps first second → Keeps to to' → Keeps (from_and first to) (from_and second to')
keeps-ends (Ok end) second to to' keeps keeps_to value h = ap (λ x. from_and x to') (keeps end refl) ∙ keeps-to end to to' keeps_to value h
keeps-ends (Err refusal) second to to' keeps keeps_to value h = absurd (cc)

keeps-range : (at place at_to place_to : ℕ) (from to : List ℕ) → Keeps (range_query at at_to from to) (range_query place place_to from to)
keeps-range at place at_to place_to from to =
    keeps-cond (is_same_end from to) (one_date at from) (one_date place from) (two_dates at from at_to to) (two_dates place from place_to to)
    (keeps-one at place from)
    (keeps-ends (optional_end at from) (optional_end place from) (optional_end at_to to) (optional_end place_to to) (keeps-optional at place from) (keeps-optional at_to place_to to))

keeps-date : (at place : ℕ) (value : Value) → Keeps (date_query at value) (date_query place value)
keeps-date at place value =
    let dots : ℕ = before_dots value.said in
    let from : List ℕ = take dots value.said in
    let to : List ℕ = drop (dots + 2) value.said in
    keeps-cond (dots == length value.said) (one_date at value.said) (one_date place value.said)
    (range_query at (second_place at value.quoted dots) from to) (range_query place (second_place place value.quoted dots) from to)
    (keeps-one at place value.said) (keeps-range at place (second_place at value.quoted dots) (second_place place value.quoted dots) from to)

keeps-fault_or : {A : Type 0} (test : Bool) (first second : QueryError) (x x' : Result A QueryError) → Keeps x x' → Keeps (cond test (Err first) x) (cond test (Err second) x')
keeps-fault_or test first second x x' keeps = keeps-cond test (Err first) (Err second) x x' (keeps-fault first (Err second)) keeps

keeps-named : (at place from to : ℕ) (name : Name) (value : Value) → Keeps (named_query at from name value) (named_query place to name value)
keeps-named at place from to name.Tag value = keeps-fault_or (is_pattern value.said) (BadQuery at kind.NotHere) (BadQuery place kind.NotHere) (Ok (tree.Tag value.said)) (Ok (tree.Tag value.said)) (keeps-same (Ok (tree.Tag value.said)))
keeps-named at place from to name.Is value = λ query h. h
keeps-named at place from to name.Id value = λ query h. h
keeps-named at place from to name.Thread value =
    let thread : Query = tree.Thread (thread_number value.said) in
    keeps-fault_or (slice_index value.said 0 == 123) (BadQuery at kind.NotHere) (BadQuery place kind.NotHere) (Ok thread) (Ok thread) (keeps-same (Ok thread))
keeps-named at place from to name.Folder value = λ query h. h
keeps-named at place from to name.Path value =
    let path : Query = path_query value.said in
    keeps-fault_or (is_pattern value.said) (BadQuery at kind.NotHere) (BadQuery place kind.NotHere) (Ok path) (Ok path) (keeps-same (Ok path))
keeps-named at place from to name.Mime value = λ query h. h
keeps-named at place from to name.Date value = keeps-date from to value

pub keeps-name : (at place from to : ℕ) (name : Name) (value : Value) → Keeps (name_query at from name value) (name_query place to name value)
keeps-name at place from to name value =
    keeps-fault_or (lacks_value name value) (BadQuery from kind.Value) (BadQuery to kind.Value) (named_query at from name value) (named_query place to name value) (keeps-named at place from to name value)

pub keeps-field : (at place from to : ℕ) (field : Field) (value : Value) → Keeps (field_query at from field value) (field_query place to field value)
keeps-field at place from to field value =
    let said : Query = said_query (Some field) value in
    let pattern : Bool = takes_pattern field && is_pattern value.said in
    keeps-fault_or (length value.said == 0) (BadQuery from kind.Value) (BadQuery to kind.Value) (cond pattern (Err (BadQuery at kind.NotHere)) (Ok said)) (cond pattern (Err (BadQuery place kind.NotHere)) (Ok said))
    (keeps-fault_or pattern (BadQuery at kind.NotHere) (BadQuery place kind.NotHere) (Ok said) (Ok said) (keeps-same (Ok said)))
