-- White space or the end after a text leaves its first lexeme as it is, wherever it is. For `MoveLemmas`.
use Rattle.std.proofs.Common.{◌≡◌, ℕ, ◌+◌, ◌≤◌, Bool, true, false, cond, not, ◌&&◌, ◌||◌, ◌==◌, List, [], ◌∷◌, ◌++◌, length, drop, refl, ap, ◌∙◌, arith}
use Rattle.std.specs.Prelude.{Option, Some, None, Result, Ok, Err, codes}
use Rattle.std.specs.List.{before_first, position_or_len}
use Rattle.std.proofs.lemmas.Bool.Decides.{nat_tests}
use Rattle.std.proofs.lemmas.List.{drop-append-le, length-drop, length-take-le}
use Rattle.nm_base.specs.Bounds.{is_white_space}
use Rattle.nm_base.specs.declared.facts.Field.TheVariants as field
use Rattle.nm_query.specs.Lexemes.{field_term, field_value_term, further_at, goes_on, lexeme_at, name_term, passed, quoted_term, run_lexeme, sign_at, term_of, token_of, unfielded_at, unprefixed_at, word_at}
use Rattle.nm_query.specs.Prefixes.{begins, begins_what_is_not_here, field_prefix, folder_prefix, tag_prefix}
use Rattle.nm_query.specs.Terms.{field_query, name_query, other_item, term_kind, words_query}
use Rattle.nm_query.specs.Values.{begins_with, ends_run, ends_value, quoted_value, value_at}
use Rattle.nm_query.specs.declared.prefixes.FieldPrefix.{FieldPrefix}
use Rattle.nm_query.specs.declared.prefixes.Name.TheVariants as name
use Rattle.nm_query.specs.declared.prefixes.NamePrefix.{NamePrefix}
use Rattle.nm_query.specs.declared.query.Query.{Query}
use Rattle.nm_query.specs.declared.query_error.QueryError.{QueryError}
use Rattle.nm_query.specs.declared.query_error.QueryError.TheVariants.{BadQuery}
use Rattle.nm_query.specs.declared.query_error.QueryKind.TheVariants as kind
use Rattle.nm_query.specs.declared.token.Lexeme.{Lexeme}
use Rattle.nm_query.specs.declared.token.TermKind.{TermKind}
use Rattle.nm_query.specs.declared.token.TermKind.TheVariants as joins
use Rattle.nm_query.specs.declared.token.Token.TheVariants.{Close, Negation, Open, Term}
use Rattle.nm_query.specs.declared.values.Value.{Value}
use Rattle.nm_query.proofs.BlankLemmas.{before-blank, begins-blank, prefix-blank, prefix-long, quoted-blank, run_len-within, value-blank}
use Rattle.nm_query.proofs.PlaceLemmas.{Keeps, keeps-field, keeps-name}

-- the one lexeme is read where the other is, and is no longer than n bytes
abbrev pub Stays : ℕ → Result Lexeme QueryError → Result Lexeme QueryError → Type 0
Stays most first second = (lexeme : Lexeme) → first ≡ Ok lexeme → (second ≡ Ok lexeme) × (lexeme.len ≤ most)

stays-cond : (most : ℕ) (test : Bool) (x x' y y' : Result Lexeme QueryError) → Stays most x x' → Stays most y y' → Stays most (cond test x y) (cond test x' y')
stays-cond most true x x' y y' first second = first
stays-cond most false x x' y y' first second = second

stays-fault : (most : ℕ) (first : QueryError) (second : Result Lexeme QueryError) → Stays most (Err first) second
stays-fault most first second lexeme h = absurd (cc)

same_lexeme : (first lexeme : Lexeme) → (let answer : Result Lexeme QueryError = Ok first in answer ≡ Ok lexeme) → first ≡ lexeme
same_lexeme first lexeme h = cc

stays-same : (most : ℕ) (first : Lexeme) → first.len ≤ most → Stays most (Ok first) (Ok first)
stays-same most first within lexeme h =
    let same = ap (λ (l : Lexeme). l.len) (same_lexeme first lexeme h) in (h, omega arith)

stays-moved : (most : ℕ) (first second third : Result Lexeme QueryError) → third ≡ second → Stays most first second → Stays most first third
stays-moved most first second third same stays lexeme h = (same ∙ (stays lexeme h).0, (stays lexeme h).1)

stays-more : (most further : ℕ) (first second : Result Lexeme QueryError) → most ≤ further → Stays most first second → Stays further first second
stays-more most further first second within stays lexeme h = let least = (stays lexeme h).1 in ((stays lexeme h).0, omega arith)

stays-term : (most len : ℕ) (kind : TermKind) (first second : Result Query QueryError) → len ≤ most → Keeps first second → Stays most (term_of kind len first) (term_of kind len second)
stays-term most len kind (Ok query) second within keeps lexeme h =
    let same = ap (λ (l : Lexeme). l.len) (same_lexeme (token_of (Term (record { kind = kind; query = query })) len) lexeme h) in
    (ap (term_of kind len) (keeps query refl) ∙ h, omega arith)
stays-term most len kind (Err refusal) second within keeps lexeme h = absurd (cc)

-- the value, and what it asks
stays-value : (most prefix : ℕ) (first second : Result Value QueryError) (asked asked' : Value → Result Lexeme QueryError) →
    ((value : Value) → first ≡ Ok value → (second ≡ Ok value) × (prefix + value.len ≤ most)) →
    ((value : Value) → prefix + value.len ≤ most → Stays most (asked value) (asked' value)) →
    Stays most (elim first [ Ok value ↦ asked value | Err refusal ↦ Err refusal ]) (elim second [ Ok value ↦ asked' value | Err refusal ↦ Err refusal ])
stays-value most prefix (Ok value) second asked asked' read asks lexeme h =
    let found = read value refl in
    let then = asks value found.1 lexeme h in
    (ap (λ x. elim x [ Ok value ↦ asked' value | Err refusal ↦ Err refusal ]) found.0 ∙ then.0, then.1)
stays-value most prefix (Err refusal) second asked asked' read asks lexeme h = absurd (cc)

run_ends : (b : ℕ) → is_white_space b ≡ true → ends_run b ≡ true
run_ends b h = grind (arith, nat_tests)

value_ends : (b : ℕ) → is_white_space b ≡ true → ends_value b ≡ true
value_ends b h = grind (arith, nat_tests)

begins-same : (byte : ℕ) (text blank : List ℕ) → is_white_space byte ≡ false → goes_on blank ≡ false → begins_with byte (text ++ blank) ≡ begins_with byte text
begins-same byte [] blank dark h = begins-blank byte blank dark h
begins-same byte (b ∷ text) blank dark h = refl

field-stays : (at place : ℕ) (prefix : FieldPrefix) (text blank : List ℕ) → goes_on blank ≡ false → Stays (prefix.len + length text) (field_term at prefix text) (field_term place prefix (text ++ blank))
field-stays at place prefix text blank h =
    let most : ℕ = prefix.len + length text in
    let value : Result Value QueryError = value_at ends_run (at + prefix.len) text in
    let value' : Result Value QueryError = value_at ends_run (place + prefix.len) (text ++ blank) in
    stays-moved most (field_term at prefix text) (cond (begins_with 40 text) (Err (BadQuery place kind.NotHere)) (field_value_term place prefix value')) (field_term place prefix (text ++ blank))
    (ap (λ v. cond v (Err (BadQuery place kind.NotHere)) (field_value_term place prefix value')) (begins-same 40 text blank refl h))
    (stays-cond most (begins_with 40 text) (Err (BadQuery at kind.NotHere)) (Err (BadQuery place kind.NotHere)) (field_value_term at prefix value) (field_value_term place prefix value')
    (stays-fault most (BadQuery at kind.NotHere) (Err (BadQuery place kind.NotHere)))
    (stays-value most prefix.len value value'
    (λ value. term_of joins.Other (prefix.len + value.len) (field_query at (at + prefix.len) prefix.field value))
    (λ value. term_of joins.Other (prefix.len + value.len) (field_query place (place + prefix.len) prefix.field value))
    (λ value read. let same = value-blank ends_run (at + prefix.len) (place + prefix.len) text blank value run_ends h read in (same.0, omega (arith, same.1)))
    (λ value within. stays-term most (prefix.len + value.len) joins.Other (field_query at (at + prefix.len) prefix.field value) (field_query place (place + prefix.len) prefix.field value) within
    (keeps-field at place (at + prefix.len) (place + prefix.len) prefix.field value))))

name-stays : (at place : ℕ) (prefix : NamePrefix) (text blank : List ℕ) → goes_on blank ≡ false → Stays (prefix.len + length text) (name_term at prefix text) (name_term place prefix (text ++ blank))
name-stays at place prefix text blank h =
    let most : ℕ = prefix.len + length text in
    let value : Result Value QueryError = value_at ends_value (at + prefix.len) text in
    let value' : Result Value QueryError = value_at ends_value (place + prefix.len) (text ++ blank) in
    stays-value most prefix.len value value'
    (λ value. term_of (term_kind prefix.name) (prefix.len + value.len) (name_query at (at + prefix.len) prefix.name value))
    (λ value. term_of (term_kind prefix.name) (prefix.len + value.len) (name_query place (place + prefix.len) prefix.name value))
    (λ value read. let same = value-blank ends_value (at + prefix.len) (place + prefix.len) text blank value value_ends h read in (same.0, omega (arith, same.1)))
    (λ value within. stays-term most (prefix.len + value.len) (term_kind prefix.name) (name_query at (at + prefix.len) prefix.name value) (name_query place (place + prefix.len) prefix.name value) within
    (keeps-name at place (at + prefix.len) (place + prefix.len) prefix.name value))

quoted-stays : (at place : ℕ) (text blank : List ℕ) → goes_on blank ≡ false → Stays (1 + length text) (quoted_term (quoted_value at text)) (quoted_term (quoted_value place (text ++ blank)))
quoted-stays at place text blank h =
    let term : Value → Lexeme = λ value. token_of (Term (other_item (words_query None value.said))) value.len in
    stays-value (1 + length text) 0 (quoted_value at text) (quoted_value place (text ++ blank)) (λ value. Ok (term value)) (λ value. Ok (term value))
    (λ value read. let same = quoted-blank at place text blank value h read in (same.0, omega (arith, same.1)))
    (λ value within. stays-same (1 + length text) (term value) (omega arith))

not_here-blank : (text blank : List ℕ) → goes_on blank ≡ false → begins_what_is_not_here (text ++ blank) ≡ begins_what_is_not_here text
not_here-blank text blank h =
    ap (λ v. v || begins (codes "query:") (text ++ blank) || begins (codes "property:") (text ++ blank)) (prefix-blank (codes "lastmod:") text blank refl h)
    ∙ ap (λ v. begins (codes "lastmod:") text || v || begins (codes "property:") (text ++ blank)) (prefix-blank (codes "query:") text blank refl h)
    ∙ ap (λ v. begins (codes "lastmod:") text || begins (codes "query:") text || v) (prefix-blank (codes "property:") text blank refl h)

unprefixed-stays : (at place : ℕ) (text blank : List ℕ) → goes_on blank ≡ false → Stays (length text) (unprefixed_at at text) (unprefixed_at place (text ++ blank))
unprefixed-stays at place text blank h =
    let run : List ℕ = before_first ends_run text in
    let long = length-take-le (position_or_len ends_run text) text (run_len-within ends_run text) in
    let within = run_len-within ends_run text in
    stays-moved (length text) (unprefixed_at at text) (cond (begins_what_is_not_here text) (Err (BadQuery place kind.NotHere)) (Ok (run_lexeme run))) (unprefixed_at place (text ++ blank))
    (ap (λ v. cond v (Err (BadQuery place kind.NotHere)) (Ok (run_lexeme (before_first ends_run (text ++ blank))))) (not_here-blank text blank h)
    ∙ ap (λ x. cond (begins_what_is_not_here text) (Err (BadQuery place kind.NotHere)) (Ok (run_lexeme x))) (before-blank ends_run text blank run_ends h))
    (stays-cond (length text) (begins_what_is_not_here text) (Err (BadQuery at kind.NotHere)) (Err (BadQuery place kind.NotHere)) (Ok (run_lexeme run)) (Ok (run_lexeme run))
    (stays-fault (length text) (BadQuery at kind.NotHere) (Err (BadQuery place kind.NotHere)))
    (stays-same (length text) (run_lexeme run) (omega arith)))

-- which prefix is found, by the tests in their order
abbrev field_of : Bool → Bool → Bool → Bool → Bool → Option FieldPrefix
field_of a b c d e =
    cond a (Some (record { field = field.From; len = 5 }))
    (cond b (Some (record { field = field.To; len = 3 }))
    (cond c (Some (record { field = field.Subject; len = 8 }))
    (cond d (Some (record { field = field.Body; len = 5 }))
    (cond e (Some (record { field = field.Attachment; len = 11 })) None))))

abbrev tag_of : Bool → Bool → Bool → Bool → Bool → Option NamePrefix
tag_of a b c d e =
    cond a (Some (record { name = name.Tag; len = 4 }))
    (cond b (Some (record { name = name.Is; len = 3 }))
    (cond c (Some (record { name = name.Id; len = 3 }))
    (cond d (Some (record { name = name.Id; len = 4 }))
    (cond e (Some (record { name = name.Thread; len = 7 })) None))))

abbrev folder_of : Bool → Bool → Bool → Bool → Option NamePrefix
folder_of a b c d =
    cond a (Some (record { name = name.Folder; len = 7 }))
    (cond b (Some (record { name = name.Path; len = 5 }))
    (cond c (Some (record { name = name.Mime; len = 9 }))
    (cond d (Some (record { name = name.Date; len = 5 })) None)))

module _ (text blank : List ℕ) (h : goes_on blank ≡ false) where
  field-same : field_prefix (text ++ blank) ≡ field_prefix text
  field-same =
      ap (λ v. field_of v (begins (codes "to:") (text ++ blank)) (begins (codes "subject:") (text ++ blank)) (begins (codes "body:") (text ++ blank)) (begins (codes "attachment:") (text ++ blank))) (prefix-blank (codes "from:") text blank refl h)
      ∙ ap (λ v. field_of (begins (codes "from:") text) v (begins (codes "subject:") (text ++ blank)) (begins (codes "body:") (text ++ blank)) (begins (codes "attachment:") (text ++ blank))) (prefix-blank (codes "to:") text blank refl h)
      ∙ ap (λ v. field_of (begins (codes "from:") text) (begins (codes "to:") text) v (begins (codes "body:") (text ++ blank)) (begins (codes "attachment:") (text ++ blank))) (prefix-blank (codes "subject:") text blank refl h)
      ∙ ap (λ v. field_of (begins (codes "from:") text) (begins (codes "to:") text) (begins (codes "subject:") text) v (begins (codes "attachment:") (text ++ blank))) (prefix-blank (codes "body:") text blank refl h)
      ∙ ap (λ v. field_of (begins (codes "from:") text) (begins (codes "to:") text) (begins (codes "subject:") text) (begins (codes "body:") text) v) (prefix-blank (codes "attachment:") text blank refl h)

  tag-same : tag_prefix (text ++ blank) ≡ tag_prefix text
  tag-same =
      ap (λ v. tag_of v (begins (codes "is:") (text ++ blank)) (begins (codes "id:") (text ++ blank)) (begins (codes "mid:") (text ++ blank)) (begins (codes "thread:") (text ++ blank))) (prefix-blank (codes "tag:") text blank refl h)
      ∙ ap (λ v. tag_of (begins (codes "tag:") text) v (begins (codes "id:") (text ++ blank)) (begins (codes "mid:") (text ++ blank)) (begins (codes "thread:") (text ++ blank))) (prefix-blank (codes "is:") text blank refl h)
      ∙ ap (λ v. tag_of (begins (codes "tag:") text) (begins (codes "is:") text) v (begins (codes "mid:") (text ++ blank)) (begins (codes "thread:") (text ++ blank))) (prefix-blank (codes "id:") text blank refl h)
      ∙ ap (λ v. tag_of (begins (codes "tag:") text) (begins (codes "is:") text) (begins (codes "id:") text) v (begins (codes "thread:") (text ++ blank))) (prefix-blank (codes "mid:") text blank refl h)
      ∙ ap (λ v. tag_of (begins (codes "tag:") text) (begins (codes "is:") text) (begins (codes "id:") text) (begins (codes "mid:") text) v) (prefix-blank (codes "thread:") text blank refl h)

  folder-same : folder_prefix (text ++ blank) ≡ folder_prefix text
  folder-same =
      ap (λ v. folder_of v (begins (codes "path:") (text ++ blank)) (begins (codes "mimetype:") (text ++ blank)) (begins (codes "date:") (text ++ blank))) (prefix-blank (codes "folder:") text blank refl h)
      ∙ ap (λ v. folder_of (begins (codes "folder:") text) v (begins (codes "mimetype:") (text ++ blank)) (begins (codes "date:") (text ++ blank))) (prefix-blank (codes "path:") text blank refl h)
      ∙ ap (λ v. folder_of (begins (codes "folder:") text) (begins (codes "path:") text) v (begins (codes "date:") (text ++ blank))) (prefix-blank (codes "mimetype:") text blank refl h)
      ∙ ap (λ v. folder_of (begins (codes "folder:") text) (begins (codes "path:") text) (begins (codes "mimetype:") text) v) (prefix-blank (codes "date:") text blank refl h)

-- a prefix that is found is in the text
abbrev Lies : {A : Type 0} → (A → ℕ) → List ℕ → Option A → Type 0
Lies {A} len text found = (prefix : A) → found ≡ Some prefix → len prefix ≤ length text

lies-none : {A : Type 0} (len : A → ℕ) (text : List ℕ) → (let none : Option A = None in Lies len text none)
lies-none len text prefix h = absurd (cc)

same_prefix : {A : Type 0} (here prefix : A) → Some here ≡ Some prefix → here ≡ prefix
same_prefix here prefix h = cc

lies-here : {A : Type 0} (len : A → ℕ) (front text : List ℕ) (here : A) (other : Option A) → len here ≡ length front → Lies len text other → Lies len text (cond (begins front text) (Some here) other)
lies-here len front text here other long lies prefix h =
    elim (begins front text) as (λ v. begins front text ≡ v → cond v (Some here) other ≡ Some prefix → len prefix ≤ length text) [
      | true ↦ λ begins h. let within = prefix-long front text begins in let same = ap len (same_prefix here prefix h) in omega arith
      | false ↦ λ none h. lies prefix h
    ] refl h

field-lies : (text : List ℕ) → Lies (λ prefix. prefix.len) text (field_prefix text)
field-lies text =
    let len : FieldPrefix → ℕ = λ prefix. prefix.len in
    let attachment : Option FieldPrefix = cond (begins (codes "attachment:") text) (Some (record { field = field.Attachment; len = 11 })) None in
    let body : Option FieldPrefix = cond (begins (codes "body:") text) (Some (record { field = field.Body; len = 5 })) attachment in
    let subject : Option FieldPrefix = cond (begins (codes "subject:") text) (Some (record { field = field.Subject; len = 8 })) body in
    let to : Option FieldPrefix = cond (begins (codes "to:") text) (Some (record { field = field.To; len = 3 })) subject in
    lies-here len (codes "from:") text (record { field = field.From; len = 5 }) to refl
    (lies-here len (codes "to:") text (record { field = field.To; len = 3 }) subject refl
    (lies-here len (codes "subject:") text (record { field = field.Subject; len = 8 }) body refl
    (lies-here len (codes "body:") text (record { field = field.Body; len = 5 }) attachment refl
    (lies-here len (codes "attachment:") text (record { field = field.Attachment; len = 11 }) None refl (lies-none len text)))))

tag-lies : (text : List ℕ) → Lies (λ prefix. prefix.len) text (tag_prefix text)
tag-lies text =
    let len : NamePrefix → ℕ = λ prefix. prefix.len in
    let thread : Option NamePrefix = cond (begins (codes "thread:") text) (Some (record { name = name.Thread; len = 7 })) None in
    let mid : Option NamePrefix = cond (begins (codes "mid:") text) (Some (record { name = name.Id; len = 4 })) thread in
    let id : Option NamePrefix = cond (begins (codes "id:") text) (Some (record { name = name.Id; len = 3 })) mid in
    let is : Option NamePrefix = cond (begins (codes "is:") text) (Some (record { name = name.Is; len = 3 })) id in
    lies-here len (codes "tag:") text (record { name = name.Tag; len = 4 }) is refl
    (lies-here len (codes "is:") text (record { name = name.Is; len = 3 }) id refl
    (lies-here len (codes "id:") text (record { name = name.Id; len = 3 }) mid refl
    (lies-here len (codes "mid:") text (record { name = name.Id; len = 4 }) thread refl
    (lies-here len (codes "thread:") text (record { name = name.Thread; len = 7 }) None refl (lies-none len text)))))

folder-lies : (text : List ℕ) → Lies (λ prefix. prefix.len) text (folder_prefix text)
folder-lies text =
    let len : NamePrefix → ℕ = λ prefix. prefix.len in
    let date : Option NamePrefix = cond (begins (codes "date:") text) (Some (record { name = name.Date; len = 5 })) None in
    let mime : Option NamePrefix = cond (begins (codes "mimetype:") text) (Some (record { name = name.Mime; len = 9 })) date in
    let path : Option NamePrefix = cond (begins (codes "path:") text) (Some (record { name = name.Path; len = 5 })) mime in
    lies-here len (codes "folder:") text (record { name = name.Folder; len = 7 }) path refl
    (lies-here len (codes "path:") text (record { name = name.Path; len = 5 }) mime refl
    (lies-here len (codes "mimetype:") text (record { name = name.Mime; len = 9 }) date refl
    (lies-here len (codes "date:") text (record { name = name.Date; len = 5 }) None refl (lies-none len text))))

-- a term after its prefix, or what is read without one
stays-prefix : {A : Type 0} (len : A → ℕ) (found : Option A) (text blank : List ℕ) (term term' : A → List ℕ → Result Lexeme QueryError) (other other' : Result Lexeme QueryError) →
    Lies len text found → ((prefix : A) (rest : List ℕ) → Stays (len prefix + length rest) (term prefix rest) (term' prefix (rest ++ blank))) → Stays (length text) other other' →
    Stays (length text) (elim found [ Some prefix ↦ term prefix (drop (len prefix) text) | None ↦ other ]) (elim found [ Some prefix ↦ term' prefix (drop (len prefix) (text ++ blank)) | None ↦ other' ])
stays-prefix len None text blank term term' other other' lies stays without = without
stays-prefix len (Some prefix) text blank term term' other other' lies stays without =
    let within = lies prefix refl in
    let rest : List ℕ = drop (len prefix) text in
    let long = length-drop (len prefix) text in
    stays-moved (length text) (term prefix rest) (term' prefix (rest ++ blank)) (term' prefix (drop (len prefix) (text ++ blank)))
    (ap (term' prefix) (drop-append-le (len prefix) text blank within))
    (stays-more (len prefix + length rest) (length text) (term prefix rest) (term' prefix (rest ++ blank)) (omega arith) (stays prefix rest))

module _ (at place : ℕ) (text blank : List ℕ) (h : goes_on blank ≡ false) where
  further-stays : Stays (length text) (further_at at text) (further_at place (text ++ blank))
  further-stays =
      stays-moved (length text) (further_at at text) (elim (folder_prefix text) [ Some prefix ↦ name_term place prefix (drop prefix.len (text ++ blank)) | None ↦ unprefixed_at place (text ++ blank) ]) (further_at place (text ++ blank))
      (ap (λ x. elim x [ Some prefix ↦ name_term place prefix (drop prefix.len (text ++ blank)) | None ↦ unprefixed_at place (text ++ blank) ]) (folder-same text blank h))
      (stays-prefix (λ (prefix : NamePrefix). prefix.len) (folder_prefix text) text blank (name_term at) (name_term place) (unprefixed_at at text) (unprefixed_at place (text ++ blank)) (folder-lies text)
      (λ prefix rest. name-stays at place prefix rest blank h) (unprefixed-stays at place text blank h))

  unfielded-stays : Stays (length text) (unfielded_at at text) (unfielded_at place (text ++ blank))
  unfielded-stays =
      stays-moved (length text) (unfielded_at at text) (elim (tag_prefix text) [ Some prefix ↦ name_term place prefix (drop prefix.len (text ++ blank)) | None ↦ further_at place (text ++ blank) ]) (unfielded_at place (text ++ blank))
      (ap (λ x. elim x [ Some prefix ↦ name_term place prefix (drop prefix.len (text ++ blank)) | None ↦ further_at place (text ++ blank) ]) (tag-same text blank h))
      (stays-prefix (λ (prefix : NamePrefix). prefix.len) (tag_prefix text) text blank (name_term at) (name_term place) (further_at at text) (further_at place (text ++ blank)) (tag-lies text)
      (λ prefix rest. name-stays at place prefix rest blank h) further-stays)

  word-stays : Stays (length text) (word_at at text) (word_at place (text ++ blank))
  word-stays =
      stays-moved (length text) (word_at at text) (elim (field_prefix text) [ Some prefix ↦ field_term place prefix (drop prefix.len (text ++ blank)) | None ↦ unfielded_at place (text ++ blank) ]) (word_at place (text ++ blank))
      (ap (λ x. elim x [ Some prefix ↦ field_term place prefix (drop prefix.len (text ++ blank)) | None ↦ unfielded_at place (text ++ blank) ]) (field-same text blank h))
      (stays-prefix (λ (prefix : FieldPrefix). prefix.len) (field_prefix text) text blank (field_term at) (field_term place) (unfielded_at at text) (unfielded_at place (text ++ blank)) (field-lies text)
      (λ prefix rest. field-stays at place prefix rest blank h) unfielded-stays)

goes_on-blank : (text blank : List ℕ) → goes_on blank ≡ false → goes_on (text ++ blank) ≡ goes_on text
goes_on-blank [] blank h = h
goes_on-blank (b ∷ text) blank h = refl

sign-stays : (at place b : ℕ) (text blank : List ℕ) → goes_on blank ≡ false → Stays (length (b ∷ text)) (sign_at at (b ∷ text)) (sign_at place (b ∷ (text ++ blank)))
sign-stays at place b text blank h =
    let most : ℕ = length (b ∷ text) in
    let word : Result Lexeme QueryError = word_at at (b ∷ text) in
    let word' : Result Lexeme QueryError = word_at place (b ∷ (text ++ blank)) in
    stays-moved most (sign_at at (b ∷ text)) (cond ((b == 45) && goes_on text) (Ok (token_of Negation 1)) (cond ((b == 43) && goes_on text) (Ok (passed 1)) word')) (sign_at place (b ∷ (text ++ blank)))
    (ap (λ v. cond ((b == 45) && v) (Ok (token_of Negation 1)) (cond ((b == 43) && v) (Ok (passed 1)) word')) (goes_on-blank text blank h))
    (stays-cond most ((b == 45) && goes_on text) (Ok (token_of Negation 1)) (Ok (token_of Negation 1)) (cond ((b == 43) && goes_on text) (Ok (passed 1)) word) (cond ((b == 43) && goes_on text) (Ok (passed 1)) word')
    (stays-same most (token_of Negation 1) (omega arith))
    (stays-cond most ((b == 43) && goes_on text) (Ok (passed 1)) (Ok (passed 1)) word word'
    (stays-same most (passed 1) (omega arith))
    (word-stays at place (b ∷ text) blank h)))

-- the first lexeme stays as it is
pub lexeme-stays : (at place b : ℕ) (text blank : List ℕ) → goes_on blank ≡ false → Stays (length (b ∷ text)) (lexeme_at at (b ∷ text)) (lexeme_at place (b ∷ (text ++ blank)))
lexeme-stays at place b text blank h =
    let most : ℕ = length (b ∷ text) in
    let sign : Result Lexeme QueryError = sign_at at (b ∷ text) in
    let sign' : Result Lexeme QueryError = sign_at place (b ∷ (text ++ blank)) in
    let quoted : Result Lexeme QueryError = quoted_term (quoted_value at text) in
    let quoted' : Result Lexeme QueryError = quoted_term (quoted_value place (text ++ blank)) in
    let open_ : Result Lexeme QueryError = Ok (token_of Open 1) in
    let close_ : Result Lexeme QueryError = Ok (token_of Close 1) in
    stays-cond most (not (goes_on (b ∷ text))) (Ok (passed 1)) (Ok (passed 1)) (cond (b == 40) open_ (cond (b == 41) close_ (cond (b == 34) quoted sign))) (cond (b == 40) open_ (cond (b == 41) close_ (cond (b == 34) quoted' sign')))
    (stays-same most (passed 1) (omega arith))
    (stays-cond most (b == 40) open_ open_ (cond (b == 41) close_ (cond (b == 34) quoted sign)) (cond (b == 41) close_ (cond (b == 34) quoted' sign'))
    (stays-same most (token_of Open 1) (omega arith))
    (stays-cond most (b == 41) close_ close_ (cond (b == 34) quoted sign) (cond (b == 34) quoted' sign')
    (stays-same most (token_of Close 1) (omega arith))
    (stays-cond most (b == 34) quoted quoted' sign sign'
    (stays-more (1 + length text) most quoted quoted' (omega arith) (quoted-stays at place text blank h))
    (sign-stays at place b text blank h))))
