-- A text in quotes is one term of words. For the proof of `a_text_in_quotes_is_asked_for_its_words`.
use Rattle.std.proofs.Common.{◌≡◌, ◌≢◌, ℕ, ◌+◌, ◌<◌, false, cond, ◌&&◌, ◌==◌, List, [], ◌∷◌, ◌++◌, length, refl, ap, ◌∙◌, arith, length-append}
use Rattle.std.specs.Prelude.{Some, None, Ok, Err, codes}
use Rattle.std.proofs.lemmas.Bool.Decides.{nat_tests}
use Rattle.nm_base.specs.declared.facts.Field.{Field}
use Rattle.nm_base.specs.declared.facts.Field.TheVariants as field
use Rattle.nm_query.specs.Lexemes.{field_value_term, lexeme_at, quoted_term, token_of}
use Rattle.nm_query.specs.PrintedTree.{IsTerm, doubled, in_quotes}
use Rattle.nm_query.specs.Terms.{field_query, is_pattern, other_item, takes_pattern, words_query}
use Rattle.nm_query.specs.Values.{quoted_value}
use Rattle.nm_query.specs.declared.prefixes.FieldPrefix.{FieldPrefix}
use Rattle.nm_query.specs.declared.query_error.QueryError.TheVariants.{BadQuery}
use Rattle.nm_query.specs.declared.query_error.QueryKind.TheVariants as kind
use Rattle.nm_query.specs.declared.token.Token.TheVariants.{Term}
use Rattle.nm_query.proofs.NameLemmas.{quoted-said, said, whole-term}

pub any-term : (text : List ℕ) → IsTerm (in_quotes text) (other_item (words_query None text))
any-term text =
    let long = length-append (doubled text) (34 ∷ []) in
    whole-term (in_quotes text) (other_item (words_query None text)) (omega arith)
    (ap quoted_term (quoted-said 0 text) ∙ ap (λ n. Ok (token_of (Term (other_item (words_query None text))) n)) (omega arith))

-- a text that is not empty and no pattern is a value
field-asked : (at from : ℕ) (field : Field) (text : List ℕ) → text ≢ [] → (takes_pattern field && is_pattern text) ≡ false → field_query at from field (said text) ≡ Ok (words_query (Some field) text)
field-asked at from field [] some plain = absurd (some refl)
field-asked at from field (b ∷ text) some plain =
    ap (λ v. cond v (Err (BadQuery from kind.Value)) (cond (takes_pattern field && is_pattern (b ∷ text)) (Err (BadQuery at kind.NotHere)) (Ok (words_query (Some field) (b ∷ text))))) (no_value (length (b ∷ text)) (omega arith))
    ∙ ap (λ v. cond v (Err (BadQuery at kind.NotHere)) (Ok (words_query (Some field) (b ∷ text)))) plain
  where
    no_value : (n : ℕ) → 0 < n → (n == 0) ≡ false
    no_value n h = grind (arith, nat_tests)

abbrev Reads : List ℕ → Field → ℕ → List ℕ → Type 0
Reads front field len text = (let prefix : FieldPrefix = record { field = field; len = len } in lexeme_at 0 (front ++ in_quotes text) ≡ field_value_term 0 prefix (quoted_value (0 + len) (doubled text ++ 34 ∷ [])))

field-term : (front : List ℕ) (field : Field) (text : List ℕ) → Reads front field (length front) text → text ≢ [] → (takes_pattern field && is_pattern text) ≡ false →
    IsTerm (front ++ in_quotes text) (other_item (words_query (Some field) text))
field-term front field text reads some plain =
    let prefix : FieldPrefix = record { field = field; len = length front } in
    let long = length-append front (in_quotes text) in
    let inner = length-append (doubled text) (34 ∷ []) in
    whole-term (front ++ in_quotes text) (other_item (words_query (Some field) text)) (omega arith)
    (reads ∙ ap (field_value_term 0 prefix) (quoted-said (0 + length front) text)
    ∙ ap (λ x. elim x [ Ok query ↦ Ok (token_of (Term (other_item query)) (length front + (length (doubled text) + 2))) | Err refusal ↦ Err refusal ]) (field-asked 0 (0 + length front) field text some plain)
    ∙ ap (λ n. Ok (token_of (Term (other_item (words_query (Some field) text))) n)) (omega arith))

pub to-term : (text : List ℕ) → text ≢ [] → IsTerm (codes "to:" ++ in_quotes text) (other_item (words_query (Some field.To) text))
to-term text some = field-term (codes "to:") field.To text refl some refl

pub body-term : (text : List ℕ) → text ≢ [] → IsTerm (codes "body:" ++ in_quotes text) (other_item (words_query (Some field.Body) text))
body-term text some = field-term (codes "body:") field.Body text refl some refl

pub attachment-term : (text : List ℕ) → text ≢ [] → IsTerm (codes "attachment:" ++ in_quotes text) (other_item (words_query (Some field.Attachment) text))
attachment-term text some = field-term (codes "attachment:") field.Attachment text refl some refl

pub from-term : (text : List ℕ) → text ≢ [] → is_pattern text ≡ false → IsTerm (codes "from:" ++ in_quotes text) (other_item (words_query (Some field.From) text))
from-term text some plain = field-term (codes "from:") field.From text refl some plain

pub subject-term : (text : List ℕ) → text ≢ [] → is_pattern text ≡ false → IsTerm (codes "subject:" ++ in_quotes text) (other_item (words_query (Some field.Subject) text))
subject-term text some plain = field-term (codes "subject:") field.Subject text refl some plain
