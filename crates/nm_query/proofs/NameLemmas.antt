-- A name in quotes is one term. For the proof of `a_name_in_quotes_is_a_term`.
use Rattle.std.proofs.Common.{◌≡◌, ◌≢◌, ℕ, ◌+◌, ◌<◌, true, false, cond, not, ◌&&◌, ◌==◌, List, [], ◌∷◌, ◌++◌, length, take, refl, sym, ap, ◌∙◌, arith, length-append}
use Rattle.std.specs.Prelude.{Ok, Err, codes}
use Rattle.std.proofs.lemmas.Bool.{eqb-true}
use Rattle.std.proofs.lemmas.Bool.Decides.{nat_tests}
use Rattle.std.proofs.Math.Seq.{drop-length}
use Rattle.std.proofs.lemmas.List.{take_at}
use Rattle.nm_query.specs.Lexemes.{lexeme_at, name_value_term, token_of}
use Rattle.nm_query.specs.PrintedTree.{IsTerm, doubled, in_quotes}
use Rattle.nm_query.specs.Terms.{may_be_empty, name_query, named_query, term_kind}
use Rattle.nm_query.specs.Tokens.{before_tokens, tokens_from}
use Rattle.nm_query.specs.Values.{closing, quoted_value, undoubled}
use Rattle.nm_query.specs.declared.prefixes.Name.{Name}
use Rattle.nm_query.specs.declared.prefixes.Name.TheVariants as name
use Rattle.nm_query.specs.declared.prefixes.NamePrefix.{NamePrefix}
use Rattle.nm_query.specs.declared.query.Query.{Query}
use Rattle.nm_query.specs.declared.query.Query.TheVariants as tree
use Rattle.nm_query.specs.declared.query_error.QueryError.TheVariants.{BadQuery}
use Rattle.nm_query.specs.declared.query_error.QueryKind.TheVariants as kind
use Rattle.nm_query.specs.declared.token.Item.{Item}
use Rattle.nm_query.specs.declared.token.TermKind.TheVariants as joins
use Rattle.nm_query.specs.declared.token.Token.TheVariants.{Term}
use Rattle.nm_query.specs.declared.values.Value.{Value}
use Rattle.nm_query.proofs.QuoteLemmas.{closing_one, undoubled_one}
use Rattle.nm_query.proofs.TokenLemmas.{lexeme_first}

other : (b : ℕ) → (b == 34) ≡ false → b ≡ 34 → ⊥
other b h same = absurd (grind (arith, nat_tests))

-- the quote that ends a quoted text comes after it
closing-doubled : (text : List ℕ) → closing (doubled text ++ 34 ∷ []) ≡ length (doubled text)
closing-doubled [] = refl
closing-doubled (b ∷ text) =
    let rest = closing-doubled text in
    elim (b == 34) as (λ v. (b == 34) ≡ v → closing (cond v (34 ∷ 34 ∷ doubled text) (b ∷ doubled text) ++ 34 ∷ []) ≡ length (cond v (34 ∷ 34 ∷ doubled text) (b ∷ doubled text))) [
      | true ↦ λ quote. ap (λ n. 2 + n) rest ∙ omega arith
      | false ↦ λ plain. closing_one (b ∷ (doubled text ++ 34 ∷ [])) (omega arith) (other b plain) ∙ ap (λ n. 1 + n) rest ∙ omega arith
    ] refl

undoubled-doubled : (text : List ℕ) → undoubled (doubled text) ≡ text
undoubled-doubled [] = refl
undoubled-doubled (b ∷ text) =
    let rest = undoubled-doubled text in
    elim (b == 34) as (λ v. (b == 34) ≡ v → undoubled (cond v (34 ∷ 34 ∷ doubled text) (b ∷ doubled text)) ≡ b ∷ text) [
      | true ↦ λ quote. ap (λ x. 34 ∷ x) rest ∙ ap (λ c. c ∷ text) (sym (eqb-true b 34 quote))
      | false ↦ λ plain. undoubled_one (b ∷ doubled text) (omega arith) (λ same. absurd (other b plain same)) ∙ ap (λ x. b ∷ x) rest
    ] refl

abbrev pub said : List ℕ → Value
said text = record { said = text; quoted = true; len = length (doubled text) + 2 }

before_end : (n m : ℕ) → m ≡ n + 1 → (n == m) ≡ false
before_end n m h = grind (arith, nat_tests)

pub quoted-said : (at : ℕ) (text : List ℕ) → quoted_value at (doubled text ++ 34 ∷ []) ≡ Ok (said text)
quoted-said at text =
    let all : List ℕ = doubled text ++ 34 ∷ [] in
    let ends = closing-doubled text in
    let long = length-append (doubled text) (34 ∷ []) in
    ap (λ n. cond (n == length all) (Err (BadQuery at kind.Quote)) (Ok (record { said = undoubled (take n all); quoted = true; len = n + 2 }))) ends
    ∙ ap (λ v. cond v (Err (BadQuery at kind.Quote)) (Ok (record { said = undoubled (take (length (doubled text)) all); quoted = true; len = length (doubled text) + 2 }))) (before_end (length (doubled text)) (length all) (omega arith))
    ∙ ap (λ x. Ok (record { said = x; quoted = true; len = length (doubled text) + 2 })) (ap undoubled (take_at (doubled text) (34 ∷ []) (length (doubled text)) refl) ∙ undoubled-doubled text)

-- a text that is one lexeme is one term
pub whole-term : (text : List ℕ) (item : Item) → 0 < length text → lexeme_at 0 text ≡ Ok (token_of (Term item) (length text)) → IsTerm text item
whole-term text item some read = record {
  at = 0;
  cut = lexeme_first 0 text (token_of (Term item) (length text)) some read some (omega arith)
      ∙ ap (λ x. before_tokens 0 (token_of (Term item) (length text)) (tokens_from 0 (0 + length text) x)) (drop-length text);
}

abbrev Reads : List ℕ → Name → ℕ → List ℕ → Query → Type 0
Reads front name len text query = (let prefix : NamePrefix = record { name = name; len = len } in lexeme_at 0 (front ++ in_quotes text) ≡ name_value_term 0 prefix (quoted_value (0 + len) (doubled text ++ 34 ∷ [])))

named-term : (front : List ℕ) (name : Name) (text : List ℕ) (query : Query) → Reads front name (length front) text query → name_query 0 (0 + length front) name (said text) ≡ Ok query →
    IsTerm (front ++ in_quotes text) (record { kind = term_kind name; query = query })
named-term front name text query reads asks =
    let prefix : NamePrefix = record { name = name; len = length front } in
    let item : Item = record { kind = term_kind name; query = query } in
    let long = length-append front (in_quotes text) in
    let inner = length-append (doubled text) (34 ∷ []) in
    whole-term (front ++ in_quotes text) item (omega arith)
    (reads ∙ ap (name_value_term 0 prefix) (quoted-said (0 + length front) text)
    ∙ ap (λ x. elim x [ Ok query ↦ Ok (token_of (Term (record { kind = term_kind name; query = query })) (length front + (length (doubled text) + 2))) | Err refusal ↦ Err refusal ]) asks
    ∙ ap (λ n. Ok (token_of (Term item) n)) (omega arith))

-- a text that is not empty is a value
asked : (at from : ℕ) (name : Name) (text : List ℕ) → text ≢ [] → name_query at from name (said text) ≡ named_query at from name (said text)
asked at from name [] some = absurd (some refl)
asked at from name (b ∷ text) some = ap (λ v. cond (v && not (may_be_empty name)) (Err (BadQuery from kind.Value)) (named_query at from name (said (b ∷ text)))) (no_value (length (b ∷ text)) (omega arith))
  where
    no_value : (n : ℕ) → 0 < n → (n == 0) ≡ false
    no_value n h = grind (arith, nat_tests)

pub tag-term : (text : List ℕ) → text ≢ [] → IsTerm (codes "is:" ++ in_quotes text) (record { kind = joins.Tag; query = tree.Tag text })
tag-term text some = named-term (codes "is:") name.Is text (tree.Tag text) refl (asked 0 3 name.Is text some)

pub id-term : (text : List ℕ) → text ≢ [] → IsTerm (codes "id:" ++ in_quotes text) (record { kind = joins.Id; query = tree.Id text })
id-term text some = named-term (codes "id:") name.Id text (tree.Id text) refl (asked 0 3 name.Id text some)

pub type-term : (text : List ℕ) → text ≢ [] → IsTerm (codes "mimetype:" ++ in_quotes text) (record { kind = joins.Other; query = tree.Mime text })
type-term text some = named-term (codes "mimetype:") name.Mime text (tree.Mime text) refl (asked 0 9 name.Mime text some)

no_folder : (text : List ℕ) → name_query 0 7 name.Folder (said text) ≡ Ok (tree.Folder text)
no_folder [] = refl
no_folder (b ∷ text) = asked 0 7 name.Folder (b ∷ text) (λ h. absurd (cc))

pub folder-term : (text : List ℕ) → IsTerm (codes "folder:" ++ in_quotes text) (record { kind = joins.Folder; query = tree.Folder text })
folder-term text = named-term (codes "folder:") name.Folder text (tree.Folder text) refl (no_folder text)
