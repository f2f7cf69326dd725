-- White space between two texts. For the proof of `white_space_parts_tokens`.
use Rattle.std.proofs.Common.{◌≡◌, ◌≢◌, ℕ, ◌+◌, ◌-◌, true, false, not, List, [], ◌∷◌, ◌++◌, length, map, refl, ap, ◌∙◌, arith}
use Rattle.std.specs.Prelude.{Result, Ok}
use Rattle.std.specs.List.{list_all}
use Rattle.std.proofs.lemmas.Bool.{and_parts}
use Rattle.nm_base.specs.Bounds.{is_white_space}
use Rattle.nm_query.specs.Grammar.{placed}
use Rattle.nm_query.specs.Lexemes.{goes_on, lexeme_at, passed}
use Rattle.nm_query.specs.Samples.{further}
use Rattle.nm_query.specs.Tokens.{before_tokens, followed, tokens_from, tokens_of}
use Rattle.nm_query.specs.declared.query_error.QueryError.{QueryError}
use Rattle.nm_query.specs.declared.token.Lexeme.{Lexeme}
use Rattle.nm_query.specs.declared.token.Placed.{Placed}
use Rattle.nm_query.proofs.MoveLemmas.{moved, tokens-follow}
use Rattle.nm_query.proofs.PrintLemmas.{tokens-moved}
use Rattle.nm_query.proofs.TokenLemmas.{with_tokens}

moved-map : (by : ℕ) (tokens : List Placed) → moved by tokens ≡ map (further by) tokens
moved-map by [] = refl
moved-map by (first ∷ tokens) = ap (λ x. placed (first.at + by) first.token ∷ x) (moved-map by tokens)

moved-nowhere : (tokens : List Placed) → moved 0 tokens ≡ tokens
moved-nowhere [] = refl
moved-nowhere (first ∷ tokens) = ap (λ n. placed n first.token ∷ moved 0 tokens) (omega arith) ∙ ap (λ x. first ∷ x) (moved-nowhere tokens)

-- white space is passed over
gap-passed : (gap second : List ℕ) (at place : ℕ) (others : List Placed) → list_all is_white_space gap ≡ true → place ≡ at + length gap → tokens_from 0 place second ≡ Ok others → tokens_from 0 at (gap ++ second) ≡ Ok others
gap-passed [] second at place others white there read = ap (λ n. tokens_from 0 n second) (omega arith) ∙ read
gap-passed (w ∷ gap) second at place others white there read =
    let parts = and_parts (is_white_space w) (list_all is_white_space gap) white in
    let after : Result Lexeme QueryError → Result (List Placed) QueryError = λ lexeme. followed at lexeme (λ len. tokens_from (len - 1) (at + 1) (gap ++ second)) in
    let here : lexeme_at at (w ∷ (gap ++ second)) ≡ Ok (passed 1) = passed-white at w (gap ++ second) parts.0 in
    ap after here ∙ ap (before_tokens at (passed 1)) (gap-passed gap second (at + 1) place others parts.1 (omega arith) read)
  where
    passed-white : (at w : ℕ) (text : List ℕ) → is_white_space w ≡ true → lexeme_at at (w ∷ text) ≡ Ok (passed 1)
    passed-white at w text white = rw white refl

begins-white : (gap second : List ℕ) → list_all is_white_space gap ≡ true → gap ≢ [] → goes_on (gap ++ second) ≡ false
begins-white [] second white some = absurd (some refl)
begins-white (w ∷ gap) second white some = ap not (and_parts (is_white_space w) (list_all is_white_space gap) white).0

pub tokens-parted : (first gap second : List ℕ) (tokens others : List Placed) → list_all is_white_space gap ≡ true → gap ≢ [] → tokens_of first ≡ Ok tokens → tokens_of second ≡ Ok others →
    tokens_of (first ++ (gap ++ second)) ≡ Ok (tokens ++ map (further (length first + length gap)) others)
tokens-parted first gap second tokens others white some read then =
    let by : ℕ = length first + length gap in
    let after = gap-passed gap second (0 + length first) by (moved by others) white (omega arith) (tokens-moved second 0 by by others (omega arith) then) in
    tokens-follow first 0 0 0 0 (gap ++ second) tokens (begins-white gap second white some) (omega arith) (omega arith) read
    ∙ ap (with_tokens (moved 0 tokens)) after
    ∙ ap (λ x. Ok (x ++ moved by others)) (moved-nowhere tokens)
    ∙ ap (λ x. Ok (tokens ++ x)) (moved-map by others)
