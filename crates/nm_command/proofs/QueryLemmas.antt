-- The words of a query, joined one after the other. For the proofs of `a_query_keeps_its_words` and `query`.
use Rattle.std.proofs.Common.{◌≡◌, ◌≢◌, ℕ, zero, suc, ◌+◌, ◌<◌, true, false, cond, List, [], ◌∷◌, ◌++◌, length, take, get_or, refl, sym, ap, ◌∙◌, arith, append_assoc}
use Rattle.std.specs.Prelude.{nat_lt}
use Rattle.std.specs.List.{All, slice_split}
use Rattle.std.proofs.lemmas.Bool.Decides.{nat_tests}
use Rattle.std.proofs.lemmas.List.{take_more}
use Rattle.std.proofs.lemmas.List.Splits.{slice_split_at, slice_split_none}
use Rattle.nm_text.specs.Cuts.{is_byte}
use Rattle.nm_command.specs.Requests.{query_of}

-- one more word follows a space
query_of-more : (first : List ℕ) (words : List (List ℕ)) (word : List ℕ) → query_of ((first ∷ words) ++ word ∷ []) ≡ query_of (first ∷ words) ++ 32 ∷ word
query_of-more first [] word = refl
query_of-more first (second ∷ words) word =
    ap (λ rest. first ++ 32 ∷ rest) (query_of-more second words word) ∙ sym (append_assoc first (32 ∷ query_of (second ∷ words)) (32 ∷ word))

is_after : (n : ℕ) → nat_lt 0 (suc n) ≡ true
is_after n = grind (arith, nat_tests)

pub query_of-turn : (words : List (List ℕ)) (at : ℕ) (query after d : List ℕ) → at < length words → query ≡ query_of (take at words) →
    after ≡ cond (nat_lt 0 at) (query ++ 32 ∷ []) query ++ get_or words at d → after ≡ query_of (take (at + 1) words)
query_of-turn [] at query after d within is h = absurd (omega arith)
query_of-turn (first ∷ words) zero query after d within is h = h ∙ ap (λ (x : List ℕ). x ++ first) is
query_of-turn (first ∷ words) (suc n) query after d within is h =
    let word = get_or (first ∷ words) (suc n) d in
    h
    ∙ ap (λ v. cond v (query ++ 32 ∷ []) query ++ word) (is_after n)
    ∙ append_assoc query (32 ∷ []) word
    ∙ ap (λ (x : List ℕ). x ++ 32 ∷ word) is
    ∙ sym (query_of-more first (take n words) word)
    ∙ ap query_of (sym (take_more (first ∷ words) (suc n) d within))

no_space : (b : ℕ) → b ≢ 32 → is_byte 32 b ≡ false
no_space b h = grind (arith, nat_tests)

lacks-all : (word : List ℕ) → All (λ b. b ≢ 32) word → All (λ b. is_byte 32 b ≡ false) word
lacks-all word h = λ k d within. no_space (get_or word k d) (h k d within)

pub query-split : (word : List ℕ) (words : List (List ℕ)) → All (λ word. All (λ b. b ≢ 32) word) (word ∷ words) → slice_split (is_byte 32) (query_of (word ∷ words)) ≡ word ∷ words
query-split word [] h = slice_split_none (is_byte 32) word (lacks-all word (h 0 [] (omega arith)))
query-split word (next ∷ words) h =
    slice_split_at (is_byte 32) word 32 (query_of (next ∷ words)) (lacks-all word (h 0 [] (omega arith))) refl
    ∙ ap (λ rest. word ∷ rest) (query-split next words (λ k d within. h (suc k) d (omega (arith, within))))
