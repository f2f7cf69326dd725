-- The turns of the two loops that make a name. For the proof of `spaced`.
use Rattle.std.proofs.Common.{◌≡◌, ℕ, ◌+◌, ◌-◌, ◌<◌, true, List, [], ◌∷◌, ◌++◌, Some, None, take, drop, filter, refl, sym, ap, ◌∙◌, arith, append_assoc}
use Rattle.std.specs.Prelude.{position}
use Rattle.std.specs.List.{join_with_byte, slice_split}
use Rattle.std.proofs.lemmas.Bool.Decides.{nat_tests}
use Rattle.nm_base.specs.Bounds.{is_white_space}
use Rattle.nm_header.specs.Mailboxes.{added_word, is_some_text}
use Rattle.nm_header.proofs.SplitLemmas.{split_at, split_none}

pub white_is_ascii : (b : ℕ) → is_white_space b ≡ true → b < 128
white_is_ascii b e = grind (arith, nat_tests)

abbrev pub joined : List (List ℕ) → List ℕ
joined words = join_with_byte 32 (filter is_some_text words)

join_turn : (x y : List ℕ) (words : List (List ℕ)) → x ++ (32 ∷ join_with_byte 32 (y ∷ words)) ≡ join_with_byte 32 ((x ++ (32 ∷ y)) ∷ words)
join_turn x y [] = refl
join_turn x y (w ∷ words) = sym (append_assoc x (32 ∷ y) (32 ∷ join_with_byte 32 (w ∷ words)))

-- two words in front are the first with the second added
joined_turn : (first second : List ℕ) (words : List (List ℕ)) → joined (first ∷ second ∷ words) ≡ joined (added_word first second ∷ words)
joined_turn first [] words = refl
joined_turn [] (b ∷ word) words = refl
joined_turn (a ∷ first) (b ∷ word) words = join_turn (a ∷ first) (b ∷ word) (filter is_some_text words)

pub words_turn : (spaced after left word : List ℕ) (i : ℕ) → position is_white_space left ≡ Some i → word ≡ take (i - 0) left → after ≡ added_word spaced word → joined (after ∷ slice_split is_white_space (drop (i + 1) left)) ≡ joined (spaced ∷ slice_split is_white_space left)
words_turn spaced after left word i e w a =
    let front : word ≡ take i left = w ∙ ap (λ n. take n left) (let none : i - 0 ≡ i = omega arith in none) in
    let rest : List (List ℕ) = slice_split is_white_space (drop (i + 1) left) in
    let split : slice_split is_white_space left ≡ word ∷ rest = split_at is_white_space left i e ∙ ap (λ x. x ∷ rest) (sym front) in
    ap (λ x. joined (x ∷ rest)) a ∙ sym (joined_turn spaced word rest) ∙ ap (λ x. joined (spaced ∷ x)) (sym split)

joined_one : (word : List ℕ) → joined (word ∷ []) ≡ word
joined_one [] = refl
joined_one (b ∷ word) = refl

pub words_end : (spaced after left : List ℕ) → position is_white_space left ≡ None → after ≡ added_word spaced left → after ≡ joined (spaced ∷ slice_split is_white_space left)
words_end spaced after left e a =
    a ∙ sym (joined_one (added_word spaced left)) ∙ sym (joined_turn spaced left []) ∙ ap (λ x. joined (spaced ∷ x)) (sym (split_none is_white_space left e))
