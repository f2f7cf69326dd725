-- Words that stay in a record are read again, and how many bytes they have. For the proofs of `first_lent` and `LentWords::bytes_len`.
use Rattle.std.proofs.Common.{◌≡◌, ◌≢◌, ◌≤◌, ℕ, suc, ◌+◌, ◌-◌, ◌*◌, min, List, [], ◌∷◌, length, take, drop, refl, ap, ◌∙◌, arith}
use Rattle.std.proofs.lemmas.Bool.{le-ltb}
use Rattle.std.proofs.lemmas.List.{drop_min, take_min, length-append}
use Rattle.nm_base.specs.LentWords.{length_at, lent_bytes, lent_word, words_at}
use Rattle.nm_base.specs.WordList.{packed}

pub first : (count n : ℕ) (bytes rest : List ℕ) → count ≢ 0 → 4 ≤ length bytes → rest ≡ drop 4 bytes → n ≡ min (length_at bytes) (length rest)
    → words_at count bytes ≡ take n rest ∷ words_at (count - 1) (drop n rest)
first count n bytes rest some long is cut =
    let more : count ≡ suc (count - 1) = omega (arith, some) in
    rw (cut, is) (ap (λ (k : ℕ). words_at k bytes) more ∙ rw (le-ltb (length bytes) 4 long, take_min (length_at bytes) (drop 4 bytes), drop_min (length_at bytes) (drop 4 bytes)) refl)

-- each length takes four bytes there and one in a list's own row
pub lent-length : (words : List (List ℕ)) → length (lent_bytes words) ≡ length (packed words) + 3 * length words
unfolding lent_bytes
lent-length [] = refl
lent-length (word ∷ words) =
    omega (arith, lent-length words, length-append (lent_word word) (lent_bytes words), length-append word (packed words))
