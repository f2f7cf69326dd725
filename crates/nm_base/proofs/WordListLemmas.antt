-- Words that come one after the other are read again, and one more may be put after them.
-- For the proofs of `WordRow::push_bytes` and `first_own`.
use Rattle.std.proofs.Common.{◌≡◌, ℕ, suc, ◌+◌, ◌-◌, ◌≤◌, min, true, List, [], ◌∷◌, ◌++◌, length, take, drop, ◌≢◌, refl, ap, ◌∙◌, append_assoc, arith}
use Rattle.std.proofs.lemmas.List.{drop_min, take_at, drop_at, take_min, length-append, length_push, flat_map_more}
use Rattle.std.proofs.lemmas.List.Folds.{list_all-append}
use Rattle.nm_base.specs.WordList.{IsPacked, is_kept, packed, packed_word, unpacked}

unpacked-packed : (words : List (List ℕ)) → unpacked (length words) (packed words) ≡ words
unpacked-packed [] = refl
unpacked-packed (word ∷ words) =
    rw (take_at word (packed words) (length word) refl, drop_at word (packed words) (length word) refl, unpacked-packed words) refl

-- what was packed is unpacked
pub is_unpacked : (count : ℕ) (bytes : List ℕ) (words : List (List ℕ)) → IsPacked count bytes words → unpacked count bytes ≡ words
is_unpacked count bytes words p = rw (p.count_is, p.bytes_are) (unpacked-packed words)

-- words take a byte each at least
pub few : (words : List (List ℕ)) → length words ≤ length (packed words)
few [] = omega arith
few (word ∷ words) = omega (arith, few words, length-append word (packed words))

-- a word more at the end
pub pushed : (count : ℕ) (bytes : List ℕ) (words : List (List ℕ)) (word longer : List ℕ) → IsPacked count bytes words → is_kept word ≡ true
    → longer ≡ (bytes ++ length word ∷ []) ++ word → IsPacked (count + 1) longer (words ++ word ∷ [])
pushed count bytes words word longer p kept e = record {
  bytes_are = e ∙ append_assoc bytes (length word ∷ []) word ∙ ap (λ (xs : List ℕ). xs ++ (length word ∷ word)) p.bytes_are ∙ flat_map_more packed_word [] words word;
  count_is = omega (arith, p.count_is, length_push words word);
  kept = list_all-append is_kept words (word ∷ []) ∙ rw (p.kept, kept) refl;
}

-- the first word, and those after it
pub first : (count len n : ℕ) (bytes rest : List ℕ) → count ≢ 0 → bytes ≡ len ∷ rest → n ≡ min len (length rest)
    → unpacked count bytes ≡ take n rest ∷ unpacked (count - 1) (drop n rest)
first count len n bytes rest some e cut =
    let more : count ≡ suc (count - 1) = omega (arith, some) in
    rw (e, cut) (ap (λ (k : ℕ). unpacked k (len ∷ rest)) more ∙ rw (take_min len rest, drop_min len rest) refl)
