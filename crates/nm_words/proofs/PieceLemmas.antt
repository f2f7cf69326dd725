-- The first piece of a word, and what is left after the character that ends it.
-- For the proofs of `add_pieces` and `add_words`.
use Rattle.std.proofs.Common.{◌≡◌, ℕ, ◌+◌, ◌-◌, ◌<◌, Bool, true, false, cond, List, [], ◌∷◌, ◌++◌, Some, None, filter, length, map, take, drop, get_or, ltb, refl, sym, ap, ◌∙◌, arith, append_assoc}
use Rattle.std.specs.List.{slice_split, position_or_len, flat_map}
use Rattle.std.specs.Prelude.{position, IsUtf8}
use Rattle.std.specs.Str.{IsCharBoundary}
use Rattle.std.proofs.lemmas.Str.{IsCharBoundary-before_ascii, IsCharBoundary-after_ascii}
use Rattle.std.proofs.lemmas.Bool.{and_parts, ltb-true, ltb-false}
use Rattle.std.proofs.lemmas.List.{flat_map_more, map-append}
use Rattle.std.proofs.lemmas.List.Elements.{All-from_get_or, filter-append}
use Rattle.std.proofs.lemmas.List.Splits.{slice_split_first, slice_split_none}
use Rattle.std.proofs.lemmas.List.Sums.{fails_before_first}
use Rattle.std.proofs.lemmas.Option.{cond_some}
use Rattle.std.proofs.lemmas.List.Quantifiers.{position-Some}
use Rattle.nm_base.specs.Word.{is_word}
use Rattle.nm_words.specs.Words.{chosen, folded, is_cut, is_named, words_in}

none_of : (b : Bool) (n : ℕ) → cond b (Some n) None ≡ None → b ≡ false
none_of true n e = absurd (cc)
none_of false n e = refl

-- up to the first item that passes it is one piece, and the rest is split likewise
pub split_at : (p : ℕ → Bool) (xs : List ℕ) (i : ℕ) → position p xs ≡ Some i → slice_split p xs ≡ take i xs ∷ slice_split p (drop (i + 1) xs)
split_at p xs i e =
    let f = cond_some (ltb (position_or_len p xs) (length xs)) (position_or_len p xs) i e in
    let whole = slice_split_first p xs 0 (ltb-true _ _ f.0) in
    rw f.1 at whole

-- where no item passes there is one piece
pub split_none : (p : ℕ → Bool) (xs : List ℕ) → position p xs ≡ None → slice_split p xs ≡ xs ∷ []
split_none p xs e =
    let long = ltb-false _ _ (none_of _ _ e) in
    slice_split_none p xs (All-from_get_or (λ x. p x ≡ false) xs 0 (λ i within. fails_before_first p xs i 0 (omega arith)))

-- the place where a piece ends holds an ASCII character
pub cut_is_ascii : (xs : List ℕ) (i : ℕ) → position is_cut xs ≡ Some i → (i < length xs) × (get_or xs i 0 < 128)
cut_is_ascii xs i e =
    let h = position-Some is_cut xs i 0 e in
    (h.0, ltb-true _ _ (and_parts _ _ h.1).0)

-- so the text may be cut before it and after it
pub boundary_before : (xs : List ℕ) (i : ℕ) → position is_cut xs ≡ Some i → IsCharBoundary xs i
boundary_before xs i e = let h = cut_is_ascii xs i e in IsCharBoundary-before_ascii xs i h.0 h.1

pub boundary_after : (xs : List ℕ) (i : ℕ) → IsUtf8 xs → position is_cut xs ≡ Some i → IsCharBoundary xs (i + 1)
boundary_after xs i u e = let h = cut_is_ascii xs i e in IsCharBoundary-after_ascii xs i u h.0 h.1

-- the words of two lists of pieces
pub words_in-append : (xs ys : List (List ℕ)) → words_in (xs ++ ys) ≡ words_in xs ++ words_in ys
words_in-append xs ys = ap (filter is_word) (map-append folded xs ys) ∙ filter-append is_word (map folded xs) (map folded ys)

-- words of a text of one word more
pub more_words : (ws : List (List ℕ)) (w : List ℕ) → words_in (flat_map (slice_split is_cut) (ws ++ w ∷ [])) ≡ words_in (flat_map (slice_split is_cut) ws) ++ words_in (slice_split is_cut w)
more_words ws w = ap words_in (sym (flat_map_more (slice_split is_cut) [] ws w)) ∙ words_in-append (flat_map (slice_split is_cut) ws) (slice_split is_cut w)

named_first : (piece : List ℕ) (test : Bool) (pieces : List (List ℕ)) → cond test (piece ∷ pieces) pieces ≡ cond test (piece ∷ []) [] ++ pieces
named_first piece true pieces = refl
named_first piece false pieces = refl

chosen-cons : (named : Bool) (piece : List ℕ) (pieces : List (List ℕ)) → chosen named (piece ∷ pieces) ≡ chosen named (piece ∷ []) ++ chosen named pieces
chosen-cons true piece pieces = named_first piece (is_named piece) (filter is_named pieces)
chosen-cons false piece pieces = refl

chosen_words : (named : Bool) (piece : List ℕ) (pieces : List (List ℕ)) → words_in (chosen named (piece ∷ pieces)) ≡ words_in (chosen named (piece ∷ [])) ++ words_in (chosen named pieces)
chosen_words named piece pieces = ap words_in (chosen-cons named piece pieces) ∙ words_in-append (chosen named (piece ∷ [])) (chosen named pieces)

-- a turn of the loop over the pieces
pub pieces_turn : (named : Bool) (before found : List (List ℕ)) (piece left : List ℕ) (i : ℕ) → position is_cut left ≡ Some i → piece ≡ take (i - 0) left → found ≡ before ++ words_in (chosen named (piece ∷ [])) → found ++ words_in (chosen named (slice_split is_cut (drop (i + 1) left))) ≡ before ++ words_in (chosen named (slice_split is_cut left))
pieces_turn named before found piece left i e p f =
    let front : piece ≡ take i left = p ∙ ap (λ n. take n left) (let none : i - 0 ≡ i = omega arith in none) in
    let split : slice_split is_cut left ≡ piece ∷ slice_split is_cut (drop (i + 1) left) = split_at is_cut left i e ∙ ap (λ x. x ∷ slice_split is_cut (drop (i + 1) left)) (sym front) in
    rw f (append_assoc before (words_in (chosen named (piece ∷ []))) (words_in (chosen named (slice_split is_cut (drop (i + 1) left)))) ∙ ap (λ l. before ++ l) (sym (chosen_words named piece (slice_split is_cut (drop (i + 1) left))) ∙ ap (λ l. words_in (chosen named l)) (sym split)))
