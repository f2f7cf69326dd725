-- When a list begins with words and a last one, and that it has words from some place on. Cited by `EndLemmas` and
-- `FoundLemmas`.
use Rattle.std.proofs.Common.{◌≡◌, ℕ, zero, suc, Bool, true, false, Some, List, [], ◌∷◌, ◌++◌, length, drop, slice_get, refl, sym, ap, ◌∙◌, inl, inr}
use Rattle.std.specs.Prelude.{◌&&◌}
use Rattle.std.proofs.lemmas.Bool.{and_parts, and_from, or_cases, or_left, or_right, false≢true}
use Rattle.nm_base.specs.Order.{same_text}
use Rattle.nm_base.specs.AskedWords.{begins_with, has_words, is_last_word}

-- the list begins with the words, each whole
abbrev pub stand : List (List ℕ) → List (List ℕ) → Bool
stand [] list = true
stand (word ∷ words) [] = false
stand (word ∷ words) (found ∷ list) = same_text word found && stand words list

-- its first word is the last one that is asked
abbrev pub has_last : Bool → List ℕ → List (List ℕ) → Bool
has_last starts word [] = false
has_last starts word (found ∷ list) = is_last_word starts word found

and_true : (b : Bool) → (b && true) ≡ b
and_true true = refl
and_true false = refl

and_assoc : (a b c : Bool) → (a && (b && c)) ≡ ((a && b) && c)
and_assoc true b c = refl
and_assoc false b c = refl

pub begins_with-whole : (words list : List (List ℕ)) → begins_with false words list ≡ stand words list
begins_with-whole [] list = refl
begins_with-whole (word ∷ []) [] = refl
begins_with-whole (word ∷ next ∷ words) [] = refl
begins_with-whole (word ∷ []) (found ∷ list) = sym (and_true (same_text word found))
begins_with-whole (word ∷ next ∷ words) (found ∷ list) = ap (λ rest. same_text word found && rest) (begins_with-whole (next ∷ words) list)

cons_begins : (starts : Bool) (word : List ℕ) (words : List (List ℕ)) (last found : List ℕ) (list : List (List ℕ))
    → begins_with starts (word ∷ (words ++ last ∷ [])) (found ∷ list) ≡ (same_text word found && begins_with starts (words ++ last ∷ []) list)
cons_begins starts word [] last found list = refl
cons_begins starts word (next ∷ words) last found list = refl

last_none : (starts : Bool) (words : List (List ℕ)) (last : List ℕ) → begins_with starts (words ++ last ∷ []) [] ≡ false
last_none starts [] last = refl
last_none starts (word ∷ words) last = refl

drop_none : (n : ℕ) → drop {A = List ℕ} n [] ≡ []
drop_none zero = refl
drop_none (suc n) = refl

has_last_none : (starts : Bool) (last : List ℕ) (n : ℕ) → has_last starts last (drop n []) ≡ false
has_last_none starts last n = ap (has_last starts last) (drop_none n)

pub begins_with-push : (starts : Bool) (words : List (List ℕ)) (last : List ℕ) (list : List (List ℕ))
    → begins_with starts (words ++ last ∷ []) list ≡ (stand words list && has_last starts last (drop (length words) list))
begins_with-push starts [] last [] = refl
begins_with-push starts [] last (found ∷ list) = refl
begins_with-push starts (word ∷ words) last [] = last_none starts (word ∷ words) last
begins_with-push starts (word ∷ words) last (found ∷ list) =
    cons_begins starts word words last found list
    ∙ (ap (λ rest. same_text word found && rest) (begins_with-push starts words last list)
    ∙ and_assoc (same_text word found) (stand words list) (has_last starts last (drop (length words) list)))

-- ---- a last word and the words before it

pub record Pushed (starts : Bool) (words : List (List ℕ)) (last : List ℕ) (list : List (List ℕ)) : Type 0 where
  pub found : List ℕ
  pub before : begins_with false words list ≡ true
  pub there : slice_get list (length words) ≡ Some found
  pub is_last : is_last_word starts last found ≡ true

first_of : (starts : Bool) (last : List ℕ) (n : ℕ) (list : List (List ℕ)) → has_last starts last (drop n list) ≡ true → (found : List ℕ) × (slice_get list n ≡ Some found) × (is_last_word starts last found ≡ true)
first_of starts last n [] h = absurd (false≢true (sym (has_last_none starts last n) ∙ h))
first_of starts last zero (found ∷ list) h = (found, refl, h)
first_of starts last (suc n) (found ∷ list) h = first_of starts last n list h

of_first : (starts : Bool) (last found : List ℕ) (n : ℕ) (list : List (List ℕ)) → slice_get list n ≡ Some found → is_last_word starts last found ≡ true → has_last starts last (drop n list) ≡ true
of_first starts last found n [] there is = absurd (cc)
of_first starts last found zero (word ∷ list) there is = let same : word ≡ found = cc in ap (is_last_word starts last) same ∙ is
of_first starts last found (suc n) (word ∷ list) there is = of_first starts last found n list there is

pub pushed : (starts : Bool) (words : List (List ℕ)) (last : List ℕ) (list : List (List ℕ)) → begins_with starts (words ++ last ∷ []) list ≡ true → Pushed starts words last list
pushed starts words last list h =
    let parts = and_parts (stand words list) (has_last starts last (drop (length words) list)) (sym (begins_with-push starts words last list) ∙ h) in
    let first = first_of starts last (length words) list parts.1 in
    record { found = first.0; before = begins_with-whole words list ∙ parts.0; there = first.1; is_last = first.2 }

pub from_pushed : (starts : Bool) (words : List (List ℕ)) (last : List ℕ) (list : List (List ℕ)) → Pushed starts words last list → begins_with starts (words ++ last ∷ []) list ≡ true
from_pushed starts words last list p =
    begins_with-push starts words last list
    ∙ and_from (stand words list) (has_last starts last (drop (length words) list)) (sym (begins_with-whole words list) ∙ p.before) (of_first starts last p.found (length words) list p.there p.is_last)

-- ---- some place

pub place_of : (starts : Bool) (words list : List (List ℕ)) → has_words starts words list ≡ true → (start : ℕ) × (begins_with starts words (drop start list) ≡ true)
place_of starts words [] h = (0, h)
place_of starts words (found ∷ list) h = elim (or_cases (begins_with starts words (found ∷ list)) (has_words starts words list) h) [
  | inl here ↦ (0, here)
  | inr later ↦ let p = place_of starts words list later in (suc p.0, p.1)
]

pub has_from_place : (starts : Bool) (words list : List (List ℕ)) (start : ℕ) → begins_with starts words (drop start list) ≡ true → has_words starts words list ≡ true
has_from_place starts words [] start h = ap (begins_with starts words) (sym (drop_none start)) ∙ h
has_from_place starts words (found ∷ list) zero h = or_left (begins_with starts words (found ∷ list)) (has_words starts words list) h
has_from_place starts words (found ∷ list) (suc start) h = or_right (begins_with starts words (found ∷ list)) (has_words starts words list) (has_from_place starts words list start h)
