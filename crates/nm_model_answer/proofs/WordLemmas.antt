-- Words at the front of a list, and from some place on. For the proof of `words_stand_one_after_the_other`.
use Rattle.std.proofs.Common.{◌≡◌, refl, sym, ap, ap₂, ◌∙◌, ℕ, Bool, true, false, ◌&&◌, List, [], ◌∷◌, ◌++◌, append_assoc, drop, length, ◌↔◌, true≢false, inl, inr}
use Rattle.std.proofs.lemmas.Bool.{and_from, and_parts, or_cases, or_left, or_right}
use Rattle.std.proofs.lemmas.Slice.Eq.{bytes_eq-Decides, starts_is}
use Rattle.std.proofs.lemmas.Bool.Decides.{Decides-eqb}
use Rattle.std.specs.Cmp.Lexicographic.{nat_list_eq_equiv}
use Rattle.std.specs.Prelude.{IsTrue, nat_eq}
use Rattle.std.specs.List.{starts_with}
use Rattle.nm_base.specs.Order.{same_text}
use Rattle.nm_model_answer.specs.Runs.{Stand, StandWithFront}
use Rattle.nm_base.specs.AskedWords.{begins_with, has_words}

-- a word that begins with a front has a rest
front_from : (front found : List ℕ) → starts_with nat_eq found front ≡ true → found ≡ front ++ drop (length front) found
front_from front found is = (starts_is Decides-eqb found front (starts_with nat_eq found front) refl).0 is

front_of : (front rest : List ℕ) → starts_with nat_eq (front ++ rest) front ≡ true
front_of front rest = (starts_is Decides-eqb (front ++ rest) front (starts_with nat_eq (front ++ rest) front) refl).1 rest refl

-- ---- whole words

fronts_from : (words list : List (List ℕ)) → begins_with false words list ≡ true → (after : List (List ℕ)) × (list ≡ words ++ after)
fronts_from [] list is = (list, refl)
fronts_from (word ∷ words) [] is = absurd (true≢false (sym is))
fronts_from (word ∷ []) (found ∷ list) is = (list, ap (λ w. w ∷ list) (sym ((bytes_eq-Decides word found).0 is)))
fronts_from (word ∷ next ∷ words) (found ∷ list) is =
    let parts = and_parts (same_text word found) (begins_with false (next ∷ words) list) is in
    let rest = fronts_from (next ∷ words) list parts.1 in
    (rest.0, ap₂ (λ w more. w ∷ more) (sym ((bytes_eq-Decides word found).0 parts.0)) rest.1)

fronts_of : (words after : List (List ℕ)) → begins_with false words (words ++ after) ≡ true
fronts_of [] after = refl
fronts_of (word ∷ []) after = nat_list_eq_equiv.refl word
fronts_of (word ∷ next ∷ words) after = and_from (same_text word word) (begins_with false (next ∷ words) ((next ∷ words) ++ after)) (nat_list_eq_equiv.refl word) (fronts_of (next ∷ words) after)

-- ---- the last by its front

-- a word before the last is found whole
one_more : (word last found : List ℕ) (words list : List (List ℕ)) →
    begins_with true (word ∷ (words ++ last ∷ [])) (found ∷ list) ≡ (same_text word found && begins_with true (words ++ last ∷ []) list)
one_more word last found [] list = refl
one_more word last found (next ∷ words) list = refl

-- what is found after some words, of which the last is asked by its front
abbrev Fronts : List (List ℕ) → List ℕ → List (List ℕ) → Type 0
Fronts words last list = (rest : List ℕ) × (after : List (List ℕ)) × (list ≡ words ++ (last ++ rest) ∷ after)

last_from : (words : List (List ℕ)) (last : List ℕ) (list : List (List ℕ)) → begins_with true (words ++ last ∷ []) list ≡ true → Fronts words last list
last_from [] last [] is = absurd (true≢false (sym is))
last_from [] last (found ∷ list) is = (drop (length last) found, list, ap (λ w. w ∷ list) (front_from last found is))
last_from (word ∷ []) last [] is = absurd (true≢false (sym is))
last_from (word ∷ next ∷ words) last [] is = absurd (true≢false (sym is))
last_from (word ∷ words) last (found ∷ list) is =
    let parts = and_parts (same_text word found) (begins_with true (words ++ last ∷ []) list) (sym (one_more word last found words list) ∙ is) in
    let more = last_from words last list parts.1 in
    (more.0, more.1, ap₂ (λ w all. w ∷ all) (sym ((bytes_eq-Decides word found).0 parts.0)) more.2)

last_of : (words : List (List ℕ)) (last rest : List ℕ) (after : List (List ℕ)) → begins_with true (words ++ last ∷ []) (words ++ (last ++ rest) ∷ after) ≡ true
last_of [] last rest after = front_of last rest
last_of (word ∷ words) last rest after =
    one_more word last word words (words ++ (last ++ rest) ∷ after)
    ∙ and_from (same_text word word) (begins_with true (words ++ last ∷ []) (words ++ (last ++ rest) ∷ after)) (nat_list_eq_equiv.refl word) (last_of words last rest after)

-- ---- from some place on

here_or_after : (starts : Bool) (words list : List (List ℕ)) → begins_with starts words list ≡ true → has_words starts words list ≡ true
here_or_after starts words [] is = is
here_or_after starts words (found ∷ list) is = or_left (begins_with starts words (found ∷ list)) (has_words starts words list) is

further : (starts : Bool) (words before list : List (List ℕ)) → has_words starts words list ≡ true → has_words starts words (before ++ list) ≡ true
further starts words [] list is = is
further starts words (found ∷ before) list is =
    or_right (begins_with starts words (found ∷ (before ++ list))) (has_words starts words (before ++ list)) (further starts words before list is)

stand_from : (words list : List (List ℕ)) → has_words false words list ≡ true → Stand words list
stand_from words [] is = let front = fronts_from words [] is in record { before = []; after = front.0; whole = front.1 }
stand_from words (found ∷ list) is = elim (or_cases (begins_with false words (found ∷ list)) (has_words false words list) is) [
  | inl here ↦ let front = fronts_from words (found ∷ list) here in record { before = []; after = front.0; whole = front.1 }
  | inr there ↦ let rest = stand_from words list there in record { before = found ∷ rest.before; after = rest.after; whole = ap (λ all. found ∷ all) rest.whole }
]

stand_of : (words list : List (List ℕ)) → Stand words list → has_words false words list ≡ true
stand_of words list stand =
    ap (has_words false words) (stand.whole ∙ append_assoc stand.before words stand.after)
    ∙ further false words stand.before (words ++ stand.after) (here_or_after false words (words ++ stand.after) (fronts_of words stand.after))

with_front_from : (words : List (List ℕ)) (last : List ℕ) (list : List (List ℕ)) → has_words true (words ++ last ∷ []) list ≡ true → StandWithFront words last list
with_front_from words last [] is = let front = last_from words last [] is in record { before = []; rest = front.0; after = front.1; whole = front.2 }
with_front_from words last (found ∷ list) is = elim (or_cases (begins_with true (words ++ last ∷ []) (found ∷ list)) (has_words true (words ++ last ∷ []) list) is) [
  | inl here ↦ let front = last_from words last (found ∷ list) here in record { before = []; rest = front.0; after = front.1; whole = front.2 }
  | inr there ↦ let more = with_front_from words last list there in record { before = found ∷ more.before; rest = more.rest; after = more.after; whole = ap (λ all. found ∷ all) more.whole }
]

with_front_of : (words : List (List ℕ)) (last : List ℕ) (list : List (List ℕ)) → StandWithFront words last list → has_words true (words ++ last ∷ []) list ≡ true
with_front_of words last list stand =
    ap (has_words true (words ++ last ∷ [])) (stand.whole ∙ append_assoc stand.before words ((last ++ stand.rest) ∷ stand.after))
    ∙ further true (words ++ last ∷ []) stand.before (words ++ (last ++ stand.rest) ∷ stand.after)
    (here_or_after true (words ++ last ∷ []) (words ++ (last ++ stand.rest) ∷ stand.after) (last_of words last stand.rest stand.after))

pub whole_words : (words list : List (List ℕ)) → IsTrue (has_words false words list) ↔ Stand words list
whole_words words list = (stand_from words list, stand_of words list)

pub last_by_front : (words list : List (List ℕ)) (last : List ℕ) → IsTrue (has_words true (words ++ last ∷ []) list) ↔ StandWithFront words last list
last_by_front words list last = (with_front_from words last list, with_front_of words last list)
