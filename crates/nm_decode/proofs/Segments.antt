-- The segments between the `?` of a text. For the proof of `segment`.
use Rattle.std.proofs.Common.{◌≡◌, ℕ, ◌+◌, ◌<◌, ◌≤◌, ◌≢◌, Bool, true, false, List, [], ◌∷◌, ◌++◌, None, length, take, drop, get_or, refl, sym, ap, ◌∙◌, subst, eqb, arith}
use Rattle.std.specs.List.{onto_first, position_or_len, slice_split}
use Rattle.std.proofs.lemmas.List.Splits.{slice_split_first}
use Rattle.std.proofs.lemmas.List.Sums.{passes_at_first, split_at_first}
use Rattle.std.proofs.lemmas.Bool.Decides.{nat_tests}
use Rattle.nm_text.specs.Cuts.{is_byte}
use Rattle.nm_decode.specs.EncodedWords.{begins_with_equals, fields_of, is_equals, segments_of}

-- a first segment that is no `=` begins no word
bad-first : (first : List ℕ) (segments : List (List ℕ)) → is_equals first ≡ false → fields_of (first ∷ segments) ≡ None
bad-first first [] h = refl
bad-first first (x ∷ []) h = refl
bad-first first (x ∷ y ∷ []) h = refl
bad-first first (x ∷ y ∷ z ∷ more) h = rw h refl

long-first : (a b : ℕ) (segments : List (List ℕ)) → fields_of (onto_first a (onto_first b segments)) ≡ None
long-first a b [] = refl
long-first a b (p ∷ segments) = bad-first (a ∷ b ∷ p) segments refl

-- a text that doesn't begin with `=?`
second-other : (a b : ℕ) (more : List ℕ) (t : Bool) → eqb b 63 ≡ t → (eqb a 61 ≡ true → eqb b 63 ≡ false)
    → (s : Bool) → eqb a 61 ≡ s → fields_of (onto_first a (slice_split (is_byte 63) (b ∷ more))) ≡ None
second-other a b more true e h true k = absurd (cc (h k))
second-other a b more true e h false k = rw e (bad-first (a ∷ []) (slice_split (is_byte 63) more) k)
second-other a b more false e h s k = rw e (long-first a b (slice_split (is_byte 63) more))

first-other : (a b : ℕ) (more : List ℕ) (t : Bool) → eqb a 63 ≡ t → (eqb a 61 ≡ true → eqb b 63 ≡ false) → fields_of (segments_of (a ∷ b ∷ more)) ≡ None
first-other a b more true e h = rw e (bad-first [] (slice_split (is_byte 63) (b ∷ more)) refl)
first-other a b more false e h = rw e (second-other a b more (eqb b 63) refl h (eqb a 61) refl)

single : (a : ℕ) (t : Bool) → eqb a 63 ≡ t → fields_of (segments_of (a ∷ [])) ≡ None
single a true e = rw e refl
single a false e = rw e refl

pub not_opened : (a b : ℕ) (more : List ℕ) → (eqb a 61 ≡ true → eqb b 63 ≡ false) → fields_of (segments_of (a ∷ b ∷ more)) ≡ None
not_opened a b more h = first-other a b more (eqb a 63) refl h

pub too_short : (text : List ℕ) → length text < 2 → fields_of (segments_of text) ≡ None
too_short [] h = refl
too_short (a ∷ []) h = single a (eqb a 63) refl
too_short (a ∷ b ∷ more) h = absurd (omega arith)

-- a text without a `?` is one segment
whole-step : (a : ℕ) (more : List ℕ) (t : Bool) → eqb a 63 ≡ t → length (a ∷ more) ≤ position_or_len (is_byte 63) (a ∷ more)
    → (length more ≤ position_or_len (is_byte 63) more → segments_of more ≡ more ∷ []) → segments_of (a ∷ more) ≡ (a ∷ more) ∷ []
whole-step a more true e h k = absurd (let g = rw e at h in omega (arith, g))
whole-step a more false e h k = rw e (ap (onto_first a) (k (let g = rw e at h in omega (arith, g))))

pub whole_segment : (text : List ℕ) → length text ≤ position_or_len (is_byte 63) text → segments_of text ≡ text ∷ []
whole_segment [] h = refl
whole_segment (a ∷ more) h = whole-step a more (eqb a 63) refl h (whole_segment more)

pub first_segment : (text : List ℕ) (n : ℕ) → n ≡ position_or_len (is_byte 63) text → n < length text → segments_of text ≡ take n text ∷ segments_of (drop (n + 1) text)
first_segment text n e h =
    let P : ℕ → Type 0 = λ m. m < length text → segments_of text ≡ take m text ∷ segments_of (drop (m + 1) text) in
    subst P (sym e) (slice_split_first (is_byte 63) text 0) h

-- the first segment begins as the text does
begins-onto : (a : ℕ) (segments : List (List ℕ)) → begins_with_equals (onto_first a segments) ≡ eqb a 61
begins-onto a [] = refl
begins-onto a (p ∷ segments) = refl

begins-step : (a : ℕ) (more : List ℕ) (t : Bool) → eqb a 63 ≡ t → begins_with_equals (segments_of (a ∷ more)) ≡ eqb a 61
begins-step a more true e = rw e (grind (arith, nat_tests))
begins-step a more false e = rw e (begins-onto a (slice_split (is_byte 63) more))

pub begins_as_text : (a : ℕ) (more : List ℕ) → begins_with_equals (segments_of (a ∷ more)) ≡ eqb a 61
begins_as_text a more = begins-step a more (eqb a 63) refl

pub bad_start : (text rest : List ℕ) (a : ℕ) → text ≡ a ∷ rest → a ≢ 61 → fields_of (segments_of text) ≡ None
bad_start text [] a e h = ap (λ xs. fields_of (segments_of xs)) e ∙ single a (eqb a 63) refl
bad_start text (b ∷ more) a e h = ap (λ xs. fields_of (segments_of xs)) e ∙ not_opened a b more (λ k. absurd (grind (arith, nat_tests)))

pub bad_second : (text rest more : List ℕ) (a b : ℕ) → text ≡ a ∷ rest → rest ≡ b ∷ more → b ≢ 63 → fields_of (segments_of text) ≡ None
bad_second text rest more a b e f h =
    ap (λ xs. fields_of (segments_of xs)) (e ∙ ap (λ xs. a ∷ xs) f) ∙ not_opened a b more (λ k. grind (arith, nat_tests))

pub opened_segments : (text rest more : List ℕ) (a b : ℕ) → text ≡ a ∷ rest → rest ≡ b ∷ more → a ≡ 61 → b ≡ 63 → segments_of text ≡ (61 ∷ []) ∷ segments_of more
opened_segments text rest more a b e f h k =
    ap segments_of (e ∙ ap (λ xs. a ∷ xs) f ∙ ap (λ x. x ∷ b ∷ more) h ∙ ap (λ x. 61 ∷ x ∷ more) k)

form_at_first : (text : List ℕ) → position_or_len (is_byte 63) text < length text
    → text ≡ take (position_or_len (is_byte 63) text) text ++ 63 ∷ drop (position_or_len (is_byte 63) text + 1) text
form_at_first text h =
    let n = position_or_len (is_byte 63) text in
    let p = passes_at_first (is_byte 63) text 0 h in
    let e : get_or text n 0 ≡ 63 = grind (arith, nat_tests) in
    split_at_first (is_byte 63) text 0 h ∙ ap (λ x. take n text ++ x ∷ drop (n + 1) text) e

pub segment_form : (text : List ℕ) (n : ℕ) → n ≡ position_or_len (is_byte 63) text → n < length text → text ≡ take n text ++ 63 ∷ drop (n + 1) text
segment_form text n e h =
    let P : ℕ → Type 0 = λ m. m < length text → text ≡ take m text ++ 63 ∷ drop (m + 1) text in
    subst P (sym e) (form_at_first text) h
