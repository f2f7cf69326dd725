-- White space at the ends of a text, and the first word.
-- For the proofs of `cut_word`, `next_word`, `trimmed` and others.
use Rattle.std.proofs.Common.{◌≡◌, ℕ, Bool, ◌+◌, ◌-◌, ◌<◌, ◌≤◌, true, false, List, [], ◌∷◌, length, get_or, reverse, take, drop, not, refl, sym, ap, ◌∙◌, arith, subst, inl, inr, cond}
use Rattle.std.specs.List.{before_first, position_or_len, prefix_len, suffix_len}
use Rattle.std.specs.Str.{IsUtf8, IsCharBoundary}
use Rattle.std.proofs.lemmas.Bool.{cases_Bool, cases_lt}
use Rattle.std.proofs.lemmas.Bool.Decides.{nat_tests}
use Rattle.std.proofs.lemmas.List.{drop-drop, get_or-reverse, length-take, take_all}
use Rattle.std.proofs.lemmas.List.Sums.{passes_at_first, prefix_len_passes, suffix_len-le-length}
use Rattle.std.proofs.lemmas.Str.{IsUtf8-take, IsUtf8-drop, IsCharBoundary-after_ascii, IsCharBoundary-before_ascii, IsCharBoundary-end}
use Rattle.nm_base.specs.Bounds.{is_white_space}
use Rattle.nm_text.specs.WhiteSpace.{trimmed, trimmed_end, trimmed_start}
use Rattle.nm_tags.specs.TagLines.{begins_with_space, first_word}

-- white space is ASCII
pub space_below : (b : ℕ) → is_white_space b ≡ true → b < 128
space_below b e = grind (arith, nat_tests)

-- a text without the white space at its front is a text
pub utf8_trimmed_start : (text : List ℕ) → IsUtf8 text → IsUtf8 (trimmed_start text)
utf8_trimmed_start [] u = u
utf8_trimmed_start (b ∷ more) u =
    elim (cases_Bool (is_white_space b)) [
      | inl e ↦ subst (λ t. IsUtf8 (drop (cond t (1 + prefix_len is_white_space more) 0) (b ∷ more))) (sym e)
          (subst IsUtf8 (drop-drop (prefix_len is_white_space more) 1 (b ∷ more)) (utf8_trimmed_start more (IsUtf8-drop (b ∷ more) 1 u (IsCharBoundary-after_ascii (b ∷ more) 0 u (omega arith) (space_below b e)))))
      | inr e ↦ subst (λ t. IsUtf8 (drop (cond t (1 + prefix_len is_white_space more) 0) (b ∷ more))) (sym e) u
    ]

-- a text without the white space at its end is a text
pub utf8_trimmed_end : (text : List ℕ) → IsUtf8 text → IsUtf8 (trimmed_end text)
utf8_trimmed_end text u =
    let n = length text in
    let s = suffix_len is_white_space text in
    let within : s ≤ n = suffix_len-le-length is_white_space text in
    elim (cases_lt 0 s) [
      | inl some ↦
          let white : is_white_space (get_or text (n - 1 - (s - 1)) 0) ≡ true =
          subst (λ b. is_white_space b ≡ true) (get_or-reverse text (s - 1) 0 (omega arith)) (prefix_len_passes is_white_space (reverse text) (s - 1) 0 (omega arith)) in
          let same : n - 1 - (s - 1) ≡ n - s = omega arith in
          IsUtf8-take text (n - s) u (IsCharBoundary-before_ascii text (n - s) (omega arith) (space_below _ (subst (λ k. is_white_space (get_or text k 0) ≡ true) same white)))
      | inr none ↦ subst IsUtf8 (sym (take_all (n - s) text (omega arith))) u
    ]

-- a trimmed text is a text
pub utf8_trimmed : (text : List ℕ) → IsUtf8 text → IsUtf8 (trimmed text)
utf8_trimmed text u = utf8_trimmed_end (trimmed_start text) (utf8_trimmed_start text u)

-- a text may be cut after white space in front
pub cut_after_space : (text : List ℕ) → IsUtf8 text → begins_with_space text ≡ true → IsCharBoundary text 1
cut_after_space [] u e = absurd (cc)
cut_after_space (b ∷ more) u e = IsCharBoundary-after_ascii (b ∷ more) 0 u (omega arith) (space_below b e)

-- white space in front is taken off
pub one_space_first : (text : List ℕ) → begins_with_space text ≡ true → trimmed_start (drop 1 text) ≡ trimmed_start text
one_space_first [] e = absurd (cc)
one_space_first (b ∷ more) e = drop-drop (prefix_len is_white_space more) 1 (b ∷ more) ∙ sym (ap (λ t. drop (cond t (1 + prefix_len is_white_space more) 0) (b ∷ more)) e)

-- a text that begins with none stays
pub no_space_first : (text : List ℕ) → begins_with_space text ≡ false → text ≡ trimmed_start text
no_space_first [] e = refl
no_space_first (b ∷ more) e = sym (ap (λ t. drop (cond t (1 + prefix_len is_white_space more) 0) (b ∷ more)) e)

-- a text may be cut before its first white space
pub cut_before_space : (text : List ℕ) (end : ℕ) → end ≡ position_or_len is_white_space text → end ≤ length text → IsCharBoundary text end
cut_before_space text end at within =
    elim (cases_lt end (length text)) [
      | inl more ↦ IsCharBoundary-before_ascii text end more (space_below _ (subst (λ (n : ℕ). is_white_space (get_or text n 0) ≡ true) (sym at) (passes_at_first is_white_space text 0 (omega arith))))
      | inr done ↦ let all : length text ≡ end = omega arith in subst (λ (n : ℕ). IsCharBoundary text n) all (IsCharBoundary-end text)
    ]

-- a byte that is no white space comes before the first white space
byte_before : (b : ℕ) (more : List ℕ) → is_white_space b ≡ false → 0 < length (before_first is_white_space (b ∷ more))
byte_before b more e =
    subst (λ (t : Bool). 0 < length (take (cond (not t) (1 + position_or_len is_white_space more) 0) (b ∷ more))) (sym e)
    (omega (arith, length-take (1 + position_or_len is_white_space more) (b ∷ more)))

-- a text that is not white space alone has a first word
pub some_word : (text : List ℕ) → 0 < length (trimmed_start text) → 0 < length (first_word text)
some_word [] some = absurd (omega arith)
some_word (b ∷ more) some =
    elim (cases_Bool (is_white_space b)) [
      | inl e ↦
          let same : trimmed_start more ≡ trimmed_start (b ∷ more) = one_space_first (b ∷ more) e in
          subst (λ t. 0 < length (before_first is_white_space t)) same (some_word more (subst (λ t. 0 < length t) (sym same) some))
      | inr e ↦
          let same : b ∷ more ≡ trimmed_start (b ∷ more) = no_space_first (b ∷ more) e in
          subst (λ t. 0 < length (before_first is_white_space t)) same (byte_before b more e)
    ]
