-- Where ASCII texts are cut into words: between letters, digits and `_` they are not, and between `_` and a sign they are.
-- For the proof of `add_line`.
use Rattle.std.proofs.Common.{◌≡◌, ℕ, ◌<◌, ◌&&◌, ◌||◌, not, Bool, true, false, cond, List, ◌∷◌, inl, inr, ◌⊎◌, refl, sym, ap, subst, ◌∙◌}
use Rattle.std.specs.Char.{is_ascii_alphanumeric}
use Rattle.std.specs.Prelude.{unwrap_or}
use Rattle.std.proofs.lemmas.Bool.{and_parts}
use Rattle.ucd_table.proofs.Facts.{Stepped-below}
use Rattle.ucd_breaks.specs.WordBreak.{word_break}
use Rattle.ucd_breaks.specs.declared.WordBreak.{WordBreak}
use Rattle.ucd_breaks.specs.declared.WordBreak.TheVariants.{Cr, DoubleQuote, ExtendNumLet, Extend, Format, HebrewLetter, Katakana, ALetter, Lf, MidNumLet, MidLetter, MidNum, Newline, Numeric, RegionalIndicator, SingleQuote, WSegSpace, Other, Zwj}
use Rattle.ucd_breaks.proofs.Computing.{ucd_breaks}
use Rattle.ucd_breaks.proofs.WordBreakLemmas.{word_break_stepped}
use Rattle.unicode_segmentation.specs.Emoji.{is_extended_pictographic}
use Rattle.unicode_segmentation.specs.Word.{break_by_pair, is_ah_letter, is_hebrew_letter, is_mid_letter, is_mid_num, is_single_quote, is_double_quote, is_numeric, is_katakana, is_ignored, is_extend_num_let, is_regional, joins, joins_flag, significant, starts_with_half_flag, value_at, is_word_break}
use Rattle.nm_words.specs.Words.{is_cut}

-- what the signs of ASCII are
abbrev is_sign : WordBreak → Bool
is_sign ExtendNumLet = false
is_sign Extend = false
is_sign Format = false
is_sign HebrewLetter = false
is_sign Katakana = false
is_sign ALetter = false
is_sign Numeric = false
is_sign RegionalIndicator = false
is_sign Zwj = false
is_sign _ = true

not_true : (b : Bool) → not b ≡ true → b ≡ false
not_true true is = absurd (cc)
not_true false is = refl

pub no_both : (b : Bool) → b ≡ false → b ≡ true → ⊥
no_both b is_false is_true = absurd (cc)

pub decided : (b : Bool) → (b ≡ true) ⊎ (b ≡ false)
decided true = inl refl
decided false = inr refl

-- ---- the rules on values

both : (f : Bool → Bool) → (f true && f false) ≡ true → (b : Bool) → f b ≡ true
both f is true = (and_parts (f true) (f false) is).0
both f is false = (and_parts (f true) (f false) is).1

abbrev pub of_both : (Bool → Bool) → Bool
of_both f = f true && f false

pub of_four : (f : Bool → Bool → Bool → Bool → Bool) → of_both (λ a. of_both (λ b. of_both (λ c. of_both (λ d. f a b c d)))) ≡ true → (a b c d : Bool) → f a b c d ≡ true
of_four f is a b c d = both (λ d. f a b c d) (both (λ c. of_both (λ d. f a b c d)) (both (λ b. of_both (λ c. of_both (λ d. f a b c d))) (both (λ a. of_both (λ b. of_both (λ c. of_both (λ d. f a b c d)))) is a) b) c) d

-- what is in a word: letters, digits and `_`
abbrev is_inner : WordBreak → Bool
is_inner ExtendNumLet = true
is_inner ALetter = true
is_inner Numeric = true
is_inner _ = false

module _ (P : WordBreak → Type 0) where
  sign_cases : P Cr → P DoubleQuote → P Lf → P MidNumLet → P MidLetter → P MidNum → P Newline → P SingleQuote → P WSegSpace → P Other → (value : WordBreak) → is_sign value ≡ true → P value
  sign_cases on_Cr on_DoubleQuote on_Lf on_MidNumLet on_MidLetter on_MidNum on_Newline on_SingleQuote on_WSegSpace on_Other Cr is = on_Cr
  sign_cases on_Cr on_DoubleQuote on_Lf on_MidNumLet on_MidLetter on_MidNum on_Newline on_SingleQuote on_WSegSpace on_Other DoubleQuote is = on_DoubleQuote
  sign_cases on_Cr on_DoubleQuote on_Lf on_MidNumLet on_MidLetter on_MidNum on_Newline on_SingleQuote on_WSegSpace on_Other ExtendNumLet is = absurd (cc)
  sign_cases on_Cr on_DoubleQuote on_Lf on_MidNumLet on_MidLetter on_MidNum on_Newline on_SingleQuote on_WSegSpace on_Other Extend is = absurd (cc)
  sign_cases on_Cr on_DoubleQuote on_Lf on_MidNumLet on_MidLetter on_MidNum on_Newline on_SingleQuote on_WSegSpace on_Other Format is = absurd (cc)
  sign_cases on_Cr on_DoubleQuote on_Lf on_MidNumLet on_MidLetter on_MidNum on_Newline on_SingleQuote on_WSegSpace on_Other HebrewLetter is = absurd (cc)
  sign_cases on_Cr on_DoubleQuote on_Lf on_MidNumLet on_MidLetter on_MidNum on_Newline on_SingleQuote on_WSegSpace on_Other Katakana is = absurd (cc)
  sign_cases on_Cr on_DoubleQuote on_Lf on_MidNumLet on_MidLetter on_MidNum on_Newline on_SingleQuote on_WSegSpace on_Other ALetter is = absurd (cc)
  sign_cases on_Cr on_DoubleQuote on_Lf on_MidNumLet on_MidLetter on_MidNum on_Newline on_SingleQuote on_WSegSpace on_Other Lf is = on_Lf
  sign_cases on_Cr on_DoubleQuote on_Lf on_MidNumLet on_MidLetter on_MidNum on_Newline on_SingleQuote on_WSegSpace on_Other MidNumLet is = on_MidNumLet
  sign_cases on_Cr on_DoubleQuote on_Lf on_MidNumLet on_MidLetter on_MidNum on_Newline on_SingleQuote on_WSegSpace on_Other MidLetter is = on_MidLetter
  sign_cases on_Cr on_DoubleQuote on_Lf on_MidNumLet on_MidLetter on_MidNum on_Newline on_SingleQuote on_WSegSpace on_Other MidNum is = on_MidNum
  sign_cases on_Cr on_DoubleQuote on_Lf on_MidNumLet on_MidLetter on_MidNum on_Newline on_SingleQuote on_WSegSpace on_Other Newline is = on_Newline
  sign_cases on_Cr on_DoubleQuote on_Lf on_MidNumLet on_MidLetter on_MidNum on_Newline on_SingleQuote on_WSegSpace on_Other Numeric is = absurd (cc)
  sign_cases on_Cr on_DoubleQuote on_Lf on_MidNumLet on_MidLetter on_MidNum on_Newline on_SingleQuote on_WSegSpace on_Other RegionalIndicator is = absurd (cc)
  sign_cases on_Cr on_DoubleQuote on_Lf on_MidNumLet on_MidLetter on_MidNum on_Newline on_SingleQuote on_WSegSpace on_Other SingleQuote is = on_SingleQuote
  sign_cases on_Cr on_DoubleQuote on_Lf on_MidNumLet on_MidLetter on_MidNum on_Newline on_SingleQuote on_WSegSpace on_Other WSegSpace is = on_WSegSpace
  sign_cases on_Cr on_DoubleQuote on_Lf on_MidNumLet on_MidLetter on_MidNum on_Newline on_SingleQuote on_WSegSpace on_Other Other is = on_Other
  sign_cases on_Cr on_DoubleQuote on_Lf on_MidNumLet on_MidLetter on_MidNum on_Newline on_SingleQuote on_WSegSpace on_Other Zwj is = absurd (cc)

  inner_cases : P ALetter → P Numeric → P ExtendNumLet → (value : WordBreak) → is_inner value ≡ true → P value
  inner_cases on_ALetter on_Numeric on_ExtendNumLet Cr is = absurd (cc)
  inner_cases on_ALetter on_Numeric on_ExtendNumLet DoubleQuote is = absurd (cc)
  inner_cases on_ALetter on_Numeric on_ExtendNumLet ExtendNumLet is = on_ExtendNumLet
  inner_cases on_ALetter on_Numeric on_ExtendNumLet Extend is = absurd (cc)
  inner_cases on_ALetter on_Numeric on_ExtendNumLet Format is = absurd (cc)
  inner_cases on_ALetter on_Numeric on_ExtendNumLet HebrewLetter is = absurd (cc)
  inner_cases on_ALetter on_Numeric on_ExtendNumLet Katakana is = absurd (cc)
  inner_cases on_ALetter on_Numeric on_ExtendNumLet ALetter is = on_ALetter
  inner_cases on_ALetter on_Numeric on_ExtendNumLet Lf is = absurd (cc)
  inner_cases on_ALetter on_Numeric on_ExtendNumLet MidNumLet is = absurd (cc)
  inner_cases on_ALetter on_Numeric on_ExtendNumLet MidLetter is = absurd (cc)
  inner_cases on_ALetter on_Numeric on_ExtendNumLet MidNum is = absurd (cc)
  inner_cases on_ALetter on_Numeric on_ExtendNumLet Newline is = absurd (cc)
  inner_cases on_ALetter on_Numeric on_ExtendNumLet Numeric is = on_Numeric
  inner_cases on_ALetter on_Numeric on_ExtendNumLet RegionalIndicator is = absurd (cc)
  inner_cases on_ALetter on_Numeric on_ExtendNumLet SingleQuote is = absurd (cc)
  inner_cases on_ALetter on_Numeric on_ExtendNumLet WSegSpace is = absurd (cc)
  inner_cases on_ALetter on_Numeric on_ExtendNumLet Other is = absurd (cc)
  inner_cases on_ALetter on_Numeric on_ExtendNumLet Zwj is = absurd (cc)

-- `joins`, by what is asked of the value before the left one: whether it is a letter, one of Hebrew, and a digit
abbrev pub joins_by : Bool → Bool → Bool → WordBreak → WordBreak → WordBreak → Bool
joins_by letter hebrew digit left right next =
    (is_ah_letter left && is_ah_letter right)
    || (is_ah_letter left && is_mid_letter right && is_ah_letter next)
    || (letter && is_mid_letter left && is_ah_letter right)
    || (is_hebrew_letter left && is_single_quote right)
    || (is_hebrew_letter left && is_double_quote right && is_hebrew_letter next)
    || (hebrew && is_double_quote left && is_hebrew_letter right)
    || (is_numeric left && is_numeric right)
    || (is_ah_letter left && is_numeric right)
    || (is_numeric left && is_ah_letter right)
    || (digit && is_mid_num left && is_numeric right)
    || (is_numeric left && is_mid_num right && is_numeric next)
    || (is_katakana left && is_katakana right)
    || ((is_ah_letter left || is_numeric left || is_katakana left || is_extend_num_let left) && is_extend_num_let right)
    || (is_extend_num_let left && (is_ah_letter right || is_numeric right || is_katakana right))

-- whether there is a boundary, by the values on both sides and what is beyond
abbrev breaks_by : Bool → Bool → Bool → Bool → WordBreak → WordBreak → WordBreak → Bool → Bool
breaks_by letter hebrew digit half left right next pictographic = unwrap_or (break_by_pair left right pictographic) (not (joins_by letter hebrew digit left right next || (half && is_regional right)))

abbrev Always : (Bool → Bool) → WordBreak → WordBreak → Type 0
Always said left right = (next : WordBreak) (pictographic letter hebrew digit half : Bool) → said (breaks_by letter hebrew digit half left right next pictographic) ≡ true

inside : (left right : WordBreak) → is_inner left ≡ true → is_inner right ≡ true → Always not left right
inside left right l r =
    inner_cases (λ v. Always not v right)
    (inner_cases (λ v. Always not ALetter v) (λ n p. of_four _ refl) (λ n p. of_four _ refl) (λ n p. of_four _ refl) right r)
    (inner_cases (λ v. Always not Numeric v) (λ n p. of_four _ refl) (λ n p. of_four _ refl) (λ n p. of_four _ refl) right r)
    (inner_cases (λ v. Always not ExtendNumLet v) (λ n p. of_four _ refl) (λ n p. of_four _ refl) (λ n p. of_four _ refl) right r)
    left l

-- between `_` and a sign
after_low : (right : WordBreak) → is_sign right ≡ true → Always (λ b. b) ExtendNumLet right
after_low right is =
    sign_cases (Always (λ b. b) ExtendNumLet)
    (λ n p. of_four _ refl) (λ n p. of_four _ refl) (λ n p. of_four _ refl) (λ n p. of_four _ refl) (λ n p. of_four _ refl)
    (λ n p. of_four _ refl) (λ n p. of_four _ refl) (λ n p. of_four _ refl) (λ n p. of_four _ refl) (λ n p. of_four _ refl)
    right is

before_low : (left : WordBreak) → is_sign left ≡ true → Always (λ b. b) left ExtendNumLet
before_low left is =
    sign_cases (λ v. Always (λ b. b) v ExtendNumLet)
    (λ n p. of_four _ refl) (λ n p. of_four _ refl) (λ n p. of_four _ refl) (λ n p. of_four _ refl) (λ n p. of_four _ refl)
    (λ n p. of_four _ refl) (λ n p. of_four _ refl) (λ n p. of_four _ refl) (λ n p. of_four _ refl) (λ n p. of_four _ refl)
    left is

sign_kept : (value : WordBreak) → is_sign value ≡ true → is_ignored value ≡ false
sign_kept value is = sign_cases (λ v. is_ignored v ≡ false) refl refl refl refl refl refl refl refl refl refl value is

inner_kept : (value : WordBreak) → is_inner value ≡ true → is_ignored value ≡ false
inner_kept value is = inner_cases (λ v. is_ignored v ≡ false) refl refl refl value is

low_is : (value : WordBreak) → is_inner value ≡ true → is_extend_num_let value ≡ true → value ≡ ExtendNumLet
low_is value inner is = inner_cases (λ v. is_extend_num_let v ≡ true → v ≡ ExtendNumLet) (λ no. absurd (cc)) (λ no. absurd (cc)) (λ yes. refl) value inner is

-- ---- characters of ASCII

-- a sign, or a letter, a digit or `_`
abbrev is_kind : ℕ → WordBreak → Bool
is_kind c v = cond (is_cut c) (is_sign v) (is_inner v && (is_ascii_alphanumeric c || is_extend_num_let v))

ascii_kind : (c : ℕ) → c < 128 → is_kind c (word_break c) ≡ true
unfolding ucd_breaks
ascii_kind c below = Stepped-below word_break word_break_stepped is_kind 128 refl c below

sign_of : (c : ℕ) → c < 128 → is_cut c ≡ true → is_sign (word_break c) ≡ true
sign_of c below cut = ap (λ t. cond t (is_sign (word_break c)) (is_inner (word_break c) && (is_ascii_alphanumeric c || is_extend_num_let (word_break c)))) (sym cut) ∙ ascii_kind c below

inner_kind : (c : ℕ) → c < 128 → is_cut c ≡ false → (is_inner (word_break c) && (is_ascii_alphanumeric c || is_extend_num_let (word_break c))) ≡ true
inner_kind c below inner = ap (λ t. cond t (is_sign (word_break c)) (is_inner (word_break c) && (is_ascii_alphanumeric c || is_extend_num_let (word_break c)))) (sym inner) ∙ ascii_kind c below

inner_of : (c : ℕ) → c < 128 → is_cut c ≡ false → is_inner (word_break c) ≡ true
inner_of c below inner = (and_parts _ _ (inner_kind c below inner)).0

low_of : (c : ℕ) → c < 128 → is_cut c ≡ false → is_ascii_alphanumeric c ≡ false → word_break c ≡ ExtendNumLet
low_of c below inner low = low_is (word_break c) (inner_of c below inner) (ap (λ t. t || is_extend_num_let (word_break c)) (sym low) ∙ (and_parts _ _ (inner_kind c below inner)).1)

-- the value nearest to a place is that of the character there, if it is not passed over
pub nearest : (a : ℕ) (before : List ℕ) → is_ignored (word_break a) ≡ false → value_at (significant (a ∷ before)) 0 ≡ word_break a
unfolding significant
nearest a before kept = ap (λ t. value_at (cond t (significant before) (word_break a ∷ significant before)) 0) kept

-- the boundary after such a character
boundary : (a b : ℕ) (before after : List ℕ) → is_ignored (word_break a) ≡ false
    → is_word_break (a ∷ before) (b ∷ after) ≡ breaks_by (is_ah_letter (value_at (significant (a ∷ before)) 1)) (is_hebrew_letter (value_at (significant (a ∷ before)) 1)) (is_numeric (value_at (significant (a ∷ before)) 1)) (starts_with_half_flag (significant (a ∷ before))) (word_break a) (word_break b) (value_at (significant after) 0) (is_extended_pictographic b)
unfolding is_word_break
boundary a b before after kept =
    ap (λ v. unwrap_or (break_by_pair (word_break a) (word_break b) (is_extended_pictographic b)) (not (joins (value_at (significant (a ∷ before)) 1) v (word_break b) (value_at (significant after) 0) || joins_flag (a ∷ before) b))) (nearest a before kept)

module _ (a b : ℕ) (a_below : a < 128) (b_below : b < 128) (before after : List ℕ) where
  -- between letters, digits and `_` there is none
  pub no_boundary : is_cut a ≡ false → is_cut b ≡ false → is_word_break (a ∷ before) (b ∷ after) ≡ false
  no_boundary inner_a inner_b =
      boundary a b before after (inner_kept _ (inner_of a a_below inner_a)) ∙ not_true _ (inside _ _ (inner_of a a_below inner_a) (inner_of b b_below inner_b) _ _ _ _ _ _)

  -- where there is none between one of these and a sign, it is a letter or a digit
  pub named_before : is_cut a ≡ false → is_cut b ≡ true → is_word_break (a ∷ before) (b ∷ after) ≡ false → is_ascii_alphanumeric a ≡ true
  named_before inner sign none =
      elim (decided (is_ascii_alphanumeric a)) [
        | inl named ↦ named
        | inr low ↦ absurd (no_both _ none (boundary a b before after (inner_kept _ (inner_of a a_below inner)) ∙ subst (λ v. Always (λ t. t) v (word_break b)) (sym (low_of a a_below inner low)) (after_low (word_break b) (sign_of b b_below sign)) _ _ _ _ _ _))
      ]

  pub named_after : is_cut a ≡ true → is_cut b ≡ false → is_word_break (a ∷ before) (b ∷ after) ≡ false → is_ascii_alphanumeric b ≡ true
  named_after sign inner none =
      elim (decided (is_ascii_alphanumeric b)) [
        | inl named ↦ named
        | inr low ↦ absurd (no_both _ none (boundary a b before after (sign_kept _ (sign_of a a_below sign)) ∙ subst (λ v. Always (λ t. t) (word_break a) v) (sym (low_of b b_below inner low)) (before_low (word_break a) (sign_of a a_below sign)) _ _ _ _ _ _))
      ]
