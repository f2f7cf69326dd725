-- In a text of ASCII the pieces of its words are what is between signs and has a letter or a digit.
-- For the proof of `add_line`.
use Rattle.std.proofs.Common.{◌≡◌, ℕ, suc, zero, ◌<◌, ◌||◌, ◌==◌, not, Bool, true, false, cond, List, [], ◌∷◌, ◌++◌, inl, inr, ◌⊎◌, refl, sym, ap, ◌∙◌, map, filter, encode_utf8_all, IsAscii}
use Rattle.std.specs.Char.{is_ascii_alphanumeric}
use Rattle.std.specs.List.{flat_map, list_any, onto_first, slice_split}
use Rattle.std.proofs.lemmas.Bool.{and_parts}
use Rattle.std.proofs.lemmas.List.Elements.{filter-append}
use Rattle.std.proofs.lemmas.Str.{chars-IsAscii}
use Rattle.std.proofs.lemmas.Str.Ascii.{IsAscii-nil, IsAscii-cons, encodes-IsAscii}
use Rattle.unicode_segmentation.specs.Segments.{cut, prepend, segments, has_alphanumeric, is_alphanumeric}
use Rattle.unicode_segmentation.specs.Word.{is_word_break}
use Rattle.unicode_segmentation.proofs.AsciiLemmas.{is_alphanumeric_ascii}
use Rattle.nm_base.specs.Word.{is_word}
use Rattle.nm_words.specs.Words.{folded, is_cut, is_named, words_in, words_of}
use Rattle.nm_words.proofs.BreakLemmas.{decided, no_both, no_boundary, named_before, named_after}
use Rattle.nm_words.proofs.FoldLemmas.{folded_ascii}

abbrev is_filled : List ℕ → Bool
is_filled [] = false
is_filled (c ∷ cs) = true

-- the pieces of the segments that have a letter or a digit, but the empty ones
abbrev kept : List (List ℕ) → List (List ℕ)
kept segments = filter is_filled (flat_map (slice_split is_cut) (filter is_named segments))

sign_unnamed : (c : ℕ) → is_cut c ≡ true → is_ascii_alphanumeric c ≡ false
sign_unnamed c sign = elim (decided (is_ascii_alphanumeric c)) [ inr low ↦ low | inl named ↦ absurd (no_both _ (ap (λ t. not (t || (c == 95))) named) (and_parts _ _ sign).1) ]

filled_named : (piece : List ℕ) → is_named piece ≡ true → is_filled piece ≡ true
filled_named [] named = absurd (cc)
filled_named (c ∷ cs) named = refl

or_true : (a : Bool) → (a || true) ≡ true
or_true true = refl
or_true false = refl

or_none : (a b : Bool) → (a || b) ≡ false → (a ≡ false) × (b ≡ false)
or_none true b none = absurd (cc)
or_none false b none = (refl, none)

or_swap : (a b c : Bool) → (a || (b || c)) ≡ ((a || b) || c)
or_swap true b c = refl
or_swap false b c = refl

-- what splits into parts is named where one of them is
onto_named : (c : ℕ) (s : List ℕ) (parts : List (List ℕ)) → is_named s ≡ list_any is_named parts → (is_ascii_alphanumeric c || is_named s) ≡ list_any is_named (onto_first c parts)
onto_named c s [] is = ap (λ t. is_ascii_alphanumeric c || t) is ∙ or_swap (is_ascii_alphanumeric c) false false
onto_named c s (part ∷ parts) is = ap (λ t. is_ascii_alphanumeric c || t) is ∙ or_swap (is_ascii_alphanumeric c) (is_named part) (list_any is_named parts)

split_named_by : (c : ℕ) (s : List ℕ) (test : Bool) → is_cut c ≡ test → is_named s ≡ list_any is_named (slice_split is_cut s)
    → (is_ascii_alphanumeric c || is_named s) ≡ list_any is_named (cond test ([] ∷ slice_split is_cut s) (onto_first c (slice_split is_cut s)))
split_named_by c s true sign is = ap (λ t. t || is_named s) (sign_unnamed c sign) ∙ is
split_named_by c s false sign is = onto_named c s (slice_split is_cut s) is

split_named : (s : List ℕ) → is_named s ≡ list_any is_named (slice_split is_cut s)
split_named [] = refl
split_named (c ∷ s) = split_named_by c s (is_cut c) refl (split_named s)

none_named_by : (part : List ℕ) (parts : List (List ℕ)) (test : Bool) → test ≡ false → filter is_named parts ≡ [] → cond test (part ∷ filter is_named parts) (filter is_named parts) ≡ []
none_named_by part parts true none more = absurd (cc)
none_named_by part parts false none more = more

none_named : (parts : List (List ℕ)) → list_any is_named parts ≡ false → filter is_named parts ≡ []
none_named [] none = refl
none_named (part ∷ parts) none = let n = or_none (is_named part) (list_any is_named parts) none in none_named_by part parts (is_named part) n.0 (none_named parts n.1)

-- one part more at the front
more_named_by : (part : List ℕ) (test : Bool) (xs ys more : List (List ℕ)) → xs ≡ ys ++ more → cond test (part ∷ xs) xs ≡ cond test (part ∷ ys) ys ++ more
more_named_by part true xs ys more is = ap (λ l. part ∷ l) is
more_named_by part false xs ys more is = is

no_first : (c : ℕ) (cs : List ℕ) → ◌≡◌ {A = List ℕ} (c ∷ cs) [] → ⊥
no_first c cs is = absurd (cc)

-- ---- a text and the pieces of it

-- a text that begins with a character, cut into segments, and split at signs: the first segment begins with the first part
record IsCutUp (first : ℕ) (pieces parts : List (List ℕ)) : Type 0 where
  segment : List ℕ
  others : List (List ℕ)
  part : List ℕ
  rest : List (List ℕ)
  within : List (List ℕ)
  pieces_are : pieces ≡ segment ∷ others
  parts_are : parts ≡ part ∷ rest
  split : slice_split is_cut segment ≡ part ∷ within
  later : filter is_named rest ≡ filter is_named within ++ kept others
  named : filter is_filled within ≡ filter is_named within
  ended : (within ≡ []) ⊎ ((part ≡ []) ⊎ (is_named part ≡ true))
  begins_empty : is_cut first ≡ true → part ≡ []
  begins : is_cut first ≡ false → (more : List ℕ) × (part ≡ first ∷ more)

filled_same : (part : List ℕ) (within : List (List ℕ)) → (within ≡ []) ⊎ ((part ≡ []) ⊎ (is_named part ≡ true)) → list_any is_named (part ∷ within) ≡ true → is_filled part ≡ is_named part
filled_same part within (inl alone) any =
    let here : is_named part ≡ true = or_false (is_named part) (ap (λ l. is_named part || list_any is_named l) (sym alone) ∙ any) in filled_named part here ∙ sym here
  where
    or_false : (a : Bool) → (a || false) ≡ true → a ≡ true
    or_false true is = refl
    or_false false is = is
filled_same part within (inr (inl empty)) any = ap is_filled empty ∙ sym (ap is_named empty)
filled_same part within (inr (inr here)) any = filled_named part here ∙ sym here

front_same : (part : List ℕ) (xs ys : List (List ℕ)) → is_filled part ≡ is_named part → filter is_filled xs ≡ filter is_named ys → cond (is_filled part) (part ∷ filter is_filled xs) (filter is_filled xs) ≡ cond (is_named part) (part ∷ filter is_named ys) (filter is_named ys)
front_same part xs ys same is = ap (λ t. cond t (part ∷ filter is_filled xs) (filter is_filled xs)) same ∙ ap (λ l. cond (is_named part) (part ∷ l) l) is

whole_by : (first : ℕ) (pieces parts : List (List ℕ)) (up : IsCutUp first pieces parts) (test : Bool) → is_named up.segment ≡ test
    → filter is_filled (flat_map (slice_split is_cut) (cond test (up.segment ∷ filter is_named up.others) (filter is_named up.others))) ≡ filter is_named (up.part ∷ up.rest)
whole_by first pieces parts up true is =
    let any : list_any is_named (up.part ∷ up.within) ≡ true = ap (list_any is_named) (sym up.split) ∙ sym (split_named up.segment) ∙ is in
    filter-append is_filled (slice_split is_cut up.segment) (flat_map (slice_split is_cut) (filter is_named up.others))
    ∙ ap (λ l. filter is_filled l ++ kept up.others) up.split
    ∙ ap (λ l. l ++ kept up.others) (front_same up.part up.within up.within (filled_same up.part up.within up.ended any) up.named)
    ∙ sym (more_named_by up.part (is_named up.part) (filter is_named up.rest) (filter is_named up.within) (kept up.others) up.later)
whole_by first pieces parts up false is =
    let none = or_none (is_named up.part) (list_any is_named up.within) (ap (list_any is_named) (sym up.split) ∙ sym (split_named up.segment) ∙ is) in
    ap (λ l. l ++ kept up.others) (sym (none_named up.within none.1)) ∙ sym up.later ∙ ap (λ t. cond t (up.part ∷ filter is_named up.rest) (filter is_named up.rest)) (sym none.0)

-- of all segments as many pieces are kept as parts are named, and the same
whole : (first : ℕ) (pieces parts : List (List ℕ)) → IsCutUp first pieces parts → kept pieces ≡ filter is_named parts
whole first pieces parts up = ap kept up.pieces_are ∙ whole_by first pieces parts up (is_named up.segment) refl ∙ ap (filter is_named) (sym up.parts_are)

-- ---- one character more at the front

module _ (c d : ℕ) (pieces parts : List (List ℕ)) (up : IsCutUp d pieces parts) where
  -- where a segment ends after it
  broken : (test : Bool) → is_cut c ≡ test → (is_cut c ≡ false → is_cut d ≡ true) → IsCutUp c ((c ∷ []) ∷ pieces) (cond test ([] ∷ parts) (onto_first c parts))
  broken true sign next = record {
    segment = c ∷ [];
    others = pieces;
    part = [];
    rest = parts;
    within = [] ∷ [];
    pieces_are = refl;
    parts_are = refl;
    split = ap (λ t. cond t ([] ∷ ([] ∷ [])) ((c ∷ []) ∷ [])) sign;
    later = sym (whole d pieces parts up);
    named = refl;
    ended = inr (inl refl);
    begins_empty = λ _. refl;
    begins = λ inner. absurd (no_both (is_cut c) inner sign);
  }
  broken false inner next =
      let empty : up.part ≡ [] = up.begins_empty (next inner) in record {
        segment = c ∷ [];
        others = pieces;
        part = c ∷ [];
        rest = up.rest;
        within = [];
        pieces_are = refl;
        parts_are = ap (onto_first c) up.parts_are ∙ ap (λ (l : List ℕ). (c ∷ l) ∷ up.rest) empty;
        split = ap (λ t. cond t ([] ∷ ([] ∷ [])) ((c ∷ []) ∷ [])) inner;
        later = sym (whole d pieces parts up ∙ ap (filter is_named) up.parts_are ∙ ap (λ (l : List ℕ). filter is_named (l ∷ up.rest)) empty);
        named = refl;
        ended = inl refl;
        begins_empty = λ sign. absurd (no_both (is_cut c) inner sign);
        begins = λ _. ([], refl);
      }

  -- where it goes on
  unbroken : (test : Bool) → is_cut c ≡ test → (is_cut c ≡ true → is_cut d ≡ false → is_ascii_alphanumeric d ≡ true) → (is_cut c ≡ false → is_cut d ≡ true → is_ascii_alphanumeric c ≡ true)
      → IsCutUp c (prepend (c ∷ []) pieces) (cond test ([] ∷ parts) (onto_first c parts))
  unbroken true sign named_next named_here =
      let first_same : is_filled up.part ≡ is_named up.part =
      elim (decided (is_cut d)) [
        | inl sign_next ↦ ap is_filled (up.begins_empty sign_next) ∙ sym (ap is_named (up.begins_empty sign_next))
        | inr inner_next ↦
            let more = up.begins inner_next in
            ap is_filled more.1 ∙ sym (ap is_named more.1 ∙ ap (λ t. t || is_named more.0) (named_next sign inner_next))
      ]
      in record {
        segment = c ∷ up.segment;
        others = up.others;
        part = [];
        rest = parts;
        within = up.part ∷ up.within;
        pieces_are = ap (prepend (c ∷ [])) up.pieces_are;
        parts_are = refl;
        split = ap (λ t. cond t ([] ∷ slice_split is_cut up.segment) (onto_first c (slice_split is_cut up.segment))) sign ∙ ap (λ l. [] ∷ l) up.split;
        later = ap (filter is_named) up.parts_are ∙ more_named_by up.part (is_named up.part) (filter is_named up.rest) (filter is_named up.within) (kept up.others) up.later;
        named = front_same up.part up.within up.within first_same up.named;
        ended = inr (inl refl);
        begins_empty = λ _. refl;
        begins = λ inner. absurd (no_both (is_cut c) inner sign);
      }
  unbroken false inner named_next named_here = record {
    segment = c ∷ up.segment;
    others = up.others;
    part = c ∷ up.part;
    rest = up.rest;
    within = up.within;
    pieces_are = ap (prepend (c ∷ [])) up.pieces_are;
    parts_are = ap (onto_first c) up.parts_are;
    split = ap (λ t. cond t ([] ∷ slice_split is_cut up.segment) (onto_first c (slice_split is_cut up.segment))) inner ∙ ap (onto_first c) up.split;
    later = up.later;
    named = up.named;
    ended = elim up.ended as (λ _. (up.within ≡ []) ⊎ ((c ∷ up.part ≡ []) ⊎ (is_named (c ∷ up.part) ≡ true))) [
      | inl alone ↦ inl alone
      | inr (inl empty) ↦ elim (decided (is_cut d)) [
        | inl sign_next ↦ inr (inr (ap (λ t. t || is_named up.part) (named_here inner sign_next)))
        | inr inner_next ↦ let more = up.begins inner_next in absurd (no_first d more.0 (sym more.1 ∙ empty))
      ]
      | inr (inr named) ↦ inr (inr (ap (λ t. is_ascii_alphanumeric c || t) named ∙ or_true (is_ascii_alphanumeric c)))
    ];
    begins_empty = λ sign. absurd (no_both (is_cut c) inner sign);
    begins = λ _. (up.part, refl);
  }

-- ---- a whole text

abbrev Below : List ℕ → Type 0
Below [] = Unit {0}
Below (c ∷ cs) = (c < 128) × Below cs

below_from : (text : List ℕ) → IsAscii text → Below text
below_from [] ascii = tt
below_from (c ∷ cs) ascii = (ascii zero, below_from cs (λ i. ascii (suc i)))

to_ascii : (text : List ℕ) → Below text → IsAscii text
to_ascii [] below = IsAscii-nil
to_ascii (c ∷ cs) below = IsAscii-cons c cs below.0 (to_ascii cs below.1)

abbrev AllBelow : List (List ℕ) → Type 0
AllBelow [] = Unit {0}
AllBelow (piece ∷ pieces) = Below piece × AllBelow pieces

one_up : (c : ℕ) (test : Bool) → is_cut c ≡ test → IsCutUp c ((c ∷ []) ∷ []) (cond test ([] ∷ ([] ∷ [])) (onto_first c ([] ∷ [])))
one_up c true sign = record {
  segment = c ∷ [];
  others = [];
  part = [];
  rest = [] ∷ [];
  within = [] ∷ [];
  pieces_are = refl;
  parts_are = refl;
  split = ap (λ t. cond t ([] ∷ ([] ∷ [])) ((c ∷ []) ∷ [])) sign;
  later = refl;
  named = refl;
  ended = inr (inl refl);
  begins_empty = λ _. refl;
  begins = λ inner. absurd (no_both (is_cut c) inner sign);
}
one_up c false inner = record {
  segment = c ∷ [];
  others = [];
  part = c ∷ [];
  rest = [];
  within = [];
  pieces_are = refl;
  parts_are = refl;
  split = ap (λ t. cond t ([] ∷ ([] ∷ [])) ((c ∷ []) ∷ [])) inner;
  later = refl;
  named = refl;
  ended = inl refl;
  begins_empty = λ sign. absurd (no_both (is_cut c) inner sign);
  begins = λ _. ([], refl);
}

module _ (c d : ℕ) (before ds : List ℕ) (c_below : c < 128) (d_below : d < 128) (pieces parts : List (List ℕ)) (up : IsCutUp d pieces parts) where
  at_boundary : (test : Bool) → is_word_break (c ∷ before) (d ∷ (ds ++ [])) ≡ test → IsCutUp c (cond test ((c ∷ []) ∷ pieces) (prepend (c ∷ []) pieces)) (cond (is_cut c) ([] ∷ parts) (onto_first c parts))
  at_boundary true here =
      broken c d pieces parts up (is_cut c) refl
      (λ inner. elim (decided (is_cut d)) [ inl sign ↦ sign | inr inner_next ↦ absurd (no_both _ (no_boundary c d c_below d_below before (ds ++ []) inner inner_next) here) ])
  at_boundary false none =
      unbroken c d pieces parts up (is_cut c) refl
      (λ sign inner. named_after c d c_below d_below before (ds ++ []) sign inner none)
      (λ inner sign. named_before c d c_below d_below before (ds ++ []) inner sign none)

cut_up : (c : ℕ) (cs before : List ℕ) → Below (c ∷ cs) → IsCutUp c (cut is_word_break before (c ∷ cs) []) (slice_split is_cut (c ∷ cs))
unfolding cut is_word_break
cut_up c [] before below = one_up c (is_cut c) refl
cut_up c (d ∷ ds) before below = at_boundary c d before ds below.0 below.1.0 _ _ (cut_up d ds (c ∷ before) below.1) (is_word_break (c ∷ before) (d ∷ (ds ++ []))) refl

cut_kept : (cs : List ℕ) → Below cs → kept (cut is_word_break [] cs []) ≡ filter is_named (slice_split is_cut cs)
unfolding cut
cut_kept [] below = refl
cut_kept (c ∷ cs) below = whole c _ _ (cut_up c cs [] below)

-- the pieces of ASCII are of ASCII
prepend_below : (c : ℕ) (pieces : List (List ℕ)) → c < 128 → AllBelow pieces → AllBelow (prepend (c ∷ []) pieces)
prepend_below c [] here below = ((here, tt), tt)
prepend_below c (piece ∷ pieces) here below = ((here, below.0), below.1)

cut_below_by : (c : ℕ) (test : Bool) (pieces : List (List ℕ)) → c < 128 → AllBelow pieces → AllBelow (cond test ((c ∷ []) ∷ pieces) (prepend (c ∷ []) pieces))
cut_below_by c true pieces here below = ((here, tt), below)
cut_below_by c false pieces here below = prepend_below c pieces here below

cut_below : (cs before : List ℕ) → Below cs → AllBelow (cut is_word_break before cs [])
unfolding cut
cut_below [] before below = tt
cut_below (c ∷ cs) before below = cut_below_by c (is_word_break (c ∷ before) (cs ++ [])) (cut is_word_break (c ∷ before) cs []) below.0 (cut_below cs (c ∷ before) below.1)

spelled : (pieces : List (List ℕ)) → AllBelow pieces → map encode_utf8_all pieces ≡ pieces
spelled [] below = refl
spelled (piece ∷ pieces) below = ap (λ p. p ∷ map encode_utf8_all pieces) (encodes-IsAscii piece (to_ascii piece below.0)) ∙ ap (λ l. piece ∷ l) (spelled pieces below.1)

any_named : (cs : List ℕ) → Below cs → list_any is_alphanumeric cs ≡ list_any is_ascii_alphanumeric cs
any_named [] below = refl
any_named (c ∷ cs) below = ap (λ t. t || list_any is_alphanumeric cs) (sym (is_alphanumeric_ascii c below.0)) ∙ ap (λ t. is_ascii_alphanumeric c || t) (any_named cs below.1)

has_named : (piece : List ℕ) → Below piece → has_alphanumeric piece ≡ is_named piece
unfolding has_alphanumeric
has_named piece below = ap (list_any is_alphanumeric) (chars-IsAscii piece (to_ascii piece below)) ∙ any_named piece below

all_named : (pieces : List (List ℕ)) → AllBelow pieces → filter has_alphanumeric pieces ≡ filter is_named pieces
all_named [] below = refl
all_named (piece ∷ pieces) below =
    ap (λ t. cond t (piece ∷ filter has_alphanumeric pieces) (filter has_alphanumeric pieces)) (has_named piece below.0) ∙ ap (λ l. cond (is_named piece) (piece ∷ l) l) (all_named pieces below.1)

-- an empty piece gives no word
folded_empty : folded [] ≡ []
folded_empty = folded_ascii [] IsAscii-nil

filled_words : (pieces : List (List ℕ)) → words_in (filter is_filled pieces) ≡ words_in pieces
filled_words [] = refl
filled_words ([] ∷ pieces) = filled_words pieces ∙ sym (ap (λ p. cond (is_word p) (p ∷ words_in pieces) (words_in pieces)) folded_empty)
filled_words ((c ∷ cs) ∷ pieces) = ap (λ l. cond (is_word (folded (c ∷ cs))) (folded (c ∷ cs) ∷ l) l) (filled_words pieces)

-- the words of a text of ASCII
pub ascii_words : (text : List ℕ) → IsAscii text → words_of text ≡ words_in (filter is_named (slice_split is_cut text))
unfolding segments
ascii_words text ascii =
    let below = below_from text ascii in
    let pieces = cut is_word_break [] text [] in
    let small = cut_below text [] below in
    ap (λ cs. words_in (flat_map (slice_split is_cut) (filter has_alphanumeric (map encode_utf8_all (cut is_word_break [] cs []))))) (chars-IsAscii text ascii)
    ∙ ap (λ l. words_in (flat_map (slice_split is_cut) l)) (ap (filter has_alphanumeric) (spelled pieces small) ∙ all_named pieces small)
    ∙ sym (filled_words (flat_map (slice_split is_cut) (filter is_named pieces)))
    ∙ ap words_in (cut_kept text below)
