-- A field that is written on two lines: how its lines are cut, and what is read of each.
-- For the proof of `a_folded_body_is_read_whole`.
use Rattle.std.proofs.Common.{◌≡◌, ℕ, suc, ◌==◌, ◌+◌, ◌-◌, ◌<◌, Bool, true, false, cond, not, ◌&&◌, ◌||◌, List, [], ◌∷◌, ◌++◌, Some, None, length, take, drop, get_or, map, refl, sym, ap, ◌∙◌, arith, append_assoc}
use Rattle.std.proofs.lemmas.Bool.{and_parts, or_parts}
use Rattle.std.specs.Prelude.{nat_eq}
use Rattle.std.specs.Char.{to_ascii_lowercase}
use Rattle.std.specs.Cmp.Lexicographic.{pointwise}
use Rattle.std.specs.List.{after_first, before_first, concat, list_all, list_any, onto_first, position_or_len, prefix_len, suffix_len, take_while}
use Rattle.std.specs.Str.Lines.{strip_carriage_return}
use Rattle.std.proofs.lemmas.Bool.Decides.{Decides-ltb, nat_tests}
use Rattle.std.proofs.lemmas.List.{append-nil, drop_at, get_or_at, length-append, take_all, take_at}
use Rattle.std.proofs.lemmas.List.Folds.{list_all_at, list_any-append, list_any_at}
use Rattle.std.proofs.lemmas.List.Sums.{suffix_len_is, take_while-cons}
use Rattle.nm_base.specs.Bounds.{is_white_space}
use Rattle.nm_header.specs.declared.header.HeaderField.{HeaderField}
use Rattle.nm_header.specs.Fields.{begins_field, continues, field_of, fields_in, folded_of, header_of, is_from_line, is_name, joined_of, name_of, without_from_line}
use Rattle.nm_header.specs.Laws.{folded, is_line_end}
use Rattle.nm_header.specs.HeaderLines.{header_lines, is_empty_line}
use Rattle.nm_text.specs.Lines.{content, is_line_feed, lines_of}
use Rattle.nm_text.specs.WhiteSpace.{is_printable, trimmed, trimmed_end}
use Rattle.nm_header.proofs.HeaderLemmas.{continues_begins_none}
use Rattle.nm_text.specs.Cuts.{is_byte}
use Rattle.std.proofs.Math.Bool.{and-false}

-- the first item that passes comes after those that don't
first_place : (p : ℕ → Bool) (front : List ℕ) (b : ℕ) (rest : List ℕ) → list_any p front ≡ false → p b ≡ true → position_or_len p (front ++ b ∷ rest) ≡ length front
first_place p [] b rest e passes = ap (λ v. cond (not v) (1 + position_or_len p rest) 0) passes
first_place p (x ∷ front) b rest e passes =
    let next : position_or_len p (front ++ b ∷ rest) ≡ length front = first_place p front b rest (or_parts (p x) (list_any p front) e).1 passes in
    ap (λ v. cond (not v) (1 + position_or_len p (front ++ b ∷ rest)) 0) (or_parts (p x) (list_any p front) e).0 ∙ (let more : 1 + position_or_len p (front ++ b ∷ rest) ≡ length (x ∷ front) = omega arith in more)

-- a text without LF, and an LF after it, are a line
line_cut : (front rest : List ℕ) → list_any is_line_feed front ≡ false → lines_of (front ++ 10 ∷ rest) ≡ (front ++ 10 ∷ []) ∷ lines_of rest
line_cut [] rest e = refl
line_cut (b ∷ front) rest e =
    let lines : List (List ℕ) = lines_of (front ++ 10 ∷ rest) in
    ap (λ v. cond v ((b ∷ []) ∷ lines) (onto_first b lines)) (or_parts (is_line_feed b) (list_any is_line_feed front) e).0 ∙ ap (onto_first b) (line_cut front rest (or_parts (is_line_feed b) (list_any is_line_feed front) e).1)

abbrev is_carriage_return : ℕ → Bool
is_carriage_return b = b == 13

last_is_none : (b : ℕ) (text : List ℕ) → list_any is_carriage_return (b ∷ text) ≡ false → is_carriage_return (get_or (b ∷ text) (length (b ∷ text) - 1) 0) ≡ false
last_is_none b text e =
    let last : ℕ = get_or (b ∷ text) (length (b ∷ text) - 1) 0 in
    elim (is_carriage_return last) as (λ v. is_carriage_return last ≡ v → v ≡ false) [
      | true ↦ λ h. absurd (let some : list_any is_carriage_return (b ∷ text) ≡ true = list_any_at is_carriage_return (b ∷ text) (length (b ∷ text) - 1) 0 (omega arith) h in let no : true ≡ false = sym some ∙ e in cc)
      | false ↦ λ h. refl
    ] refl

strip_none : (text : List ℕ) → list_any is_carriage_return text ≡ false → strip_carriage_return text ≡ text
strip_none [] e = refl
strip_none (b ∷ text) e = ap (λ v. cond v (take (length (b ∷ text) - 1) (b ∷ text)) (b ∷ text)) (last_is_none b text e)

content_of : (text : List ℕ) → list_any is_carriage_return text ≡ false → content (text ++ 10 ∷ []) ≡ text
content_of text e =
    let line : List ℕ = text ++ 10 ∷ [] in
    let size : length line ≡ length text + 1 = length-append text (10 ∷ []) in
    let last : length line - 1 ≡ length text = omega arith in
    ap (λ k. cond (is_line_feed (get_or line k 0)) (strip_carriage_return (take k line)) line) last ∙ ap (λ b. cond (is_line_feed b) (strip_carriage_return (take (length text) line)) line) (get_or_at text 10 [] 0 (length text) refl) ∙ ap strip_carriage_return (take_at text (10 ∷ []) (length text) refl) ∙ strip_none text e

no_line_feed : (text : List ℕ) → list_any is_line_end text ≡ false → list_any is_line_feed text ≡ false
no_line_feed [] e = refl
no_line_feed (b ∷ text) e =
    ap (λ v. v || list_any is_line_feed text) (or_parts (b == 13) (b == 10) (or_parts (is_line_end b) (list_any is_line_end text) e).0).1 ∙ no_line_feed text (or_parts (is_line_end b) (list_any is_line_end text) e).1

no_carriage_return : (text : List ℕ) → list_any is_line_end text ≡ false → list_any is_carriage_return text ≡ false
no_carriage_return [] e = refl
no_carriage_return (b ∷ text) e =
    ap (λ v. v || list_any is_carriage_return text) (or_parts (b == 13) (b == 10) (or_parts (is_line_end b) (list_any is_line_end text) e).0).0 ∙ no_carriage_return text (or_parts (is_line_end b) (list_any is_line_end text) e).1

-- a name's byte is neither white space nor a line's end
white_in_no_name : (b : ℕ) → is_white_space b ≡ true → is_printable b ≡ false
white_in_no_name b e = grind (arith, nat_tests)

no_end_byte : (b : ℕ) → is_printable b ≡ true → is_line_end b ≡ false
no_end_byte b e = grind (arith, nat_tests)

no_space_byte : (b : ℕ) → is_printable b ≡ true → nat_eq 32 b ≡ false
no_space_byte b e = grind (arith, nat_tests)

no_blank_byte : (b : ℕ) → is_printable b ≡ true → (b == 32 || b == 9) ≡ false
no_blank_byte b e = grind (arith, nat_tests)

no_end_in_name : (name : List ℕ) → list_all is_printable name ≡ true → list_any is_line_end name ≡ false
no_end_in_name [] e = refl
no_end_in_name (b ∷ name) e =
    ap (λ v. v || list_any is_line_end name) (no_end_byte b (and_parts (is_printable b) (list_all is_printable name) e).0) ∙ no_end_in_name name (and_parts (is_printable b) (list_all is_printable name) e).1

trimmed_name : (name : List ℕ) → list_all is_printable name ≡ true → trimmed_end name ≡ name
trimmed_name name e =
    let last : ℕ = get_or name (length name - 1) 0 in
    let none : 0 < length name → is_white_space last ≡ false = λ h. elim (is_white_space last) as (λ v. is_white_space last ≡ v → v ≡ false) [
      | true ↦ λ white. absurd (let no : list_all is_printable name ≡ false = list_all_at is_printable name (length name - 1) 0 (omega arith) (white_in_no_name last white) in let never : true ≡ false = sym e ∙ no in cc)
      | false ↦ λ black. refl
    ] refl in
    let suffix : suffix_len is_white_space name ≡ length name - length name = suffix_len_is is_white_space name (length name) 0 (omega arith) (λ k h g. absurd (omega arith)) none in
    let kept : length name - suffix_len is_white_space name ≡ length name = omega arith in
    ap (λ n. take n name) kept ∙ take_all (length name) name (omega arith)

-- a line that begins with a name and a colon is not the first of an mbox
not_from : (word name rest : List ℕ) → list_any (is_byte 58) word ≡ false → list_all is_printable name ≡ true → pointwise nat_eq (word ++ 32 ∷ []) (take (suc (length word)) (name ++ 58 ∷ rest)) ≡ false
not_from [] [] rest w e = refl
not_from [] (b ∷ name) rest w e = ap (λ v. v && true) (no_space_byte b (and_parts (is_printable b) (list_all is_printable name) e).0)
not_from (c ∷ word) [] rest w e = ap (λ v. v && pointwise nat_eq (word ++ 32 ∷ []) (take (suc (length word)) rest)) (or_parts (is_byte 58 c) (list_any (is_byte 58) word) w).0
not_from (c ∷ word) (b ∷ name) rest w e =
    ap (λ v. nat_eq c b && v) (not_from word name rest (or_parts (is_byte 58 c) (list_any (is_byte 58) word) w).1 (and_parts (is_printable b) (list_all is_printable name) e).1) ∙ and-false (nat_eq c b)

some_name : (name : List ℕ) → is_name name ≡ true → list_all is_printable name ≡ true
some_name name e = (and_parts (not (length name == 0)) (list_all is_printable name) e).1

no_continuing : (name rest : List ℕ) → is_name name ≡ true → continues (name ++ rest) ≡ false
no_continuing [] rest e = absurd (cc)
no_continuing (b ∷ name) rest e = no_blank_byte b (and_parts (is_printable b) (list_all is_printable name) (some_name (b ∷ name) e)).0

still_continues : (back rest : List ℕ) → continues back ≡ true → continues (back ++ rest) ≡ true
still_continues [] rest e = absurd (cc)
still_continues (b ∷ back) rest e = e

not_none : (b : ℕ) (text : List ℕ) → (length (b ∷ text) == 0) ≡ false
not_none b text = grind (arith, nat_tests)

some_bytes : (back : List ℕ) → continues back ≡ true → (length back == 0) ≡ false
some_bytes [] e = absurd (cc)
some_bytes (b ∷ back) e = not_none b back

some_before : (name rest : List ℕ) → (length (name ++ 58 ∷ rest) == 0) ≡ false
some_before [] rest = not_none 58 rest
some_before (b ∷ name) rest = not_none b (name ++ 58 ∷ rest)

-- a blank in front is trimmed
blank_trimmed : (text : List ℕ) → trimmed (32 ∷ text) ≡ trimmed text
blank_trimmed text =
    let n : ℕ = prefix_len is_white_space text in
    ap (λ k. trimmed_end (drop k (32 ∷ text))) (let next : 1 + n ≡ suc n = omega arith in next)

-- the place of the colon
module _ (name rest : List ℕ) (e : is_name name ≡ true) (colon : list_any (is_byte 58) name ≡ false) where
  place : position_or_len (is_byte 58) (name ++ 58 ∷ rest) ≡ length name
  place = first_place (is_byte 58) name 58 rest colon refl

  has_colon : list_any (is_byte 58) (name ++ 58 ∷ rest) ≡ true
  has_colon =
      list_any-append (is_byte 58) name (58 ∷ rest) ∙ ap (λ v. v || list_any (is_byte 58) (58 ∷ rest)) colon

  name_before : trimmed_end (before_first (is_byte 58) (name ++ 58 ∷ rest)) ≡ name
  name_before = ap trimmed_end (ap (λ n. take n (name ++ 58 ∷ rest)) place ∙ take_at name (58 ∷ rest) (length name) refl) ∙ trimmed_name name (some_name name e)

  rest_after : after_first (is_byte 58) (name ++ 58 ∷ rest) ≡ rest
  rest_after =
      ap (λ n. drop (n + 1) (name ++ 58 ∷ rest)) place ∙ ap (λ w. drop (length name + 1) w) (sym (append_assoc name (58 ∷ []) rest)) ∙ drop_at (name ++ 58 ∷ []) rest (length name + 1) (length-append name (58 ∷ []))

  begins : (line : List ℕ) → content line ≡ name ++ 58 ∷ rest → continues line ≡ false → begins_field line ≡ true
  begins line k none =
      ap (λ v. not v && (list_any (is_byte 58) (content line) && is_name (name_of line))) none ∙ ap (λ x. list_any (is_byte 58) x && is_name (trimmed_end (before_first (is_byte 58) x))) k ∙ ap (λ v. v && is_name (trimmed_end (before_first (is_byte 58) (name ++ 58 ∷ rest)))) has_colon ∙ ap is_name name_before ∙ e

abbrev named : List ℕ → List ℕ → HeaderField
named name body = record { name = map to_ascii_lowercase name; body = body }

-- a header of two lines, of which the second continues the field on the first
module _ (name front back : List ℕ) (e : is_name name ≡ true) (colon : list_any (is_byte 58) name ≡ false) (ends : list_any is_line_end (front ++ back) ≡ false) (blank : continues back ≡ true) where
  abbrev text : List ℕ
  text = name ++ 58 ∷ 32 ∷ front

  abbrev first : List ℕ
  first = text ++ 10 ∷ []

  abbrev second : List ℕ
  second = back ++ 10 ∷ []

  no_end_in_front : list_any is_line_end front ≡ false
  no_end_in_front = (or_parts (list_any is_line_end front) (list_any is_line_end back) (sym (list_any-append is_line_end front back) ∙ ends)).0

  no_end_in_back : list_any is_line_end back ≡ false
  no_end_in_back = (or_parts (list_any is_line_end front) (list_any is_line_end back) (sym (list_any-append is_line_end front back) ∙ ends)).1

  no_end_in_text : list_any is_line_end text ≡ false
  no_end_in_text = list_any-append is_line_end name (58 ∷ 32 ∷ front) ∙ ap (λ v. v || list_any is_line_end front) (no_end_in_name name (some_name name e)) ∙ no_end_in_front

  first_content : content first ≡ text
  first_content = content_of text (no_carriage_return text no_end_in_text)

  second_content : content second ≡ back
  second_content = content_of back (no_carriage_return back no_end_in_back)

  three_lines : lines_of (folded name front back) ≡ first ∷ second ∷ (10 ∷ []) ∷ []
  three_lines =
      line_cut text (back ++ 10 ∷ 10 ∷ []) (no_line_feed text no_end_in_text) ∙ ap (λ l. first ∷ l) (line_cut back (10 ∷ []) (no_line_feed back no_end_in_back) ∙ ap (λ l. second ∷ l) (line_cut [] [] refl))

  abbrev is_some_line : List ℕ → Bool
  is_some_line line = not (is_empty_line line)

  first_is_some : is_some_line first ≡ true
  first_is_some = ap (λ x. not (length x == 0)) first_content ∙ ap not (some_before name (32 ∷ front))

  second_is_some : is_some_line second ≡ true
  second_is_some = ap (λ x. not (length x == 0)) second_content ∙ ap not (some_bytes back blank)

  two_lines : header_lines (folded name front back) ≡ first ∷ second ∷ []
  two_lines =
      ap (take_while is_some_line) three_lines ∙ take_while-cons is_some_line first (second ∷ (10 ∷ []) ∷ []) ∙ ap (λ v. cond v (first ∷ take_while is_some_line (second ∷ (10 ∷ []) ∷ [])) []) first_is_some ∙ ap (λ l. first ∷ l) (take_while-cons is_some_line second ((10 ∷ []) ∷ []) ∙ ap (λ v. cond v (second ∷ take_while is_some_line ((10 ∷ []) ∷ [])) []) second_is_some)

  no_mbox : is_from_line first ≡ false
  no_mbox = ap is_from_line (append_assoc name (58 ∷ 32 ∷ front) (10 ∷ [])) ∙ not_from (70 ∷ 114 ∷ 111 ∷ 109 ∷ []) name (32 ∷ (front ++ 10 ∷ [])) refl (some_name name e)

  second_continues : continues second ≡ true
  second_continues = still_continues back (10 ∷ []) blank

  first_begins : begins_field first ≡ true
  first_begins = begins name (32 ∷ front) e colon first first_content (ap continues (append_assoc name (58 ∷ 32 ∷ front) (10 ∷ [])) ∙ no_continuing name (58 ∷ 32 ∷ (front ++ 10 ∷ [])) e)

  second_folded : folded_of (second ∷ []) ≡ back
  second_folded = ap (λ l. concat (map content l)) (take_while-cons continues second [] ∙ ap (λ v. cond v (second ∷ []) []) second_continues) ∙ append-nil (content second) ∙ second_content

  body_joined : joined_of first (second ∷ []) ≡ 32 ∷ (front ++ back)
  body_joined = ap (λ x. after_first (is_byte 58) x ++ folded_of (second ∷ [])) first_content ∙ ap (λ x. x ++ folded_of (second ∷ [])) (rest_after name (32 ∷ front) e colon) ∙ ap (λ x. 32 ∷ (front ++ x)) second_folded

  field_read : field_of first (second ∷ []) ≡ named name (trimmed (front ++ back))
  field_read =
      ap (λ n. named n (trimmed (joined_of first (second ∷ [])))) (ap (λ x. trimmed_end (before_first (is_byte 58) x)) first_content ∙ name_before name (32 ∷ front) e colon) ∙ ap (named name) (ap trimmed body_joined ∙ blank_trimmed (front ++ back))

  pub one_field : (header_of (folded name front back)).list ≡ named name (trimmed (front ++ back)) ∷ []
  one_field =
      ap (λ l. fields_in (without_from_line l)) two_lines ∙ ap (λ v. fields_in (cond v (second ∷ []) (first ∷ second ∷ []))) no_mbox ∙ ap (λ v. cond v (field_of first (second ∷ []) ∷ fields_in (second ∷ [])) (fields_in (second ∷ []))) first_begins ∙ ap (λ v. field_of first (second ∷ []) ∷ cond v (field_of second [] ∷ []) []) (continues_begins_none second second_continues) ∙ ap (λ f. f ∷ []) field_read

pub whole_body : (name front back : List ℕ) → is_name name ≡ true → list_any (is_byte 58) name ≡ false → list_any is_line_end (front ++ back) ≡ false → continues back ≡ true → trimmed (front ++ back) ≡ front ++ back → (header_of (folded name front back)).list ≡ (record { name = map to_ascii_lowercase name; body = front ++ back }) ∷ []
whole_body name front back e colon ends blank whole =
    one_field name front back e colon ends blank ∙ ap (λ body. named name body ∷ []) whole
