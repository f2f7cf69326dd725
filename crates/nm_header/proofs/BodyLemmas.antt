-- A body has no LF: a line has none before its end, and nothing else goes into a body.
-- For the proof of `a_body_has_no_line_feed`.
use Rattle.std.proofs.Common.{◌≡◌, ℕ, zero, suc, ◌+◌, ◌-◌, Bool, true, false, cond, not, ◌&&◌, ◌||◌, ◌==◌, List, [], ◌∷◌, ◌++◌, length, take, drop, get_or, map, refl, sym, ap, ◌∙◌, arith}
use Rattle.std.proofs.lemmas.Bool.{or_parts}
use Rattle.std.specs.List.{after_first, concat, list_all, list_any, onto_first, position_or_len, prefix_len, suffix_len, take_while}
use Rattle.std.specs.Str.Lines.{strip_carriage_return}
use Rattle.std.proofs.lemmas.List.{take_all}
use Rattle.std.proofs.lemmas.List.Folds.{list_any-append, list_any_more}
use Rattle.nm_base.specs.Bounds.{is_white_space}
use Rattle.nm_header.specs.declared.header.HeaderField.{HeaderField}
use Rattle.nm_header.specs.Fields.{begins_field, continues, field_of, fields_in, folded_of, header_of, is_from_line, joined_of, without_from_line}
use Rattle.nm_header.specs.HeaderLines.{header_lines, is_empty_line}
use Rattle.nm_text.specs.Lines.{content, is_line_feed, is_one_line, lines_of}
use Rattle.nm_text.specs.WhiteSpace.{trimmed}
use Rattle.nm_text.specs.Cuts.{is_byte}

-- what no item of a list passes, none of a part of it passes
any_take : {X : Type 0} (p : X → Bool) (n : ℕ) (xs : List X) → list_any p xs ≡ false → list_any p (take n xs) ≡ false
any_take p zero xs e = refl
any_take p (suc n) [] e = refl
any_take p (suc n) (x ∷ xs) e =
    ap (λ v. v || list_any p (take n xs)) (or_parts (p x) (list_any p xs) e).0 ∙ any_take p n xs (or_parts (p x) (list_any p xs) e).1

any_drop : (p : ℕ → Bool) (n : ℕ) (xs : List ℕ) → list_any p xs ≡ false → list_any p (drop n xs) ≡ false
any_drop p zero xs e = e
any_drop p (suc n) [] e = refl
any_drop p (suc n) (x ∷ xs) e = any_drop p n xs (or_parts (p x) (list_any p xs) e).1

any_both : (p : ℕ → Bool) (xs ys : List ℕ) → list_any p xs ≡ false → list_any p ys ≡ false → list_any p (xs ++ ys) ≡ false
any_both p xs ys e f = list_any-append p xs ys ∙ ap (λ v. v || list_any p ys) e ∙ f

strip_free : (line : List ℕ) → list_any is_line_feed line ≡ false → list_any is_line_feed (strip_carriage_return line) ≡ false
strip_free line e =
    elim (get_or line (length line - 1) 0 == 13) as (λ v. list_any is_line_feed (cond v (take (length line - 1) line) line) ≡ false) [
      | true ↦ any_take is_line_feed (length line - 1) line e
      | false ↦ e
    ]

-- a line that has none before its last byte has none without its end
content_free : (b : ℕ) (line : List ℕ) → list_any is_line_feed (take (length line) (b ∷ line)) ≡ false → list_any is_line_feed (content (b ∷ line)) ≡ false
content_free b line e =
    let whole : List ℕ = b ∷ line in
    let last : length whole - 1 ≡ length line = omega arith in
    let front : list_any is_line_feed (take (length whole - 1) whole) ≡ false = ap (λ n. list_any is_line_feed (take n whole)) last ∙ e in
    elim (is_line_feed (get_or whole (length whole - 1) 0)) as (λ v. is_line_feed (get_or whole (length whole - 1) 0) ≡ v → list_any is_line_feed (cond v (strip_carriage_return (take (length whole - 1) whole)) whole) ≡ false) [
      | true ↦ λ h. strip_free (take (length whole - 1) whole) front
      | false ↦ λ h.
          let all : take (length whole - 1 + 1) whole ≡ whole = take_all (length whole - 1 + 1) whole (omega arith) in
          ap (list_any is_line_feed) (sym all) ∙ list_any_more is_line_feed whole (length whole - 1) 0 (omega arith) ∙ ap (λ v. v || is_line_feed (get_or whole (length whole - 1) 0)) front ∙ h
    ] refl

-- a line has an LF before its last byte
abbrev inner : List ℕ → Bool
inner [] = false
inner (b ∷ line) = list_any is_line_feed (take (length line) (b ∷ line))

inner_more : (b : ℕ) (line : List ℕ) → is_line_feed b ≡ false → inner line ≡ false → inner (b ∷ line) ≡ false
inner_more b [] e f = refl
inner_more b (c ∷ line) e f = ap (λ v. v || list_any is_line_feed (take (length line) (c ∷ line))) e ∙ f

inner_onto : (b : ℕ) (lines : List (List ℕ)) → is_line_feed b ≡ false → list_any inner lines ≡ false → list_any inner (onto_first b lines) ≡ false
inner_onto b [] e f = refl
inner_onto b (line ∷ lines) e f =
    ap (λ v. v || list_any inner lines) (inner_more b line e (or_parts (inner line) (list_any inner lines) f).0) ∙ (or_parts (inner line) (list_any inner lines) f).1

none_inner : (bytes : List ℕ) → list_any inner (lines_of bytes) ≡ false
none_inner [] = refl
none_inner (b ∷ bytes) =
    elim (is_line_feed b) as (λ v. is_line_feed b ≡ v → list_any inner (cond v ((b ∷ []) ∷ lines_of bytes) (onto_first b (lines_of bytes))) ≡ false) [
      | true ↦ λ e. none_inner bytes
      | false ↦ λ e. inner_onto b (lines_of bytes) e (none_inner bytes)
    ] refl

-- a line has an LF that is not its end
abbrev broken : List ℕ → Bool
broken line = list_any is_line_feed (content line)

not_broken : (line : List ℕ) → inner line ≡ false → broken line ≡ false
not_broken [] e = refl
not_broken (b ∷ line) e = content_free b line e

none_broken : (lines : List (List ℕ)) → list_any inner lines ≡ false → list_any broken lines ≡ false
none_broken [] e = refl
none_broken (line ∷ lines) e =
    ap (λ v. v || list_any broken lines) (not_broken line (or_parts (inner line) (list_any inner lines) e).0) ∙ none_broken lines (or_parts (inner line) (list_any inner lines) e).1

no_line_broken : (bytes : List ℕ) → list_any broken (lines_of bytes) ≡ false
no_line_broken bytes = none_broken (lines_of bytes) (none_inner bytes)

joined_free : (lines : List (List ℕ)) → list_any broken lines ≡ false → list_any is_line_feed (concat (map content lines)) ≡ false
joined_free [] e = refl
joined_free (line ∷ lines) e =
    any_both is_line_feed (content line) (concat (map content lines)) (or_parts (broken line) (list_any broken lines) e).0 (joined_free lines (or_parts (broken line) (list_any broken lines) e).1)

trimmed_free : (text : List ℕ) → list_any is_line_feed text ≡ false → list_any is_line_feed (trimmed text) ≡ false
trimmed_free text e =
    let left : List ℕ = drop (prefix_len is_white_space text) text in
    any_take is_line_feed (length left - suffix_len is_white_space left) left (any_drop is_line_feed (prefix_len is_white_space text) text e)

body_free : (line : List ℕ) (more : List (List ℕ)) → broken line ≡ false → list_any broken more ≡ false → list_any is_line_feed (trimmed (joined_of line more)) ≡ false
body_free line more e f =
    trimmed_free (joined_of line more) (any_both is_line_feed (after_first (is_byte 58) (content line)) (folded_of more) (any_drop is_line_feed (position_or_len (is_byte 58) (content line) + 1) (content line) e) (joined_free (take_while continues more) (any_take broken (prefix_len continues more) more f)))

abbrev whole_fields : List HeaderField → Bool
whole_fields fields = list_all (λ field. is_one_line field.body) fields

fields_free : (lines : List (List ℕ)) → list_any broken lines ≡ false → whole_fields (fields_in lines) ≡ true
fields_free [] e = refl
fields_free (line ∷ more) e =
    let others : list_any broken more ≡ false = (or_parts (broken line) (list_any broken more) e).1 in
    let rest : whole_fields (fields_in more) ≡ true = fields_free more others in
    elim (begins_field line) as (λ v. whole_fields (cond v (field_of line more ∷ fields_in more) (fields_in more)) ≡ true) [
      | true ↦ ap (λ v. not v && whole_fields (fields_in more)) (body_free line more (or_parts (broken line) (list_any broken more) e).0 others) ∙ rest
      | false ↦ rest
    ]

without_free : (lines : List (List ℕ)) → list_any broken lines ≡ false → list_any broken (without_from_line lines) ≡ false
without_free [] e = refl
without_free (line ∷ more) e =
    elim (is_from_line line) as (λ v. list_any broken (cond v more (line ∷ more)) ≡ false) [
      | true ↦ (or_parts (broken line) (list_any broken more) e).1
      | false ↦ e
    ]

pub bodies_free : (bytes : List ℕ) → list_all (λ field. is_one_line field.body) (header_of bytes).list ≡ true
bodies_free bytes =
    fields_free (without_from_line (header_lines bytes)) (without_free (header_lines bytes) (any_take broken (prefix_len (λ line. not (is_empty_line line)) (lines_of bytes)) (lines_of bytes) (no_line_broken bytes)))
