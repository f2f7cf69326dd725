-- Parts that are written are read again. For the proof of `written_parts_are_read`.
use Rattle.std.proofs.Common.{◌≡◌, ℕ, ◌+◌, ◌-◌, true, false, cond, ◌&&◌, ◌||◌, ◌==◌, nat_eq, List, [], ◌∷◌, ◌++◌, length, map, take, drop, refl, sym, ap, subst, ◌∙◌, arith, append_assoc, length-append, codes}
use Rattle.std.specs.Prelude.{slice_index}
use Rattle.std.specs.List.{concat, list_all, list_any, onto_first}
use Rattle.std.specs.Cmp.Lexicographic.{pointwise}
use Rattle.std.specs.Str.Lines.{strip_carriage_return}
use Rattle.std.proofs.lemmas.Bool.{and_parts, eq-eqb, eqb-true, not-true, or_parts, or_right}
use Rattle.std.proofs.lemmas.List.{append-nil, drop_all, drop_at, get_or_at, take_all, take_at}
use Rattle.nm_base.specs.Bounds.{is_white_space}
use Rattle.nm_text.specs.Lines.{content, is_line_feed, is_one_line, lines_of}
use Rattle.nm_mime.specs.Children.{delimiters_of, ends_part, is_line_of, part_after, part_at, part_len, spans_in, spans_of, stops}
use Rattle.nm_mime.specs.Laws.{is_kept, line_end, read_parts, written_parts}
use Rattle.nm_mime.specs.Parts.{bytes_in}
use Rattle.nm_mime.specs.declared.children.Delimiters.{Delimiters}
use Rattle.nm_mime.specs.declared.children.Span.{Span}
use Rattle.nm_mime.proofs.ChildLemmas.{lines_long}

-- ---- the first line of a text
line_then : (text more : List ℕ) → list_any is_line_feed text ≡ false → lines_of (text ++ 10 ∷ more) ≡ (text ++ 10 ∷ []) ∷ lines_of more
line_then [] more e = refl
line_then (b ∷ text) more e =
    let lines : List (List ℕ) = lines_of (text ++ 10 ∷ more) in
    ap (λ v. cond v ((b ∷ []) ∷ lines) (onto_first b lines)) (or_parts (is_line_feed b) (list_any is_line_feed text) e).0 ∙ ap (onto_first b) (line_then text more (or_parts (is_line_feed b) (list_any is_line_feed text) e).1)

any-append : (text more : List ℕ) → list_any is_line_feed text ≡ false → list_any is_line_feed more ≡ false → list_any is_line_feed (text ++ more) ≡ false
any-append [] more e f = f
any-append (b ∷ text) more e f =
    elim (is_line_feed b) as (λ v. (v || list_any is_line_feed text) ≡ false → (v || list_any is_line_feed (text ++ more)) ≡ false) [ true ↦ λ h. absurd (cc) | false ↦ λ h. any-append text more h f ] e

crlf_then : (text more : List ℕ) → list_any is_line_feed text ≡ false → lines_of (text ++ (line_end ++ more)) ≡ (text ++ line_end) ∷ lines_of more
crlf_then text more e =
    ap lines_of (sym (append_assoc text (13 ∷ []) (10 ∷ more))) ∙ line_then (text ++ 13 ∷ []) more (any-append text (13 ∷ []) e refl) ∙ ap (λ x. x ∷ lines_of more) (append_assoc text (13 ∷ []) (10 ∷ []))

-- ---- a line end is CR LF
one_last : (text : List ℕ) (b : ℕ) → slice_index (text ++ b ∷ []) (length (text ++ b ∷ []) - 1) ≡ b
one_last text b =
    let long : length (text ++ b ∷ []) ≡ length text + 1 = length-append text (b ∷ []) in
    let at : length (text ++ b ∷ []) - 1 ≡ length text = omega arith in
    ap (slice_index (text ++ b ∷ [])) at ∙ get_or_at text b [] 0 (length text) refl

without_last : (text : List ℕ) (b : ℕ) → take (length (text ++ b ∷ []) - 1) (text ++ b ∷ []) ≡ text
without_last text b =
    let long : length (text ++ b ∷ []) ≡ length text + 1 = length-append text (b ∷ []) in
    take_at text (b ∷ []) (length (text ++ b ∷ []) - 1) (omega arith)

strip_return : (text : List ℕ) → strip_carriage_return (text ++ 13 ∷ []) ≡ text
strip_return text =
    ap (λ v. cond (v == 13) (take (length (text ++ 13 ∷ []) - 1) (text ++ 13 ∷ [])) (text ++ 13 ∷ [])) (one_last text 13) ∙ without_last text 13

content_of : (text : List ℕ) → content (text ++ line_end) ≡ text
content_of text =
    let line : List ℕ = text ++ 13 ∷ [] in
    ap content (sym (append_assoc text (13 ∷ []) (10 ∷ []))) ∙ ap (λ v. cond (v == 10) (strip_carriage_return (take (length (line ++ 10 ∷ []) - 1) (line ++ 10 ∷ []))) (line ++ 10 ∷ [])) (one_last line 10) ∙ ap strip_carriage_return (without_last line 10) ∙ strip_return text

-- ---- lines that end a part
same_text : (text : List ℕ) → pointwise nat_eq text text ≡ true
same_text [] = refl
same_text (b ∷ text) = ap (λ v. v && pointwise nat_eq text text) (eq-eqb b b refl) ∙ same_text text

longer_text : (text : List ℕ) (a : ℕ) (more : List ℕ) → pointwise nat_eq (text ++ a ∷ more) text ≡ false
longer_text [] a more = refl
longer_text (x ∷ text) a more = ap (λ v. v && pointwise nat_eq (text ++ a ∷ more) text) (eq-eqb x x refl) ∙ longer_text text a more

mark_line : (front : List ℕ) → is_line_of front (front ++ line_end) ≡ true
mark_line front =
    ap (λ x. pointwise nat_eq front (take (length front) x) && list_all is_white_space (drop (length front) x)) (content_of front) ∙ ap (λ x. pointwise nat_eq front x && list_all is_white_space (drop (length front) front)) (take_all (length front) front (omega arith)) ∙ ap (λ v. v && list_all is_white_space (drop (length front) front)) (same_text front) ∙ ap (list_all is_white_space) (drop_all (length front) front (omega arith))

no_closing : (front : List ℕ) → is_line_of (front ++ codes "--") (front ++ line_end) ≡ false
no_closing front =
    let n : ℕ = length (front ++ 45 ∷ 45 ∷ []) in
    let size : n ≡ length front + 2 = length-append front (45 ∷ 45 ∷ []) in
    ap (λ x. pointwise nat_eq (front ++ 45 ∷ 45 ∷ []) (take n x) && list_all is_white_space (drop n x)) (content_of front) ∙ ap (λ x. pointwise nat_eq (front ++ 45 ∷ 45 ∷ []) x && list_all is_white_space (drop n front)) (take_all n front (omega arith)) ∙ ap (λ v. v && list_all is_white_space (drop n front)) (longer_text front 45 (45 ∷ []))

-- ---- lines that end no part
skip_line : (delimiters : Delimiters) (end : ℕ) (line : List ℕ) (more : List (List ℕ)) → ends_part delimiters line ≡ false → spans_in delimiters end (line ∷ more) ≡ spans_in delimiters end more
skip_line delimiters end line more e =
    ap (λ v. cond v [] (part_at delimiters end line more ++ spans_in delimiters end more)) (or_parts (is_line_of delimiters.delimiter line) (is_line_of delimiters.closing line) e).1 ∙ ap (λ v. cond v (part_after delimiters end more ∷ []) [] ++ spans_in delimiters end more) (or_parts (is_line_of delimiters.delimiter line) (is_line_of delimiters.closing line) e).0

last_size : (delimiters : Delimiters) (line : List ℕ) (more : List (List ℕ)) → ends_part delimiters line ≡ false → stops delimiters more ≡ true → part_len delimiters (line ∷ more) ≡ length (content line)
last_size delimiters line more e f =
    ap (λ v. cond v 0 (cond (stops delimiters more) (length (content line)) (length line + part_len delimiters more))) e ∙ ap (λ v. cond v (length (content line)) (length line + part_len delimiters more)) f

more_size : (delimiters : Delimiters) (line : List ℕ) (more : List (List ℕ)) → ends_part delimiters line ≡ false → stops delimiters more ≡ false → part_len delimiters (line ∷ more) ≡ length line + part_len delimiters more
more_size delimiters line more e f =
    ap (λ v. cond v 0 (cond (stops delimiters more) (length (content line)) (length line + part_len delimiters more))) e ∙ ap (λ v. cond v (length (content line)) (length line + part_len delimiters more)) f

-- the text is read as one part, if `tail` begins with a line that ends it
abbrev IsRead : Delimiters → ℕ → List ℕ → List ℕ → Type 0
IsRead delimiters end text tail =
    (part_len delimiters (lines_of (text ++ (line_end ++ tail))) ≡ length text) × (stops delimiters (lines_of (text ++ (line_end ++ tail))) ≡ false) × (spans_in delimiters end (lines_of (text ++ (line_end ++ tail))) ≡ spans_in delimiters end (lines_of tail))

read_last : (delimiters : Delimiters) (end : ℕ) (text tail : List ℕ) → list_any is_line_feed text ≡ false → list_any (ends_part delimiters) (lines_of (text ++ line_end)) ≡ false → stops delimiters (lines_of tail) ≡ true → IsRead delimiters end text tail
read_last delimiters end text tail e k t =
    let line : List ℕ = text ++ line_end in
    let lines : lines_of (text ++ (line_end ++ tail)) ≡ line ∷ lines_of tail = crlf_then text tail e in
    let alone : lines_of line ≡ line ∷ lines_of [] = crlf_then text [] e in
    let goes : ends_part delimiters line ≡ false = (or_parts (ends_part delimiters line) (list_any (ends_part delimiters) (lines_of [])) (sym (ap (list_any (ends_part delimiters)) alone) ∙ k)).0 in (
      ap (part_len delimiters) lines ∙ last_size delimiters line (lines_of tail) goes t ∙ ap length (content_of text),
      ap (stops delimiters) lines ∙ goes,
      ap (spans_in delimiters end) lines ∙ skip_line delimiters end line (lines_of tail) goes,
    )

read_more : (delimiters : Delimiters) (end : ℕ) (front text tail : List ℕ) → list_any is_line_feed front ≡ false → list_any (ends_part delimiters) (lines_of ((front ++ 10 ∷ text) ++ line_end)) ≡ false → (list_any (ends_part delimiters) (lines_of (text ++ line_end)) ≡ false → IsRead delimiters end text tail) → IsRead delimiters end (front ++ 10 ∷ text) tail
read_more delimiters end front text tail e k rest =
    let line : List ℕ = front ++ 10 ∷ [] in
    let more : List ℕ = text ++ (line_end ++ tail) in
    let lines : lines_of ((front ++ 10 ∷ text) ++ (line_end ++ tail)) ≡ line ∷ lines_of more = ap lines_of (append_assoc front (10 ∷ text) (line_end ++ tail)) ∙ line_then front more e in
    let alone : lines_of ((front ++ 10 ∷ text) ++ line_end) ≡ line ∷ lines_of (text ++ line_end) = ap lines_of (append_assoc front (10 ∷ text) line_end) ∙ line_then front (text ++ line_end) e in
    let both : list_any (ends_part delimiters) (line ∷ lines_of (text ++ line_end)) ≡ false = sym (ap (list_any (ends_part delimiters)) alone) ∙ k in
    let goes : ends_part delimiters line ≡ false = (or_parts (ends_part delimiters line) (list_any (ends_part delimiters) (lines_of (text ++ line_end))) both).0 in
    let r = rest (or_parts (ends_part delimiters line) (list_any (ends_part delimiters) (lines_of (text ++ line_end))) both).1 in
    let size : length line + length text ≡ length (front ++ 10 ∷ text) = sym (length-append line text) ∙ ap length (append_assoc front (10 ∷ []) text) in (
      ap (part_len delimiters) lines ∙ more_size delimiters line (lines_of more) goes r.1 ∙ ap (λ n. length line + n) r.0 ∙ size,
      ap (stops delimiters) lines ∙ goes,
      ap (spans_in delimiters end) lines ∙ skip_line delimiters end line (lines_of more) goes ∙ r.2,
    )

read_text : (delimiters : Delimiters) (end : ℕ) (front text tail whole : List ℕ) → whole ≡ front ++ text → list_any is_line_feed front ≡ false → list_any (ends_part delimiters) (lines_of (whole ++ line_end)) ≡ false → stops delimiters (lines_of tail) ≡ true → IsRead delimiters end whole tail
read_text delimiters end front [] tail whole w e k t =
    let same : front ≡ whole = sym (append-nil front) ∙ sym w in
    read_last delimiters end whole tail (ap (list_any is_line_feed) (sym same) ∙ e) k t
read_text delimiters end front (b ∷ text) tail whole w e k t =
    elim (b == 10) as (λ v. (b == 10) ≡ v → IsRead delimiters end whole tail) [
      | true ↦ λ h.
          let same : whole ≡ front ++ 10 ∷ text = w ∙ ap (λ x. front ++ x ∷ text) (eqb-true b 10 h) in
          subst (λ x. IsRead delimiters end x tail) (sym same) (read_more delimiters end front text tail e (ap (λ x. list_any (ends_part delimiters) (lines_of (x ++ line_end))) (sym same) ∙ k) (λ j. read_text delimiters end [] text tail text refl refl j t))
      | false ↦ λ h.
          read_text delimiters end (front ++ b ∷ []) text tail whole (w ∙ sym (append_assoc front (b ∷ []) text)) (any-append front (b ∷ []) e (ap (λ v. v || false) h)) k t
    ] refl

module _ (boundary : List ℕ) (one : is_one_line boundary ≡ true) where
  abbrev delimiters : Delimiters
  delimiters = delimiters_of boundary

  no_feed : list_any is_line_feed delimiters.delimiter ≡ false
  no_feed = not-true (list_any is_line_feed boundary) one

  no_feed_closing : list_any is_line_feed delimiters.closing ≡ false
  no_feed_closing = any-append delimiters.delimiter (codes "--") no_feed refl

  written_stops : (parts : List (List ℕ)) → stops delimiters (lines_of (written_parts delimiters parts)) ≡ true
  written_stops [] = ap (stops delimiters) (crlf_then delimiters.closing [] no_feed_closing) ∙ or_right (is_line_of delimiters.delimiter (delimiters.closing ++ line_end)) (is_line_of delimiters.closing (delimiters.closing ++ line_end)) (mark_line delimiters.closing)
  written_stops (part ∷ parts) = ap (stops delimiters) (crlf_then delimiters.delimiter (part ++ (line_end ++ written_parts delimiters parts)) no_feed) ∙ ap (λ v. v || is_line_of delimiters.closing (delimiters.delimiter ++ line_end)) (mark_line delimiters.delimiter)

  -- the first part of a content that goes on like this
  first_read : (part rest front bytes : List ℕ) (size : ℕ) → bytes ≡ front ++ (part ++ rest) → size ≡ length part → bytes_in bytes (length bytes - length (concat (lines_of (part ++ rest)))) (length bytes - length (concat (lines_of (part ++ rest))) + size) ≡ part
  first_read part rest front bytes size b s =
      let all : List ℕ = part ++ rest in
      let from : ℕ = length bytes - length (concat (lines_of all)) in
      let long : length (concat (lines_of all)) ≡ length all = lines_long all in
      let whole : length bytes ≡ length front + length all = ap length b ∙ length-append front all in
      let at : from ≡ length front = omega arith in
      let many : from + size - from ≡ length part = omega arith in
      ap (λ n. take n (drop from bytes)) many ∙ ap (λ n. take (length part) (drop n bytes)) at ∙ ap (λ x. take (length part) (drop (length front) x)) b ∙ ap (take (length part)) (drop_at front all (length front) refl) ∙ take_at part rest (length part) refl

  written_read : (parts : List (List ℕ)) (front bytes : List ℕ) → list_all (is_kept delimiters) parts ≡ true → bytes ≡ front ++ written_parts delimiters parts → map (λ span. bytes_in bytes span.from span.to) (spans_in delimiters (length bytes) (lines_of (written_parts delimiters parts))) ≡ parts
  written_read [] front bytes k b =
      let end : ℕ = length bytes in
      ap (λ l. map (λ span. bytes_in bytes span.from span.to) (spans_in delimiters end l)) (crlf_then delimiters.closing [] no_feed_closing) ∙ ap (λ v. map (λ span. bytes_in bytes span.from span.to) (cond v [] (part_at delimiters end (delimiters.closing ++ line_end) (lines_of []) ++ spans_in delimiters end (lines_of [])))) (mark_line delimiters.closing)
  written_read (part ∷ parts) front bytes k b =
      let end : ℕ = length bytes in
      let rest : List ℕ = line_end ++ written_parts delimiters parts in
      let line : List ℕ = delimiters.delimiter ++ line_end in
      let more : List (List ℕ) = lines_of (part ++ rest) in
      let cut : List Span → List (List ℕ) = map (λ span. bytes_in bytes span.from span.to) in
      let kept : list_any (ends_part delimiters) (lines_of (part ++ line_end)) ≡ false = not-true (list_any (ends_part delimiters) (lines_of (part ++ line_end))) (and_parts (is_kept delimiters part) (list_all (is_kept delimiters) parts) k).0 in
      let r : IsRead delimiters end part (written_parts delimiters parts) = read_text delimiters end [] part (written_parts delimiters parts) part refl refl kept (written_stops parts) in
      let lines : lines_of (written_parts delimiters (part ∷ parts)) ≡ line ∷ more = crlf_then delimiters.delimiter (part ++ rest) no_feed in
      let spans : spans_in delimiters end (line ∷ more) ≡ part_after delimiters end more ∷ spans_in delimiters end more =
      ap (λ v. cond v [] (part_at delimiters end line more ++ spans_in delimiters end more)) (no_closing delimiters.delimiter) ∙ ap (λ v. cond v (part_after delimiters end more ∷ []) [] ++ spans_in delimiters end more) (mark_line delimiters.delimiter) in
      let here : bytes ≡ (front ++ line) ++ (part ++ rest) =
      b ∙ ap (λ x. front ++ x) (sym (append_assoc delimiters.delimiter line_end (part ++ rest))) ∙ sym (append_assoc front line (part ++ rest)) in
      let behind : bytes ≡ ((front ++ line) ++ (part ++ line_end)) ++ written_parts delimiters parts =
      here ∙ ap (λ x. (front ++ line) ++ x) (sym (append_assoc part line_end (written_parts delimiters parts))) ∙ sym (append_assoc (front ++ line) (part ++ line_end) (written_parts delimiters parts)) in
      ap (λ l. cut (spans_in delimiters end l)) lines ∙ ap cut spans ∙ ap (λ x. x ∷ cut (spans_in delimiters end more)) (first_read part rest (front ++ line) bytes (part_len delimiters more) here r.0) ∙ ap (λ l. part ∷ cut l) r.2 ∙ ap (λ l. part ∷ l) (written_read parts ((front ++ line) ++ (part ++ line_end)) bytes (and_parts (is_kept delimiters part) (list_all (is_kept delimiters) parts) k).1 behind)

  pub written_again : (parts : List (List ℕ)) → list_all (is_kept delimiters) parts ≡ true → read_parts delimiters (written_parts delimiters parts) ≡ parts
  unfolding spans_of
  written_again parts k = written_read parts [] (written_parts delimiters parts) k refl
