-- The parts of a content are the spans between neighbouring delimiters.
-- For the proof of `parts_stand_between_delimiters`.
use Rattle.std.proofs.Common.{◌≡◌, ℕ, suc, ◌+◌, ◌-◌, ◌<◌, Bool, true, false, cond, not, ◌||◌, ◌==◌, List, [], ◌∷◌, ◌++◌, length, map, take, drop, refl, sym, ap, ◌∙◌, arith, append_assoc, length-append}
use Rattle.std.proofs.lemmas.Bool.{or_parts, or_right}
use Rattle.std.specs.Prelude.{slice_index}
use Rattle.std.specs.List.{before_first, concat, list_any, onto_first, position_or_len, slice_split}
use Rattle.std.specs.Str.Lines.{strip_carriage_return}
use Rattle.std.proofs.lemmas.List.{append-nil, drop_at, take_at, take-append-drop}
use Rattle.std.proofs.lemmas.List.Splits.{length-slice_split, slice_split-cons_no, slice_split-cons_yes}
use Rattle.nm_text.specs.Lines.{content, lines_of}
use Rattle.nm_mime.proofs.ChildLemmas.{concat-lines}
use Rattle.nm_mime.specs.Children.{ends_part, is_line_of, part_after, part_at, part_len, spans_in, spans_of, stops}
use Rattle.nm_mime.specs.Laws.{lines_between, parts_between, read_parts, texts_between, without_end}
use Rattle.nm_mime.specs.Parts.{bytes_in}
use Rattle.nm_mime.specs.declared.children.Delimiters.{Delimiters}
use Rattle.nm_mime.specs.declared.children.Span.{Span}
use Rattle.std.proofs.Math.Seq.{take-append-add}

-- ---- the content of a line is the front of it
front_take : (n : ℕ) (line : List ℕ) → take (length (take n line)) line ≡ take n line
front_take n line = ap (λ x. take (length (take n line)) x) (sym (take-append-drop n line)) ∙ take_at (take n line) (drop n line) (length (take n line)) refl

take_take : (n : ℕ) (line front : List ℕ) → take n line ≡ front → (back : List ℕ) × (line ≡ front ++ back)
take_take n line front e = (drop n line, sym (take-append-drop n line) ∙ ap (λ x. x ++ drop n line) e)

strip_front : (line : List ℕ) → (back : List ℕ) × (line ≡ strip_carriage_return line ++ back)
strip_front line = elim (slice_index line (length line - 1) == 13) as (λ v. (back : List ℕ) × (line ≡ cond v (take (length line - 1) line) line ++ back)) [
  | true ↦ (drop (length line - 1) line, sym (take-append-drop (length line - 1) line))
  | false ↦ ([], sym (append-nil line))
]

content_front : (line : List ℕ) → (back : List ℕ) × (line ≡ content line ++ back)
content_front line =
    let less : List ℕ = take (length line - 1) line in
    let rest : List ℕ = drop (length line - 1) line in
    let s = strip_front less in
    let whole : line ≡ strip_carriage_return less ++ (s.0 ++ rest) = sym (take-append-drop (length line - 1) line) ∙ ap (λ x. x ++ rest) s.1 ∙ append_assoc (strip_carriage_return less) s.0 rest in
    elim (slice_index line (length line - 1) == 10) as (λ v. (back : List ℕ) × (line ≡ cond v (strip_carriage_return less) line ++ back)) [
      | true ↦ (s.0 ++ rest, whole)
      | false ↦ ([], sym (append-nil line))
    ]

content_take : (line more : List ℕ) → take (length (content line)) (line ++ more) ≡ content line
content_take line more =
    let f = content_front line in
    ap (λ x. take (length (content line)) (x ++ more)) f.1 ∙ ap (take (length (content line))) (append_assoc (content line) f.0 more) ∙ take_at (content line) (f.0 ++ more) (length (content line)) refl

before_first-no : (p : List ℕ → Bool) (x : List ℕ) (xs : List (List ℕ)) → p x ≡ false → before_first p (x ∷ xs) ≡ x ∷ before_first p xs
before_first-no p x xs e =
    let one : 1 + position_or_len p xs ≡ suc (position_or_len p xs) = omega arith in
    ap (λ v. take (cond (not v) (1 + position_or_len p xs) 0) (x ∷ xs)) e ∙ ap (λ k. take k (x ∷ xs)) one

-- ---- the lines between delimiters, line by line
some_first : (l : List (List (List ℕ))) → 0 < length l → (g : List (List ℕ)) × (gs : List (List (List ℕ))) × (l ≡ g ∷ gs)
some_first [] h = absurd (omega arith)
some_first (g ∷ gs) h = (g, gs, refl)

between_some : (delimiters : Delimiters) (lines : List (List ℕ)) → (g : List (List ℕ)) × (gs : List (List (List ℕ))) × (lines_between delimiters lines ≡ g ∷ gs)
between_some delimiters lines =
    let one = length-slice_split (is_line_of delimiters.delimiter) (before_first (is_line_of delimiters.closing) lines) in
    some_first (lines_between delimiters lines) (omega arith)

between_closing : (delimiters : Delimiters) (line : List ℕ) (more : List (List ℕ)) → is_line_of delimiters.closing line ≡ true → lines_between delimiters (line ∷ more) ≡ [] ∷ []
between_closing delimiters line more e = ap (λ v. slice_split (is_line_of delimiters.delimiter) (take (cond (not v) (1 + position_or_len (is_line_of delimiters.closing) more) 0) (line ∷ more))) e

between_delimiter : (delimiters : Delimiters) (line : List ℕ) (more : List (List ℕ)) → is_line_of delimiters.closing line ≡ false → is_line_of delimiters.delimiter line ≡ true → lines_between delimiters (line ∷ more) ≡ [] ∷ lines_between delimiters more
between_delimiter delimiters line more e f =
    ap (slice_split (is_line_of delimiters.delimiter)) (before_first-no (is_line_of delimiters.closing) line more e) ∙ slice_split-cons_yes (is_line_of delimiters.delimiter) line (before_first (is_line_of delimiters.closing) more) f

between_other : (delimiters : Delimiters) (line : List ℕ) (more : List (List ℕ)) → is_line_of delimiters.closing line ≡ false → is_line_of delimiters.delimiter line ≡ false → lines_between delimiters (line ∷ more) ≡ onto_first line (lines_between delimiters more)
between_other delimiters line more e f =
    ap (slice_split (is_line_of delimiters.delimiter)) (before_first-no (is_line_of delimiters.closing) line more e) ∙ slice_split-cons_no (is_line_of delimiters.delimiter) line (before_first (is_line_of delimiters.closing) more) f

-- the text of the first part, where these follow
abbrev first_text : Bool → List (List ℕ) → List (List (List ℕ)) → List ℕ
first_text closed part [] = cond closed (without_end part) (concat part)
first_text closed part (next ∷ more) = without_end part

texts_first : (closed : Bool) (part : List (List ℕ)) (more : List (List (List ℕ))) → texts_between closed (part ∷ more) ≡ first_text closed part more ∷ texts_between closed more
texts_first closed part [] = refl
texts_first closed part (next ∷ more) = refl

text_more : (closed : Bool) (line next : List ℕ) (part : List (List ℕ)) (more : List (List (List ℕ))) → first_text closed (line ∷ next ∷ part) more ≡ line ++ first_text closed (next ∷ part) more
text_more true line next part [] = refl
text_more false line next part [] = refl
text_more closed line next part (other ∷ more) = refl

same_first : (g h : List (List ℕ)) (gs hs : List (List (List ℕ))) → g ∷ gs ≡ h ∷ hs → (g ≡ h) × (gs ≡ hs)
same_first g h gs hs e = (cc, cc)

-- a line before one that ends the part is the last of it
stop_first : (delimiters : Delimiters) (line : List ℕ) (more g : List (List ℕ)) (gs : List (List (List ℕ))) → lines_between delimiters more ≡ g ∷ gs → stops delimiters more ≡ true → first_text (list_any (is_line_of delimiters.closing) more) (line ∷ g) gs ≡ content line
stop_first delimiters line [] g gs e s = absurd (cc)
stop_first delimiters line (m ∷ rest) g gs e s =
    let closed : Bool = list_any (is_line_of delimiters.closing) (m ∷ rest) in
    elim (is_line_of delimiters.closing m) as (λ v. is_line_of delimiters.closing m ≡ v → first_text closed (line ∷ g) gs ≡ content line) [
      | true ↦ λ c.
          let same = same_first [] g [] gs (sym (between_closing delimiters m rest c) ∙ e) in
          ap (λ x. first_text closed (line ∷ x) gs) (sym same.0) ∙ ap (λ y. first_text closed (line ∷ []) y) (sym same.1) ∙ ap (λ v. first_text (v || list_any (is_line_of delimiters.closing) rest) (line ∷ []) []) c
      | false ↦ λ c. elim (is_line_of delimiters.delimiter m) as (λ v. is_line_of delimiters.delimiter m ≡ v → first_text closed (line ∷ g) gs ≡ content line) [
        | true ↦ λ d.
            let same = same_first [] g (lines_between delimiters rest) gs (sym (between_delimiter delimiters m rest c d) ∙ e) in
            let b = between_some delimiters rest in
            ap (λ x. first_text closed (line ∷ x) gs) (sym same.0) ∙ ap (λ y. first_text closed (line ∷ []) y) (sym same.1 ∙ b.2)
        | false ↦ λ d. absurd (let no : false ≡ true = sym (ap (λ v. v || is_line_of delimiters.closing m) d ∙ c) ∙ s in cc)
      ] refl
    ] refl

-- and before another it is not
goes_first : (delimiters : Delimiters) (line : List ℕ) (more g : List (List ℕ)) (gs : List (List (List ℕ))) → lines_between delimiters more ≡ g ∷ gs → stops delimiters more ≡ false → first_text (list_any (is_line_of delimiters.closing) more) (line ∷ g) gs ≡ line ++ first_text (list_any (is_line_of delimiters.closing) more) g gs
goes_first delimiters line [] g gs e s =
    let same = same_first [] g [] gs e in
    ap (λ x. first_text false (line ∷ x) gs) (sym same.0) ∙ ap (λ y. first_text false (line ∷ []) y) (sym same.1) ∙ ap (λ x. line ++ first_text false x []) same.0 ∙ ap (λ y. line ++ first_text false g y) same.1
goes_first delimiters line (m ∷ rest) g gs e s =
    let closed : Bool = list_any (is_line_of delimiters.closing) (m ∷ rest) in
    let d : is_line_of delimiters.delimiter m ≡ false = (or_parts (is_line_of delimiters.delimiter m) (is_line_of delimiters.closing m) s).0 in
    let c : is_line_of delimiters.closing m ≡ false = (or_parts (is_line_of delimiters.delimiter m) (is_line_of delimiters.closing m) s).1 in
    let b = between_some delimiters rest in
    let same = same_first (m ∷ b.0) g b.1 gs (ap (onto_first m) (sym b.2) ∙ sym (between_other delimiters m rest c d) ∙ e) in
    ap (λ x. first_text closed (line ∷ x) gs) (sym same.0) ∙ text_more closed line m b.0 gs ∙ ap (λ x. line ++ first_text closed x gs) same.0

-- ---- the texts
cut_first : (bytes front rest : List ℕ) (size : ℕ) → bytes ≡ front ++ rest → bytes_in bytes (length bytes - length rest) (length bytes - length rest + size) ≡ take size rest
cut_first bytes front rest size b =
    let from : ℕ = length bytes - length rest in
    let whole : length bytes ≡ length front + length rest = ap length b ∙ length-append front rest in
    let at : from ≡ length front = omega arith in
    let many : from + size - from ≡ size = omega arith in
    ap (λ n. take n (drop from bytes)) many ∙ ap (λ n. take size (drop n bytes)) at ∙ ap (λ x. take size (drop (length front) x)) b ∙ ap (take size) (drop_at front rest (length front) refl)

abbrev texts_in : List ℕ → List Span → List (List ℕ)
texts_in bytes spans = map (λ span. bytes_in bytes span.from span.to) spans

between_read : (delimiters : Delimiters) (bytes front : List ℕ) (lines g : List (List ℕ)) (gs : List (List (List ℕ))) → bytes ≡ front ++ concat lines → lines_between delimiters lines ≡ g ∷ gs → (take (part_len delimiters lines) (concat lines) ≡ first_text (list_any (is_line_of delimiters.closing) lines) g gs) × (texts_in bytes (spans_in delimiters (length bytes) lines) ≡ texts_between (list_any (is_line_of delimiters.closing) lines) gs)
between_read delimiters bytes front [] g gs b e =
    let same = same_first [] g [] gs e in
    (ap (λ x. first_text false x []) same.0 ∙ ap (λ y. first_text false g y) same.1, ap (texts_between false) same.1)
between_read delimiters bytes front (line ∷ more) g gs b e =
    let end : ℕ = length bytes in
    let any : Bool = list_any (is_line_of delimiters.closing) more in
    let closed : Bool = list_any (is_line_of delimiters.closing) (line ∷ more) in
    let here : bytes ≡ (front ++ line) ++ concat more = b ∙ sym (append_assoc front line (concat more)) in
    let s = between_some delimiters more in
    let r = between_read delimiters bytes (front ++ line) more s.0 s.1 here s.2 in
    let size : ℕ = cond (stops delimiters more) (length (content line)) (length line + part_len delimiters more) in
    let all : List ℕ = line ++ concat more in
    elim (is_line_of delimiters.closing line) as (λ v. is_line_of delimiters.closing line ≡ v → (take (part_len delimiters (line ∷ more)) all ≡ first_text closed g gs) × (texts_in bytes (spans_in delimiters end (line ∷ more)) ≡ texts_between closed gs)) [
      | true ↦ λ c.
          let same = same_first [] g [] gs (sym (between_closing delimiters line more c) ∙ e) in
          let done : closed ≡ true = ap (λ v. v || any) c in (
            ap (λ v. take (cond v 0 size) all) (or_right (is_line_of delimiters.delimiter line) (is_line_of delimiters.closing line) c) ∙ ap (λ x. first_text true x []) same.0 ∙ ap (λ y. first_text true g y) same.1 ∙ ap (λ v. first_text v g gs) (sym done),
            ap (λ v. texts_in bytes (cond v [] (part_at delimiters end line more ++ spans_in delimiters end more))) c ∙ ap (texts_between closed) same.1,
          )
      | false ↦ λ c.
          let goes : closed ≡ any = ap (λ v. v || any) c in
          let further : spans_in delimiters end (line ∷ more) ≡ part_at delimiters end line more ++ spans_in delimiters end more = ap (λ v. cond v [] (part_at delimiters end line more ++ spans_in delimiters end more)) c in
          elim (is_line_of delimiters.delimiter line) as (λ v. is_line_of delimiters.delimiter line ≡ v → (take (part_len delimiters (line ∷ more)) all ≡ first_text closed g gs) × (texts_in bytes (spans_in delimiters end (line ∷ more)) ≡ texts_between closed gs)) [
            | true ↦ λ d.
                let same = same_first [] g (lines_between delimiters more) gs (sym (between_delimiter delimiters line more c d) ∙ e) in
                let next : s.0 ∷ s.1 ≡ gs = sym s.2 ∙ same.1 in (
                  ap (λ v. take (cond (v || is_line_of delimiters.closing line) 0 size) all) d ∙ ap (λ x. first_text closed x (s.0 ∷ s.1)) same.0 ∙ ap (λ y. first_text closed g y) next,
                  ap (texts_in bytes) (further ∙ ap (λ v. cond v (part_after delimiters end more ∷ []) [] ++ spans_in delimiters end more) d) ∙ ap (λ x. x ∷ texts_in bytes (spans_in delimiters end more)) (cut_first bytes (front ++ line) (concat more) (part_len delimiters more) here ∙ r.0) ∙ ap (λ l. first_text any s.0 s.1 ∷ l) r.1 ∙ sym (texts_first any s.0 s.1) ∙ ap (λ v. texts_between v (s.0 ∷ s.1)) (sym goes) ∙ ap (texts_between closed) next,
                )
            | false ↦ λ d.
                let same = same_first (line ∷ s.0) g s.1 gs (ap (onto_first line) (sym s.2) ∙ sym (between_other delimiters line more c d) ∙ e) in
                let kept : take size all ≡ first_text any (line ∷ s.0) s.1 =
                elim (stops delimiters more) as (λ v. stops delimiters more ≡ v → take (cond v (length (content line)) (length line + part_len delimiters more)) all ≡ first_text any (line ∷ s.0) s.1) [
                  | true ↦ λ t. content_take line (concat more) ∙ sym (stop_first delimiters line more s.0 s.1 s.2 t)
                  | false ↦ λ t. take-append-add line (concat more) (part_len delimiters more) ∙ ap (λ x. line ++ x) r.0 ∙ sym (goes_first delimiters line more s.0 s.1 s.2 t)
                ] refl in
                let none : ends_part delimiters line ≡ false = ap (λ v. v || is_line_of delimiters.closing line) d ∙ c in (
                  ap (λ v. take (cond v 0 size) all) none ∙ kept ∙ ap (λ v. first_text v (line ∷ s.0) s.1) (sym goes) ∙ ap (λ x. first_text closed x s.1) same.0 ∙ ap (λ y. first_text closed g y) same.1,
                  ap (texts_in bytes) (further ∙ ap (λ v. cond v (part_after delimiters end more ∷ []) [] ++ spans_in delimiters end more) d) ∙ r.1 ∙ ap (λ v. texts_between v s.1) (sym goes) ∙ ap (texts_between closed) same.1,
                )
          ] refl
    ] refl

pub all_between : (delimiters : Delimiters) (bytes : List ℕ) → read_parts delimiters bytes ≡ parts_between delimiters (lines_of bytes)
unfolding spans_of
all_between delimiters bytes =
    let s = between_some delimiters (lines_of bytes) in
    let r = between_read delimiters bytes [] (lines_of bytes) s.0 s.1 (sym (concat-lines bytes)) s.2 in
    r.1 ∙ ap (λ l. texts_between (list_any (is_line_of delimiters.closing) (lines_of bytes)) (drop 1 l)) (sym s.2)
