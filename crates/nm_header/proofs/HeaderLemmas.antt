-- The first line of a header, and what is left after it.
-- For the proofs of `join_folded`, `empty_line_len`, `folded_line_len` and others.
use Rattle.std.proofs.Common.{◌≡◌, ℕ, zero, suc, ◌==◌, ◌+◌, ◌-◌, ◌<◌, ◌≤◌, true, false, cond, not, ◌&&◌, List, [], ◌∷◌, ◌++◌, length, take, drop, refl, sym, ap, ◌∙◌, arith, map, length-drop, append_assoc}
use Rattle.std.specs.List.{concat, list_any, onto_first, take_while}
use Rattle.std.proofs.lemmas.List.{length-take-le}
use Rattle.std.proofs.lemmas.Bool.{eqb-true}
use Rattle.std.proofs.lemmas.List.Sums.{take_while-cons}
use Rattle.nm_text.specs.Cuts.{is_byte, len_through}
use Rattle.nm_header.specs.HeaderLines.{BeginsWithLine, LeavesOf, header_lines, is_empty_line, rest_of}
use Rattle.nm_text.specs.Lines.{content, is_line_feed, lines_of}
use Rattle.nm_header.specs.Fields.{begins_field, continues, field_of, fields_in, folded_of, is_name, name_of}

-- a first line that is not empty begins the header
pub header_begins : (bs : List ℕ) (n : ℕ) → lines_of bs ≡ take n bs ∷ lines_of (drop n bs) → is_empty_line (take n bs) ≡ false → 0 < n → n ≤ length bs → BeginsWithLine bs n
header_begins bs n e empty some within =
    let long : length (take n bs) ≡ n = length-take-le n bs within in
    record {
      header = ap (λ l. take_while (λ line. not (is_empty_line line)) l) e ∙ take_while-cons (λ line. not (is_empty_line line)) (take n bs) (lines_of (drop n bs)) ∙ ap (λ v. cond (not v) (take n bs ∷ header_lines (drop n bs)) []) empty;
      rest = ap (λ l. len_through is_empty_line l) e ∙ ap (λ v. cond v (length (take n bs)) (length (take n bs) + rest_of (drop n bs))) empty ∙ ap (λ k. k + rest_of (drop n bs)) long;
      some = some;
      within = within;
    }

-- an empty one ends it
pub header_ends : (bs : List ℕ) (n : ℕ) → lines_of bs ≡ take n bs ∷ lines_of (drop n bs) → is_empty_line (take n bs) ≡ true → header_lines bs ≡ []
header_ends bs n e empty =
    ap (λ l. take_while (λ line. not (is_empty_line line)) l) e ∙ take_while-cons (λ line. not (is_empty_line line)) (take n bs) (lines_of (drop n bs)) ∙ ap (λ v. cond (not v) (take n bs ∷ header_lines (drop n bs)) []) empty

-- and without bytes there is none
pub header-nil : header_lines [] ≡ []
header-nil = refl

pub rest-nil : rest_of [] ≡ 0
rest-nil = refl

-- where the header has no line the first line is empty, and the body begins after it
pub rest_after : (bs : List ℕ) (n : ℕ) → lines_of bs ≡ take n bs ∷ lines_of (drop n bs) → 0 < n → n ≤ length bs → header_lines bs ≡ [] → n ≡ rest_of bs
rest_after bs n e some within none =
    let long : length (take n bs) ≡ n = length-take-le n bs within in
    elim (is_empty_line (take n bs)) as (λ v. is_empty_line (take n bs) ≡ v → n ≡ rest_of bs) [
      | true ↦ λ h. sym (ap (λ l. len_through is_empty_line l) e ∙ ap (λ v. cond v (length (take n bs)) (length (take n bs) + rest_of (drop n bs))) h ∙ long)
      | false ↦ λ h. let step = (header_begins bs n e h some within).header in absurd (let no : take n bs ∷ header_lines (drop n bs) ≡ [] = sym step ∙ none in cc)
    ] refl

pub header_of_none : (bs : List ℕ) → (length bs == 0) ≡ true → header_lines bs ≡ []
header_of_none [] e = header-nil
header_of_none (b ∷ bs) e = absurd (let no : length (b ∷ bs) ≡ 0 = eqb-true (length (b ∷ bs)) 0 e in omega arith)

pub rest_of_none : (bs : List ℕ) → (length bs == 0) ≡ true → 0 ≡ rest_of bs
rest_of_none [] e = sym rest-nil
rest_of_none (b ∷ bs) e = absurd (let no : length (b ∷ bs) ≡ 0 = eqb-true (length (b ∷ bs)) 0 e in omega arith)

-- its first byte tells whether a line continues a field
pub continues_front : (bs : List ℕ) (n : ℕ) → 0 < n → continues (take n bs) ≡ continues bs
continues_front bs zero h = absurd (omega arith)
continues_front [] (suc n) h = refl
continues_front (b ∷ bs) (suc n) h = refl

-- the first line begins with the first byte
onto_front : (b : ℕ) (lines : List (List ℕ)) → (line : List ℕ) × (more : List (List ℕ)) × (onto_first b lines ≡ (b ∷ line) ∷ more)
onto_front b [] = ([], [], refl)
onto_front b (line ∷ lines) = (line, lines, refl)

first_front : (b : ℕ) (bs : List ℕ) → (line : List ℕ) × (more : List (List ℕ)) × (lines_of (b ∷ bs) ≡ (b ∷ line) ∷ more)
first_front b bs =
    elim (is_line_feed b) as (λ v. (line : List ℕ) × (more : List (List ℕ)) × (cond v ((b ∷ []) ∷ lines_of bs) (onto_first b (lines_of bs)) ≡ (b ∷ line) ∷ more)) [
      | true ↦ ([], lines_of bs, refl)
      | false ↦ onto_front b (lines_of bs)
    ]

-- where the first line does not continue a field, none does
pub folded_none : (bs : List ℕ) → continues bs ≡ false → take_while continues (header_lines bs) ≡ []
folded_none [] e = ap (λ l. take_while continues l) header-nil
folded_none (b ∷ bs) e =
    let first = first_front b bs in
    let line : List ℕ = b ∷ first.0 in
    let more : List (List ℕ) = first.1 in
    ap (λ l. take_while continues (take_while (λ x. not (is_empty_line x)) l)) first.2 ∙ ap (λ l. take_while continues l) (take_while-cons (λ x. not (is_empty_line x)) line more) ∙ elim (is_empty_line line) as (λ v. take_while continues (cond (not v) (line ∷ take_while (λ x. not (is_empty_line x)) more) []) ≡ []) [
      | true ↦ refl
      | false ↦ take_while-cons continues line (take_while (λ x. not (is_empty_line x)) more) ∙ ap (λ v. cond v (line ∷ take_while continues (take_while (λ x. not (is_empty_line x)) more)) []) e
    ]

-- a line that continues a field adds to it, and begins none
pub folded_turn : (bs : List ℕ) (n : ℕ) → BeginsWithLine bs n → continues (take n bs) ≡ true → folded_of (header_lines bs) ≡ content (take n bs) ++ folded_of (header_lines (drop n bs))
folded_turn bs n b e =
    ap folded_of b.header ∙ ap (λ l. concat (map content l)) (take_while-cons continues (take n bs) (header_lines (drop n bs)) ∙ ap (λ v. cond v (take n bs ∷ take_while continues (header_lines (drop n bs))) []) e)

pub folded_end : (bs : List ℕ) → take_while continues (header_lines bs) ≡ [] → folded_of (header_lines bs) ≡ []
folded_end bs e = ap (λ l. concat (map content l)) e

pub fields_skip : (bs : List ℕ) (n : ℕ) → BeginsWithLine bs n → begins_field (take n bs) ≡ false → fields_in (header_lines (drop n bs)) ≡ fields_in (header_lines bs)
fields_skip bs n b e =
    sym (ap fields_in b.header ∙ ap (λ v. cond v (field_of (take n bs) (header_lines (drop n bs)) ∷ fields_in (header_lines (drop n bs))) (fields_in (header_lines (drop n bs)))) e)

pub fields_take : (bs : List ℕ) (n : ℕ) → BeginsWithLine bs n → begins_field (take n bs) ≡ true → fields_in (header_lines bs) ≡ field_of (take n bs) (header_lines (drop n bs)) ∷ fields_in (header_lines (drop n bs))
fields_take bs n b e =
    ap fields_in b.header ∙ ap (λ v. cond v (field_of (take n bs) (header_lines (drop n bs)) ∷ fields_in (header_lines (drop n bs))) (fields_in (header_lines (drop n bs)))) e

pub continues_begins_none : (line : List ℕ) → continues line ≡ true → begins_field line ≡ false
continues_begins_none line e = ap (λ v. not v && (list_any (is_byte 58) (content line) && is_name (name_of line))) e

pub leaves_all : (bs : List ℕ) → LeavesOf bs bs
leaves_all bs = record { rest = refl; within = omega arith }

-- one line more is left after
pub leaves_more : (bs left : List ℕ) (n : ℕ) → LeavesOf bs left → BeginsWithLine left n → LeavesOf bs (drop n left)
leaves_more bs left n l b =
    let long : length (drop n left) ≡ length left - n = length-drop n left in
    let one = b.rest in
    let within = b.within in
    let before = l.rest in
    let bound = l.within in
    record { rest = omega arith; within = omega arith }

pub leaves_then : (bs middle left : List ℕ) → LeavesOf bs middle → LeavesOf middle left → LeavesOf bs left
leaves_then bs middle left a b =
    let ar = a.rest in
    let aw = a.within in
    let br = b.rest in
    let bw = b.within in
    record { rest = omega arith; within = omega arith }

-- a turn of the loop over the lines that continue a field
pub joined_turn : (before joined : List ℕ) (bs line left : List ℕ) (n : ℕ) → BeginsWithLine bs n → line ≡ take n bs → left ≡ drop n bs → continues (take n bs) ≡ true → joined ≡ before ++ content line → joined ++ folded_of (header_lines left) ≡ before ++ folded_of (header_lines bs)
joined_turn before joined bs line left n b l r e j =
    rw (j, l, r) (append_assoc before (content (take n bs)) (folded_of (header_lines (drop n bs))) ∙ ap (λ x. before ++ x) (sym (folded_turn bs n b e)))

pub fields_folded : (bs : List ℕ) (n : ℕ) → BeginsWithLine bs n → continues (take n bs) ≡ true → fields_in (header_lines (drop n bs)) ≡ fields_in (header_lines bs)
fields_folded bs n b e = fields_skip bs n b (continues_begins_none (take n bs) e)
