-- The first line, its content, and what is left after it; nothing is lost.
-- For the proofs of `nothing_is_cut_away`, `the_first_line_ends_at_the_first_line_feed` and `line_len`.
use Rattle.std.proofs.Common.{◌≡◌, ℕ, zero, suc, ◌+◌, ◌-◌, ◌<◌, ◌≤◌, true, false, cond, not, ◌==◌, List, [], ◌∷◌, ◌++◌, length, map, take, drop, get_or, ltb, refl, sym, ap, ◌∙◌, arith, length-append, length-drop}
use Rattle.std.specs.List.{after_first, concat, onto_first, position_or_len, slice_split}
use Rattle.std.specs.Str.Lines.{lines, lines_of_parts, strip_carriage_return}
use Rattle.std.proofs.lemmas.Bool.{eqb-true, ltb-false, ltb-true}
use Rattle.std.proofs.lemmas.Bool.Decides.{nat_tests}
use Rattle.std.proofs.lemmas.List.{drop_all, get_or_at, take_all, take_at, take_more}
use Rattle.std.proofs.lemmas.List.Elements.{All-from_get_or}
use Rattle.std.proofs.lemmas.List.Splits.{length-slice_split, slice_split_first, slice_split_none}
use Rattle.std.proofs.lemmas.List.Sums.{fails_before_first, passes_at_first}
use Rattle.nm_text.specs.Lines.{content, is_line_feed, lines_of}

concat-onto_first : (b : ℕ) (lines : List (List ℕ)) → concat (onto_first b lines) ≡ b ∷ concat lines
concat-onto_first b [] = refl
concat-onto_first b (line ∷ lines) = refl

pub concat-lines : (bytes : List ℕ) → concat (lines_of bytes) ≡ bytes
concat-lines [] = refl
concat-lines (b ∷ bytes) =
    elim (is_line_feed b) as (λ v. concat (cond v ((b ∷ []) ∷ lines_of bytes) (onto_first b (lines_of bytes))) ≡ b ∷ bytes) [
      | true ↦ ap (λ l. b ∷ l) (concat-lines bytes)
      | false ↦ concat-onto_first b (lines_of bytes) ∙ ap (λ l. b ∷ l) (concat-lines bytes)
    ]

line_cons : (b : ℕ) (bs : List ℕ) → lines_of (b ∷ bs) ≡ take (position_or_len is_line_feed (b ∷ bs) + 1) (b ∷ bs) ∷ lines_of (drop (position_or_len is_line_feed (b ∷ bs) + 1) (b ∷ bs))
line_cons b [] =
    elim (is_line_feed b) as (λ v. cond v ((b ∷ []) ∷ []) (onto_first b []) ≡ take (cond (not v) (1 + 0) 0 + 1) (b ∷ []) ∷ lines_of (drop (cond (not v) (1 + 0) 0 + 1) (b ∷ []))) [ true ↦ refl | false ↦ refl ]
line_cons b (c ∷ bs) =
    let n : ℕ = position_or_len is_line_feed (c ∷ bs) in
    let e : 1 + n + 1 ≡ suc (n + 1) = omega arith in
    elim (is_line_feed b) as (λ v. cond v ((b ∷ []) ∷ lines_of (c ∷ bs)) (onto_first b (lines_of (c ∷ bs))) ≡ take (cond (not v) (1 + n) 0 + 1) (b ∷ c ∷ bs) ∷ lines_of (drop (cond (not v) (1 + n) 0 + 1) (b ∷ c ∷ bs))) [
      | true ↦ refl
      | false ↦ ap (onto_first b) (line_cons c bs) ∙ ap (λ k. take k (b ∷ c ∷ bs) ∷ lines_of (drop k (b ∷ c ∷ bs))) (sym e)
    ]

pub line_first : (bs : List ℕ) → 0 < length bs → lines_of bs ≡ take (position_or_len is_line_feed bs + 1) bs ∷ lines_of (drop (position_or_len is_line_feed bs + 1) bs)
line_first [] h = absurd (omega arith)
line_first (b ∷ bs) h = line_cons b bs

-- without an LF it is all
pub line_whole : (bs : List ℕ) → 0 < length bs → length bs ≤ position_or_len is_line_feed bs → lines_of bs ≡ take (length bs) bs ∷ lines_of (drop (length bs) bs)
line_whole bs h long =
    let n : ℕ = position_or_len is_line_feed bs in
    let all : take (n + 1) bs ≡ take (length bs) bs = take_all (n + 1) bs (omega arith) ∙ sym (take_all (length bs) bs (omega arith)) in
    let none : drop (n + 1) bs ≡ drop (length bs) bs = drop_all (n + 1) bs (omega arith) ∙ sym (drop_all (length bs) bs (omega arith)) in
    line_first bs h ∙ ap (λ line. line ∷ lines_of (drop (n + 1) bs)) all ∙ ap (λ rest. take (length bs) bs ∷ lines_of rest) none

-- ---- the content of a line that an LF ends, and of one that lacks its end
content-feed : (text : List ℕ) → content (text ++ 10 ∷ []) ≡ strip_carriage_return text
content-feed text =
    let line : List ℕ = text ++ 10 ∷ [] in
    let size : length line ≡ length text + 1 = length-append text (10 ∷ []) in
    let last : length line - 1 ≡ length text = omega arith in
    ap (λ k. cond (is_line_feed (get_or line k 0)) (strip_carriage_return (take k line)) line) last ∙ ap (λ b. cond (is_line_feed b) (strip_carriage_return (take (length text) line)) line) (get_or_at text 10 [] 0 (length text) refl) ∙ ap strip_carriage_return (take_at text (10 ∷ []) (length text) refl)

content-open : (bs : List ℕ) → length bs ≤ position_or_len is_line_feed bs → content bs ≡ bs
content-open [] long = refl
content-open (b ∷ bs) long =
    let line : List ℕ = b ∷ bs in
    ap (λ v. cond v (strip_carriage_return (take (length line - 1) line)) line) (fails_before_first is_line_feed line (length line - 1) 0 (omega arith))

-- ---- the same lines without their ends
parts_cons : (part : List ℕ) (parts : List (List ℕ)) → 0 < length parts → lines_of_parts (part ∷ parts) ≡ strip_carriage_return part ∷ lines_of_parts parts
parts_cons part [] h = absurd (omega arith)
parts_cons part (next ∷ parts) h = refl

one_part : (bs : List ℕ) → 0 < length bs → lines_of_parts (bs ∷ []) ≡ bs ∷ []
one_part bs some = ap (λ v. cond v [] (bs ∷ [])) (let none : (length bs == 0) ≡ false = grind (arith, nat_tests) in none)

contents_within : (bs : List ℕ) → position_or_len is_line_feed bs < length bs → lines bs ≡ content (take (position_or_len is_line_feed bs + 1) bs) ∷ lines (drop (position_or_len is_line_feed bs + 1) bs)
contents_within bs h =
    let n : ℕ = position_or_len is_line_feed bs in
    let rest : List (List ℕ) = slice_split is_line_feed (after_first is_line_feed bs) in
    let feed : get_or bs n 0 ≡ 10 = eqb-true (get_or bs n 0) 10 (passes_at_first is_line_feed bs 0 h) in
    let line : take (n + 1) bs ≡ take n bs ++ 10 ∷ [] = take_more bs n 0 h ∙ ap (λ b. take n bs ++ b ∷ []) feed in
    let some = length-slice_split is_line_feed (after_first is_line_feed bs) in
    ap lines_of_parts (slice_split_first is_line_feed bs 0 h) ∙ parts_cons (take n bs) rest (omega arith) ∙ ap (λ l. l ∷ lines (drop (n + 1) bs)) (sym (ap content line ∙ content-feed (take n bs)))

contents_past : (bs : List ℕ) → 0 < length bs → length bs ≤ position_or_len is_line_feed bs → (n : ℕ) → length bs ≤ n → lines bs ≡ content (take n bs) ∷ lines (drop n bs)
contents_past bs some long n more =
    let none : drop n bs ≡ [] = drop_all n bs more in
    let all : content (take n bs) ≡ bs = ap content (take_all n bs more) ∙ content-open bs long in
    ap lines_of_parts (slice_split_none is_line_feed bs (All-from_get_or (λ x. is_line_feed x ≡ false) bs 0 (λ i within. fails_before_first is_line_feed bs i 0 (omega arith)))) ∙ one_part bs some ∙ ap (λ l. l ∷ []) (sym all) ∙ ap (λ l. content (take n bs) ∷ lines l) (sym none)

-- up to the first LF, or all
pub contents_ended : (bs : List ℕ) (n : ℕ) → n ≡ position_or_len is_line_feed bs → n < length bs → lines bs ≡ content (take (n + 1) bs) ∷ lines (drop (n + 1) bs)
contents_ended bs n e h = rw e (contents_within bs (omega arith))

pub contents_open : (bs : List ℕ) (n : ℕ) → n ≡ position_or_len is_line_feed bs → length bs ≤ n → n ≤ length bs → 0 < length bs → lines bs ≡ content (take n bs) ∷ lines (drop n bs)
contents_open bs n e h within some = contents_past bs some (omega arith) n h

pub lines_ended : (bs : List ℕ) (n : ℕ) → n ≡ position_or_len is_line_feed bs → n < length bs → lines_of bs ≡ take (n + 1) bs ∷ lines_of (drop (n + 1) bs)
lines_ended bs n e h = rw e (line_first bs (omega arith))

pub lines_open : (bs : List ℕ) (n : ℕ) → n ≡ position_or_len is_line_feed bs → length bs ≤ n → n ≤ length bs → 0 < length bs → lines_of bs ≡ take n bs ∷ lines_of (drop n bs)
lines_open bs n e h within some =
    let all : length bs ≡ n = omega arith in
    line_whole bs some (omega arith) ∙ ap (λ k. take k bs ∷ lines_of (drop k bs)) all

contents_first : (bs : List ℕ) → 0 < length bs → lines bs ≡ content (take (position_or_len is_line_feed bs + 1) bs) ∷ lines (drop (position_or_len is_line_feed bs + 1) bs)
contents_first bs some =
    let n : ℕ = position_or_len is_line_feed bs in
    elim (ltb n (length bs)) as (λ v. ltb n (length bs) ≡ v → lines bs ≡ content (take (n + 1) bs) ∷ lines (drop (n + 1) bs)) [
      | true ↦ λ h. contents_within bs (ltb-true n (length bs) h)
      | false ↦ λ h. let long = ltb-false n (length bs) h in contents_past bs some long (n + 1) (omega arith)
    ] refl

contents_upto : (n : ℕ) (bs : List ℕ) → length bs ≤ n → lines bs ≡ map content (lines_of bs)
contents_upto zero [] h = refl
contents_upto zero (b ∷ bs) h = absurd (omega arith)
contents_upto (suc n) [] h = refl
contents_upto (suc n) (b ∷ bs) h =
    let all : List ℕ = b ∷ bs in
    let k : ℕ = position_or_len is_line_feed all + 1 in
    let less : length (drop k all) ≡ length all - k = length-drop k all in
    contents_first all (omega arith) ∙ ap (λ l. content (take k all) ∷ l) (contents_upto n (drop k all) (omega arith)) ∙ ap (map content) (sym (line_first all (omega arith)))

pub lines-contents : (bytes : List ℕ) → lines bytes ≡ map content (lines_of bytes)
lines-contents bytes = contents_upto (length bytes) bytes (omega arith)
