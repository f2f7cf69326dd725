-- The lines of a multipart, one by one. For the proofs of `next_span` and `part_end`.
use Rattle.std.proofs.Common.{◌≡◌, ℕ, ◌+◌, ◌-◌, ◌<◌, ◌≤◌, Bool, true, false, cond, ◌||◌, ◌==◌, List, [], ◌∷◌, ◌++◌, length, take, drop, refl, sym, ap, ◌∙◌, arith, length-drop}
use Rattle.std.specs.List.{concat, onto_first}
use Rattle.std.proofs.lemmas.List.{drop-drop, length-take-le}
use Rattle.std.proofs.lemmas.Bool.{eqb-true}
use Rattle.nm_text.specs.Lines.{content, is_line_feed, lines_of}
use Rattle.nm_mime.specs.declared.children.Delimiters.{Delimiters}
use Rattle.nm_mime.specs.declared.children.Span.{Span}
use Rattle.nm_mime.specs.Children.{ends_part, is_line_of, part_after, part_at, part_len, spans_in, spans_of, stops}

-- the lines joined are the bytes
concat-onto : (b : ℕ) (lines : List (List ℕ)) → concat (onto_first b lines) ≡ b ∷ concat lines
concat-onto b [] = refl
concat-onto b (line ∷ lines) = refl

pub concat-lines : (bytes : List ℕ) → concat (lines_of bytes) ≡ bytes
concat-lines [] = refl
concat-lines (b ∷ bytes) =
    elim (is_line_feed b) as (λ v. concat (cond v ((b ∷ []) ∷ lines_of bytes) (onto_first b (lines_of bytes))) ≡ b ∷ bytes) [
      | true ↦ ap (λ l. b ∷ l) (concat-lines bytes)
      | false ↦ concat-onto b (lines_of bytes) ∙ ap (λ l. b ∷ l) (concat-lines bytes)
    ]

pub lines_long : (bytes : List ℕ) → length (concat (lines_of bytes)) ≡ length bytes
lines_long bytes = ap length (concat-lines bytes)

pub lines-nil : (bytes : List ℕ) → (length bytes == 0) ≡ true → lines_of bytes ≡ []
lines-nil [] e = refl
lines-nil (b ∷ bytes) e = absurd (let no : length (b ∷ bytes) ≡ 0 = eqb-true (length (b ∷ bytes)) 0 e in omega arith)

-- ---- the size of a part: `done` bytes are passed, `kept` of them belong to it where the next line ends it
abbrev pub size_so_far : Delimiters → ℕ → ℕ → List (List ℕ) → ℕ
size_so_far delimiters done kept lines = cond (stops delimiters lines) kept (done + part_len delimiters lines)

pub size_begin : (delimiters : Delimiters) (lines : List (List ℕ)) → size_so_far delimiters 0 0 lines ≡ part_len delimiters lines
size_begin delimiters [] = refl
size_begin delimiters (line ∷ more) =
    let rest : ℕ = cond (stops delimiters more) (length (content line)) (length line + part_len delimiters more) in
    elim (ends_part delimiters line) as (λ v. cond v 0 (0 + cond v 0 rest) ≡ cond v 0 rest) [ true ↦ refl | false ↦ omega arith ]

pub size_turn : (delimiters : Delimiters) (done kept : ℕ) (left line behind : List ℕ) (n : ℕ) → lines_of left ≡ take n left ∷ lines_of (drop n left) → line ≡ take n left → behind ≡ drop n left → ends_part delimiters line ≡ false → size_so_far delimiters (done + length line) (done + length (content line)) (lines_of behind) ≡ size_so_far delimiters done kept (lines_of left)
size_turn delimiters done kept left line behind n e l b goes =
    let more : List (List ℕ) = lines_of behind in
    let lines : lines_of left ≡ line ∷ more = e ∙ ap (λ x. x ∷ lines_of (drop n left)) (sym l) ∙ ap (λ x. line ∷ lines_of x) (sym b) in
    let rest : ℕ = cond (stops delimiters more) (length (content line)) (length line + part_len delimiters more) in
    let now : size_so_far delimiters done kept (line ∷ more) ≡ done + rest = ap (λ v. cond v kept (done + cond v 0 rest)) goes in
    let step : cond (stops delimiters more) (done + length (content line)) ((done + length line) + part_len delimiters more) ≡ done + rest =
    elim (stops delimiters more) as (λ v. cond v (done + length (content line)) ((done + length line) + part_len delimiters more) ≡ done + cond v (length (content line)) (length line + part_len delimiters more)) [ true ↦ refl | false ↦ omega arith ] in
    step ∙ sym now ∙ ap (size_so_far delimiters done kept) (sym lines)

pub size_stop : (delimiters : Delimiters) (done kept : ℕ) (left line : List ℕ) (n : ℕ) → lines_of left ≡ take n left ∷ lines_of (drop n left) → line ≡ take n left → ends_part delimiters line ≡ true → kept ≡ size_so_far delimiters done kept (lines_of left)
size_stop delimiters done kept left line n e l ends =
    let more : List (List ℕ) = lines_of (drop n left) in
    let lines : lines_of left ≡ line ∷ more = e ∙ ap (λ x. x ∷ more) (sym l) in
    sym (ap (size_so_far delimiters done kept) lines ∙ ap (λ v. cond v kept (done + part_len delimiters (line ∷ more))) ends)

pub size_end : (delimiters : Delimiters) (done kept : ℕ) (left : List ℕ) → (length left == 0) ≡ true → done ≡ size_so_far delimiters done kept (lines_of left)
size_end delimiters done kept left e = let all : done ≡ done + 0 = omega arith in all ∙ sym (ap (size_so_far delimiters done kept) (lines-nil left e))

-- ---- the parts
no_end : (delimiter closing : Bool) (xs ys : List Span) → (delimiter || closing) ≡ false → cond closing [] (cond delimiter xs [] ++ ys) ≡ ys
no_end true closing xs ys e = absurd (cc)
no_end false true xs ys e = absurd (cc)
no_end false false xs ys e = refl

begins_part : (delimiter closing : Bool) (xs ys : List Span) → (delimiter || closing) ≡ true → closing ≡ false → cond closing [] (cond delimiter xs [] ++ ys) ≡ xs ++ ys
begins_part delimiter true xs ys e c = absurd (cc)
begins_part true false xs ys e c = refl
begins_part false false xs ys e c = absurd (cc)

-- a line that ends no part is passed over
pub spans_skip : (delimiters : Delimiters) (end : ℕ) (rest line : List ℕ) (n : ℕ) → lines_of rest ≡ take n rest ∷ lines_of (drop n rest) → line ≡ take n rest → ends_part delimiters line ≡ false → spans_of delimiters end (drop n rest) ≡ spans_of delimiters end rest
unfolding spans_of
spans_skip delimiters end rest line n e l goes =
    let more : List (List ℕ) = lines_of (drop n rest) in
    let lines : lines_of rest ≡ line ∷ more = e ∙ ap (λ x. x ∷ more) (sym l) in
    sym (ap (spans_in delimiters end) lines ∙ no_end (is_line_of delimiters.delimiter line) (is_line_of delimiters.closing line) (part_after delimiters end more ∷ []) (spans_in delimiters end more) goes)

pub spans_none : (delimiters : Delimiters) (end : ℕ) (bytes rest : List ℕ) → (length rest == 0) ≡ true → spans_of delimiters end rest ≡ spans_of delimiters end bytes → spans_of delimiters end bytes ≡ []
unfolding spans_of
spans_none delimiters end bytes rest none same = sym same ∙ ap (spans_in delimiters end) (lines-nil rest none)

pub spans_closed : (delimiters : Delimiters) (end : ℕ) (bytes rest line : List ℕ) (n : ℕ) → lines_of rest ≡ take n rest ∷ lines_of (drop n rest) → line ≡ take n rest → is_line_of delimiters.closing line ≡ true → spans_of delimiters end rest ≡ spans_of delimiters end bytes → spans_of delimiters end bytes ≡ []
unfolding spans_of
spans_closed delimiters end bytes rest line n e l closed same =
    let more : List (List ℕ) = lines_of (drop n rest) in
    let lines : lines_of rest ≡ line ∷ more = e ∙ ap (λ x. x ∷ more) (sym l) in
    sym same ∙ ap (spans_in delimiters end) lines ∙ ap (λ v. cond v [] (part_at delimiters end line more ++ spans_in delimiters end more)) closed

-- what is dropped after a front, a line and a part
pub dropped : (bytes rest after : List ℕ) (first n next : ℕ) → first ≤ length bytes → n ≤ length rest → rest ≡ drop first bytes → after ≡ drop n rest → drop (length bytes - length after + next) bytes ≡ drop next after
dropped bytes rest after first n next h k r a =
    let long_rest : length rest ≡ length bytes - first = ap length r ∙ length-drop first bytes in
    let long_after : length after ≡ length rest - n = ap length a ∙ length-drop n rest in
    let place : length bytes - length after + next ≡ (first + n) + next = omega arith in
    ap (λ k. drop k bytes) place ∙ sym (ap (drop next) (a ∙ ap (drop n) r ∙ drop-drop n first bytes) ∙ drop-drop next (first + n) bytes)

-- a part begins after the line that ends the one before, if that does not close the multipart
pub spans_next : (delimiters : Delimiters) (end : ℕ) (bytes rest line after : List ℕ) (n from len place next : ℕ) → lines_of rest ≡ take n rest ∷ lines_of (drop n rest) → line ≡ take n rest → after ≡ drop n rest
    → stops delimiters (lines_of rest) ≡ true → is_line_of delimiters.closing line ≡ false → spans_of delimiters end rest ≡ spans_of delimiters end bytes → from ≡ end - length after → len ≡ part_len delimiters (lines_of after)
    → spans_of delimiters end (drop next after) ≡ spans_of delimiters end after → drop place bytes ≡ drop next after
    → let span : Span = record { from = from; to = from + len } in spans_of delimiters end bytes ≡ span ∷ spans_of delimiters end (drop place bytes)
unfolding spans_of
spans_next delimiters end bytes rest line after n from len place next e l a stops_there goes same f s goes_on d =
    let more : List (List ℕ) = lines_of after in
    let lines : lines_of rest ≡ line ∷ more = e ∙ ap (λ x. x ∷ lines_of (drop n rest)) (sym l) ∙ ap (λ x. line ∷ lines_of x) (sym a) in
    let ends : ends_part delimiters line ≡ true = ap (stops delimiters) (sym lines) ∙ stops_there in
    let all : spans_in delimiters end (lines_of rest) ≡ part_after delimiters end more ∷ spans_in delimiters end more =
    ap (spans_in delimiters end) lines ∙ begins_part (is_line_of delimiters.delimiter line) (is_line_of delimiters.closing line) (part_after delimiters end more ∷ []) (spans_in delimiters end more) ends goes in
    let span_at : ℕ → ℕ → Span = λ b k. record { from = b; to = b + k } in
    let begins : end - length (concat more) ≡ from = ap (λ k. end - k) (lines_long after) ∙ sym f in
    let span : part_after delimiters end more ≡ span_at from len = ap (λ b. span_at b (part_len delimiters more)) begins ∙ ap (span_at from) (sym s) in
    sym same ∙ all ∙ ap (λ x. x ∷ spans_in delimiters end more) span ∙ ap (λ x. span_at from len ∷ x) (sym goes_on ∙ ap (λ x. spans_in delimiters end (lines_of x)) (sym d))

-- ---- how far a part goes: what follows a line
pub after_is : (bytes rest line : List ℕ) (n next : ℕ) → rest ≡ drop next bytes → n ≤ length rest → line ≡ take n rest → drop n rest ≡ drop (next + length line) bytes
after_is bytes rest line n next r h l =
    let long : length line ≡ n = ap length l ∙ length-take-le n rest h in
    ap (drop n) r ∙ drop-drop n next bytes ∙ ap (λ k. drop (next + k) bytes) (sym long)

pub end_size : (delimiters : Delimiters) (bytes rest line : List ℕ) (n next len more size : ℕ) → rest ≡ drop next bytes → n ≤ length rest → lines_of rest ≡ take n rest ∷ lines_of (drop n rest) → line ≡ take n rest → ends_part delimiters line ≡ false → more ≡ length (content line)
    → size_so_far delimiters next len (lines_of (drop next bytes)) ≡ size → size_so_far delimiters (next + length line) (next + more) (lines_of (drop (next + length line) bytes)) ≡ size
end_size delimiters bytes rest line n next len more size r h e l goes m i =
    let behind : List ℕ = drop (next + length line) bytes in
    ap (λ k. size_so_far delimiters (next + length line) (next + k) (lines_of behind)) m
    ∙ size_turn delimiters next len rest line behind n e l (sym (after_is bytes rest line n next r h l)) goes
    ∙ ap (λ x. size_so_far delimiters next len (lines_of x)) r ∙ i

pub end_same : (delimiters : Delimiters) (end : ℕ) (bytes rest line : List ℕ) (n next : ℕ) → rest ≡ drop next bytes → n ≤ length rest → lines_of rest ≡ take n rest ∷ lines_of (drop n rest) → line ≡ take n rest → ends_part delimiters line ≡ false
    → spans_of delimiters end (drop next bytes) ≡ spans_of delimiters end bytes → spans_of delimiters end (drop (next + length line) bytes) ≡ spans_of delimiters end bytes
end_same delimiters end bytes rest line n next r h e l goes i =
    ap (spans_of delimiters end) (sym (after_is bytes rest line n next r h l)) ∙ spans_skip delimiters end rest line n e l goes ∙ ap (spans_of delimiters end) r ∙ i

pub end_within : (bytes rest line : List ℕ) (n next : ℕ) → next ≤ length bytes → rest ≡ drop next bytes → n ≤ length rest → line ≡ take n rest → next + length line ≤ length bytes
end_within bytes rest line n next h r k l =
    let long : length line ≡ n = ap length l ∙ length-take-le n rest k in
    let left : length rest ≡ length bytes - next = ap length r ∙ length-drop next bytes in
    omega arith

pub first_within : (bytes rest : List ℕ) (first n : ℕ) → rest ≡ drop first bytes → 0 < n → n ≤ length rest → first < length bytes
first_within bytes rest first n r some k =
    let left : length rest ≡ length bytes - first = ap length r ∙ length-drop first bytes in
    omega arith

pub no_parts : (left : List ℕ) → (length left == 0) ≡ true → length left ≡ 0
no_parts left e = eqb-true (length left) 0 e
