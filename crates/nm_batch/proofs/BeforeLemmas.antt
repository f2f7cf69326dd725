-- Lines after others that are read. For the proof of `lines_before_move_a_fault_and_leave_it`.
use Rattle.std.proofs.Common.{◌≡◌, ℕ, ◌+◌, true, List, [], ◌∷◌, ◌++◌, length, is_ok, refl, sym, ap, ◌∙◌, arith, Option, Some, None, Result, Ok, Err}
use Rattle.std.specs.List.{cons_option}
use Rattle.nm_model_answer.specs.BatchLines.{read_each, then_read}
use Rattle.nm_batch.specs.LineByLine.{asked_of}
use Rattle.nm_batch.proofs.LawLemmas.{first_read}
use Rattle.nm_batch.proofs.LineLemmas.{with_lines}
use Rattle.nm_tags.specs.declared.line_error.LineKind.{LineKind}

abbrev Read : Type 0 → Type 0
Read T = Result (List T) (ℕ × LineKind)

module _ {T : Type 0} where
  -- the same, n lines further on
  abbrev later : ℕ → Read T → Read T
  later by (Ok read) = Ok read
  later by (Err fault) = Err (by + fault.0, fault.1)

  later-then : (by number : ℕ) (first : Result (Option T) LineKind) (more : Read T) → then_read (by + number) first (later by more) ≡ later by (then_read number first more)
  later-then by number (Ok None) more = refl
  later-then by number (Ok (Some first)) (Ok read) = refl
  later-then by number (Ok (Some first)) (Err fault) = refl
  later-then by number (Err kind) more = refl

  with-none : (read : Read T) → read ≡ with_lines [] read
  with-none (Ok read) = refl
  with-none (Err fault) = refl

  with-first : (number : ℕ) (first : Result (Option T) LineKind) (before : List T) (read : Read T) → is_ok first ≡ true
      → then_read number first (with_lines before read) ≡ with_lines (cons_option (asked_of first) before) read
  with-first number (Ok None) before read is = refl
  with-first number (Ok (Some first)) before (Ok read) is = refl
  with-first number (Ok (Some first)) before (Err fault) is = refl
  with-first number (Err kind) before read is = absurd (cc)

  module _ (read : List ℕ → Result (Option T) LineKind) where
    each-later : (by number : ℕ) (lines : List (List ℕ)) → read_each read (by + number) lines ≡ later by (read_each read number lines)
    each-later by number [] = refl
    each-later by number (line ∷ more) =
        ap (λ n. then_read (by + number) (read line) (read_each read n more)) (omega arith)
        ∙ ap (then_read (by + number) (read line)) (each-later by (number + 1) more)
        ∙ later-then by number (read line) (read_each read (number + 1) more)

    each-after : (number : ℕ) (good rest : List (List ℕ)) (items : List T) → read_each read number good ≡ Ok items
        → read_each read number (good ++ rest) ≡ with_lines items (read_each read (number + length good) rest)
    each-after number [] rest items e =
        let none : [] ≡ items = cc in
        with-none (read_each read number rest) ∙ ap (λ n. with_lines [] (read_each read n rest)) (omega arith) ∙ ap (λ before. with_lines before (read_each read (number + 0) rest)) none
    each-after number (line ∷ more) rest items e =
        let here = first_read (read line) (read_each read (number + 1) more) number items e in
        ap (then_read number (read line)) (each-after (number + 1) more rest here.1 here.2)
        ∙ with-first number (read line) here.1 (read_each read (number + 1 + length more) rest) here.0
        ∙ ap (λ before. with_lines before (read_each read (number + 1 + length more) rest)) (sym here.3)
        ∙ ap (λ n. with_lines items (read_each read n rest)) (omega arith)

    -- the lines of the whole are those that are read, and then the others
    whole-read : (whole good rest : List (List ℕ)) (items : List T) → whole ≡ good ++ rest → read_each read 1 good ≡ Ok items
        → read_each read 1 whole ≡ with_lines items (later (length good) (read_each read 1 rest))
    whole-read whole good rest items cut e =
        ap (read_each read 1) cut ∙ each-after 1 good rest items e
        ∙ ap (λ n. with_lines items (read_each read n rest)) (omega arith) ∙ ap (with_lines items) (each-later (length good) 1 rest)

    pub read-behind : (whole good rest : List (List ℕ)) (items more : List T) → whole ≡ good ++ rest → read_each read 1 good ≡ Ok items → read_each read 1 rest ≡ Ok more
        → read_each read 1 whole ≡ Ok (items ++ more)
    read-behind whole good rest items more cut e then = whole-read whole good rest items cut e ∙ ap (λ r. with_lines items (later (length good) r)) then

    pub told-behind : (whole good rest : List (List ℕ)) (items : List T) (number : ℕ) (kind : LineKind) → whole ≡ good ++ rest → read_each read 1 good ≡ Ok items → read_each read 1 rest ≡ Err (number, kind)
        → read_each read 1 whole ≡ Err (length good + number, kind)
    told-behind whole good rest items number kind cut e then = whole-read whole good rest items cut e ∙ ap (λ r. with_lines items (later (length good) r)) then
