-- What is read of lines, and which of them is reported.
-- For the proofs of `changes_are_read_line_by_line` and `queries_are_read_line_by_line`.
use Rattle.std.proofs.Common.{◌≡◌, ℕ, ◌+◌, ◌&&◌, true, List, [], ◌∷◌, ◌++◌, length, is_ok, refl, sym, ap, ◌∙◌, arith, inl, inr, ◌⊎◌, Option, Some, None, Result, Ok, Err}
use Rattle.std.specs.List.{cons_option}
use Rattle.nm_model_answer.specs.BatchLines.{read_each, then_read}
use Rattle.nm_batch.specs.LineByLine.{are_sound, asked_of, AreRead, IsFirstBad}
use Rattle.nm_tags.specs.declared.line_error.LineKind.{LineKind}

module _ {T : Type 0} where
  -- where all is read, the first line is, and what the others ask for comes after it
  pub first_read : (first : Result (Option T) LineKind) (more : Result (List T) (ℕ × LineKind)) (number : ℕ) (items : List T) → then_read number first more ≡ Ok items
      → (is_ok first ≡ true) × (rest : List T) × (more ≡ Ok rest) × (items ≡ cons_option (asked_of first) rest)
  first_read (Ok None) (Ok rest) number items e = (refl, rest, refl, cc)
  first_read (Ok None) (Err fault) number items e = absurd (cc)
  first_read (Ok (Some first)) (Ok rest) number items e = (refl, rest, refl, cc)
  first_read (Ok (Some first)) (Err fault) number items e = absurd (cc)
  first_read (Err kind) more number items e = absurd (cc)

  -- a fault that is reported is that of the first line, or one after it
  first_told : (first : Result (Option T) LineKind) (more : Result (List T) (ℕ × LineKind)) (here number : ℕ) (kind : LineKind) → then_read here first more ≡ Err (number, kind)
      → ((first ≡ Err kind) × (number ≡ here)) ⊎ ((is_ok first ≡ true) × (more ≡ Err (number, kind)))
  first_told (Ok None) more here number kind e = inr (refl, e)
  first_told (Ok (Some first)) (Ok rest) here number kind e = absurd (cc)
  first_told (Ok (Some first)) (Err fault) here number kind e = inr (refl, e)
  first_told (Err fault) more here number kind e =
      let same : (here, fault) ≡ (number, kind) = cc in
      inl (ap (λ (told : ℕ × LineKind). Err told.1) same, sym (ap (λ (told : ℕ × LineKind). told.0) same))

  module _ (read : List ℕ → Result (Option T) LineKind) where
    -- lines without a fault are read, whatever the number of the first
    pub all_read : (number : ℕ) (lines : List (List ℕ)) (items : List T) → read_each read number lines ≡ Ok items → AreRead read lines items
    all_read number [] items e = record { sound = refl; asked = cc }
    all_read number (line ∷ more) items e =
        let here = first_read (read line) (read_each read (number + 1) more) number items e in
        let after = all_read (number + 1) more here.1 here.2 in
        record {
          sound = ap (λ b. b && are_sound read more) here.0 ∙ after.sound;
          asked = here.3 ∙ ap (cons_option (asked_of (read line))) after.asked;
        }

    -- what is known of the line that is reported, where the first line has the number `here`
    abbrev Told : ℕ → List (List ℕ) → ℕ → LineKind → Type 0
    Told here lines number kind =
        (before : List (List ℕ)) × (bad : List ℕ) × (after : List (List ℕ)) × (lines ≡ before ++ bad ∷ after)
        × (number ≡ here + length before) × (are_sound read before ≡ true) × (read bad ≡ Err kind)

    told_here : (here number : ℕ) (kind : LineKind) (line : List ℕ) (more : List (List ℕ)) → (read line ≡ Err kind) × (number ≡ here)
        → Told here (line ∷ more) number kind
    told_here here number kind line more e = ([], line, more, refl, omega (arith, e.1), refl, e.0)

    told_from : (here number : ℕ) (kind : LineKind) (lines : List (List ℕ)) → read_each read here lines ≡ Err (number, kind) → Told here lines number kind
    told_from here number kind [] e = absurd (cc)
    told_from here number kind (line ∷ more) e =
        elim (first_told (read line) (read_each read (here + 1) more) here number kind e) [
          | inl first ↦ told_here here number kind line more first
          | inr later ↦
              let found = told_from (here + 1) number kind more later.1 in
              (line ∷ found.0, found.1, found.2, ap (λ rest. line ∷ rest) found.3, omega (arith, found.4), ap (λ b. b && are_sound read found.0) later.0 ∙ found.5, found.6)
        ]

    -- the line that is reported is the first that has a fault
    pub is_first_bad : (number : ℕ) (kind : LineKind) (lines : List (List ℕ)) → read_each read 1 lines ≡ Err (number, kind) → IsFirstBad read lines number kind
    is_first_bad number kind lines e =
        let found = told_from 1 number kind lines e in
        record {
          before = found.0;
          line = found.1;
          after = found.2;
          cut = found.3;
          place = omega (arith, found.4);
          sound = found.5;
          fault = found.6;
        }
