-- The first parenthesis without its fellow is reported by the outermost one that is open. For the proof of `unmatched`.
use Rattle.std.proofs.Common.{◌≡◌, ℕ, zero, suc, Bool, true, false, cond, List, [], ◌∷◌, refl, sym, ap, ◌∙◌}
use Rattle.std.specs.Prelude.{Option, Some, None}
use Rattle.nm_query.specs.Faults.{closed_at, is_closed, unmatched_at, unmatched_from}
use Rattle.nm_query.specs.declared.token.Placed.{Placed}
use Rattle.nm_query.specs.declared.token.Token.{Token}
use Rattle.nm_query.specs.declared.token.Token.TheVariants.{Binary, Close, Negation, Open, Term}

-- the outermost parenthesis that is open, after one opens at this place
abbrev pub outermost_at : ℕ → ℕ → ℕ → ℕ
outermost_at zero outermost at = at
outermost_at (suc opened) outermost at = outermost

abbrev pub told_at : ℕ → ℕ → ℕ → Token → (ℕ → ℕ → Option ℕ) → Option ℕ
told_at opened outermost at Open after = after (suc opened) (outermost_at opened outermost at)
told_at zero outermost at Close after = Some at
told_at (suc opened) outermost at Close after = after opened outermost
told_at opened outermost at Negation after = after opened outermost
told_at opened outermost at (Binary operator) after = after opened outermost
told_at opened outermost at (Term item) after = after opened outermost

abbrev pub told_last : ℕ → ℕ → Option ℕ
told_last zero outermost = None
told_last (suc opened) outermost = Some outermost

-- the place that is reported, where n are open and the outermost of them is there
abbrev pub told : ℕ → ℕ → List Placed → Option ℕ
told opened outermost [] = told_last opened outermost
told opened outermost (placed ∷ more) = told_at opened outermost placed.at placed.token (λ opened outermost. told opened outermost more)

abbrev closes : List Placed → ℕ → Bool
closes more opened = is_closed opened more

abbrev tells : List Placed → ℕ → ℕ → Option ℕ
tells more opened outermost = told opened outermost more

-- what is not closed is reported by its outermost parenthesis
not_closed : (tokens : List Placed) (opened outermost : ℕ) → is_closed opened tokens ≡ false → told (suc opened) outermost tokens ≡ Some outermost
not_closed [] opened outermost h = refl
not_closed (placed ∷ more) opened outermost h =
    elim placed.token as (λ token. closed_at opened token (closes more) ≡ false → told_at (suc opened) outermost placed.at token (tells more) ≡ Some outermost) [
      | Open ↦ λ h. not_closed more (suc opened) outermost h
      | Close ↦ λ h. elim opened as (λ opened. closed_at opened Close (closes more) ≡ false → told_at (suc opened) outermost placed.at Close (tells more) ≡ Some outermost) [
        | zero ↦ λ h. absurd (cc)
        | suc opened ↦ λ h. not_closed more opened outermost h
      ] h
      | Negation ↦ λ h. not_closed more opened outermost h
      | Binary operator ↦ λ h. not_closed more opened outermost h
      | Term item ↦ λ h. not_closed more opened outermost h
    ] h

-- what closes a parenthesis closes those inside it
closes_inner : (tokens : List Placed) (opened : ℕ) → is_closed (suc opened) tokens ≡ true → is_closed opened tokens ≡ true
closes_inner [] opened h = h
closes_inner (placed ∷ more) opened h =
    elim placed.token as (λ token. closed_at (suc opened) token (closes more) ≡ true → closed_at opened token (closes more) ≡ true) [
      | Open ↦ λ h. closes_inner more (suc opened) h
      | Close ↦ λ h. elim opened as (λ opened. closed_at (suc opened) Close (closes more) ≡ true → closed_at opened Close (closes more) ≡ true) [
        | zero ↦ λ h. refl
        | suc opened ↦ λ h. closes_inner more opened h
      ] h
      | Negation ↦ λ h. closes_inner more opened h
      | Binary operator ↦ λ h. closes_inner more opened h
      | Term item ↦ λ h. closes_inner more opened h
    ] h

closes_innermost : (tokens : List Placed) (opened : ℕ) → is_closed opened tokens ≡ true → is_closed 0 tokens ≡ true
closes_innermost tokens zero h = h
closes_innermost tokens (suc opened) h = closes_innermost tokens opened (closes_inner tokens opened h)

-- the first parenthesis without its fellow is reported, where all that are open are closed
told_first : (tokens : List Placed) → ((outermost : ℕ) → told 0 outermost tokens ≡ unmatched_from 0 tokens) × ((opened outermost : ℕ) → is_closed opened tokens ≡ true → told (suc opened) outermost tokens ≡ unmatched_from (suc opened) tokens)
told_first [] = ((λ outermost. refl), (λ opened outermost h. absurd (cc)))
told_first (placed ∷ more) =
    let rest = told_first more in (
      (λ outermost. elim placed.token as (λ token. told_at 0 outermost placed.at token (tells more) ≡ unmatched_at 0 placed.at token (is_closed 0 more) (λ opened. unmatched_from opened more)) [
        | Open ↦ elim (is_closed 0 more) as (λ v. is_closed 0 more ≡ v → told 1 placed.at more ≡ cond v (unmatched_from 1 more) (Some placed.at)) [
          | true ↦ λ h. rest.1 0 placed.at h
          | false ↦ λ h. not_closed more 0 placed.at h
        ] refl
        | Close ↦ refl
        | Negation ↦ rest.0 outermost
        | Binary operator ↦ rest.0 outermost
        | Term item ↦ rest.0 outermost
      ]),
      (λ opened outermost h. elim placed.token as (λ token. closed_at opened token (closes more) ≡ true → told_at (suc opened) outermost placed.at token (tells more) ≡ unmatched_at (suc opened) placed.at token (is_closed 0 more) (λ opened. unmatched_from opened more)) [
        | Open ↦ λ h. rest.1 (suc opened) outermost h ∙ ap (λ v. cond v (unmatched_from (suc (suc opened)) more) (Some placed.at)) (sym (closes_innermost more (suc opened) h))
        | Close ↦ λ h. elim opened as (λ opened. closed_at opened Close (closes more) ≡ true → told opened outermost more ≡ unmatched_from opened more) [
          | zero ↦ λ h. rest.0 outermost
          | suc opened ↦ λ h. rest.1 opened outermost h
        ] h
        | Negation ↦ λ h. rest.1 opened outermost h
        | Binary operator ↦ λ h. rest.1 opened outermost h
        | Term item ↦ λ h. rest.1 opened outermost h
      ] h),
    )

pub told-unmatched : (tokens : List Placed) → told 0 0 tokens ≡ unmatched_from 0 tokens
told-unmatched tokens = (told_first tokens).0 0
