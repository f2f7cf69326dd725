-- Rows that are looked up one after the other. For the proof of `meaning_of`.
use Rattle.std.proofs.Common.{◌≡◌, ℕ, suc, ◌+◌, ◌<◌, true, false, cond, List, length, drop, get_or, map, sym, ap, ◌∙◌, arith}
use Rattle.std.specs.Prelude.{Some}
use Rattle.std.proofs.Math.Seq.{drop-cons}
use Rattle.std.proofs.lemmas.List.{drop-map}
use Rattle.nm_base.specs.Order.{same_text}
use Rattle.nm_command.specs.Table.{meaning_of}

module _ {A R : Type 0} (f : R → List ℕ × A) (word : List ℕ) (rows : List R) (at : ℕ) (row : R) (within : at < length rows) (is : row ≡ get_or rows at row) where
  here : meaning_of word (drop at (map f rows)) ≡ cond (same_text (f row).0 word) (Some (f row).1) (meaning_of word (drop (at + 1) (map f rows)))
  here =
      ap (meaning_of word) (drop-map f at rows ∙ ap (map f) (drop-cons rows at row within))
      ∙ ap (λ (x : R). cond (same_text (f x).0 word) (Some (f x).1) (meaning_of word (map f (drop (suc at) rows)))) (sym is)
      ∙ ap (λ rest. cond (same_text (f row).0 word) (Some (f row).1) (meaning_of word rest)) (sym (drop-map f (suc at) rows))
      ∙ ap (λ n. cond (same_text (f row).0 word) (Some (f row).1) (meaning_of word (drop n (map f rows)))) (let next : suc at ≡ at + 1 = omega arith in next)

  pub row-found : same_text (f row).0 word ≡ true → meaning_of word (drop at (map f rows)) ≡ meaning_of word (map f rows) → Some (f row).1 ≡ meaning_of word (map f rows)
  row-found same so_far =
      ap (λ v. cond v (Some (f row).1) (meaning_of word (drop (at + 1) (map f rows)))) (sym same) ∙ sym here ∙ so_far

  pub row-passed : same_text (f row).0 word ≡ false → meaning_of word (drop at (map f rows)) ≡ meaning_of word (map f rows) →
      meaning_of word (drop (at + 1) (map f rows)) ≡ meaning_of word (map f rows)
  row-passed other so_far =
      ap (λ v. cond v (Some (f row).1) (meaning_of word (drop (at + 1) (map f rows)))) (sym other) ∙ sym here ∙ so_far
