-- What all rows of a table keep, and what a word that is found there keeps.
-- For `DefaultLemmas`, `LeadingOptionLemmas`, `NameLemmas` and others.
use Rattle.std.proofs.Common.{◌≡◌, ℕ, true, false, cond, List, [], ◌∷◌, refl, sym, subst}
use Rattle.std.proofs.lemmas.Option.{same_Some}
use Rattle.std.specs.Prelude.{Some}
use Rattle.std.specs.Cmp.Lexicographic.{same_text as text_is}
use Rattle.nm_base.specs.Order.{same_text}
use Rattle.nm_command.specs.Table.{meaning_of}

-- each row is such a pair
abbrev pub AllRows : {A : Type 0} → (List ℕ → A → Type 0) → List (List ℕ × A) → Type 0
AllRows P [] = Unit {0}
AllRows P (row ∷ more) = P row.0 row.1 × AllRows P more

pub row-holds : {A : Type 0} (P : List ℕ → A → Type 0) (rows : List (List ℕ × A)) (word : List ℕ) (value : A) → AllRows P rows → meaning_of word rows ≡ Some value → P word value
row-holds P [] word value all is = absurd (cc)
row-holds P (row ∷ more) word value all is =
    elim (same_text row.0 word) as (λ v. same_text row.0 word ≡ v → cond v (Some row.1) (meaning_of word more) ≡ Some value → P word value) [
      | true ↦ λ same is. subst (λ word. P word value) (text_is row.0 word (sym same)) (subst (P row.0) (same_Some row.1 value is) all.0)
      | false ↦ λ other is. row-holds P more word value all.1 is
    ] refl is
