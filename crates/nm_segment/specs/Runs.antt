-- The runs of words in order, five for each word, one a field. Cited by `gather`, `merged_index` and `segment`.
use Rattle.std.specs.Prelude.{◌≡◌, ℕ, ◌+◌, ◌*◌, ◌<◌, Bool, true, false, List, [], ◌∷◌, ◌++◌, length, slice_index_or}
use Rattle.nm_base.specs.FieldNumber.{field_number}
use Rattle.nm_base.specs.declared.facts.Field.{Field}
use Rattle.nm_blocks.specs.Blocks.{IsRun}
use Rattle.nm_blocks.specs.declared.hit.Hit.{Hit}

-- the place of a word's run of a field, where the word has this place
abbrev pub row_at : ℕ → Field → ℕ
row_at at field = 5 * at + field_number field

-- the runs are of these words, and have their hits
pub record AreRuns (runs list : List (List ℕ)) (hits : List ℕ → Field → List Hit) : Type 0 where
  pub count : length runs ≡ 5 * length list
  pub each : (at : ℕ) (field : Field) → at < length list → IsRun (slice_index_or runs (row_at at field) []) (hits (slice_index_or list at []) field)

-- each run is of the row of hits at its place
pub record AreRunsOf (runs : List (List ℕ)) (rows : List (List Hit)) : Type 0 where
  pub count : length runs ≡ length rows
  pub each : (at : ℕ) → at < length rows → IsRun (slice_index_or runs at []) (slice_index_or rows at [])

-- the five runs of a word more, which have these hits
pub record AddsRuns (old new : List (List ℕ)) (hits : Field → List Hit) : Type 0 where
  pub five : List (List ℕ)
  pub added : new ≡ old ++ five
  pub count : length five ≡ 5
  pub each : (field : Field) → IsRun (slice_index_or five (field_number field) []) (hits field)

-- a word more with its runs, or nothing more
abbrev pub AddsWord : Bool → List (List ℕ) × List (List ℕ) → List (List ℕ) × List (List ℕ) → List ℕ → (Field → List Hit) → Type 0
AddsWord true old new word hits = (new.0 ≡ old.0 ++ word ∷ []) × AddsRuns old.1 new.1 hits
AddsWord false old new word hits = (new.0 ≡ old.0) × (new.1 ≡ old.1)
