-- The words that begin with a text. Cited by `starts` and `segment`.
use Rattle.std.specs.Prelude.{◌≡◌, ◌≢◌, ℕ, ◌+◌, ◌<◌, ◌≤◌, Bool, nat_eq, List, [], filter, length, slice_index_or}
use Rattle.std.specs.Cmp.Lexicographic.{slice_cmp}
use Rattle.std.specs.List.{starts_with}
use Rattle.std.specs.Ordering.{nat_cmp}
use Rattle.std.specs.declared.cmp.Ordering.TheVariants.{Greater}
use Rattle.nm_segment.specs.Costs.{SearchSteps}

-- the word begins with the text
abbrev pub begins : List ℕ → List ℕ → Bool
begins start word = starts_with nat_eq word start

-- those of the words that begin with the text
abbrev pub starting : List ℕ → List (List ℕ) → List (List ℕ)
starting start words = filter (begins start) words

-- n words are below the text
pub record IsCountBelow (words : List (List ℕ)) (start : List ℕ) (count : ℕ) : Type 0 where
  pub within : count ≤ length words
  pub before : (k : ℕ) → k < count → slice_cmp nat_cmp start (slice_index_or words k []) ≡ Greater
  pub after : (k : ℕ) → count ≤ k → k < length words → slice_cmp nat_cmp start (slice_index_or words k []) ≢ Greater

-- a search, and one step for what it found
abbrev pub FoundSteps : ℕ → ℕ → ℕ → Type 0
FoundSteps n old new = (probed : ℕ) × SearchSteps n old probed × (new ≡ probed + 1)
