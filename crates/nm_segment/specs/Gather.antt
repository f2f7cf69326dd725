-- Words that are gathered with their hits, while a segment is built. Cited by `gather`.
use Rattle.std.specs.Prelude.{◌≡◌, ℕ, ◌*◌, ◌<◌, false, List, [], length, map, slice_get, slice_index_or, MatchOption, Some}
use Rattle.std.specs.Borrow.{Bor}
use Rattle.std.specs.HashMap.{get}
use Rattle.nm_base.specs.Order.{has_text, same_text, sorted}
use Rattle.nm_base.specs.declared.facts.Field.{Field}
use Rattle.nm_segment.specs.Docs.{Occurrence, hits_in}
use Rattle.nm_segment.specs.Runs.{row_at}
use Rattle.nm_segment.specs.declared.gather.Gathered.{Gathered}

-- what references show
abbrev pub shown : List (Bor (List ℕ)) → List (List ℕ)
shown words = map (λ word. word.now) words

-- the words by their numbers
abbrev pub words_by_number : Gathered → List (List ℕ)
words_by_number g = shown g.words.items

-- these words were met, and these of them found where they are
pub record HasGathered (g : Gathered) (seen : List (List ℕ)) (found : List Occurrence) : Type 0 where
  pub known : (word : List ℕ) → MatchOption (get same_text g.numbers word) (has_text (words_by_number g) word ≡ false) (λ number. slice_get (words_by_number g) number ≡ Some word)
  pub numbered : (number : ℕ) → number < length (words_by_number g) → get same_text g.numbers (slice_index_or (words_by_number g) number []) ≡ Some number
  pub met : (word : List ℕ) → has_text (words_by_number g) word ≡ has_text seen word
  pub order : shown g.order.keys ≡ sorted seen
  pub count : length g.rows.items ≡ 5 * length g.words.items
  pub hits : (number : ℕ) (field : Field) → number < length (words_by_number g) → slice_index_or g.rows.items (row_at number field) [] ≡ hits_in found (slice_index_or (words_by_number g) number []) field
