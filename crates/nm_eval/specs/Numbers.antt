-- Messages by their numbers, as they are gathered before they are tested or tagged. Cited by `numbers` and `nm_writer`.
use Rattle.std.specs.Prelude.{ℕ, Bool, ◌&&◌, List, [], ◌∷◌, if◌then◌else◌}
use Rattle.nm_base.specs.Order.{has_text}
use Rattle.nm_commit.specs.Files.{has_id}
use Rattle.nm_model_index.specs.declared.base.Base.{Base}

-- the ids that pass the test, each at its number
abbrev pub at_numbers : (List ℕ → Bool) → List (List ℕ × ℕ) → List (ℕ × List ℕ)
at_numbers test [] = []
at_numbers test (entry ∷ entries) = (if test entry.0 then (entry.1, entry.0) ∷ at_numbers test entries else at_numbers test entries)

-- of these messages those that have a file, each at its number
abbrev pub live_at_numbers : Base → List (List ℕ) → List (ℕ × List ℕ)
live_at_numbers index ids = at_numbers (λ id. has_id index.files id && has_text ids id) index.entries
