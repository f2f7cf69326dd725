-- Words on snapshots, which are seen as the model's index. Cited by `messages`, `tag_overlay` and `snapshot`.
use Rattle.std.specs.Prelude.{ℕ, Bool, false, ◌==◌, List, Option, Some, None, fold}
use Rattle.std.specs.List.{filter}
use Rattle.nm_model_index.specs.Index.{live_ids, rows_of, with_tags}
use Rattle.nm_model_index.specs.declared.base.Base.{Base}
use Rattle.nm_threads.specs.Name.{thread_name}

-- the index in which each of these messages has these tags and no others
abbrev pub retagged : Base → List (List ℕ × List (List ℕ)) → Base
retagged index sets = fold (λ at set. with_tags at set.0 set.1) index sets

-- the thread has this name; what has no number is of none
abbrev pub has_name : ℕ → Option ℕ → Bool
has_name name None = false
has_name name (Some other) = other == name

-- the live messages of the thread of a name, by their numbers
abbrev pub thread_messages : Base → ℕ → List (List ℕ)
thread_messages index name = filter (λ id. has_name name (thread_name (rows_of index) index.entries id)) (live_ids index.files index.entries)
