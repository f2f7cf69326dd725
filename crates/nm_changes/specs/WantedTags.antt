-- What is kept of the tags that are wanted: which messages may have others than before.
-- Cited by `tag_plan`, `wanted_tags` and `nm_writer`.
use Rattle.std.specs.Prelude.{◌≡◌, ℕ, false, List, [], if◌then◌else◌}
use Rattle.std.specs.Cmp.Lexicographic.{pointwise}
use Rattle.nm_base.specs.Order.{has_text, same_text}
use Rattle.nm_flags.specs.Renames.{renames}
use Rattle.nm_flags.specs.declared.renames.Rename.{Rename}
use Rattle.nm_model_index.specs.declared.base.Base.{Base}
use Rattle.nm_model_answer.specs.View.{message_paths, tags_of}
use Rattle.nm_model_plan.specs.NameTags.{live_of}

-- messages that have files, by their numbers; of every other message the same tags are wanted that it has
pub record AreTouched (index wanted : Base) (ids : List (List ℕ)) : Type 0 where
  pub among : List (List ℕ)
  pub ids_are : ids ≡ live_of index among
  pub others : (id : List ℕ) → has_text among id ≡ false → tags_of wanted id ≡ tags_of index id

-- the files of a message that have to be renamed, where other tags are wanted than it has
abbrev pub renames_of : Base → Base → List ℕ → List Rename
renames_of index wanted id =
    if pointwise same_text (tags_of index id) (tags_of wanted id) then [] else renames (tags_of wanted id) (message_paths index.files id)
