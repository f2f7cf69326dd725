-- The tags that follow the names of files: what a commit sets, after the changes that it makes of a message's files.
-- Cited by `laws` and `nm_writer`.
use Rattle.std.specs.Prelude.{ℕ, List, [], ◌∷◌, ◌++◌, filter, fold, if◌then◌else◌}
use Rattle.std.specs.Cmp.Lexicographic.{pointwise}
use Rattle.std.specs.List.{flat_map}
use Rattle.nm_model_answer.specs.View.{message_paths, tags_of}
use Rattle.nm_base.specs.Order.{has_text, same_text}
use Rattle.nm_commit.specs.declared.change.Change.{Change}
use Rattle.nm_commit.specs.declared.change.Change.TheVariants.{SetTags}
use Rattle.nm_commit.specs.declared.change.Commit.{Commit}
use Rattle.nm_flags.specs.FlagTags.{tags_by_names}
use Rattle.nm_model_index.specs.Index.{applied, live_ids}
use Rattle.nm_model_index.specs.declared.base.Base.{Base}

-- the tags of a message as the names of its files change them
abbrev pub named_tags : Base → List ℕ → List (List ℕ)
named_tags index id = tags_by_names (tags_of index id) (message_paths index.files id)

-- the message gets these tags, where it has others
abbrev pub set_tags : List ℕ → List (List ℕ) → List (List ℕ) → List Change
set_tags id old new = (if pointwise same_text old new then [] else SetTags id new ∷ [])

-- of these messages those that have a file, by their numbers
abbrev pub live_of : Base → List (List ℕ) → List (List ℕ)
live_of index ids = filter (has_text ids) (live_ids index.files index.entries)

-- each of these messages that has a file gets the tags that the names of its files say, where it has others; by their numbers
abbrev pub follow_names : Base → List (List ℕ) → List Change
follow_names index ids = flat_map (λ id. set_tags id (tags_of index id) (named_tags index id)) (live_of index ids)

-- changes of the files of these messages, and then the tags that follow
abbrev pub with_names : Base → List Change → List (List ℕ) → List Change
with_names index changes ids = changes ++ follow_names (fold applied index changes) ids

-- one commit of the changes of these messages' files, which ends with their tags; none where there is no change
abbrev pub commit_of : Base → List Change → List (List ℕ) → List Commit
commit_of index [] ids = []
commit_of index (change ∷ changes) ids = record { changes = with_names index (change ∷ changes) ids } ∷ []
