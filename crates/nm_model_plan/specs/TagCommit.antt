-- The commit that sets the tags that are wanted. What is wanted is in an index, in the place of its tags.
-- Cited by `tag_laws`, `nm_writer`, `nm_dump` and others.
use Rattle.std.specs.Prelude.{List, [], ◌∷◌}
use Rattle.std.specs.List.{flat_map}
use Rattle.nm_model_answer.specs.View.{tags_of}
use Rattle.nm_commit.specs.declared.change.Change.{Change}
use Rattle.nm_commit.specs.declared.change.Commit.{Commit}
use Rattle.nm_model_index.specs.Index.{live_ids}
use Rattle.nm_model_index.specs.declared.base.Base.{Base}
use Rattle.nm_model_plan.specs.NameTags.{set_tags}

-- each message that has a file gets the tags that are wanted, where it has others; by their numbers
abbrev pub tag_changes : Base → Base → List Change
tag_changes index wanted = flat_map (λ id. set_tags id (tags_of index id) (tags_of wanted id)) (live_ids index.files index.entries)

-- one commit of the changes; none where there is no change
abbrev pub commit_with : List Change → List Commit
commit_with [] = []
commit_with (change ∷ changes) = record { changes = change ∷ changes } ∷ []

-- the commit of the tags that are wanted, where some message has others
abbrev pub tag_commit : Base → Base → List Commit
tag_commit index wanted = commit_with (tag_changes index wanted)
