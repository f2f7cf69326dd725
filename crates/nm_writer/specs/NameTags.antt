-- Tags that are set after the changes of a commit. Cited by `name_tags`.
use Rattle.std.specs.Prelude.{◌≡◌, ℕ, List, map}
use Rattle.nm_commit.specs.declared.change.Change.{Change}
use Rattle.nm_commit.specs.declared.change.Change.TheVariants.{SetTags}
use Rattle.nm_commit.specs.declared.change.Commit.{Commit}
use Rattle.nm_model_index.specs.Index.{committed}
use Rattle.nm_model_index.specs.declared.base.Base.{Base}
use Rattle.nm_model_plan.specs.NameTags.{follow_names}
use Rattle.nm_state.specs.Snapshot.{retagged}
use Rattle.nm_writer.specs.declared.name_tags.Followed.{Followed}

-- the change by which a message gets these tags
abbrev pub set_of : List ℕ × List (List ℕ) → Change
set_of set = SetTags set.0 set.1

-- what follows a commit of files: the tags of the messages with these ids that are there then, by the names of their files, where
-- they have others, and the index after both
pub record IsFollowed (shown : Base) (files : Commit) (ids : List (List ℕ)) (followed : Followed) : Type 0 where
  pub sets : map set_of followed.sets ≡ follow_names (committed shown files) ids
  pub next : followed.next ≡ retagged (committed shown files) followed.sets
