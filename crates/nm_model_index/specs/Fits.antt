-- Commits that fit an index one after the other, and how many ids a commit names.
-- Cited by `laws`, `nm_model_plan`, `nm_state` and others.
use Rattle.std.specs.Prelude.{ℕ, ◌+◌, List, [], ◌∷◌, length}
use Rattle.nm_commit.specs.Files.{Fits}
use Rattle.nm_commit.specs.declared.change.Change.{Change}
use Rattle.nm_commit.specs.declared.change.Change.TheVariants.{Add, Drop, Move, SetTags}
use Rattle.nm_commit.specs.declared.change.Commit.{Commit}
use Rattle.nm_model_index.specs.Index.{committed}
use Rattle.nm_model_index.specs.declared.base.Base.{Base}

-- each commit fits the index that those before it leave
abbrev pub FitInTurn : Base → List Commit → Type 0
FitInTurn index [] = Unit {0}
FitInTurn index (commit ∷ commits) = Fits index.files commit × FitInTurn (committed index commit) commits

-- how many ids a change names: that of a mail that comes, and those that it links to
abbrev pub named_ids : Change → ℕ
named_ids (Add path facts) = 1 + length facts.links
named_ids (Drop path) = 0
named_ids (Move from to) = 0
named_ids (SetTags id tags) = 0

-- and how many the changes of a commit name
abbrev pub ids_named : List Change → ℕ
ids_named [] = 0
ids_named (change ∷ changes) = named_ids change + ids_named changes
