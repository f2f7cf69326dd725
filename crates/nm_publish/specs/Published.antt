-- What was published, as callers see it. Cited by `reader`, `seats`, `nm_writer` and others.
use Rattle.std.specs.Prelude.{◌≡◌, List, [], ◌∷◌, ◌++◌, Option}
use mathlib.Core.List.{IsPrefix}
use Rattle.logbook.specs.Pages.{Book}
use Rattle.nm_commit.specs.declared.change.Commit.{Commit}
use Rattle.nm_model_index.specs.Index.{folded}
use Rattle.nm_model_index.specs.declared.base.Base.{Base}
use Rattle.nm_publish.specs.List.{commits_of, opening_of}
use Rattle.nm_publish.specs.declared.event.Event.{Event}

-- commits that were shown one after the other, over the index at the opening. `book` tells this list from any other
pub record Published : Type 0 where
  pub book : Book
  pub opening : Base
  pub commits : List Commit

-- what a list of events says was published
abbrev pub published : Book → List Event → Published
published book events = record { book = book; opening = opening_of events; commits = commits_of events }

-- one commit more
abbrev pub with_commit : Published → Commit → Published
with_commit published commit = record published { commits = published.commits ++ commit ∷ [] }

-- the index after the commits
abbrev pub index_of : Published → Base
index_of published = folded published.opening published.commits

-- the list goes on, or stays as it was
pub record GoesOn (old new : Published) : Type 0 where
  pub book : new.book ≡ old.book
  pub opening : new.opening ≡ old.opening
  pub commits : IsPrefix old.commits new.commits

-- what the writer has shown, and the commit that it is to show next
pub record ShowerState : Type 0 where
  pub shown : Published
  pub staged : Option Commit
