-- The list of what was published: the index at the opening, and then commits.
-- Cited by `publication`, `list`, `seats` and others.
use Rattle.std.specs.Prelude.{◌≡◌, ℕ, ◌<◌, List, [], ◌∷◌, ◌++◌, true, length, map, drop}
use Rattle.logbook.specs.Pages.{Cell, Step, View, Book, Named}
use Rattle.nm_commit.specs.declared.change.Commit.{Commit}
use Rattle.nm_model_index.specs.Index.{empty_index, folded}
use Rattle.nm_model_index.specs.declared.base.Base.{Base}
use Rattle.nm_publish.specs.declared.event.Event.{Event}
use Rattle.nm_publish.specs.declared.event.Event.TheVariants as event

-- the index of an event that opens the list
abbrev pub index_in : Event → Base
index_in (event.Opens index) = index
index_in (event.Adds commit) = empty_index

-- the commit of an event that adds one
abbrev pub commit_in : Event → Commit
commit_in (event.Opens index) = record { changes = [] }
commit_in (event.Adds commit) = commit

-- the index with which the list begins
abbrev pub opening_of : List Event → Base
opening_of [] = empty_index
opening_of (first ∷ more) = index_in first

-- the commits after it
abbrev pub commits_of : List Event → List Commit
commits_of events = map commit_in (drop 1 events)

-- the index after them
abbrev pub index_at : List Event → Base
index_at events = folded (opening_of events) (commits_of events)

-- the list is begun, and the one word of its book says how many commits it has
abbrev pub IsCounted : List Cell → List Event → Type 0
IsCounted cells events = (cells ≡ (length (commits_of events), true) ∷ []) × (0 < length events)

-- the book's one word
abbrev pub head_of : Book → Named
head_of book = record { tracked = true; key = 0; book = book }

-- where the word was the number that was expected, the commit was added to all that had been seen
abbrev pub Adds : Step Event → View Event ℕ → ℕ → View Event ℕ → Type 0
Adds step old found new = found ≡ step.old → new.0 ≡ old.0 ++ step.ask ∷ []

-- the writer holds the list: it is begun, and the writer has its word, the number of its commits and the index after them
pub record IsHeld (book : Book) (events : List Event) (head : Named) (count : ℕ) (now : Base) : Type 0 where
  pub begun : 0 < length events
  pub head_is : head ≡ head_of book
  pub counted : count ≡ length (commits_of events)
  pub index : now ≡ index_at events
