-- Changes that bring mails and set tags alone: what is known of the files that they leave, and of one that was tried.
-- Cited by `additions`.
use Rattle.std.specs.Prelude.{◌≡◌, ◌↔◌, ◌||◌, ℕ, Bool, IsTrue, List}
use Rattle.nm_base.specs.Order.{has_text}
use Rattle.nm_base.specs.declared.facts.Facts.{Facts}
use Rattle.nm_commit.specs.Files.{FitsChange, changed, has_id, has_path}
use Rattle.nm_commit.specs.declared.change.Change.{Change}
use Rattle.nm_state.specs.declared.additions.Added.{Added}

-- the files after have the paths of those before and the added ones, and are of the messages of those before and of the added ones
pub record AreWith (before after : List (List ℕ × Facts)) (added : Added) : Type 0 where
  pub paths : (path : List ℕ) → has_path after path ≡ (has_text added.paths path || has_path before path)
  pub ids : (id : List ℕ) → has_id after id ≡ (has_text added.ids id || has_id before id)

-- the change fits where this says so, and then what it brought is with the added
pub record IsTried (before : List (List ℕ × Facts)) (change : Change) (old new : Added) (fits : Bool) : Type 0 where
  pub fit : (after : List (List ℕ × Facts)) → AreWith before after old → IsTrue fits ↔ FitsChange after change
  pub brought : (after : List (List ℕ × Facts)) → AreWith before after old → IsTrue fits → AreWith before (changed after change) new
