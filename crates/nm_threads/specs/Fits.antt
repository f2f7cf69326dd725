-- Labels by their names alone, as the work on rows keeps them. Cited by `rows`.
use Rattle.std.specs.Prelude.{◌≡◌, ℕ, ◌≤◌, ◌++◌, true, List, [], ◌∷◌, Contains}
use Rattle.nm_base.specs.declared.facts.LinkRow.{LinkRow}
use Rattle.nm_threads.specs.Same.{Same}
use Rattle.nm_threads.specs.Labels.{Label, Labelling, entries_of, is_in_rows}
use Rattle.nm_threads.specs.Maps.{given}

-- two labels have one name exactly where their ids are of one thread; a name is the number of one of its ids, and none is smaller
pub record Fits (rows : List LinkRow) (labels : List Label) : Type 0 where
  pub known : (id : List ℕ) → is_in_rows rows id ≡ true → (a : Label) × Contains labels a × (a.id ≡ id)
  pub alike : (a b : Label) → Contains labels a → Contains labels b → (a.name ≡ b.name → Same rows a.id b.id) × (Same rows a.id b.id → a.name ≡ b.name)
  pub low : (a : Label) → Contains labels a → a.name ≤ a.number
  pub owner : (a : Label) → Contains labels a → (c : Label) × Contains labels c × (c.number ≡ a.name) × (c.name ≡ a.name)

-- the link has a number, and with it as a link more of the row of an id the labels fit, if they did before
pub record Links (old new : Labelling) (own link : List ℕ) : Type 0 where
  pub entries : entries_of new.labels ≡ entries_of (given old link).labels
  pub next : new.next ≡ (given old link).next
  pub fits : (rows : List LinkRow) (links : List (List ℕ)) → Fits ((record { id = own; links = links }) ∷ rows) old.labels → Fits ((record { id = own; links = links ++ link ∷ [] }) ∷ rows) new.labels
