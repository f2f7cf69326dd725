-- Kept rows in the map that they are kept in: each is at its bytes. Cited by `kept`, `nm_parts` and `nm_state`.
use Rattle.std.specs.Prelude.{◌≡◌, ℕ, false, List, Contains}
use Rattle.std.specs.Map.{keys_of}
use Rattle.nm_base.specs.Order.{IsSorted, same_text}
use Rattle.nm_base.specs.declared.facts.LinkRow.{LinkRow}
use Rattle.nm_model_index.specs.Index.{row_bytes}

pub record AreKept (kept : List (List ℕ × LinkRow)) : Type 0 where
  pub sorted : IsSorted (keys_of kept)
  pub keyed : (entry : List ℕ × LinkRow) → Contains kept entry → entry.0 ≡ row_bytes entry.1

-- none of the rows is of the mail
abbrev pub HasNoRow : List LinkRow → List ℕ → Type 0
HasNoRow rows id = (row : LinkRow) → Contains rows row → same_text row.id id ≡ false
