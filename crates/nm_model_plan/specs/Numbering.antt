-- The numbers of an index: no id has two, and they rise up to the next one.
-- Cited by `tag_laws`, `nm_writer` and `nm_dump`.
use Rattle.std.specs.Prelude.{◌≡◌, ℕ, ◌<◌, false, List, [], ◌∷◌}
use Rattle.std.specs.List.{AllByRecursion}
use Rattle.nm_base.specs.Order.{same_text}
use Rattle.nm_model_index.specs.declared.base.Base.{Base}

-- each id has a number below the next one, and those after it are other ids with higher numbers
abbrev pub InOrder : ℕ → List (List ℕ × ℕ) → Type 0
InOrder next [] = Unit {0}
InOrder next (entry ∷ more) = (entry.1 < next) × AllByRecursion (λ other. (same_text entry.0 other.0 ≡ false) × (entry.1 < other.1)) more × InOrder next more

abbrev pub AreNumbered : Base → Type 0
AreNumbered index = InOrder index.next index.entries
