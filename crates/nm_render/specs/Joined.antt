-- What follows the first of texts that are joined. Cited by `mailboxes` and `shown`.
use Rattle.std.specs.Prelude.{ℕ, List, ◌++◌}
use Rattle.std.specs.List.{flat_map}

-- each of the texts after what is between them
abbrev pub after_first : List ℕ → List (List ℕ) → List ℕ
after_first between texts = flat_map (λ text. between ++ text) texts
