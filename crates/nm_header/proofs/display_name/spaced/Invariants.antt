use Rattle.std.proofs.Common.{◌≡◌, ◌∷◌, length}
use Rattle.std.specs.Prelude.{string_bytes}
use denote.Text.{Utf8}
use denote.Shadow.{shadow}
use Rattle.std.specs.List.{slice_split}
use Rattle.nm_base.specs.Bounds.{is_white_space}
use Rattle.nm_header.proofs.NameLemmas.{joined}
use Rattle.nm_header.proofs.display_name.spaced.Given as goal

-- what is spaced so far counts as the first word
abbrev pub invariant-words : goal.invariant-words
invariant-words l = shadow (Utf8 l.left) × (joined (string_bytes l.spaced ∷ slice_split is_white_space l.left) ≡ joined (slice_split is_white_space l.text))

abbrev pub decreases-words : goal.decreases-words
decreases-words l = length l.left
