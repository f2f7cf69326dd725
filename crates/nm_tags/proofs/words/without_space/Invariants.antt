use Rattle.std.proofs.Common.{◌≡◌, length}
use denote.Shadow.{shadow}
use denote.Text.{Utf8}
use Rattle.nm_text.specs.WhiteSpace.{trimmed_start}
use Rattle.nm_tags.proofs.words.without_space.Given as goal

abbrev pub invariant-spaces : goal.invariant-spaces
invariant-spaces l = (trimmed_start l.rest ≡ trimmed_start l.text) × shadow (Utf8 l.rest)

abbrev pub decreases-spaces : goal.decreases-spaces
decreases-spaces l = length l.rest
