use Rattle.std.proofs.Common.{◌≡◌, ◌++◌, false, length}
use Rattle.std.specs.Prelude.{string_bytes}
use denote.Text.{Utf8}
use denote.Shadow.{shadow}
use Rattle.nm_extract.specs.Html.{strip_from}
use Rattle.nm_extract.proofs.html.strip_html_tags.Given as goal

-- so far, and what is left, is all
abbrev pub invariant-tags : goal.invariant-tags
invariant-tags l = shadow (Utf8 l.rest) × (string_bytes l.kept ++ strip_from false l.rest ≡ strip_from false l.text)

abbrev pub decreases-tags : goal.decreases-tags
decreases-tags l = length l.rest
