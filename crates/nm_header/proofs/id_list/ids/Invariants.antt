use Rattle.std.proofs.Common.{◌≡◌, ◌++◌, length}
use denote.Text.{Utf8}
use denote.Shadow.{shadow}
use Rattle.nm_header.specs.Ids.{ids_of}
use Rattle.nm_header.proofs.id_list.ids.Given as goal

-- so far, and what is left, is all
abbrev pub invariant-id_texts : goal.invariant-id_texts
invariant-id_texts l = shadow (Utf8 l.left) × (l.found ++ ids_of l.left ≡ ids_of l.text)

abbrev pub decreases-id_texts : goal.decreases-id_texts
decreases-id_texts l = length l.left
