use Rattle.std.proofs.Common.{◌≡◌, ◌∷◌, length}
use Rattle.std.specs.List.{list_any}
use Rattle.nm_base.specs.AskedWords.{lists_have}
use Rattle.nm_eval.proofs.query_test.files_have.Given as goal

-- one of what is left passes where one of all does
abbrev pub invariant-files : goal.invariant-files
invariant-files l = list_any (λ file. lists_have l.field l.starts (l.first ∷ l.more) file.1.lists) l.files ≡ list_any (λ file. lists_have l.field l.starts (l.first ∷ l.more) file.1.lists) l.message.files

abbrev pub decreases-files : goal.decreases-files
decreases-files l = length l.files
