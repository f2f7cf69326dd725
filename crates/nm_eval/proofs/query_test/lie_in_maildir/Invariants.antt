use Rattle.std.proofs.Common.{◌≡◌, length}
use Rattle.std.specs.List.{list_any}
use Rattle.nm_model_answer.specs.Places.{is_in_maildir}
use Rattle.nm_eval.proofs.query_test.lie_in_maildir.Given as goal

-- one of what is left passes where one of all does
abbrev pub invariant-files : goal.invariant-files
invariant-files l = list_any (λ file. is_in_maildir l.folder file.0) l.files ≡ list_any (λ file. is_in_maildir l.folder file.0) l.message.files

abbrev pub decreases-files : goal.decreases-files
decreases-files l = length l.files
