use Rattle.std.proofs.Common.{◌≡◌, length}
use Rattle.std.specs.List.{list_any}
use Rattle.nm_model_answer.specs.Places.{is_type}
use Rattle.nm_eval.proofs.query_test.have_type.Given as goal

-- one of what is left passes where one of all does
abbrev pub invariant-files : goal.invariant-files
invariant-files l = list_any (λ file. list_any (is_type l.text) file.1.types) l.files ≡ list_any (λ file. list_any (is_type l.text) file.1.types) l.message.files

abbrev pub decreases-files : goal.decreases-files
decreases-files l = length l.files
