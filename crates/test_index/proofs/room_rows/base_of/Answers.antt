use Rattle.std.proofs.Common.{subst, rules, arith}
use Rattle.nm_model_index.specs.Valid.{IsValid}
use Rattle.test_index.proofs.RoomLemmas.{no_files_are_valid}
use Rattle.test_index.proofs.room_rows.base_of.Goals as goal

pub returns-clause-valid : goal.returns-clause-valid
returns-clause-valid c = subst IsValid (search rules) (no_files_are_valid c.args.revision c.args.next (omega arith))
