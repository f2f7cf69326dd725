use Rattle.nm_model_plan.specs.Moves.{move_commit}
use Rattle.nm_sync.specs.Noted.{since}
use Rattle.nm_writer.proofs.DoneLemmas.{none-stopped}
use Rattle.nm_writer.proofs.writer.Writer.rename_files.Goals as goal

pub returns-clause-after : goal.returns-clause-after
returns-clause-after g c = none-stopped c.args.self.now (move_commit (since c.args.given.now c.rename_and_sync-done.new.given))
