use Rattle.std.proofs.Common.{sym}
use Rattle.nm_sync.proofs.RenameLemmas.{silent}
use Rattle.nm_sync.proofs.laws.no_rename_is_noted_at_first.Goals as goal

pub returns : goal.returns
returns c = λ files plan. sym (silent plan files)
