use Rattle.nm_dump.proofs.RestoreLemmas.{restored}
use Rattle.nm_dump.proofs.laws.written_tags_are_restored.Goals as goal

pub returns : goal.returns
returns c = λ before tags s. restored tags s
