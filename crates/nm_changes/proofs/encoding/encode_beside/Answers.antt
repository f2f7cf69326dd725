use Rattle.std.proofs.Common.{rules}
use Rattle.nm_changes.proofs.EncodingLemmas.{encoded}
use Rattle.nm_changes.proofs.encoding.encode_beside.Goals as goal

pub returns-in-Ok-clause-pieces : goal.returns-in-Ok-clause-pieces
returns-in-Ok-clause-pieces g c = encoded c.args.changes.now c.in-Ok.pieces (search rules)
