use Rattle.std.proofs.Common.{length}
use Rattle.nm_top.proofs.call_end.+refused_text.Given as goal

abbrev pub decreases-refused_text : goal.decreases-refused_text
decreases-refused_text l = length l.logs.now
