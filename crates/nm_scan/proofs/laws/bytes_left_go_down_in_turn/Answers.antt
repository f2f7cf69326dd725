use Rattle.nm_scan.proofs.BodyLemmas.{left-both}
use Rattle.nm_scan.proofs.laws.bytes_left_go_down_in_turn.Goals as goal

pub returns : goal.returns
returns c = left-both
