use Rattle.nm_lanes.proofs.PlaceLemmas.{phases-counted, told-script}
use Rattle.nm_lanes.proofs.laws.lines_are_told_where_they_stand.Goals as goal

pub returns : goal.returns
returns c = record { lines = told-script; phases = phases-counted }
