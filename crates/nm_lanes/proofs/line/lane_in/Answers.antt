use Rattle.std.proofs.Common.{ap, sym, ◌∙◌}
use Rattle.nm_lanes.specs.Lines.{is_number}
use Rattle.nm_lanes.proofs.LaneLemmas.{lane-refused}
use Rattle.nm_lanes.proofs.line.lane_in.Goals as goal

pub returns-in-Err : goal.returns-in-Err
returns-in-Err c =
    lane-refused c.args.word.now c.in-Err.field-0 c.parse.result c.in-Err.is c.parse.ensures.value.0
    (ap is_number (sym c.as_bytes.ensures.value) ∙ sym c.is_number.ensures ∙ c.if-not-is_number.false)
