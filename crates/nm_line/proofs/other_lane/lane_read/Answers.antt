use Rattle.std.proofs.Common.{Result, Err, ap, ◌∙◌, subst}
use Rattle.nm_prepare.specs.Prepared.{IsPrepared, IsPreparedAs, request_of}
use Rattle.nm_prepare.specs.declared.prepared.AskError.{AskError}
use Rattle.nm_prepare.specs.declared.prepared.Prepared.{Prepared}
use Rattle.nm_line.proofs.LaneReadLemmas.{reading-lane_answer, refused-lane_answer}
use Rattle.nm_line.proofs.other_lane.lane_read.Goals as goal
use Rattle.nm_log.specs.ParsedLine.{parse_line}

pub reading_in-requires : goal.reading_in-requires
reading_in-requires c =
    let h : IsPrepared (parse_line c.args.line.now) c.args.line.now.input c.in-Ok.prepared = c.in-Ok.ensures in
    c.other_lanes_search_count_and_dump.ensures c.args.line.now (request_of c.in-Ok.prepared) c.requires.another h.asks

pub returns-in-Ok : goal.returns-in-Ok
returns-in-Ok c =
    reading-lane_answer c.args.setting.now.moment c.args.snapshot.now c.args.line.now c.reading_in.result c.read_off.result
    (subst (λ (p : Prepared). IsPrepared (parse_line c.args.line.now) c.args.line.now.input p) c.reading_in.ensures c.in-Ok.ensures) c.read_off.ensures

pub returns-in-Err-Refused : goal.returns-in-Err-Refused
returns-in-Err-Refused c =
    refused-lane_answer c.args.setting.now.moment c.args.snapshot.now c.args.line.now c.in-Err-Refused.outcome c.refuse.result
    (subst (λ (r : Result Prepared AskError). IsPreparedAs (parse_line c.args.line.now) c.args.line.now.input r) (c.in-Err-Refused.is ∙ ap Err c.in-Err-Refused.field-0-is) c.prepare_line.ensures) c.refuse.ensures
