use Rattle.std.proofs.Common.{[], get_or, sym, ◌∙◌, arith}
use Rattle.nm_segment.specs.Docs.{words}
use Rattle.nm_segment.proofs.LiveLemmas.{absent_live, live_there, none_more}
use Rattle.nm_segment.proofs.part.has_live_hit.Goals as goal

pub returns-then-is_live_run : goal.returns-then-is_live_run
returns-then-is_live_run c =
    live_there c.args.live.now c.args.segment.now (get_or (words c.args.segment.now) c.args.at []) c.field_at.result c.run.result.now c.run.ensures.run (sym c.is_live_run.ensures ∙ c.if-is_live_run.true)

pub fields-preserved : goal.fields-preserved
fields-preserved c =
    none_more c.args.live.now c.args.segment.now (get_or (words c.args.segment.now) c.args.at []) c.fields.number c.field_at.result c.run.result.now c.fields.invariant c.field_at.ensures c.run.ensures.run
    (sym c.is_live_run.ensures ∙ c.if-is_live_run.false)

pub returns : goal.returns
returns c = absent_live c.args.live.now c.args.segment.now (get_or (words c.args.segment.now) c.args.at []) (λ field less. c.fields.invariant field (omega (arith, less, c.fields-test.false, c.fields.auto.number-end)))
