use Rattle.std.proofs.Common.{length, ap, subst, ◌∙◌, List}
use Rattle.nm_model_index.specs.declared.base.Base.{Base}
use Rattle.nm_line.specs.LaneRead.{IsAnswerOn}
use Rattle.nm_trace.specs.declared.trace.Mark.{Mark}
use Rattle.nm_phase.proofs.ObservationLemmas.{anew-noted}
use Rattle.nm_phase.proofs.barrier.answer_anew.Goals as goal

pub returns : goal.returns
returns c =
    let shown = c.args.end.now.writer.now.shown in
    let seen = c.snapshot-snapshot.ensures in
    anew-noted c.args.end.now.setting.now.moment c.args.end.now.phase c.args.line.now c.args.end.now.writer.now c.args.reserved.now c.note_answer.new.reserved (length c.as_slice-last.result.now) c.requires.end.shown
    (ap (λ (l : List Mark). length l) c.as_slice-last.ensures)
    (c.note_answer.ensures c.args.end.now.setting.now.moment shown (c.revision.ensures ∙ ap (λ (b : Base). b.revision) seen)
    (subst (λ (b : Base). IsAnswerOn c.args.end.now.setting.now.moment b c.args.line.now c.lane_read-answered.result) seen c.lane_read-answered.ensures))
