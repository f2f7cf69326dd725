use Rattle.std.proofs.Common.{List, IfSome, Option, ap, ◌∙◌, subst}
use Rattle.nm_model_index.specs.declared.base.Base.{Base}
use Rattle.nm_phase.specs.Observations.{IsSeenAt, MayBeOf}
use Rattle.nm_trace.specs.declared.trace.Mark.{Mark}
use Rattle.nm_phase.specs.declared.reader_lane.Observation.{Observation}
use Rattle.nm_phase.proofs.ObservationLemmas.{seen-noted}
use Rattle.nm_phase.proofs.barrier.settle_line.Goals as goal

pub returns-in-Some-seen_at : goal.returns-in-Some-seen_at
returns-in-Some-seen_at c =
    let moment = c.args.end.now.setting.now.moment in
    let observation = c.in-Some.observation in
    let may = subst (λ (s : Option Observation). IfSome s (λ it. MayBeOf moment c.args.at c.args.line.now c.args.end.now.writer.now.published it)) c.in-Some.is c.requires.observation in
    seen-noted moment c.args.end.now.phase c.args.at c.args.line.now c.args.end.now.writer.now observation c.args.reserved.now c.note_answer.new.reserved c.revision-now.result c.in-Some-seen_at.place
    c.the_revision_counts_the_commits.ensures c.requires.end.shown (c.revision-now.ensures ∙ ap (λ (b : Base). b.revision) c.snapshot.ensures) may
    (subst (λ (l : List Mark). IsSeenAt c.args.at c.args.line.now.lane l c.revision-now.result observation c.in-Some-seen_at.place) c.as_slice.ensures c.in-Some-seen_at.ensures)
    (λ index at answer. c.note_answer.ensures moment index at answer)
