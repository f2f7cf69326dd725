use Rattle.std.proofs.Common.{◌≡◌, ℕ, List, [], Result, Ok, Err, None, refl, sym, ap, ◌∙◌, subst}
use Rattle.nm_model_answer.specs.Restore.{dump_lines, restorings_by, strangers}
use Rattle.nm_history.specs.LineAnswers.{refused_lane_read}
use Rattle.nm_model_index.specs.declared.base.Base.{Base}
use Rattle.nm_line.specs.Line.{place_at}
use Rattle.nm_line.proofs.AnswerLemmas.{failed-ends}
use Rattle.nm_line.proofs.restore.run_restore.Goals as goal
use Rattle.nm_log.specs.declared.line_parser.ParsedLine.{ParsedLine}
use Rattle.nm_tags.specs.declared.line_error.LineKind.{LineKind}
use Rattle.nm_tags.specs.declared.wanted.Wanted.{Wanted}

pub returns-in_err-asked-clause-ends : goal.returns-in_err-asked-clause-ends
returns-in_err-asked-clause-ends g c = λ left line h.
    failed-ends c.args.crew.now.setting.now.moment (place_at c.args.desk.now.writer.now (g.M.Maildir.observed c.args.desk.now.mail.now) (g.D.Disk.observed c.args.desk.now.disk.now) left) line c.args.given.now c.from_residual.result c.from_residual.ensures.0 c.requires.fresh

pub returns-clause-ends : goal.returns-clause-ends
returns-clause-ends g c = λ left line h.
    let are : c.as_slice.result.now ≡ dump_lines c.args.ask line.input = c.as_slice.ensures ∙ sym (ap (λ (r : Result (List Wanted) (ℕ × LineKind)). elim r [ Ok lines ↦ lines | Err fault ↦ [] ]) h.made) in
    c.change_tags.ensures.ends left line h.asks (record {
      tags = refl;
      right = subst (λ (p : ParsedLine). refused_lane_read p line.input ≡ None) h.asks h.sound;
      lines = c.in_ok-asked.ensures.lines ∙ ap (restorings_by c.args.ask.accumulate) are;
      strangers = c.in_ok-asked.ensures.strangers ∙ (ap (λ (b : Base). strangers b c.as_slice.result.now) c.snapshot.ensures ∙ ap (strangers c.args.desk.now.writer.now.shown) are);
    })
