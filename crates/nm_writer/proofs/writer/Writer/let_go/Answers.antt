use Rattle.std.proofs.Common.{◌++◌, sym, ap, ◌∙◌}
use Rattle.std.proofs.lemmas.List.Sums.{fold-append}
use Rattle.nm_model_index.specs.Index.{committed, folded}
use Rattle.nm_model_index.specs.declared.base.Base.{Base}
use Rattle.nm_model_plan.specs.NameTags.{commit_of}
use Rattle.nm_writer.proofs.writer.Writer.let_go.Goals as goal

pub report-requires : goal.report-requires
report-requires g c = (
  c.requires.before.0 ++ commit_of c.args.self.now.shown c.args.gone.changes c.args.gone.ids,
  c.snapshot.ensures
      ∙ (c.in-Ok.ensures.after.shown
      ∙ (ap (λ (b : Base). folded b (commit_of c.args.self.now.shown c.args.gone.changes c.args.gone.ids)) c.requires.before.1 ∙ sym (fold-append committed c.args.before.now c.requires.before.0 (commit_of c.args.self.now.shown c.args.gone.changes c.args.gone.ids)))),
)
