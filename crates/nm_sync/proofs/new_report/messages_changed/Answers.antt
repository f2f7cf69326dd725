use Rattle.std.proofs.Common.{sym, ◌∙◌}
use Rattle.nm_sync.proofs.ReportLemmas.{none_born, none_died}
use Rattle.nm_sync.proofs.new_report.messages_changed.Goals as goal

pub returns-then-revision-clause-born : goal.returns-then-revision-clause-born
returns-then-revision-clause-born c =
    none_born c.args.before.now c.args.after.now c.requires.0 c.requires.1 (sym c.revision.ensures ∙ (c.if-revision.true ∙ c.revision-2.ensures))

pub returns-then-revision-clause-died : goal.returns-then-revision-clause-died
returns-then-revision-clause-died c =
    none_died c.args.before.now c.args.after.now c.requires.0 c.requires.1 (sym c.revision.ensures ∙ (c.if-revision.true ∙ c.revision-2.ensures))
