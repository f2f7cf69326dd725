use Rattle.std.proofs.Common.{◌∙◌, ap, sym, subst}
use Rattle.std.specs.Prelude.{None, Some}
use Rattle.std.specs.List.{list_any}
use Rattle.std.proofs.lemmas.Bool.{OnTrue_at}
use Rattle.nm_commit.specs.Files.{has_id}
use Rattle.nm_threads.specs.Labels.{Labelling}
use Rattle.nm_tables.specs.FileTable.{files_in}
use Rattle.nm_tables.specs.Hints.{IsDeadThread}
use Rattle.nm_tables.proofs.measured_labels.MeasuredLabels.dead_thread.Goals as goal

pub returns-then-known-clause-dead : goal.returns-then-known-clause-dead
returns-then-known-clause-dead c = subst (λ (l : Labelling). IsDeadThread l.labels (files_in c.args.file_table.now) c.args.id.now None) c.self.view_is (OnTrue_at c.if-known.true c.in_ok-known.ensures)

pub returns-then-live-clause-dead : goal.returns-then-live-clause-dead
returns-then-live-clause-dead c =
    subst (λ (l : Labelling). IsDeadThread l.labels (files_in c.args.file_table.now) c.args.id.now None) c.self.view_is
    (λ rows are. ap (list_any (has_id (files_in c.args.file_table.now))) (sym (c.in_ok-ids.ensures rows are) ∙ sym c.as_slice.ensures) ∙ sym c.in_ok-live.ensures ∙ c.if-live.true)

pub returns-clause-dead : goal.returns-clause-dead
returns-clause-dead c =
    subst (λ (l : Labelling). IsDeadThread l.labels (files_in c.args.file_table.now) c.args.id.now (Some c.in_ok-ids.ids)) c.self.view_is
    (λ rows are. (c.in_ok-ids.ensures rows are, ap (list_any (has_id (files_in c.args.file_table.now))) (sym c.as_slice.ensures) ∙ sym c.in_ok-live.ensures ∙ c.if-live.false))
