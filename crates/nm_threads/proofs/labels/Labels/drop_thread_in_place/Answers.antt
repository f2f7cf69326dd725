use Rattle.std.proofs.Common.{sym, subst, ap, ◌∙◌}
use Rattle.nm_threads.specs.Labels.{AreLabelsOf, IsLabelling, without_name}
use Rattle.nm_threads.specs.Maps.{labelling_of}
use Rattle.nm_threads.proofs.RemovedLemmas.{entries_gone, labels_gone}
use Rattle.nm_threads.proofs.KeepLemmas.{entries_stay, rows_stay}
use Rattle.nm_threads.proofs.RowLemmas.{maps_labelling}
use Rattle.nm_threads.proofs.labels.Labels.drop_thread_in_place.Goals as goal

pub returns-in_default-clause-entries : goal.returns-in_default-clause-entries
returns-in_default-clause-entries c = λ rows are. sym (entries_stay rows c.args.id.now c.args.self.now.labels are c.in_default.ensures.label)

pub returns-in_default-clause-labels : goal.returns-in_default-clause-labels
returns-in_default-clause-labels c = λ rows are. subst (λ all. AreLabelsOf all c.args.self.now.labels) (sym (rows_stay rows c.args.id.now c.args.self.now.labels are c.in_default.ensures.label)) are

pub returns-clause-entries : goal.returns-clause-entries
returns-clause-entries c =
    let own = c.in-Some.ensures.label in
    entries_gone c.args.self.now (subst IsLabelling c.self.view_is (maps_labelling c.self.inside.maps c.self.invariant)) (record { id = c.args.id.now; number = own.0; name = c.in-Some.name }) own.1 (labelling_of c.remove_named.new.maps).labels
    (c.in_ok-remove_named.ensures.labels ∙ ap (λ m. without_name c.in-Some.name (labelling_of m).labels) c.replace-rest.ensures.value ∙ ap (λ l. without_name c.in-Some.name l.labels) c.self.view_is)

pub returns-clause-labels : goal.returns-clause-labels
returns-clause-labels c =
    let own = c.in-Some.ensures.label in
    labels_gone c.args.self.now (subst IsLabelling c.self.view_is (maps_labelling c.self.inside.maps c.self.invariant)) (record { id = c.args.id.now; number = own.0; name = c.in-Some.name }) own.1 (labelling_of c.remove_named.new.maps).labels
    (c.in_ok-remove_named.ensures.labels ∙ ap (λ m. without_name c.in-Some.name (labelling_of m).labels) c.replace-rest.ensures.value ∙ ap (λ l. without_name c.in-Some.name l.labels) c.self.view_is)
