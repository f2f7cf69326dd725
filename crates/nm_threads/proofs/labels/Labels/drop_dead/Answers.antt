use Rattle.std.proofs.Common.{subst, sym, ap, ◌∙◌}
use Rattle.std.specs.List.{filter}
use Rattle.nm_threads.specs.Labels.{AreLabelsOf, IsLabelling, entries_of, held_labels}
use Rattle.nm_threads.specs.Maps.{labelling_of}
use Rattle.nm_threads.specs.Same.{is_held}
use Rattle.nm_threads.proofs.DeadLemmas.{held_are, held_respects}
use Rattle.nm_threads.proofs.KeepLemmas.{entries_kept, fits_kept}
use Rattle.nm_threads.proofs.LabelLemmas.{fits_names, names_fits}
use Rattle.nm_threads.proofs.RowLemmas.{maps_labelling}
use Rattle.nm_threads.proofs.labels.Labels.drop_dead.Goals as goal

pub returns-clause-entries : goal.returns-clause-entries
returns-clause-entries c = λ rows are.
    let fits = names_fits rows c.args.self.now.labels c.args.self.now.next (subst IsLabelling c.self.view_is (maps_labelling c.self.inside.maps c.self.invariant)) are in
    ap entries_of
    (c.in_ok-remove_dead.ensures.labels ∙ ap (λ m. held_labels c.as_slice.result.now (labelling_of m).labels) c.in_ok-maps.ensures ∙ ap (λ l. held_labels c.as_slice.result.now l.labels) c.self.view_is
    ∙ ap (λ live. held_labels live c.args.self.now.labels) c.as_slice.ensures ∙ held_are rows c.args.live.now c.args.self.now.labels fits)
    ∙ entries_kept (is_held rows c.args.live.now) c.args.self.now.labels

pub returns-clause-labels : goal.returns-clause-labels
returns-clause-labels c = λ rows are.
    let fits = names_fits rows c.args.self.now.labels c.args.self.now.next (subst IsLabelling c.self.view_is (maps_labelling c.self.inside.maps c.self.invariant)) are in
    subst (AreLabelsOf (filter (λ row. is_held rows c.args.live.now row.id) rows))
    (sym
    (c.in_ok-remove_dead.ensures.labels ∙ ap (λ m. held_labels c.as_slice.result.now (labelling_of m).labels) c.in_ok-maps.ensures ∙ ap (λ l. held_labels c.as_slice.result.now l.labels) c.self.view_is
    ∙ ap (λ live. held_labels live c.args.self.now.labels) c.as_slice.ensures ∙ held_are rows c.args.live.now c.args.self.now.labels fits))
    (fits_names (filter (λ row. is_held rows c.args.live.now row.id) rows) (filter (λ label. is_held rows c.args.live.now label.id) c.args.self.now.labels)
    (fits_kept rows (is_held rows c.args.live.now) (held_respects rows c.args.live.now) c.args.self.now.labels fits))
