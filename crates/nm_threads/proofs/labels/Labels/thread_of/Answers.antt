use Rattle.std.proofs.Common.{refl, sym, ap, subst, ◌∙◌, map}
use Rattle.std.specs.List.{IsDistinct}
use Rattle.nm_base.specs.Order.{same_text}
use Rattle.nm_threads.specs.Labels.{IsLabelling}
use Rattle.nm_threads.proofs.KeepLemmas.{ids_named, none_same}
use Rattle.nm_threads.proofs.LabelLemmas.{names_fits}
use Rattle.nm_threads.proofs.RowLemmas.{maps_labelling}
use Rattle.nm_threads.proofs.ThreadLemmas.{none_twice}
use Rattle.nm_threads.proofs.labels.Labels.thread_of.Goals as goal

pub returns-in_default-clause-ids : goal.returns-in_default-clause-ids
returns-in_default-clause-ids g c = λ rows are. c.new.ensures ∙ ap (map (λ entry. entry.0)) (sym (none_same rows c.args.id.now c.args.self.now.labels are c.in_default.ensures.label))

pub returns-in_default-clause-once : goal.returns-in_default-clause-once
returns-in_default-clause-once g c = subst (IsDistinct same_text) (sym c.new.ensures) none_twice

pub returns-clause-ids : goal.returns-clause-ids
returns-clause-ids g c = λ rows are.
    let own = c.in-Some.ensures.label in
    let fits = names_fits rows c.args.self.now.labels c.args.self.now.next (subst IsLabelling c.self.view_is (maps_labelling c.self.inside.maps c.self.invariant)) are in
    c.in_ok-ids.ensures.ids ∙ ids_named rows c.args.id.now c.args.self.now.labels fits (record { id = c.args.id.now; number = own.0; name = c.in-Some.name }) own.1 refl
