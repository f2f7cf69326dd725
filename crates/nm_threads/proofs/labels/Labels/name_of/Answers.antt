use Rattle.std.proofs.Common.{◌≡◌, subst, sym, ◌∙◌, false}
use Rattle.std.specs.Prelude.{Contains}
use Rattle.nm_threads.specs.Labels.{entries_of, has_entry}
use Rattle.nm_threads.proofs.LabelLemmas.{no_name}
use Rattle.nm_threads.proofs.PlaceLemmas.{no_entry, label_at_place}
use Rattle.nm_threads.proofs.labels.Labels.name_of.Goals as goal

pub returns-in_err-place-clause-label : goal.returns-in_err-place-clause-label
returns-in_err-place-clause-label c = rw c.from_residual.ensures (subst (λ l. has_entry (entries_of l.labels) c.args.id.now ≡ false) c.self.view_is (no_entry c.self.inside.maps c.self.invariant c.args.id.now c.in_err-place.ensures))

pub returns-in_err-place-clause-thread : goal.returns-in_err-place-clause-thread
returns-in_err-place-clause-thread c = λ rows are.
    c.from_residual.ensures
    ∙ no_name rows c.args.self.now.labels c.args.id.now are (subst (λ l. has_entry (entries_of l.labels) c.args.id.now ≡ false) c.self.view_is (no_entry c.self.inside.maps c.self.invariant c.args.id.now c.in_err-place.ensures))

pub returns-clause-label : goal.returns-clause-label
returns-clause-label c = (
  c.in_ok-place.ensures.0,
  subst (λ l. Contains l.labels (record { id = c.args.id.now; number = c.in_ok-place.ensures.0; name = c.in_ok-place.place.thread.name })) c.self.view_is
      (label_at_place c.self.inside.maps c.self.invariant c.args.id.now c.in_ok-place.ensures.0 c.in_ok-place.place.group c.in_ok-place.place.thread c.in_ok-place.ensures.1 c.in_ok-place.ensures.2 c.in_ok-place.ensures.3),
)

pub returns-clause-thread : goal.returns-clause-thread
returns-clause-thread c = λ rows are.
    sym
    (are.names (record { id = c.args.id.now; number = c.in_ok-place.ensures.0; name = c.in_ok-place.place.thread.name })
    (subst (λ l. Contains l.labels (record { id = c.args.id.now; number = c.in_ok-place.ensures.0; name = c.in_ok-place.place.thread.name })) c.self.view_is
    (label_at_place c.self.inside.maps c.self.invariant c.args.id.now c.in_ok-place.ensures.0 c.in_ok-place.place.group c.in_ok-place.place.thread c.in_ok-place.ensures.1 c.in_ok-place.ensures.2 c.in_ok-place.ensures.3)))
