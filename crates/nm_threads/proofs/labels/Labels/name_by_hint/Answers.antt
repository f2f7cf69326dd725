use Rattle.std.proofs.Common.{◌≡◌, subst, sym, false}
use Rattle.std.specs.Prelude.{Contains}
use Rattle.nm_threads.specs.Labels.{entries_of, has_entry}
use Rattle.nm_threads.proofs.LabelLemmas.{no_name}
use Rattle.nm_threads.proofs.PlaceLemmas.{no_entry, label_at_place}
use Rattle.nm_threads.proofs.labels.Labels.name_by_hint.Goals as goal

pub returns-in-Some : goal.returns-in-Some
returns-in-Some c = λ rows are.
    sym
    (are.names (record { id = c.args.id.now; number = c.in-Some.ensures.0; name = c.in-Some.place.thread.name })
    (subst (λ l. Contains l.labels (record { id = c.args.id.now; number = c.in-Some.ensures.0; name = c.in-Some.place.thread.name })) c.self.view_is
    (label_at_place c.self.inside.maps c.self.invariant c.args.id.now c.in-Some.ensures.0 c.in-Some.place.group c.in-Some.place.thread c.in-Some.ensures.1 c.in-Some.ensures.2 c.in-Some.ensures.3)))

pub returns-in-None : goal.returns-in-None
returns-in-None c = λ rows are.
    no_name rows c.args.self.now.labels c.args.id.now are (subst (λ l. has_entry (entries_of l.labels) c.args.id.now ≡ false) c.self.view_is (no_entry c.self.inside.maps c.self.invariant c.args.id.now c.in-None.ensures))
