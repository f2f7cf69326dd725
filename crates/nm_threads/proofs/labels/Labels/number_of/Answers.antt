use Rattle.std.proofs.Common.{◌≡◌, subst, sym, false}
use Rattle.std.specs.Prelude.{Contains}
use Rattle.nm_threads.specs.Labels.{entries_of, has_entry}
use Rattle.nm_threads.proofs.PlaceLemmas.{no_entry, entry_at}
use Rattle.nm_threads.proofs.labels.Labels.number_of.Goals as goal

pub returns-in_err-get : goal.returns-in_err-get
returns-in_err-get c = rw c.from_residual.ensures (subst (λ l. has_entry (entries_of l.labels) c.args.id.now ≡ false) c.self.view_is (no_entry c.self.inside.maps c.self.invariant c.args.id.now (sym c.in_err-get.ensures)))

pub returns : goal.returns
returns c = subst (λ l. Contains (entries_of l.labels) (c.args.id.now, c.in_ok-get.field-0.now)) c.self.view_is (entry_at c.self.inside.maps c.self.invariant c.args.id.now c.in_ok-get.field-0.now c.in_ok-get.ensures)
