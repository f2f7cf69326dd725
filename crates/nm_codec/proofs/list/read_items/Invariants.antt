use Rattle.std.proofs.Common.{◌≡◌, ◌-◌}
use Rattle.nm_codec.specs.ReadSteps.{items_at}
use Rattle.nm_codec.proofs.ItemLemmas.{with_front}
use Rattle.nm_codec.proofs.list.read_items.Given as goal

abbrev pub invariant-items : goal.invariant-items
invariant-items g l =
    (with_front l.items (items_at g.F.Format.grammar.read (l.count - l.counter) l.reader.rest) ≡ items_at g.F.Format.grammar.read l.count l.initial.reader.rest) × (l.reader.len ≡ l.initial.reader.len)
