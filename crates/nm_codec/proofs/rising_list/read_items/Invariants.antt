use Rattle.std.proofs.Common.{◌≡◌, ◌-◌}
use Rattle.std.specs.Prelude.{None}
use Rattle.nm_codec.specs.ReadSteps.{is_below, last_of, rising_items_at}
use Rattle.nm_codec.proofs.ItemLemmas.{with_front}
use Rattle.nm_codec.proofs.rising_list.read_items.Given as goal

abbrev pub invariant-items : goal.invariant-items
invariant-items g l =
    (with_front l.items (rising_items_at (is_below g.F.Value.Ord.cmp) g.F.Format.grammar.read (last_of l.items) (l.count - l.counter) l.reader.rest) ≡ rising_items_at (is_below g.F.Value.Ord.cmp) g.F.Format.grammar.read None l.count l.initial.reader.rest)
    × (l.reader.len ≡ l.initial.reader.len)
