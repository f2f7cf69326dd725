use Rattle.std.proofs.Common.{◌≡◌, ◌-◌}
use Rattle.nm_codec.specs.Grammar.{word_grammar}
use Rattle.nm_codec.specs.ReadSteps.{items_at}
use Rattle.nm_codec.proofs.ItemLemmas.{with_front}
use Rattle.nm_codec.proofs.words.read_words.Given as goal

abbrev pub invariant-words : goal.invariant-words
invariant-words l =
    (with_front l.words (items_at word_grammar.read (l.count - l.counter) l.reader.rest) ≡ items_at word_grammar.read l.count l.initial.reader.rest) × (l.reader.len ≡ l.initial.reader.len)
