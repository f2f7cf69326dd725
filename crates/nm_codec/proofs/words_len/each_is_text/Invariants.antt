use Rattle.std.proofs.Common.{◌≡◌, ◌-◌}
use Rattle.nm_codec.specs.Hops.{are_texts}
use Rattle.nm_codec.proofs.words_len.each_is_text.Given as goal

-- all are UTF-8 where those that are left are
abbrev pub invariant-words : goal.invariant-words
invariant-words l = are_texts (l.count - l.counter) l.rest ≡ are_texts l.count l.bytes
