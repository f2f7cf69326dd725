use Rattle.std.proofs.Common.{◌≡◌, ◌≤◌, ◌-◌, length, drop}
use Rattle.nm_codec.specs.Hops.{after_words}
use Rattle.nm_codec.proofs.words_len.words_len.Given as goal

-- what is after the words that are left is what is after all
abbrev pub invariant-words : goal.invariant-words
invariant-words l = (after_words (l.count - l.counter) l.rest ≡ after_words l.count l.bytes) × (length l.rest ≤ length l.bytes) × (l.rest ≡ drop (length l.bytes - length l.rest) l.bytes)
