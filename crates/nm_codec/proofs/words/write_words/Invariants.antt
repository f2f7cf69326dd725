use Rattle.std.proofs.Common.{◌≡◌, ◌++◌, ◌<◌, ◌^◌, length}
use Rattle.std.specs.List.{flat_map}
use Rattle.nm_codec.specs.Encoding.{text_bytes}
use Rattle.nm_codec.proofs.words.write_words.Given as goal

-- so far, and what is left, is all
abbrev pub invariant-words : goal.invariant-words
invariant-words l =
    (l.writer ++ flat_map text_bytes l.words ≡ l.fn.writer ++ flat_map text_bytes l.fn.words) × (length (flat_map text_bytes l.words) < 2 ^ 32)

abbrev pub decreases-words : goal.decreases-words
decreases-words l = length l.words
