use Rattle.std.proofs.Common.{ℕ, length, ◌++◌, ◌≡◌, ◌≤◌, string_bytes}
use denote.Shadow.{shadow}
use denote.Text.{Utf8}
use Rattle.nm_decode.specs.EncodedWords.{words_decoded}
use Rattle.nm_decode.specs.WordSteps.{decoded_text}
use Rattle.nm_decode.proofs.words.encoded_words.Given as goal

abbrev pub invariant-words : goal.invariant-words
invariant-words l = record {
  utf8 : shadow (Utf8 l.rest);
  shown : (n : ℕ) × (length l.rest ≤ n) × (string_bytes l.out ++ decoded_text n l.follows l.rest ≡ words_decoded l.text);
}

abbrev pub decreases-words : goal.decreases-words
decreases-words l = length l.rest
