-- How many bytes words take, each after its length in four bytes. For the proof of `WordsFormat::len`.
use Rattle.std.proofs.Common.{◌≡◌, ℕ, ◌+◌, ◌*◌, List, [], ◌∷◌, length, arith}
use Rattle.std.specs.List.{flat_map}
use Rattle.std.proofs.lemmas.List.{length-append}
use Rattle.nm_base.specs.WordList.{packed}
use Rattle.nm_codec.specs.Encoding.{text_bytes, u32_bytes}

pub encoded_len : (words : List (List ℕ)) → length (flat_map text_bytes words) ≡ length (packed words) + 3 * length words
encoded_len [] = omega arith
encoded_len (word ∷ words) =
    omega (arith, encoded_len words, length-append (text_bytes word) (flat_map text_bytes words), length-append (u32_bytes (length word)) word, length-append word (packed words))
