use Rattle.std.proofs.Common.{arith}
use Rattle.nm_codec.proofs.WordsLemmas.{encoded_len}
use Rattle.nm_codec.proofs.words.WordsFormatFormat.len.Goals as goal

pub returns-clause-len : goal.returns-clause-len
returns-clause-len c =
    omega (arith, encoded_len c.args.value.now, c.len.ensures, c.saturating_mul-lengths.ensures, c.bytes_len.ensures.len, c.saturating_add.ensures, c.saturating_add-2.ensures)
