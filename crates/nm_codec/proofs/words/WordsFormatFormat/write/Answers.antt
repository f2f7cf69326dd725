use Rattle.std.proofs.Common.{arith}
use Rattle.nm_codec.specs.Grammar.{word_grammar}
use Rattle.nm_codec.specs.ListLaws.{few}
use Rattle.nm_codec.proofs.words.WordsFormatFormat.write.Goals as goal

pub overflow_cast-len : goal.overflow_cast-len
overflow_cast-len c = omega (arith, few word_grammar.read word_grammar.bytes word_grammar.some c.args.value.now, c.requires, c.len.ensures)
