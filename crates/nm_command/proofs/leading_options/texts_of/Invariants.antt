use Rattle.std.proofs.Common.{◌≡◌, map, take}
use Rattle.nm_command.proofs.leading_options.texts_of.Given as goal

abbrev pub invariant-words : goal.invariant-words
invariant-words l = map (λ text. text.now) l.texts.items ≡ take l.word-index l.words
