use Rattle.nm_base.specs.SetLaws.{has_text-sorted}
use Rattle.nm_segment.specs.Docs.{occurrences, texts}
use Rattle.nm_segment.proofs.laws.words_are_those_that_stand.Goals as goal

pub returns : goal.returns
returns c = λ docs word. has_text-sorted (texts (occurrences docs)) word
