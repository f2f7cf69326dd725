use Rattle.std.proofs.Common.{sym, ◌∙◌, ap}
use Rattle.nm_lanes.specs.Words.{words_of}
use Rattle.nm_lanes.proofs.Cuts.{cut_after_blank, words_of-blank}
use Rattle.nm_lanes.proofs.words.without_blanks.Goals as goal

pub range_from-rest-requires : goal.range_from-rest-requires
range_from-rest-requires c = λ _. cut_after_blank c.blanks.rest.now c.blanks.invariant.1 (sym c.begins_with_blank.ensures ∙ c.blanks-test.true)

pub blanks-preserved : goal.blanks-preserved
blanks-preserved c =
    (ap words_of c.range_from-rest.ensures.value ∙ (words_of-blank c.blanks.rest.now (sym c.begins_with_blank.ensures ∙ c.blanks-test.true) ∙ c.blanks.invariant.0), c.range_from-rest.utf8)
