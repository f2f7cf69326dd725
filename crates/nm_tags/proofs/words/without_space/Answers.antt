use Rattle.std.proofs.Common.{sym, ◌∙◌, ap}
use Rattle.nm_text.specs.WhiteSpace.{trimmed_start}
use Rattle.nm_tags.proofs.SpaceLemmas.{cut_after_space, one_space_first}
use Rattle.nm_tags.proofs.words.without_space.Goals as goal

pub range_from-rest-requires : goal.range_from-rest-requires
range_from-rest-requires c = λ _. cut_after_space c.spaces.rest.now c.spaces.invariant.1 (sym c.begins_with_space.ensures ∙ c.spaces-test.true)

pub spaces-preserved : goal.spaces-preserved
spaces-preserved c =
    (ap trimmed_start c.range_from-rest.ensures.value ∙ (one_space_first c.spaces.rest.now (sym c.begins_with_space.ensures ∙ c.spaces-test.true) ∙ c.spaces.invariant.0), c.range_from-rest.utf8)
