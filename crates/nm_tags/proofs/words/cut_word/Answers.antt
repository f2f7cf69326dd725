use Rattle.std.proofs.Common.{ap, ◌∙◌, arith, length}
use Rattle.std.specs.List.{position_or_len}
use Rattle.nm_base.specs.Bounds.{is_white_space}
use Rattle.nm_tags.proofs.SpaceLemmas.{cut_before_space}
use Rattle.nm_tags.proofs.words.cut_word.Goals as goal

pub split_at-requires : goal.split_at-requires
split_at-requires c =
    cut_before_space c.without_space-rest.result.now c.word_len.result (c.word_len.ensures.place ∙ ap (position_or_len is_white_space) c.as_bytes.ensures.value) (omega (arith, ap length c.as_bytes.ensures.value))
