use Rattle.std.proofs.Common.{◌<◌, length, sym, ◌∙◌, ap, arith}
use Rattle.std.specs.List.{position_or_len}
use Rattle.std.proofs.lemmas.Bool.Decides.{nat_tests}
use Rattle.nm_text.specs.WhiteSpace.{is_blank}
use Rattle.nm_lanes.proofs.Cuts.{cut_before_blank, first_word}
use Rattle.nm_lanes.proofs.words.next_word.Goals as goal

pub split_at-requires : goal.split_at-requires
split_at-requires c =
    let rest = c.without_blanks-rest.result.now in
    cut_before_blank rest c.word_len.result (c.word_len.ensures.place ∙ ap (position_or_len is_blank) c.as_bytes.ensures.value) (omega (arith, ap length c.as_bytes.ensures.value))

pub returns : goal.returns
returns c =
    let rest = c.without_blanks-rest.result.now in
    let some : 0 < length rest = grind (arith, nat_tests) in
    sym c.without_blanks-rest.ensures.same
    ∙ first_word rest c.split_at.result.0.now c.split_at.result.1.now c.word_len.result some c.without_blanks-rest.ensures.first
    (c.word_len.ensures.place ∙ ap (position_or_len is_blank) c.as_bytes.ensures.value) (omega (arith, ap length c.as_bytes.ensures.value))
    c.split_at.ensures.front c.split_at.ensures.back
