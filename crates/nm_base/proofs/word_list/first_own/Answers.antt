use Rattle.std.proofs.Common.{ap, ◌∙◌, min, length}
use Rattle.nm_base.proofs.WordListLemmas.{first}
use Rattle.nm_base.proofs.word_list.first_own.Goals as goal

pub returns : goal.returns
returns c count some =
    let cut = c.min.ensures ∙ ap (λ n. min n (length c.in_ok-len.rest.now)) c.from.ensures in
    rw (c.split_at.ensures.front, c.split_at.ensures.back) (first count c.in_ok-len.len.now c.min.result c.args.bytes.now c.in_ok-len.rest.now some c.in_ok-len.ensures.cases.0 cut)
