use Rattle.std.proofs.Common.{ap, ◌∙◌, min, length}
use Rattle.nm_base.proofs.LentLemmas.{first}
use Rattle.nm_base.proofs.word_list.first_lent.Goals as goal

pub returns : goal.returns
returns c count some =
    let at = c.in_ok-len.ensures in
    let cut = c.min.ensures ∙ ap (λ n. min n (length c.in_ok-len.rest.now)) at.1 in
    rw (c.split_at.ensures.front, c.split_at.ensures.back) (first count c.min.result c.args.bytes.now c.in_ok-len.rest.now some at.0 at.2 cut)
