use Rattle.nm_query.proofs.PrefixLemmas.{begins-cut, begins-tested}
use Rattle.nm_query.proofs.prefixes.after.Goals as goal

pub range_from-requires : goal.range_from-requires
range_from-requires c = λ _.
    begins-cut c.args.front.now c.args.text.now c.utf8.front c.utf8.text
    (begins-tested _ _ _ _ c.starts_with.result c.starts_with.ensures.value c.as_bytes-2.ensures.value c.as_bytes.ensures.value c.if-not-starts_with.false)

pub returns : goal.returns
returns c =
    let h = begins-tested _ _ _ _ c.starts_with.result c.starts_with.ensures.value c.as_bytes-2.ensures.value c.as_bytes.ensures.value c.if-not-starts_with.false in
    (h, c.range_from.ensures.value, (c.requires, begins-cut c.args.front.now c.args.text.now c.utf8.front c.utf8.text h))
