use Rattle.std.proofs.Common.{subst, arith, ap, length}
use Rattle.std.specs.Str.{IsCharBoundary}
use Rattle.nm_query.proofs.DotLemmas.{after_dots_cut}
use Rattle.nm_query.proofs.terms.date_query.Goals as goal

pub range_from-requires : goal.range_from-requires
range_from-requires c = λ _.
    let at = c.before_dots-dots.result in
    let long = ap length c.as_bytes.ensures.value in
    let found = c.before_dots-dots.ensures.found (omega (arith, c.before_dots-dots.ensures.within)) in
    subst (IsCharBoundary c.as_str-text.result.now) (omega arith)
    (after_dots_cut c.as_str-text.result.now c.as_bytes.result.now at c.as_bytes.ensures.value c.as_str-text.utf8 found.0 found.2)
