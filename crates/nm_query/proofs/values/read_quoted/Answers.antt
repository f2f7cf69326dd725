use Rattle.std.proofs.Common.{ap, subst, arith, length}
use Rattle.std.specs.Str.{IsCharBoundary}
use Rattle.nm_query.proofs.CutLemmas.{after_quote, before_quote}
use Rattle.nm_query.proofs.values.read_quoted.Goals as goal

pub range-requires-clause-end_boundary : goal.range-requires-clause-end_boundary
range-requires-clause-end_boundary c =
    let long = ap length c.as_bytes.ensures.value in
    before_quote c.args.text.now c.as_bytes.result.now c.closing-closing.result c.as_bytes.ensures.value c.closing-closing.ensures.place (omega arith)

pub returns-clause-cut : goal.returns-clause-cut
returns-clause-cut c =
    let long = ap length c.as_bytes.ensures.value in
    let at = c.closing-closing.result in
    let cut = after_quote c.args.text.now c.as_bytes.result.now at c.as_bytes.ensures.value c.closing-closing.ensures.place (omega arith) c.utf8.text in
    (omega arith, subst (IsCharBoundary c.args.text.now) (omega arith) cut)
