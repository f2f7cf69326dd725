use Rattle.std.proofs.Common.{ap, arith, length, sym, ◌∙◌}
use Rattle.nm_query.proofs.CutLemmas.{cut_after_one, inside, one_cut, run_cut}
use Rattle.nm_query.proofs.values.read_value.Goals as goal

pub range_from-requires : goal.range_from-requires
range_from-requires c = λ _.
    (one_cut 34 c.args.text.now c.as_bytes.result.now (omega arith) c.as_bytes.ensures.value (sym c.begins_with.ensures ∙ c.if-begins_with.true) c.utf8.text).1

pub returns-then-begins_with-clause-cut : goal.returns-then-begins_with-clause-cut
returns-then-begins_with-clause-cut c =
    let off = one_cut 34 c.args.text.now c.as_bytes.result.now (omega arith) c.as_bytes.ensures.value (sym c.begins_with.ensures ∙ c.if-begins_with.true) c.utf8.text in
    inside c.read_quoted.result _ _ (λ value h. cut_after_one c.args.text.now c.range_from.result.now value.len off.1.0 c.range_from.ensures.value h.0 h.1) c.read_quoted.ensures.cut

pub range-requires-clause-end_boundary : goal.range-requires-clause-end_boundary
range-requires-clause-end_boundary c =
    let long = ap length c.as_bytes-2.ensures.value in
    run_cut c.args.ends c.args.text.now c.as_bytes-2.result.now c.run_len-len.result c.as_bytes-2.ensures.value c.run_len-len.ensures.len (omega (arith, c.run_len-len.ensures.within))

pub returns-clause-cut : goal.returns-clause-cut
returns-clause-cut c =
    let long = ap length c.as_bytes-2.ensures.value in
    run_cut c.args.ends c.args.text.now c.as_bytes-2.result.now c.run_len-len.result c.as_bytes-2.ensures.value c.run_len-len.ensures.len (omega (arith, c.run_len-len.ensures.within))
