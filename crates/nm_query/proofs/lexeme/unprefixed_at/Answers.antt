use Rattle.std.proofs.Common.{◌≡◌, ap, ◌∙◌, arith, length}
use Rattle.std.specs.List.{position_or_len}
use Rattle.nm_query.specs.Values.{ends_run}
use Rattle.nm_query.specs.declared.token.Lexeme.{Lexeme}
use Rattle.nm_query.specs.declared.values.Ends.TheVariants.{Run}
use Rattle.nm_query.proofs.CutLemmas.{off_by, run_cut}
use Rattle.nm_query.proofs.RunLemmas.{run_some}
use Rattle.nm_query.proofs.lexeme.unprefixed_at.Goals as goal

pub range-requires-clause-end_boundary : goal.range-requires-clause-end_boundary
range-requires-clause-end_boundary c =
    let long = ap length c.as_bytes-2.ensures.value in
    run_cut Run c.args.text.now c.as_bytes-2.result.now c.run_len-len.result c.as_bytes-2.ensures.value c.run_len-len.ensures.len (omega (arith, c.run_len-len.ensures.within))

pub returns-clause-cut : goal.returns-clause-cut
returns-clause-cut c =
    let long = ap length c.as_bytes-2.ensures.value in
    let some = run_some c.args.text.now c.requires.some in
    let place : c.run_len-len.result ≡ position_or_len ends_run c.args.text.now = c.run_len-len.ensures.len ∙ ap (position_or_len ends_run) c.as_bytes-2.ensures.value in
    off_by c.args.text.now c.token_of.result c.run_len-len.result (ap (λ (lexeme : Lexeme). lexeme.len) c.token_of.ensures)
    (omega arith, run_cut Run c.args.text.now c.as_bytes-2.result.now c.run_len-len.result c.as_bytes-2.ensures.value c.run_len-len.ensures.len (omega (arith, c.run_len-len.ensures.within)))
