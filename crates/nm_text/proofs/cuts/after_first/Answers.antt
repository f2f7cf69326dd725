use Rattle.std.proofs.Common.{sym, subst, arith}
use Rattle.std.specs.Prelude.{IsUtf8}
use Rattle.nm_text.proofs.PlaceLemmas.{after_utf8}
use Rattle.nm_text.proofs.cuts.after_first.Goals as goal

pub returns-clause-text : goal.returns-clause-text
returns-clause-text c = λ ascii u.
    let within = c.first_place-at.ensures.within in
    subst IsUtf8 (sym c.split_at.ensures.back) (after_utf8 c.args.wanted c.args.bytes.now c.first_place-at.result c.first_place-at.ensures.place (omega (arith, c.if-at-bytes.false)) ascii u)
