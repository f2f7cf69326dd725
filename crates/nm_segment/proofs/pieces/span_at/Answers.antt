use Rattle.std.proofs.Common.{◌≡◌, suc, refl, arith}
use Rattle.nm_segment.proofs.PieceLemmas.{spans}
use Rattle.nm_segment.proofs.pieces.span_at.Goals as goal

pub returns-in-None : goal.returns-in-None
returns-in-None c =
    let first : c.args.at ≡ 0 = omega (arith, c.in-None.ensures) in
    spans c.args.ends.now c.args.len c.args.at 0 _ c.requires.ends c.requires.within (rw first refl) refl

pub returns-in-Some : goal.returns-in-Some
returns-in-Some c =
    let next : c.args.at ≡ suc c.in-Some.before = omega (arith, c.in-Some.ensures) in
    spans c.args.ends.now c.args.len c.args.at _ _ c.requires.ends c.requires.within (rw next refl) refl
