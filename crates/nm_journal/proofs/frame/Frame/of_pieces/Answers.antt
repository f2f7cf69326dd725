use Rattle.std.proofs.Common.{◌++◌, ℕ, ◌<◌, ◌^◌, ◌∙◌, subst, arith}
use Rattle.std.specs.List.{flat_map}
use Rattle.nm_journal.proofs.FrameLemmas.{pieces_framed}
use Rattle.nm_journal.proofs.frame.Frame.of_pieces.Goals as goal

pub of_bytes-requires : goal.of_bytes-requires
of_bytes-requires c = (
  c.args.first.now ++ flat_map (λ piece. piece) c.args.others.now,
  pieces_framed c.args.len c.others.piece-index c.args.first.now c.others.bytes.items c.from_vec.result c.args.others.now c.requires (omega (arith, c.others-test.false)) c.others.invariant (c.from_vec.ensures ∙ c.in_ok-push.ensures.items),
  subst (λ (n : ℕ). n < 2 ^ 32) c.requires c.ranges.len.fits,
)

pub returns : goal.returns
returns c =
    c.of_bytes.ensures (c.args.first.now ++ flat_map (λ piece. piece) c.args.others.now)
    (pieces_framed c.args.len c.others.piece-index c.args.first.now c.others.bytes.items c.from_vec.result c.args.others.now c.requires (omega (arith, c.others-test.false)) c.others.invariant (c.from_vec.ensures ∙ c.in_ok-push.ensures.items))
