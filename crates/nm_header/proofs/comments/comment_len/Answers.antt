-- The depth that was counted is that of the pairs so far.
use Rattle.std.proofs.Common.{sym, ◌∙◌, ◌++◌, arith, refl, []}
use Rattle.nm_header.proofs.CommentLemmas.{after_close, closed_by, comment_begin, comment_end, comment_sum, depth_rise, front_more}
use Rattle.nm_header.proofs.comments.comment_len.Goals as goal

pub pairs-init : goal.pairs-init
pairs-init c = record {
  sum = comment_begin c.args.text.now;
  within = omega arith;
  low = omega arith;
  high = omega arith;
  front = ([], refl);
}

pub returns-then-depth-eq0-clause-after : goal.returns-then-depth-eq0-clause-after
returns-then-depth-eq0-clause-after c = λ u. after_close c.args.text.now c.pairs.invariant.front.0 c.pairs.left.now c.split_at.result.0.now c.split_at.result.1.now c.pair_len.result c.pairs.invariant.front.1 c.split_at.ensures.front c.split_at.ensures.back (closed_by c.pairs.depth c.split_at.result.0.now c.pairs.invariant.low (sym c.depth_after-depth.ensures ∙ c.if-depth-eq0.true)) u

pub pairs-preserved : goal.pairs-preserved
pairs-preserved c =
    let rise = depth_rise c.pairs.depth c.split_at.result.0.now in
    record {
      sum = comment_sum c.args.text.now c.pairs.left.now c.split_at.result.0.now c.split_at.result.1.now c.pair_len.result c.pairs.depth c.depth_after-depth.result c.split_at.ensures.front c.split_at.ensures.back c.pair_len.ensures.first c.pair_len.ensures.within c.depth_after-depth.ensures c.if-depth-eq0.false c.pairs.invariant.sum;
      within = omega arith;
      low = omega arith;
      high = omega arith;
      front = (c.pairs.invariant.front.0 ++ c.split_at.result.0.now, front_more c.args.text.now c.pairs.invariant.front.0 c.pairs.left.now c.split_at.result.0.now c.split_at.result.1.now c.pair_len.result c.pairs.invariant.front.1 c.split_at.ensures.front c.split_at.ensures.back);
    }

pub returns-clause-value : goal.returns-clause-value
returns-clause-value c = comment_end c.args.text.now c.pairs.left.now c.pairs.depth (sym c.is_empty.ensures ∙ c.pairs-test.false) c.pairs.invariant.sum
