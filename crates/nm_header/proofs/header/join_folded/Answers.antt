-- A line that continues a field adds to it; what is left after it holds the same fields.
use Rattle.std.proofs.Common.{sym, ◌∙◌, ap, subst, ◌++◌}
use Rattle.nm_header.specs.Fields.{fields_in}
use Rattle.nm_header.specs.HeaderLines.{LeavesOf, header_lines}
use Rattle.nm_header.proofs.HeaderLemmas.{fields_folded, joined_turn, leaves_more}
use Rattle.nm_header.proofs.header.join_folded.Goals as goal

pub folded-preserved : goal.folded-preserved
folded-preserved c = record {
  joined = joined_turn c.folded.joined c.extend_from_slice.new.self c.folded.left.now c.split_at.result.0.now c.split_at.result.1.now c.in-Some.length c.in-Some.ensures.none c.split_at.ensures.front c.split_at.ensures.back c.in-Some.ensures.some (c.in_ok-extend_from_slice.ensures.ok ∙ ap (λ x. c.folded.joined ++ x) c.content.ensures.value) ∙ c.folded.invariant.joined;
  fields = ap (λ x. fields_in (header_lines x)) c.split_at.ensures.back ∙ fields_folded c.folded.left.now c.in-Some.length c.in-Some.ensures.none c.in-Some.ensures.some ∙ c.folded.invariant.fields;
  leaves = subst (LeavesOf c.args.bytes.now) (sym c.split_at.ensures.back) (leaves_more c.args.bytes.now c.folded.left.now c.in-Some.length c.folded.invariant.leaves c.in-Some.ensures.none);
}
