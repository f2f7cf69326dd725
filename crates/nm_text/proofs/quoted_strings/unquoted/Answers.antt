-- So far, and what is left, is all, and is text where all is.
use Rattle.std.proofs.Common.{sym, ◌∙◌, ap, ◌++◌, subst}
use Rattle.std.specs.Prelude.{IsUtf8}
use Rattle.nm_text.proofs.PairLemmas.{said_all, unquoted_end, unquoted_turn, unquoted_utf8}
use Rattle.nm_text.proofs.quoted_strings.unquoted.Goals as goal

pub pairs-preserved : goal.pairs-preserved
pairs-preserved c =
    let more = c.in_ok-extend_from_slice.ensures.items ∙ ap (λ x. c.pairs.said.items ++ x) c.unquoted_pair.ensures in
    record {
      said = unquoted_turn c.pairs.said.items c.extend_from_slice.new.self.items c.split_at.result.0.now c.pairs.rest.now c.split_at.result.1.now c.pair_len.result c.pair_len.ensures.first c.split_at.ensures.front c.split_at.ensures.back more ∙ c.pairs.invariant.said;
      text = λ u. unquoted_utf8 c.pairs.said.items c.extend_from_slice.new.self.items c.split_at.result.0.now c.pairs.rest.now c.split_at.result.1.now c.pair_len.result c.pair_len.ensures.first c.split_at.ensures.front c.split_at.ensures.back more (c.pairs.invariant.text u);
    }

pub returns-clause-value : goal.returns-clause-value
returns-clause-value c = sym (unquoted_end c.pairs.said.items c.pairs.rest.now (sym c.is_empty.ensures ∙ c.pairs-test.false)) ∙ c.pairs.invariant.said

pub returns-clause-text : goal.returns-clause-text
returns-clause-text c = λ u. subst IsUtf8 (said_all c.pairs.said.items c.pairs.rest.now (sym c.is_empty.ensures ∙ c.pairs-test.false)) (c.pairs.invariant.text u)
