use Rattle.std.proofs.Common.{[], length, take, ap, sym, ◌∙◌, arith}
use Rattle.std.proofs.lemmas.List.{get_or_read, take_all}
use Rattle.std.proofs.lemmas.List.Sums.{prefix_len_is}
use Rattle.nm_command.specs.Options.{begins_with_dashes}
use Rattle.nm_command.proofs.leading_options.leading_words.Goals as goal

pub returns-then-not-begins_with_dashes-clause-words : goal.returns-then-not-begins_with_dashes-clause-words
returns-then-not-begins_with_dashes-clause-words c =
    ap (λ n. take n c.args.words.now) (sym (prefix_len_is begins_with_dashes c.args.words.now c.words.at [] (omega arith) c.words.invariant
    (λ within. ap begins_with_dashes (sym (get_or_read c.args.words.now c.words.at c.index-words-at.result within c.index-words-at.is []) ∙ sym c.as_str.ensures)
    ∙ sym c.begins_with_dashes.ensures ∙ c.if-not-begins_with_dashes.true)))

pub returns-clause-words : goal.returns-clause-words
returns-clause-words c =
    sym (take_all (length c.args.words.now) c.args.words.now (omega arith))
    ∙ ap (λ n. take n c.args.words.now) (sym (prefix_len_is begins_with_dashes c.args.words.now (length c.args.words.now) [] (omega arith)
    (λ k h. c.words.invariant k (omega (arith, h))) (λ h. absurd (omega (arith, h)))))
