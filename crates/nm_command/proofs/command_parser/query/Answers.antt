use Rattle.std.proofs.Common.{ℕ, cond, List, [], ◌∷◌, ◌++◌, ap, ◌∙◌}
use Rattle.std.specs.Prelude.{nat_lt, string_bytes}
use Rattle.nm_command.proofs.QueryLemmas.{query_of-turn}
use Rattle.nm_command.proofs.command_parser.query.Goals as goal

pub words-preserved : goal.words-preserved
words-preserved c =
    query_of-turn c.args.words.now c.words.at (string_bytes c.words.query) (string_bytes c.add_word.new.query) c.index-words-at.result c.words-test.true c.words.invariant
    (c.in_ok-add_word.ensures
    ∙ ap (λ (x : List ℕ). cond (nat_lt 0 c.words.at) (string_bytes c.words.query ++ 32 ∷ []) (string_bytes c.words.query) ++ x) (c.as_str.ensures ∙ c.index-words-at.is))
