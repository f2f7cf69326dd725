use Rattle.std.proofs.Common.{rules, ◌≡◌}
use Rattle.nm_journal.specs.Frame.{framed}
use Rattle.nm_record.specs.CommitGrammar.{commit_grammar}
use Rattle.nm_changes.proofs.encoding.framed_alone.Goals as goal

pub of_bytes-requires : goal.of_bytes-requires
of_bytes-requires c =
    let is : c.finish.result ≡ framed (commit_grammar.bytes c.args.commit.now) = search rules in
    (commit_grammar.bytes c.args.commit.now, is, search rules)

pub returns : goal.returns
returns c =
    let is : c.finish.result ≡ framed (commit_grammar.bytes c.args.commit.now) = search rules in
    c.of_bytes.ensures (commit_grammar.bytes c.args.commit.now) is
