-- The grammar of a commit: a list of changes, at least one. Cited by `changes`, `commits`, `test_index` and others.
use Rattle.std.specs.Prelude.{List, refl, length, nat_lt}
use Rattle.nm_commit.specs.declared.change.Change.{Change}
use Rattle.nm_commit.specs.declared.change.Commit.{Commit}
use Rattle.nm_codec.specs.Grammar.{Grammar, list_grammar, mapped_grammar, tested_grammar}
use Rattle.nm_record.specs.ChangeLaws.{change_again, change_only, some_change}
use Rattle.nm_record.specs.Commits.{change_at, change_bytes, is_change}

-- the one encoding of a change
abbrev pub change_grammar : Grammar Change
change_grammar = record { read = change_at; bytes = change_bytes; is_value = is_change; some = some_change; again = change_again; only = change_only }

abbrev pub commit_of : List Change → Commit
commit_of changes = record { changes = changes }

-- the one encoding of a commit: that of its list of changes, of which there is one at least
abbrev pub commit_grammar : Grammar Commit
commit_grammar = mapped_grammar commit_of (λ commit. commit.changes) (λ commit. refl) (λ changes. refl) (tested_grammar (λ changes. nat_lt 0 (length changes)) (list_grammar change_grammar))
