use Rattle.std.proofs.Common.{◌≡◌, ◌++◌}
use Rattle.nm_phrase.proofs.documents.rising_list.Given as goal

-- the documents so far, with those that are left, are all
abbrev pub invariant-docs : goal.invariant-docs
invariant-docs l = l.list ++ l.doc-iterator ≡ l.docs.keys
