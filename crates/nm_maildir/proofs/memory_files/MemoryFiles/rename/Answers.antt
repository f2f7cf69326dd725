use Rattle.std.proofs.Common.{true, false}
use Rattle.nm_maildir.specs.MemoryTree.{tree_of}
use Rattle.nm_maildir.proofs.IndexLemmas.{renamed_of-is}
use Rattle.nm_maildir.proofs.memory_files.MemoryFiles.rename.Goals as goal

pub returns-then-has_file-clause-renamed : goal.returns-then-has_file-clause-renamed
returns-then-has_file-clause-renamed c =
    renamed_of-is (tree_of c.args.self.now) (tree_of c.index.new.self) c.args.from.now c.args.to.now true true c.in_ok-index.ensures.tree
    c.in-Some.ensures.there c.if-has_file.ensures.there

pub returns-clause-renamed : goal.returns-clause-renamed
returns-clause-renamed c =
    renamed_of-is (tree_of c.args.self.now) (tree_of c.index.new.self) c.args.from.now c.args.to.now true false c.in_ok-index.ensures.tree
    c.in-Some.ensures.there c.if-has_file.ensures.there
