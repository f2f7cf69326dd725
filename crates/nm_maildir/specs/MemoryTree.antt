-- What a tree in memory represents. Cited by `memory_files` and `still_tree`.
use Rattle.nm_maildir.specs.declared.memory_files.MemoryFiles.{MemoryFiles}
use Rattle.nm_maildir.specs.Tree.{Tree}

abbrev pub tree_of : MemoryFiles → Tree
tree_of memory = record { dirs = memory.dirs; files = memory.files.items }
