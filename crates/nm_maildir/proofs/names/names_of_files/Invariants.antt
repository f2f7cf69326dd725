use Rattle.std.proofs.Common.{take}
use Rattle.nm_maildir.specs.Names.{HasNames}
use Rattle.nm_maildir.specs.Still.{paths_of}
use Rattle.nm_maildir.proofs.names.names_of_files.Given as goal

abbrev pub invariant-files : goal.invariant-files
invariant-files l = HasNames l.names (paths_of (take l.file-index l.files))
