use Rattle.std.proofs.Common.{take}
use Rattle.nm_maildir.specs.Names.{HasNames}
use Rattle.nm_maildir.proofs.names.names_of_dirs.Given as goal

abbrev pub invariant-dirs : goal.invariant-dirs
invariant-dirs l = HasNames l.names (take l.dir-index l.dirs)
