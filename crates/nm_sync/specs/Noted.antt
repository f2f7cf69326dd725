-- What a call notes after what was noted before it. Cited by `comparison`, `renames`, `laws`, `nm_writer` and others.
use Rattle.std.specs.Prelude.{List, drop, length}
use Rattle.nm_maildir.specs.declared.given.Given.{Given}

-- what was noted since: all after n as the old list has
abbrev pub since : List Given → List Given → List Given
since old new = drop (length old) new
