-- An error of the journal, as it is reported for the index. Cited by `open_error`.
use Rattle.nm_journal.specs.declared.journal.JournalError.{JournalError}
use Rattle.nm_journal.specs.declared.journal.JournalError.TheVariants as journal
use Rattle.nm_replay.specs.declared.open_error.OpenError.{OpenError}
use Rattle.nm_replay.specs.declared.open_error.OpenError.TheVariants.{BadIndex, DiskFault, NoMemory}

abbrev pub of_journal : JournalError → OpenError
of_journal journal.DiskFault = DiskFault
of_journal (journal.BadIndex file at) = BadIndex file at
of_journal journal.NoMemory = NoMemory
