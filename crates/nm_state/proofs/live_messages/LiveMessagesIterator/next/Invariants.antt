use Rattle.std.proofs.Common.{◌≡◌, length}
use Rattle.nm_tables.specs.FileTable.{AreFiled, files_in}
use Rattle.nm_state.specs.Messages.{live_messages}
use Rattle.nm_state.proofs.live_messages.LiveMessagesIterator.next.Given as goal

-- what is left is left still, but for ids without a file
abbrev pub invariant-entries : goal.invariant-entries
invariant-entries l =
    AreFiled l.self-inside.file_table.now
    × (live_messages (files_in l.self-inside.file_table.now) l.self-inside.rest ≡ live_messages (files_in l.initial.self-inside.file_table.now) l.initial.self-inside.rest)

abbrev pub decreases-entries : goal.decreases-entries
decreases-entries l = length l.self-inside.rest
