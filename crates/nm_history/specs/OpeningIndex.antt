-- The opening index: where lines were run, it is the one that the disk held when the call began, and no index on the way to it passes a limit.
-- Where the call was refused as a whole, the disk is as it was but for a sync. Cited by `nm_session` and `nm_top`.
use Rattle.std.specs.Prelude.{◌≡◌, IfSome}
use Rattle.nm_disk.specs.Calls.{GoesOn}
use Rattle.nm_disk.specs.Observed.{ObservedDisk, bytes_now}
use Rattle.nm_disk.specs.declared.disk.FileNo.TheVariants.{Head}
use Rattle.nm_model_index.specs.Index.{empty_index}
use Rattle.nm_model_index.specs.declared.base.Base.{Base}
use Rattle.nm_journal.specs.Moments.{SyncsOrFails}
use Rattle.nm_replay.specs.StoredIndex.{HoldsWithin}
use Rattle.nm_history.specs.Call.{Ending, Ran, Refused, Unasked}

-- Nothing was written: what the disk tells is as it was, or it was synced, or a sync failed.
abbrev pub IsUnwritten : ObservedDisk → ObservedDisk → Type 0
IsUnwritten old new = GoesOn SyncsOrFails old.told new.told

-- Where the disk's bytes are known, those of the head hold the opening index. Where it was not asked, the empty one represents it.
-- Where the call was refused as a whole, whatever the refusal, nothing was written.
abbrev pub OpeningIndex : Ending → ObservedDisk → ObservedDisk → Base → Type 0
OpeningIndex Ran entry after opening = IfSome entry.told (λ moments. HoldsWithin (bytes_now moments Head) opening)
OpeningIndex (Unasked outcome) entry after opening = opening ≡ empty_index
OpeningIndex (Refused refusal) entry after opening = IsUnwritten entry after
