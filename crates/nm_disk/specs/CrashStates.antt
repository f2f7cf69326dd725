-- What a crash may leave of the three files of a disk. Between two syncs that went well each range that was written, and
-- all past the old end, may hold any bytes; all other bytes stay. No file becomes shorter than it was at the last such
-- sync, and none becomes longer than it was then or than the furthest end of a write to it since.
-- Cited by `disk`, `files`, `nm_journal` and others.
use Rattle.std.specs.Prelude.{◌≡◌, ℕ, ◌+◌, ◌<◌, ◌≤◌, max, Bool, true, false, ◌&&◌, nat_le, nat_lt, List, [], ◌∷◌, ◌++◌, length, take, drop, slice_index, if◌then◌else◌}
use Rattle.std.specs.List.{list_any}
use Rattle.nm_disk.specs.declared.disk.FileNo.{FileNo}
use Rattle.nm_disk.specs.declared.disk.FileNo.TheVariants.{Head, BankA, BankB}
use Rattle.nm_disk.specs.declared.files.Files.{Files}
use Rattle.nm_disk.specs.declared.state.DiskState.{DiskState}
use Rattle.nm_disk.specs.declared.state.Range.{Range}

-- the bytes of one of the files
abbrev pub bytes_of : FileNo → Files → List ℕ
bytes_of Head files = files.head
bytes_of BankA files = files.bank_a
bytes_of BankB files = files.bank_b

-- the files with these bytes in one of them
abbrev pub with_bytes : Files → FileNo → List ℕ → Files
with_bytes files Head bytes = record { head = bytes; bank_a = files.bank_a; bank_b = files.bank_b }
with_bytes files BankA bytes = record { head = files.head; bank_a = bytes; bank_b = files.bank_b }
with_bytes files BankB bytes = record { head = files.head; bank_a = files.bank_a; bank_b = bytes }

-- the bytes written over what is there from the place on, and past its end
abbrev pub overwritten : List ℕ → ℕ → List ℕ → List ℕ
overwritten old at bytes = take at old ++ bytes ++ drop (at + length bytes) old

-- the two are one file
abbrev pub same_file : FileNo → FileNo → Bool
same_file Head Head = true
same_file Head BankA = false
same_file Head BankB = false
same_file BankA Head = false
same_file BankA BankA = true
same_file BankA BankB = false
same_file BankB Head = false
same_file BankB BankA = false
same_file BankB BankB = true

-- the range has the place of the file
abbrev pub covers : FileNo → ℕ → Range → Bool
covers file place range = same_file range.file file && (nat_le range.start place && nat_lt place (range.start + range.len))

abbrev pub is_written : List Range → FileNo → ℕ → Bool
is_written ranges file place = list_any (covers file place) ranges

-- the length, or the furthest end of a write to the file where that is more
abbrev pub reach : List Range → FileNo → ℕ → ℕ
reach [] file len = len
reach (range ∷ ranges) file len = if same_file range.file file then max (range.start + range.len) (reach ranges file len) else reach ranges file len

-- A crash may leave these bytes, of a file that had `synced` at the last sync and where these places were written
-- since, up to `end`.
pub record IsLeft (synced : List ℕ) (written : ℕ → Bool) (end : ℕ) (bytes : List ℕ) : Type 0 where
  pub no_shorter : length synced ≤ length bytes
  pub no_longer : length bytes ≤ end
  pub elsewhere : (place : ℕ) → place < length synced → written place ≡ false → slice_index bytes place ≡ slice_index synced place

-- a crash may leave these bytes of the file
abbrev pub MayLeave : DiskState → FileNo → List ℕ → Type 0
MayLeave state file bytes =
    let synced = bytes_of file state.synced in
    IsLeft synced (is_written state.written file) (reach state.written file (length synced)) bytes

-- a crash may leave these three files
abbrev pub IsImage : DiskState → Files → Type 0
IsImage state files = (file : FileNo) → MayLeave state file (bytes_of file files)
