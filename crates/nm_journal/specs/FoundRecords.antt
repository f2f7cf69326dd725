-- What is found where records are read. Cited by `record_reader`.
use Rattle.std.specs.Prelude.{◌≡◌, ◌≢◌, ◌⊎◌, ℕ, ◌+◌, ◌-◌, ◌<◌, ◌≤◌, ◌^◌, min, List, ◌∷◌, ◌++◌, length, take, drop, slice_index, Option, None, Some}
use Rattle.std.specs.Int.{w32, to_be_bytes}
use Rattle.nm_disk.specs.declared.disk.FileNo.{FileNo}
use Rattle.nm_journal.specs.declared.journal.JournalError.{JournalError}
use Rattle.nm_journal.specs.declared.journal.JournalError.TheVariants.{BadIndex, DiskFault, NoMemory}
use Rattle.nm_journal.specs.declared.record_reader.Header.{Header}
use Rattle.nm_journal.specs.Records.{IsBroken, IsCut, record_of}

-- a bad index is reported of this file
abbrev pub IsOf : FileNo → JournalError → Type 0
IsOf file (BadIndex told at) = told ≡ file
IsOf file DiskFault = Unit {0}
IsOf file NoMemory = Unit {0}

-- a bad index is reported of this file, at the place where its bytes are no records
abbrev pub HasFault : FileNo → ℕ → List ℕ → JournalError → Type 0
HasFault file start bytes (BadIndex told at) = (told ≡ file) × IsBroken start bytes at
HasFault file start bytes DiskFault = Unit {0}
HasFault file start bytes NoMemory = Unit {0}

-- the gate there is closed, or the open record there has this body
abbrev pub IsNext : List ℕ → ℕ → Option (List ℕ) → Type 0
IsNext bytes gate None = (gate < length bytes) × (slice_index bytes gate ≢ 1)
IsNext bytes gate (Some body) = drop gate bytes ≡ record_of body ++ drop (gate + 5 + length body) bytes

-- the bytes end in place of the gate, or the open record there is cut
abbrev pub IsNextFault : FileNo → List ℕ → ℕ → JournalError → Type 0
IsNextFault file bytes gate (BadIndex told at) =
    (told ≡ file) × (((length bytes ≤ gate) × (at ≡ length bytes))
    ⊎ ((gate < length bytes) × (slice_index bytes gate ≡ 1) × IsCut (drop (gate + 1) bytes) × (at ≡ gate)))
IsNextFault file bytes gate DiskFault = Unit {0}
IsNextFault file bytes gate NoMemory = Unit {0}

-- the first bytes of a record, as far as the file goes
pub record IsHeaderAt (bytes : List ℕ) (at : ℕ) (header : Header) : Type 0 where
  pub count : header.count ≡ min 5 (length bytes - at)
  pub gate : 0 < header.count → slice_index bytes at ≡ header.gate
  pub whole : header.count ≡ 5 → take 5 (drop at bytes) ≡ header.gate ∷ to_be_bytes w32 header.len
  pub fits : header.len < 2 ^ 32

-- no bad index is reported
abbrev pub IsNoFault : JournalError → Type 0
IsNoFault (BadIndex told at) = ⊥
IsNoFault DiskFault = Unit {0}
IsNoFault NoMemory = Unit {0}
