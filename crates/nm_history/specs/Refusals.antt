-- Why a call is refused as a whole, or its one line before the mail folder and the disk are asked, and what was read where neither is.
-- Cited by `laws` and `nm_top`.
use Rattle.std.specs.Prelude.{◌≡◌, ◌⊎◌, ℕ, ◌<◌, ◌≤◌, Bool, true, false, List, [], length, None, Some, IfSome}
use Rattle.std.specs.Io.KnownBytes.{Consumes, IsAtEnd}
use Rattle.std.specs.Str.Lines.{lines}
use Rattle.nm_base.specs.Limits.{max_input_bytes, max_lines}
use Rattle.nm_base.specs.declared.limit.Limit.{Limit}
use Rattle.nm_base.specs.declared.limit.Limit.TheVariants as limits
use Rattle.nm_disk.specs.Observed.{bytes_now}
use Rattle.nm_disk.specs.declared.disk.FileNo.TheVariants.{Head}
use Rattle.nm_faults.specs.Faults.{HasRisen}
use Rattle.nm_io.specs.Observed.{ObservedStream}
use Rattle.nm_log.specs.declared.outcome.Outcome.{Outcome}
use Rattle.nm_log.specs.declared.outcome.Outcome.TheVariants as outcomes
use Rattle.nm_log.specs.declared.refusal.Refusal.{Refusal}
use Rattle.nm_log.specs.declared.refusal.Refusal.TheVariants as refusals
use Rattle.nm_replay.specs.StoredIndex.{HoldsNoIndex, PassesLimit}
use Rattle.nm_history.specs.Call.{Call, call_fault, call_reads, input_fault, is_session}

-- the input was read to its end, and these are its bytes
pub record IsRead (input : List ℕ) (old new : ObservedStream) : Type 0 where
  pub bytes : Consumes old.bytes new.bytes input
  pub end : IsAtEnd new.bytes
  pub within : length input ≤ max_input_bytes
  pub sound : new.faults ≡ old.faults

-- what is taken of the input: a session reads its script to the end, and so does a single command that reads lines; another leaves it as it is
abbrev pub TakesInput : Bool → Bool → List ℕ → ObservedStream → ObservedStream → Type 0
TakesInput true session input old new = IsRead input old new × (session ≡ true → length (lines input) ≤ max_lines)
TakesInput false session input old new = (new ≡ old) × (input ≡ [])

-- the words are right, what they ask of the input was read, and so is each of its lines
pub record ReadsScript (input : List ℕ) (call : Call) : Type 0 where
  pub words : call_fault call.words ≡ None
  pub takes : TakesInput (call_reads call.words) (is_session call.words) input call.entry.input call.after.input
  pub lines : input_fault call.words input ≡ None

-- the bound that was passed before a line was run: the bytes or the lines of the input, which did not fail
abbrev pub IsInputPassed : Limit → List ℕ → Call → Type 0
IsInputPassed limits.InputBytes input call = IfSome call.entry.input.bytes (λ bytes. max_input_bytes < length bytes) × (call.after.input.faults ≡ call.entry.input.faults)
IsInputPassed limits.Lines input call = (is_session call.words ≡ true) × IsRead input call.entry.input call.after.input × (max_lines < length (lines input))
IsInputPassed limits.Files input call = ⊥
IsInputPassed limits.Dirs input call = ⊥
IsInputPassed limits.Depth input call = ⊥
IsInputPassed limits.IndexBytes input call = ⊥
IsInputPassed limits.CommitBytes input call = ⊥
IsInputPassed limits.Commits input call = ⊥
IsInputPassed limits.QueryBytes input call = ⊥
IsInputPassed limits.QueryDepth input call = ⊥
IsInputPassed limits.ShowBytes input call = ⊥
IsInputPassed limits.Numbers input call = ⊥

-- the disk is as it was, since it was not asked
abbrev pub DiskUnasked : Call → Type 0
DiskUnasked call = call.after.disk ≡ call.entry.disk

-- the words are right, and the input that is read for them passes the limit
abbrev pub PassesBefore : Limit → List ℕ → Call → Type 0
PassesBefore limit input call =
    (call_fault call.words ≡ None) × (call_reads call.words ≡ true) × IsInputPassed limit input call

-- nothing was asked: the words alone refuse the call
abbrev pub IsUnasked : Call → Type 0
IsUnasked call = (call.after.input ≡ call.entry.input) × DiskUnasked call

-- The cause of a refusal of a whole call, in the order in which they are met: the words of a session, the input, the index on the disk. A single
-- command that its words, its query or a line of its input refuse has its one line. Running out of memory alone is free.
abbrev pub IsRefusedFor : Refusal → List ℕ → Call → Type 0
IsRefusedFor (refusals.Usage word kind) input call =
    (is_session call.words ≡ true) × (call_fault call.words ≡ Some (outcomes.Usage word kind)) × IsUnasked call
IsRefusedFor refusals.ReadFault input call =
    (call_fault call.words ≡ None) × (call_reads call.words ≡ true) × HasRisen call.entry.input.faults call.after.input.faults × DiskUnasked call
IsRefusedFor (refusals.Limit limit) input call =
    (PassesBefore limit input call × DiskUnasked call) ⊎ (ReadsScript input call × IfSome call.entry.disk.told (λ moments. PassesLimit (bytes_now moments Head) limit))
IsRefusedFor refusals.DiskFault input call = ReadsScript input call × HasRisen call.entry.disk.faults call.after.disk.faults
IsRefusedFor (refusals.BadIndex file at) input call =
    ReadsScript input call × (file ≡ Head) × IfSome call.entry.disk.told (λ moments. HoldsNoIndex (bytes_now moments Head) at)
IsRefusedFor refusals.NoMemory input call = Unit {0}

-- What refuses a single command before the mail folder and the disk are asked: its words or its query, and the input is as it was; or a line
-- of the input, which was read to its end.
abbrev pub RefusesLine : Outcome → List ℕ → List (List ℕ) → ObservedStream → ObservedStream → Type 0
RefusesLine outcome input words old new =
    ((call_fault words ≡ Some outcome) × (input ≡ []) × (new ≡ old))
    ⊎ ((call_fault words ≡ None) × (call_reads words ≡ true) × IsRead input old new × (input_fault words input ≡ Some outcome))

-- A single command is refused so, and the disk is not asked.
pub record IsLineRefused (outcome : Outcome) (input : List ℕ) (call : Call) : Type 0 where
  pub single : is_session call.words ≡ false
  pub cause : RefusesLine outcome input call.words call.entry.input call.after.input
  pub disk : DiskUnasked call
