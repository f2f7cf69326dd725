-- What is answered where an index can't be opened. Cited by `bodies`, `head`, `replay` and `nm_writer`.
use Rattle.std.specs.Prelude.{◌≡◌, ℕ, ◌<◌, ◌^◌, Bool, true, false, List, Option, None, Some, IfSome, length}
use Rattle.nm_base.specs.declared.limit.Limit.{Limit as AnyLimit}
use Rattle.nm_commit.specs.Files.{Fits}
use Rattle.nm_commit.specs.declared.change.Commit.{Commit}
use Rattle.nm_disk.specs.declared.disk.FileNo.TheVariants.{Head}
use Rattle.nm_model_index.specs.Index.{committed}
use Rattle.nm_model_index.specs.declared.base.Base.{Base}
use Rattle.nm_journal.specs.Records.{AreBodies}
use Rattle.nm_record.specs.CommitGrammar.{commit_grammar}
use Rattle.nm_record.specs.Room.{limit_passed}
use Rattle.nm_replay.specs.StoredIndex.{HasBadBody, HasPassed, HoldsNoIndex, PassesLimit}
use Rattle.nm_replay.specs.declared.open_error.OpenError.{OpenError}
use Rattle.nm_replay.specs.declared.open_error.OpenError.TheVariants.{BadIndex, DiskFault, Limit, NoMemory}

-- a bad index is reported where the head holds none, at that place, and a limit where an index in it passes that one
abbrev pub HasOpenFault : List ℕ → OpenError → Type 0
HasOpenFault bytes (BadIndex file at) = (file ≡ Head) × HoldsNoIndex bytes at
HasOpenFault bytes (Limit limit) = PassesLimit bytes limit
HasOpenFault bytes DiskFault = Unit {0}
HasOpenFault bytes NoMemory = Unit {0}

-- a bad index is reported of the head
abbrev pub IsOfHead : OpenError → Type 0
IsOfHead (BadIndex file at) = file ≡ Head
IsOfHead (Limit limit) = Unit {0}
IsOfHead DiskFault = Unit {0}
IsOfHead NoMemory = Unit {0}

-- where a body of records is bad, it is reported at its gate, and where the index after one passes a limit, which that
-- is
abbrev pub HasBodyFault : List (List ℕ) → OpenError → Type 0
HasBodyFault bodies (BadIndex file at) = (file ≡ Head) × (AreBodies bodies → HasBadBody bodies at)
HasBodyFault bodies (Limit limit) = HasPassed bodies limit
HasBodyFault bodies DiskFault = ⊥
HasBodyFault bodies NoMemory = Unit {0}

-- the commit fits this index, and the one after it passes the limit
abbrev pub IsTooMuch : Base → Commit → AnyLimit → Type 0
IsTooMuch index commit limit = Fits index.files commit × (limit_passed (committed index commit) ≡ Some limit)

-- what a body is read as: the commit that it encodes, where one does
pub record IsRead (body : List ℕ) (read : Option Commit) : Type 0 where
  pub found : IfSome read (λ commit. (body ≡ commit_grammar.bytes commit) × (commit_grammar.is_value commit ≡ true))
  pub only : (commit : Commit) → commit_grammar.is_value commit ≡ true → length body < 2 ^ 32 → body ≡ commit_grammar.bytes commit → read ≡ Some commit

-- the index after what was read: the commit fits, and no limit is passed
abbrev pub IsAfterRead : Base → Option Commit → Base → Type 0
IsAfterRead index None new = ⊥
IsAfterRead index (Some commit) new = Fits index.files commit × (new ≡ committed index commit) × (limit_passed (committed index commit) ≡ None)

-- a commit is refused so over this index: it doesn't fit, or the index after it passes the limit
abbrev pub IsRefusedCommit : Base → Commit → OpenError → Type 0
IsRefusedCommit index commit (BadIndex file at) = (file ≡ Head) × ¬ Fits index.files commit
IsRefusedCommit index commit (Limit limit) = IsTooMuch index commit limit
IsRefusedCommit index commit DiskFault = ⊥
IsRefusedCommit index commit NoMemory = Unit {0}

-- what was read is refused so over this index: it is no commit, or the commit is refused
abbrev pub IsRefusedRead : Base → Option Commit → OpenError → Type 0
IsRefusedRead index (Some commit) error = IsRefusedCommit index commit error
IsRefusedRead index None (BadIndex file at) = file ≡ Head
IsRefusedRead index None (Limit limit) = ⊥
IsRefusedRead index None DiskFault = ⊥
IsRefusedRead index None NoMemory = ⊥

-- where a bad body was reported, it is that of this gate
abbrev pub IsToldAt : ℕ → OpenError → Type 0
IsToldAt gate (BadIndex file at) = at ≡ gate
IsToldAt gate (Limit limit) = Unit {0}
IsToldAt gate DiskFault = Unit {0}
IsToldAt gate NoMemory = Unit {0}

abbrev pub is_disk_fault : OpenError → Bool
is_disk_fault DiskFault = true
is_disk_fault (BadIndex file at) = false
is_disk_fault (Limit limit) = false
is_disk_fault NoMemory = false
