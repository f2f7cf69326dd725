-- What a commit leaves, and what commits one after the other leave, of the writer and of the disk.
-- Cited by `commit`, `new`, `nm_history` and others.
use Rattle.std.specs.Prelude.{◌≡◌, ◌⊎◌, ℕ, ◌+◌, ◌<◌, ◌≤◌, Bool, true, false, List, [], ◌∷◌, ◌++◌, None, Some, length, Result, Ok, Err}
use Rattle.nm_base.specs.Limits.{max_commit_bytes, max_commits}
use Rattle.nm_base.specs.declared.limit.Limit.{Limit}
use Rattle.nm_base.specs.declared.limit.Limit.TheVariants as limits
use Rattle.nm_commit.specs.declared.change.Commit.{Commit}
use Rattle.nm_model_index.specs.Index.{committed, folded}
use Rattle.nm_model_index.specs.declared.base.Base.{Base}
use Rattle.nm_publish.specs.Published.{Published, with_commit}
use Rattle.nm_record.specs.CommitGrammar.{commit_grammar}
use Rattle.nm_record.specs.Room.{limit_passed}
use Rattle.nm_replay.specs.StoredIndex.{HoldsIndex}
use Rattle.nm_writer.specs.Writer.{WriterState}
use Rattle.nm_writer.specs.declared.write_error.WriteError.{WriteError}
use Rattle.nm_writer.specs.declared.write_error.WriteError.TheVariants as errors

-- The limit that a commit passes where n were begun before and this index is shown: how many they are, its bytes, or the first that
-- the index after it passes.
abbrev pub IsPassed : ℕ → Base → Commit → Limit → Type 0
IsPassed made shown commit limit =
    ((limit ≡ limits.Commits) × (max_commits ≤ made))
    ⊎ (((limit ≡ limits.CommitBytes) × (made < max_commits) × (max_commit_bytes < length (commit_grammar.bytes commit)))
    ⊎ ((made < max_commits) × (length (commit_grammar.bytes commit) ≤ max_commit_bytes) × (limit_passed (committed shown commit) ≡ Some limit)))

-- where n were begun before, the commit passes no limit, and the index after it none
abbrev pub IsWithin : ℕ → Base → Commit → Type 0
IsWithin made shown commit = (made < max_commits) × (length (commit_grammar.bytes commit) ≤ max_commit_bytes) × (limit_passed (committed shown commit) ≡ None)

-- where n were begun before, each of these commits, one after the other, passes no limit, and the index after it none
abbrev pub AreWithin : ℕ → Base → List Commit → Type 0
AreWithin made shown [] = Unit {0}
AreWithin made shown (commit ∷ commits) = IsWithin made shown commit × AreWithin (made + 1) (committed shown commit) commits

-- the index would pass this limit, or there is no memory
abbrev pub IsFull : Base → WriteError → Type 0
IsFull index errors.MailFault = ⊥
IsFull index errors.DiskFault = ⊥
IsFull index (errors.Closed fault) = ⊥
IsFull index (errors.Limit limit) = limit_passed index ≡ Some limit
IsFull index errors.NoMemory = Unit {0}

-- a commit is refused before the disk is touched
abbrev pub IsPreparing : ℕ → Base → Commit → WriteError → Type 0
IsPreparing made shown commit errors.MailFault = ⊥
IsPreparing made shown commit errors.DiskFault = ⊥
IsPreparing made shown commit (errors.Closed fault) = ⊥
IsPreparing made shown commit (errors.Limit limit) = IsPassed made shown commit limit
IsPreparing made shown commit errors.NoMemory = Unit {0}

-- n more commits were published
abbrev pub with_commits : Published → List Commit → Published
with_commits published commits = record published { commits = published.commits ++ commits }

-- The commit is made, published and shown, and its clock kept; or it is begun and the writer closed, with the faults of the disk; or
-- nothing is. What is made or begun passes no limit.
abbrev pub IsAfterCommit : {T : Type 0} → WriterState → Commit → ℕ → ℕ → Result T WriteError → WriterState → Type 0
IsAfterCommit old commit clock faults (Ok done) new =
    (new.shown ≡ committed old.shown commit) × (new.begun ≡ old.begun ++ commit ∷ []) × (new.acked ≡ old.acked ++ clock ∷ []) × (new.closed ≡ old.closed)
    × IsWithin (length old.begun) old.shown commit × (new.published ≡ with_commit old.published commit)
IsAfterCommit old commit clock faults (Err errors.MailFault) new = ⊥
IsAfterCommit old commit clock faults (Err errors.DiskFault) new =
    (new.shown ≡ old.shown) × (new.begun ≡ old.begun ++ commit ∷ []) × (new.acked ≡ old.acked) × (new.closed ≡ Some faults)
    × IsWithin (length old.begun) old.shown commit × (new.published ≡ old.published)
IsAfterCommit old commit clock faults (Err (errors.Closed fault)) new = ⊥
IsAfterCommit old commit clock faults (Err (errors.Limit limit)) new = IsPassed (length old.begun) old.shown commit limit × (new ≡ old)
IsAfterCommit old commit clock faults (Err errors.NoMemory) new = new ≡ old

-- the commits are made, published and shown, one after the other, none of them passes a limit, and a clock is kept of each
pub record HasCommitted (old : WriterState) (done : List Commit) (new : WriterState) : Type 0 where
  pub within : AreWithin (length old.begun) old.shown done
  pub published : new.published ≡ with_commits old.published done
  pub shown : new.shown ≡ folded old.shown done
  pub begun : new.begun ≡ old.begun ++ done
  pub clocks : List ℕ
  pub acked : new.acked ≡ old.acked ++ clocks
  pub each : length clocks ≡ length done
  pub closed : new.closed ≡ old.closed

-- of these commits some were made, the first ones
pub record StopsWithin (old : WriterState) (due : List Commit) (new : WriterState) : Type 0 where
  pub done : List Commit
  pub more : List Commit
  pub due_are : due ≡ done ++ more
  pub made : HasCommitted old done new

-- of these commits some were made, and the next one passes a limit
pub record PassesWithin (old : WriterState) (due : List Commit) (limit : Limit) (new : WriterState) : Type 0 where
  pub done : List Commit
  pub commit : Commit
  pub more : List Commit
  pub due_are : due ≡ done ++ commit ∷ more
  pub made : HasCommitted old done new
  pub passed : IsPassed (length new.begun) new.shown commit limit

-- Of these commits some were made and are shown, and the disk failed at the next one, so the writer is closed, with the faults of the disk.
-- Neither it nor those before it pass a limit.
pub record FailsWithin (old : WriterState) (due : List Commit) (faults : ℕ) (new : WriterState) : Type 0 where
  pub done : List Commit
  pub commit : Commit
  pub more : List Commit
  pub due_are : due ≡ done ++ commit ∷ more
  pub within : AreWithin (length old.begun) old.shown (done ++ commit ∷ [])
  pub published : new.published ≡ with_commits old.published done
  pub shown : new.shown ≡ folded old.shown done
  pub begun : new.begun ≡ old.begun ++ (done ++ commit ∷ [])
  pub clocks : List ℕ
  pub acked : new.acked ≡ old.acked ++ clocks
  pub each : length clocks ≡ length done
  pub closed : new.closed ≡ Some faults

-- What the commits that are due leave, one after the other: all are made, or those before the one that is refused.
abbrev pub IsAfterCommits : {T : Type 0} → WriterState → List Commit → ℕ → Result T WriteError → WriterState → Type 0
IsAfterCommits old due faults (Ok done) new = HasCommitted old due new
IsAfterCommits old due faults (Err errors.MailFault) new = ⊥
IsAfterCommits old due faults (Err errors.DiskFault) new = FailsWithin old due faults new
IsAfterCommits old due faults (Err (errors.Closed fault)) new = ⊥
IsAfterCommits old due faults (Err (errors.Limit limit)) new = PassesWithin old due limit new
IsAfterCommits old due faults (Err errors.NoMemory) new = StopsWithin old due new

-- the index from before, or the one with the commit
abbrev pub HoldsEither : Base → Commit → List ℕ → Type 0
HoldsEither index commit bytes = HoldsIndex bytes index ⊎ HoldsIndex bytes (committed index commit)

abbrev pub is_write_fault : WriteError → Bool
is_write_fault errors.MailFault = false
is_write_fault errors.DiskFault = true
is_write_fault (errors.Closed fault) = false
is_write_fault (errors.Limit limit) = false
is_write_fault errors.NoMemory = false

-- the error is a fault of the mail folder
abbrev pub is_read_fault : WriteError → Bool
is_read_fault errors.MailFault = true
is_read_fault errors.DiskFault = false
is_read_fault (errors.Closed fault) = false
is_read_fault (errors.Limit limit) = false
is_read_fault errors.NoMemory = false
