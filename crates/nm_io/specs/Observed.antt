-- What is observed of a source or a sink at a moment, and what a call makes of it.
-- Cited by `mem_sink`, `mem_source`, `nm_log` and others.
use Rattle.std.specs.Prelude.{◌≡◌, ℕ, ◌+◌, ◌≤◌, Bool, true, false, List, Option, Result, MatchResult, length, take}
use Rattle.std.specs.Io.{ReadsAtMost}
use Rattle.std.specs.Io.KnownBytes.{Appends, Keeps, ReadConsumes}
use Rattle.nm_base.specs.declared.memory.Failed.{Failed}
use Rattle.nm_faults.specs.Faults.{HasCause, HasRisen}

-- of a source: the bytes left in it, where they are known, and how often it has failed
pub record ObservedStream : Type 0 where
  pub bytes : Option (List ℕ)
  pub faults : ℕ

-- of a sink: the bytes taken, where they are known; how many bytes were put into it, how many of these it has handed on; and how often it has
-- failed
pub record ObservedSink : Type 0 where
  pub bytes : Option (List ℕ)
  pub put : ℕ
  pub handed : ℕ
  pub faults : ℕ

-- A source gave its first bytes, or failed. None at all for a buffer with room is its end.
pub record Takes (old new : ObservedStream) (result : Result ℕ Failed) (buf : List ℕ) : Type 0 where
  pub count : ReadsAtMost result buf
  pub bytes : ReadConsumes old.bytes new.bytes result buf
  pub cause : HasCause old.faults new.faults result

-- all the bytes were appended, or after a failure the first of them
abbrev pub PutAppends : {T E : Type 0} → Option (List ℕ) → Option (List ℕ) → Result T E → List ℕ → Type 0
PutAppends old new result bytes =
    MatchResult result (λ _. Appends old new bytes) (λ _. (n : ℕ) × Appends old new (take n bytes))

-- the bytes count as put, or after a failure no fewer do than before
abbrev pub PutCounts : {T E : Type 0} → ℕ → ℕ → Result T E → List ℕ → Type 0
PutCounts old new result bytes = MatchResult result (λ _. new ≡ old + length bytes) (λ _. old ≤ new)

-- A sink took the bytes, or failed. It may keep some of them back, and takes back none that it has handed on.
pub record Puts {T : Type 0} (old new : ObservedSink) (result : Result T Failed) (piece : List ℕ) : Type 0 where
  pub bytes : PutAppends old.bytes new.bytes result piece
  pub put : PutCounts old.put new.put result piece
  pub handed : old.handed ≤ new.handed
  pub cause : HasCause old.faults new.faults result

-- A sink handed on all that was put into it, or failed; in both cases it has the bytes that it had.
pub record Flushes {T : Type 0} (old new : ObservedSink) (result : Result T Failed) : Type 0 where
  pub bytes : Keeps old.bytes new.bytes
  pub put : new.put ≡ old.put
  pub handed : MatchResult result (λ _. new.handed ≡ new.put) (λ _. old.handed ≤ new.handed)
  pub cause : HasCause old.faults new.faults result

-- ---- what is printed

-- A sink appended the bytes, and has handed on all that was put into it.
pub record AppendsAll (old new : ObservedSink) (text : List ℕ) : Type 0 where
  pub bytes : Appends old.bytes new.bytes text
  pub put : new.put ≡ old.put + length text
  pub handed : new.handed ≡ new.put
  pub no_fault : new.faults ≡ old.faults

-- A sink failed: it appended the first of the bytes, and has handed on no less than before.
pub record AppendsFirst (old new : ObservedSink) (text : List ℕ) : Type 0 where
  pub bytes : (n : ℕ) × Appends old.bytes new.bytes (take n text)
  pub handed : old.handed ≤ new.handed
  pub fault : HasRisen old.faults new.faults

-- what a sink did with a text that was printed, by whether it failed
abbrev pub StreamAppends : Bool → ObservedSink → ObservedSink → List ℕ → Type 0
StreamAppends false old new text = AppendsAll old new text
StreamAppends true old new text = AppendsFirst old new text
