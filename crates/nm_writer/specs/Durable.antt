-- What is never lost: whatever a crash leaves, at each moment since an entry, holds the commits begun since then that were acknowledged
-- by that moment, with or without the one that comes next. No file but the head is written.
-- Cited by `commit`, `new`, `nm_history` and others.
use Rattle.std.specs.Prelude.{◌≡◌, ℕ, ◌+◌, ◌<◌, ◌≤◌, min, ◌&&◌, nat_le, nat_lt, List, [], ◌∷◌, ◌++◌, filter, length, take, None}
use Rattle.std.specs.List.{AllByRecursion}
use Rattle.nm_base.specs.Limits.{max_count}
use Rattle.nm_commit.specs.declared.change.Commit.{Commit}
use Rattle.nm_disk.specs.Calls.{GoesOn}
use Rattle.nm_disk.specs.Observed.{Moments, ObservedDisk}
use Rattle.nm_disk.specs.declared.disk.FileNo.TheVariants.{Head}
use Rattle.nm_disk.specs.declared.state.DiskState.{DiskState}
use Rattle.nm_model_index.specs.Index.{folded}
use Rattle.nm_model_index.specs.declared.base.Base.{Base}
use Rattle.nm_journal.specs.Moments.{LeavesOnly, TouchesOnly, all_moments}
use Rattle.nm_replay.specs.StoredIndex.{HoldsIndex}
use Rattle.nm_writer.specs.Writer.{WriterState}

-- how many of these clocks are at most that of a moment; a clock that is at the end of its type tells nothing
abbrev pub acked_by : ℕ → List ℕ → ℕ
acked_by clock acked = length (filter (λ own. nat_le own clock && nat_lt own max_count) acked)

-- The bytes hold the index after some of the commits, the first ones: all that were acknowledged by this clock, and at most one more. How many
-- more there may be isn't reported by a clock that is at the end of its type.
pub record HoldsPrefix (opening : Base) (begun : List Commit) (clock acknowledged : ℕ) (bytes : List ℕ) : Type 0 where
  pub count : ℕ
  pub within : count ≤ length begun
  pub least : acknowledged ≤ count
  pub most : clock < max_count → count ≤ acknowledged + 1
  pub holds : HoldsIndex bytes (folded opening (take count begun))

-- whatever a crash leaves at the moment of this clock holds what was acknowledged by then, and at most one commit more
abbrev pub KeepsAcknowledged : Base → List Commit → List ℕ → ℕ → DiskState → Type 0
KeepsAcknowledged opening begun acked clock state = LeavesOnly Head (HoldsPrefix opening begun clock (acked_by clock acked)) state

-- so it is at each of these moments, the last of them first; the clock of a moment is how many were before it
abbrev pub EachKeeps : Base → List Commit → List ℕ → ℕ → List DiskState → Type 0
EachKeeps opening begun acked before [] = Unit {0}
EachKeeps opening begun acked before (state ∷ states) =
    KeepsAcknowledged opening begun acked (min (before + length states) max_count) state × EachKeeps opening begun acked before states

-- so it is at each moment since the entry, which is one of them; no clock is of a later moment; of the other files nothing new is left
pub record KeptSince (opening : Base) (begun : List Commit) (acked : List ℕ) (entry now : Moments) : Type 0 where
  pub states : List DiskState
  pub are : all_moments now ≡ states ++ entry.past
  pub each : EachKeeps opening begun acked (length entry.past) states
  pub so_far : AllByRecursion (λ own. own ≤ length now.past) acked
  pub others : TouchesOnly Head entry now

-- the numbers never fall, from the first one on up to the last one
abbrev pub NeverFall : ℕ → List ℕ → ℕ → Type 0
NeverFall from [] to = from ≤ to
NeverFall from (number ∷ numbers) to = (from ≤ number) × NeverFall number numbers to

-- The writer shows the index after the commits that were acknowledged, one clock each, the first of those begun: all, or all but
-- the one at which the disk failed. What was published begins with the opening index and is these commits, so nothing was shown before
-- it was acknowledged. None of them is lost since the entry, at which the disk held the opening index.
pub record IsDurable (entry : ObservedDisk) (opening : Base) (disk : ObservedDisk) (writer : WriterState) : Type 0 where
  pub within : length writer.acked ≤ length writer.begun
  pub few : length writer.begun ≤ length writer.acked + 1
  pub all : writer.closed ≡ None → length writer.begun ≡ length writer.acked
  pub shown : writer.shown ≡ folded opening (take (length writer.acked) writer.begun)
  pub begins : writer.published.opening ≡ opening
  pub published : writer.published.commits ≡ take (length writer.acked) writer.begun
  pub clocks : NeverFall 0 writer.acked disk.clock
  pub clock : disk.clock ≤ max_count
  pub kept : GoesOn (KeptSince opening writer.begun writer.acked) entry.told disk.told
