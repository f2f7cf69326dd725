-- The machine of commits and replies: one list of commits, and numbers. It says in which orders commits are begun,
-- acknowledged, shown and seen, what a reply then says, and what a crash leaves.
-- Cited by `laws`, `nm_core` and `nm_history`.
use Rattle.std.specs.Prelude.{◌≡◌, ◌⊎◌, ℕ, ℤ, ◌+◌, ◌<◌, ◌≤◌, Bool, true, false, List, [], ◌∷◌, ◌++◌, Option, None, Some, IsSome, IsTrue, length, replicate, slice_index, slice_set, take, if◌then◌else◌}
use Rattle.nm_model_answer.specs.Answer.{is_reply}
use Rattle.nm_commit.specs.Files.{Fits}
use Rattle.nm_commit.specs.declared.change.Commit.{Commit}
use Rattle.nm_model_index.specs.Index.{folded}
use Rattle.nm_model_index.specs.declared.base.Base.{Base}
use Rattle.nm_model_machine.specs.declared.step.Step.{Step}
use Rattle.nm_model_machine.specs.declared.step.Step.TheVariants.{Begin, Append, Show, See, Meet, Reply, Crash, Reopen}

-- the state of the machine
pub record Machine : Type 0 where
  pub opening : Base
  -- those acknowledged, in their order
  pub commits : List Commit
  -- the one that is begun and not yet acknowledged
  pub in_flight : Option Commit
  -- how many of the commits are shown
  pub shown : ℕ
  -- for each lane, how many of the commits it sees
  pub lanes : List ℕ
  -- the program runs
  pub up : Bool

-- the state at the start: nothing is committed, shown or seen
abbrev pub start : Base → ℕ → Machine
start opening lanes = record { opening = opening; commits = []; in_flight = None; shown = 0; lanes = replicate lanes 0; up = true }

-- the index after the first n commits
abbrev pub index_after : Machine → ℕ → Base
index_after m n = folded m.opening (take n m.commits)

-- the index after all commits
abbrev pub last_index : Machine → Base
last_index m = folded m.opening m.commits

-- a commit that is on its way
abbrev pub commits_in_flight : Option Commit → List Commit
commits_in_flight None = []
commits_in_flight (Some commit) = commit ∷ []

-- the commits that a crash leaves on the disk
abbrev pub left_by : Machine → Bool → List Commit
left_by m kept = (if kept then m.commits ++ commits_in_flight m.in_flight else m.commits)

-- where a step may be taken
abbrev pub IsAllowed : ℤ → Machine → Step → Type 0
-- all is shown, nothing is in flight, and the commit fits the index
IsAllowed moment m (Begin commit) = (m.up ≡ true) × (length m.commits ≡ m.shown) × (m.in_flight ≡ None) × Fits (last_index m).files commit
IsAllowed moment m Append = (m.up ≡ true) × IsSome m.in_flight
IsAllowed moment m Show = (m.up ≡ true) × (length m.commits ≡ m.shown + 1)
-- the first lane sees by Show and Meet alone
IsAllowed moment m (See lane) = (m.up ≡ true) × (1 ≤ lane) × (lane < length m.lanes)
IsAllowed moment m Meet = (m.up ≡ true) × (length m.commits ≡ m.shown)
-- the text is that of the commits that the lane sees
IsAllowed moment m (Reply lane request text) =
    (m.up ≡ true) × (lane < length m.lanes) × IsTrue (is_reply (index_after m (slice_index m.lanes lane)) moment request text)
-- only a commit that is in flight may reach the disk in a crash
IsAllowed moment m (Crash kept) = (m.up ≡ true) × ((kept ≡ false) ⊎ IsSome m.in_flight)
IsAllowed moment m Reopen = m.up ≡ false

-- what a step leaves
abbrev pub Leaves : Machine → Step → Machine → Type 0
Leaves old (Begin commit) new = new ≡ record old { in_flight = Some commit }
Leaves old Append new = (commit : Commit) × (old.in_flight ≡ Some commit) × (new ≡ record old { commits = old.commits ++ commit ∷ []; in_flight = None })
Leaves old Show new = new ≡ record old { shown = length old.commits; lanes = slice_set old.lanes 0 (length old.commits) }
Leaves old (See lane) new = new ≡ record old { lanes = slice_set old.lanes lane old.shown }
Leaves old Meet new = new ≡ record old { lanes = replicate (length old.lanes) old.shown }
Leaves old (Reply lane request text) new = new ≡ old
Leaves old (Crash kept) new = new ≡ record old { commits = left_by old kept; in_flight = None; up = false }
Leaves old Reopen new = new ≡ record old { shown = length old.commits; lanes = replicate (length old.lanes) (length old.commits); up = true }

-- the step is taken at this moment
pub record Takes (moment : ℤ) (old : Machine) (step : Step) (new : Machine) : Type 0 where
  pub allowed : IsAllowed moment old step
  pub after : Leaves old step new

-- the steps are taken, one after the other
abbrev pub Runs : ℤ → Machine → List Step → Machine → Type 0
Runs moment old [] new = new ≡ old
Runs moment old (step ∷ steps) new = (mid : Machine) × Takes moment old step mid × Runs moment mid steps new
