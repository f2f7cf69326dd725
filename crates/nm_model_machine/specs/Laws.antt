-- What holds at each state of the machine, and along its runs. Cited by `laws` and `nm_core`.
use Rattle.std.specs.Prelude.{◌≡◌, ℕ, ◌<◌, ◌≤◌, List, ◌++◌, length, slice_index}
use Rattle.nm_commit.specs.declared.change.Commit.{Commit}
use Rattle.nm_model_machine.specs.Machine.{Machine}
use Rattle.nm_model_machine.specs.declared.step.Step.{Step}
use Rattle.nm_model_machine.specs.declared.step.Step.TheVariants.{Begin, Append, Show, See, Meet, Reply, Crash, Reopen}

-- Each lane sees at least what was there at the last barrier or opening, and nothing that is not shown; nothing is
-- shown that is not acknowledged.
pub record InOrder (met : ℕ) (machine : Machine) : Type 0 where
  pub seen : (lane : ℕ) → lane < length machine.lanes → met ≤ slice_index machine.lanes lane
  pub known : (lane : ℕ) → lane < length machine.lanes → slice_index machine.lanes lane ≤ machine.shown
  pub last_barrier : met ≤ machine.shown
  pub shown : machine.shown ≤ length machine.commits

-- Every commit stays in its place, no number falls, and no lane comes or goes.
pub record NothingFalls (early late : Machine) : Type 0 where
  pub commits : (more : List Commit) × (late.commits ≡ early.commits ++ more)
  pub shown : early.shown ≤ late.shown
  pub lanes : length late.lanes ≡ length early.lanes
  pub seen : (lane : ℕ) → lane < length early.lanes → slice_index early.lanes lane ≤ slice_index late.lanes lane

-- how many commits were acknowledged at the last barrier or opening after a step
abbrev pub met_after : ℕ → Machine → Step → ℕ
met_after met old (Begin commit) = met
met_after met old Append = met
met_after met old Show = met
met_after met old (See lane) = met
met_after met old Meet = length old.commits
met_after met old (Reply lane request text) = met
met_after met old (Crash kept) = met
met_after met old Reopen = length old.commits
