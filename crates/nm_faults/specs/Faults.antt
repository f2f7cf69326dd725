-- Faults of devices: each object counts its own, in a number below 2 ^ 64 that never falls.
-- Cited by `calls`, `faults`, `nm_maildir` and others.
use Rattle.std.specs.Prelude.{◌≡◌, ℕ, ◌<◌, ◌≤◌, Bool, true, false, Result, MatchResult}
use Rattle.nm_base.specs.Limits.{max_count}
use Rattle.nm_base.specs.declared.memory.Failed.{Failed}

-- The count rose. One that is at its type's end may count as risen.
abbrev pub HasRisen : ℕ → ℕ → Type 0
HasRisen before now = (before ≤ now) × (before < max_count → before < now)

-- the count rose where there was a fault, and else it is
abbrev pub Counts : Bool → ℕ → ℕ → Type 0
Counts true before now = HasRisen before now
Counts false before now = now ≡ before

-- A call answers an error that is a fault only where the count rose, and else the count is the same. Any other error is
-- free: no clause tells that memory was really out.
abbrev pub HasCauseOf : {T E : Type 0} → (E → Bool) → ℕ → ℕ → Result T E → Type 0
HasCauseOf is_fault before now result = MatchResult result (λ _. now ≡ before) (λ e. Counts (is_fault e) before now)

-- a call that can only fail by a fault
abbrev pub HasCause : {T : Type 0} → ℕ → ℕ → Result T Failed → Type 0
HasCause before now result = HasCauseOf (λ _. true) before now result
