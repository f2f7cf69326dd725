-- Room for the log of lines. Cited by `reserved_log` and `nm_session`.
use Rattle.std.specs.Prelude.{◌≡◌, ℕ, ◌+◌, ◌*◌, ◌≤◌, List, [], length, codes}
use Rattle.std.specs.List.{AllByRecursion}
use Rattle.nm_base.specs.Limits.{max_commits}
use Rattle.nm_trace.specs.declared.reserved_log.ReservedLog.{ReservedLog}

-- each is the text of a line that runs out of memory
abbrev pub AreFallbacks : List (List ℕ) → Type 0
AreFallbacks fallbacks = AllByRecursion (λ (text : List ℕ). text ≡ codes "notmuch: no memory\n") fallbacks

-- Places are spare for n turns, where m commits were begun: for each turn a log, two marks and a text, and a mark for each commit that
-- may still be begun.
pub record HasSpare (turns begun : ℕ) (reserved : ReservedLog) : Type 0 where
  pub logs : turns ≤ reserved.logs.1
  pub marks : 2 * turns + max_commits ≤ reserved.marks.1 + begun
  pub fallbacks : turns ≤ length reserved.fallbacks
  pub texts : AreFallbacks reserved.fallbacks

-- Room for n turns, and nothing in it yet.
pub record HasRoom (turns : ℕ) (reserved : ReservedLog) : Type 0 where
  pub logs : reserved.logs.0 ≡ []
  pub marks : reserved.marks.0 ≡ []
  pub steps : reserved.steps.0 ≡ []
  pub spare : HasSpare turns 0 reserved
  pub steps_spare : 2 * turns + 3 * max_commits ≤ reserved.steps.1
