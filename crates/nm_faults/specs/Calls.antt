-- The calls of an object in memory, which fails at listed ones. Calls are counted from 1.
-- Cited by `calls`, `nm_io`, `nm_maildir` and others.
use Rattle.std.specs.Prelude.{ℕ, Bool, ◌==◌, List, if◌then◌else◌}
use Rattle.std.specs.List.{list_any}
use Rattle.nm_base.specs.Limits.{one_more}

-- the calls that are to fail, how many were made, and how many of these failed
pub record CallCounts : Type 0 where
  pub failing : List ℕ
  pub made : ℕ
  pub faults : ℕ

-- the call with this number is to fail
abbrev pub is_listed : List ℕ → ℕ → Bool
is_listed failing call = list_any (λ n. n == call) failing

-- the next call is to fail
abbrev pub is_next_listed : CallCounts → Bool
is_next_listed calls = is_listed calls.failing (one_more calls.made)

-- the counts after one call more, which failed exactly where it is listed
abbrev pub counted : CallCounts → CallCounts
counted calls = record {
  failing = calls.failing;
  made = one_more calls.made;
  faults = if is_next_listed calls then one_more calls.faults else calls.faults;
}
