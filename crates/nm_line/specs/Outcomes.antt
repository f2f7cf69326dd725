-- The outcome of a refused `new` or `tag`. Cited by `fault_texts`.
use Rattle.std.specs.Prelude.{Bool, true, false}
use Rattle.nm_log.specs.declared.outcome.Outcome.{Outcome}
use Rattle.nm_log.specs.declared.outcome.Outcome.TheVariants as outcomes
use Rattle.nm_writer.specs.declared.write_error.WriteError.{WriteError}
use Rattle.nm_writer.specs.declared.write_error.WriteError.TheVariants as errors

abbrev pub outcome_of : WriteError → Outcome
outcome_of errors.MailFault = outcomes.MailFault
outcome_of errors.DiskFault = outcomes.DiskFault
outcome_of (errors.Closed fault) = outcomes.Closed fault
outcome_of (errors.Limit limit) = outcomes.Limit limit
outcome_of errors.NoMemory = outcomes.NoMemory

-- a device failed, and a commit may be on its way
abbrev pub is_fault : WriteError → Bool
is_fault errors.MailFault = true
is_fault errors.DiskFault = true
is_fault (errors.Closed fault) = false
is_fault (errors.Limit limit) = false
is_fault errors.NoMemory = false
