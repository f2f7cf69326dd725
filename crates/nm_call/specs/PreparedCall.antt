-- What is read of a call before another device than its input is asked: the phases that it runs, or why it runs none.
-- Cited by `prepared_call`, `session_call`, `command_call` and `nm_top`.
use Rattle.std.specs.Prelude.{◌≡◌, ℕ, Bool, false, true, List, None, Result, MatchResult}
use Rattle.nm_disk.specs.Observed.{ObservedDisk}
use Rattle.nm_history.specs.Call.{call_fault, call_of, call_phases, call_reads, devices, input_fault, is_session}
use Rattle.nm_history.specs.Refusals.{IsRefusedFor, RefusesLine, TakesInput}
use Rattle.nm_base.specs.declared.limit.Limit.TheVariants.{InputBytes}
use Rattle.nm_io.specs.Observed.{ObservedSink, ObservedStream}
use Rattle.nm_io.specs.declared.whole_input.TakeError.{TakeError}
use Rattle.nm_io.specs.declared.whole_input.TakeError.TheVariants as takes
use Rattle.nm_prepare.specs.Prepared.{AsksAlone}
use Rattle.nm_log.specs.declared.log.Done.{Done}
use Rattle.nm_log.specs.declared.log.Setting.{Setting}
use Rattle.nm_log.specs.declared.refusal.Refusal.{Refusal}
use Rattle.nm_log.specs.declared.refusal.Refusal.TheVariants as refusals
use Rattle.nm_maildir.specs.Observed.{ObservedMail}
use Rattle.nm_call.specs.declared.prepared_call.CallError.{CallError}
use Rattle.nm_call.specs.declared.prepared_call.CallError.TheVariants.{Refused, Unasked}
use Rattle.nm_call.specs.declared.prepared_call.PreparedCall.{PreparedCall}
use Rattle.nm_call.specs.declared.prepared_call.PreparedCall.TheVariants.{Command, Script}

-- whether the call is a session
abbrev pub session_of : PreparedCall → Bool
session_of (Script _) = true
session_of (Command _) = false

-- these are the phases of the script, or what the words of a single command ask for
abbrev pub AsksFor : List (List ℕ) → List ℕ → PreparedCall → Type 0
AsksFor words input (Script phases) = phases ≡ call_phases words input
AsksFor words input (Command prepared) = AsksAlone words input prepared

-- The words are right, this was taken of the input, each line that a single command reads is right, and this is asked for.
pub record HasPhases (words : List (List ℕ)) (old new : ObservedStream) (call : PreparedCall) : Type 0 where
  pub input : List ℕ
  pub session : session_of call ≡ is_session words
  pub sound : call_fault words ≡ None
  pub takes : TakesInput (call_reads words) (is_session words) input old new
  pub right : input_fault words input ≡ None
  pub asks : AsksFor words input call

-- the call is refused so for these bytes of its input, whatever its other devices, none of which is asked
abbrev pub RefusesFor : Refusal → List ℕ → List (List ℕ) → ObservedStream → ObservedStream → Type 0
RefusesFor refusal input words old new =
    (setting : Setting) (mail : ObservedMail) (disk : ObservedDisk) (out err said : ObservedSink) (done : Done)
    → IsRefusedFor refusal input (call_of words setting (devices mail disk old out err) (devices mail disk new out said) done)

-- the cause of an error: the call is refused, or a single command is
abbrev pub HasError : List (List ℕ) → ObservedStream → ObservedStream → CallError → Type 0
HasError words old new (Refused refusal) = (input : List ℕ) × RefusesFor refusal input words old new
HasError words old new (Unasked outcome) = (is_session words ≡ false) × ((input : List ℕ) × RefusesLine outcome input words old new)

-- the call was read so
abbrev pub IsReadAs : List (List ℕ) → ObservedStream → ObservedStream → Result PreparedCall CallError → Type 0
IsReadAs words old new read = MatchResult read (HasPhases words old new) (HasError words old new)

-- it was read so of some words and their input
pub record WasRead (read : Result PreparedCall CallError) : Type 0 where
  pub words : List (List ℕ)
  pub old : ObservedStream
  pub new : ObservedStream
  pub is : IsReadAs words old new read

-- an error of reading the input, as the call is refused for it
abbrev pub take_refusal : TakeError → Refusal
take_refusal takes.ReadFault = refusals.ReadFault
take_refusal takes.TooLong = refusals.Limit InputBytes
take_refusal takes.NoMemory = refusals.NoMemory
