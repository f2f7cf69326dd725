-- The laws on which a call rests that opens no index. Cited by `laws`.
use Rattle.std.specs.Prelude.{◌≡◌, ℕ, ℤ, List, [], Some, IfSome, false}
use Rattle.nm_disk.specs.CrashStates.{IsImage}
use Rattle.nm_disk.specs.Observed.{Moments, ObservedDisk}
use Rattle.nm_history.specs.Call.{Devices, call_of, devices, is_session}
use Rattle.nm_history.specs.CrashPrefix.{KeepsDisk}
use Rattle.nm_history.specs.Given.{GivenAlong}
use Rattle.nm_history.specs.History.{History}
use Rattle.nm_history.specs.LineAnswers.{LineAnswers}
use Rattle.nm_history.specs.LineCommits.{LineCommits}
use Rattle.nm_history.specs.Lines.{at_first}
use Rattle.nm_history.specs.MachineRun.{MachineRun}
use Rattle.nm_history.specs.PrintedOut.{Prints}
use Rattle.nm_history.specs.Refusals.{RefusesLine}
use Rattle.nm_history.specs.UnaskedLine.{refused_done}
use Rattle.nm_model_index.specs.declared.base.Base.{Base}
use Rattle.nm_io.specs.Observed.{ObservedSink, ObservedStream}
use Rattle.nm_journal.specs.Moments.{SyncsOrFails}
use Rattle.nm_log.specs.Replies.{refusal_line}
use Rattle.nm_log.specs.declared.log.Setting.{Setting}
use Rattle.nm_log.specs.declared.outcome.Outcome.{Outcome}
use Rattle.nm_maildir.specs.Observed.{ObservedMail}

pub record RefusalLaws : Type 0 where
  pub run : (opening : Base) (moment : ℤ) (entry : Devices) → MachineRun opening moment (at_first opening entry) [] [] [] 0
  pub commits : (opening : Base) (moment : ℤ) (entry : Devices) → LineCommits opening moment entry.mail.tree [] [] []
  pub answers : (opening : Base) (moment : ℤ) (entry : Devices) → LineAnswers opening moment (at_first opening entry) [] []
  pub given : (opening : Base) (moment : ℤ) (entry : Devices) → GivenAlong opening moment [] (at_first opening entry) [] entry.mail entry.mail
  pub stays : (before now : Moments) → IsImage before.present before.present.now → IsImage now.present now.present.now → SyncsOrFails before now
      → KeepsDisk [] [] before now
  pub line : (why : Outcome) (input : List ℕ) (words : List (List ℕ)) (setting : Setting) (mail : ObservedMail) (disk : ObservedDisk) (old new : ObservedStream) (out err said : ObservedSink)
      → is_session words ≡ false → RefusesLine why input words old new → Prints (Some (refusal_line why)) err said → IfSome disk.told (λ moments. IsImage moments.present moments.present.now)
      → History (call_of words setting (devices mail disk old out err) (devices mail disk new out said) (refused_done why mail.faults disk.faults))
