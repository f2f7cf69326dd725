-- The statement of the program: its leading options, the folders that they name, and the call of the words after them.
-- Cited by `program_start`.
use Rattle.std.specs.Prelude.{◌≡◌, ℕ, List, drop, codes, Option, Some, Ok, Err}
use Rattle.nm_command.specs.LeadingOptions.{leading_of}
use Rattle.nm_command.specs.Settings.{or_default}
use Rattle.nm_command.specs.declared.leading_options.HeadError.TheVariants as faults
use Rattle.nm_command.specs.declared.leading_options.Leading.{Leading}
use Rattle.nm_disk.specs.Observed.{Moments, ObservedDisk}
use Rattle.nm_faults.specs.Faults.{HasRisen}
use Rattle.nm_history.specs.Call.{Devices, call_of, devices}
use Rattle.nm_history.specs.Complete.{IsComplete}
use Rattle.nm_history.specs.PrintedOut.{Prints}
use Rattle.nm_log.specs.declared.log.Done.{Done}
use Rattle.nm_log.specs.declared.log.Setting.{Setting}
use Rattle.nm_maildir.specs.Observed.{ObservedMail}
use Rattle.nm_maildir.specs.Tree.{Tree}
use Rattle.nm_top.specs.Drill.{CallHistory}
use Rattle.nm_top.specs.CallEnd.{ended_with}
use Rattle.nm_top.specs.declared.program_start.Start.{Start}

-- what the options say; where they name no present second, it is that of the start
abbrev pub setting_by : Start → Leading → Setting
setting_by start leading = record { moment = or_default leading.moment start.moment; seed = start.seed; workers = leading.workers }

-- the words after the options
abbrev pub command_words : List (List ℕ) → Leading → List (List ℕ)
command_words words leading = drop leading.rest words

-- The program ended before its call: nothing is in the log, and one line was said.
pub record EndsBefore (status : ℕ) (line : List ℕ) (entry after : Devices) (done : Done) : Type 0 where
  pub ended : done ≡ ended_with status
  pub input : after.input ≡ entry.input
  pub out : after.out ≡ entry.out
  pub says : Prints (Some line) entry.err after.err

-- the folder gave nothing and took nothing
pub record StaysUnread (entry after : ObservedMail) : Type 0 where
  pub tree : after.tree ≡ entry.tree
  pub reads : after.reads ≡ entry.reads

-- What is at each path before the program opens anything, where that is known: trees of mail, and disks.
pub record Paths : Type 0 where
  pub mail : List ℕ → Option Tree
  pub index : List ℕ → Option Moments

-- what is at each path, by what the two devices tell of it
abbrev pub paths : (List ℕ → Option Tree) → (List ℕ → Option Moments) → Paths
paths trees disks = record { mail = trees; index = disks }

-- the mail folder once this tree was opened
abbrev pub opened_mail : Option Tree → ObservedMail → ObservedMail
opened_mail there entry = record { tree = there; reads = entry.reads; faults = entry.faults }

-- the disk once this one was opened
abbrev pub opened_disk : Option Moments → ObservedDisk → ObservedDisk
opened_disk there entry = record { told = there; clock = entry.clock; faults = entry.faults }

-- the devices once the mail folder was opened
abbrev pub with_mail : Option Tree → Devices → Devices
with_mail there entry = devices (opened_mail there entry.mail) entry.disk entry.input entry.out entry.err

-- the devices once the disk was opened
abbrev pub with_disk : Option Moments → Devices → Devices
with_disk there entry = devices entry.mail (opened_disk there entry.disk) entry.input entry.out entry.err

-- How the program goes on once the mail folder is open: the index is not opened; or it is what is at the path, and the call of the words
-- after the options is made over it.
pub data GoesOnWith (start : Start) (words : List (List ℕ)) (leading : Leading) (there : Option Moments) (entry after : Devices) (done : Done) : Type 0 where
  no_index : after.mail ≡ entry.mail → HasRisen entry.disk.faults after.disk.faults → after.disk.told ≡ entry.disk.told →
      EndsBefore 4 (codes "notmuch: cannot open\n") entry after done → GoesOnWith start words leading there entry after done
  called :
      CallHistory (call_of (command_words words leading) (setting_by start leading) (with_disk there entry) after done) →
      IsComplete (call_of (command_words words leading) (setting_by start leading) (with_disk there entry) after done) → GoesOnWith start words leading there entry after done

-- How the program ends: its leading words are no options; there is no memory for them; the mail folder that they name is not opened, and the
-- disk is not asked; or it is, and the program goes on with the index that they name.
pub data IsProgram (start : Start) (words : List (List ℕ)) (at : Paths) (entry after : Devices) (done : Done) : Type 0 where
  wrong_options : leading_of words ≡ Err faults.Usage → after.mail ≡ entry.mail → after.disk ≡ entry.disk →
      EndsBefore 2 (codes "notmuch: usage\n") entry after done → IsProgram start words at entry after done
  no_memory : after.mail ≡ entry.mail → after.disk ≡ entry.disk →
      EndsBefore 7 (codes "notmuch: no memory\n") entry after done → IsProgram start words at entry after done
  no_mail : (leading : Leading) → leading_of words ≡ Ok leading → HasRisen entry.mail.faults after.mail.faults → StaysUnread entry.mail after.mail → after.disk ≡ entry.disk →
      EndsBefore 3 (codes "notmuch: cannot open\n") entry after done → IsProgram start words at entry after done
  opened : (leading : Leading) → leading_of words ≡ Ok leading →
      GoesOnWith start words leading (at.index leading.index) (with_mail (at.mail leading.mail) entry) after done → IsProgram start words at entry after done
