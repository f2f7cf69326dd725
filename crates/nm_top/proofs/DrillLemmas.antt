-- The statement of a drill, from its parts. For the proofs of `drill`, `notmuch` and `run_its_session`.
use Rattle.std.proofs.Common.{◌≡◌, ◌⊎◌, inl, inr, ℕ, true, Bool, List, [], ◌∷◌, Err, replicate, codes, sym, ap, subst, ◌∙◌}
use Rattle.nm_base.specs.declared.refusals.UsageKind.{UsageKind}
use Rattle.nm_command.specs.Requests.{request_of}
use Rattle.nm_command.specs.declared.command_error.CommandError.{CommandError}
use Rattle.nm_command.specs.declared.command_error.CommandError.TheVariants as command_errors
use Rattle.nm_disk.specs.Memory.{MemState, fresh_disk, observed_mem}
use Rattle.nm_drill.specs.Drill.{drill_script, drill_tree}
use Rattle.nm_history.specs.Call.{Call, Devices, call_of, devices}
use Rattle.nm_history.specs.History.{History}
use Rattle.nm_io.specs.Memory.{SinkState, SourceState, observed_sink, observed_source}
use Rattle.nm_log.specs.declared.log.Done.{Done}
use Rattle.nm_log.specs.declared.log.Setting.{Setting}
use Rattle.nm_maildir.specs.Still.{Still, observed_still}
use Rattle.nm_top.specs.Drill.{CallHistory, HistoryBy, IsDrill, IsLogOfDrill, drill_devices, is_drill}

-- ---- the statement of every call

pub as-drill : (call : Call) → is_drill call.words ≡ true → IsDrill call → CallHistory call
as-drill call is h = subst (λ (b : Bool). HistoryBy b call) (sym is) h

-- ---- its words

-- the words are refused where the error is not that memory ran out
pub usage-said : (words : List (List ℕ)) (error : CommandError) (word : List ℕ) (kind : UsageKind) → error ≡ command_errors.Usage word kind
    → (error ≡ command_errors.NoMemory) ⊎ (request_of words ≡ Err error) → request_of words ≡ Err (command_errors.Usage word kind)
usage-said words error word kind is (inl other) = let both : command_errors.Usage word kind ≡ command_errors.NoMemory = sym is ∙ other in absurd (cc)
usage-said words error word kind is (inr said) = said ∙ ap Err is

-- ---- its session

-- a source in memory, and a sink
abbrev pub source_of : List ℕ → List ℕ → SourceState
source_of held failing = record { bytes = held; calls = record { failing = failing; made = 0; faults = 0 } }

abbrev pub sink_of : List ℕ → SinkState
sink_of failing = record { bytes = []; handed = 0; calls = record { failing = failing; made = 0; faults = 0 }; out_of_memory = 0 }

module _ (count : ℕ) (setting : Setting) (mail : Still) (disk : MemState) (input : SourceState) (out err : SinkState) (after : Devices) (done : Done)
    (mail_is : mail ≡ drill_tree count) (disk_is : disk ≡ fresh_disk (record { head = replicate 128 0; bank_a = []; bank_b = [] }))
    (input_is : input ≡ source_of drill_script []) (out_is : out ≡ sink_of []) (err_is : err ≡ sink_of []) where
  devices-are : devices (observed_still mail) (observed_mem disk) (observed_source input) (observed_sink out) (observed_sink err) ≡ drill_devices count
  devices-are =
      ap (λ (m : Still). devices (observed_still m) (observed_mem disk) (observed_source input) (observed_sink out) (observed_sink err)) mail_is
      ∙ (ap (λ (d : MemState). devices (observed_still (drill_tree count)) (observed_mem d) (observed_source input) (observed_sink out) (observed_sink err)) disk_is
      ∙ (ap (λ (i : SourceState). devices (drill_devices count).mail (drill_devices count).disk (observed_source i) (observed_sink out) (observed_sink err)) input_is
      ∙ (ap (λ (o : SinkState). devices (drill_devices count).mail (drill_devices count).disk (drill_devices count).input (observed_sink o) (observed_sink err)) out_is
      ∙ ap (λ (e : SinkState). devices (drill_devices count).mail (drill_devices count).disk (drill_devices count).input (drill_devices count).out (observed_sink e)) err_is)))

  pub log-is : History (call_of (codes "session" ∷ []) setting (devices (observed_still mail) (observed_mem disk) (observed_source input) (observed_sink out) (observed_sink err)) after done)
      → IsLogOfDrill count setting done.log
  log-is h = record {
    after = after;
    status = done.status;
    history = subst (λ (entry : Devices). History (call_of (codes "session" ∷ []) setting entry after done)) devices-are h;
  }
