-- What the options of a command set. Cited by `leading_options`, `options`, `nm_top` and others.
use Rattle.std.specs.Prelude.{Bool, true, false, Option, Some, None}
use Rattle.nm_command.specs.declared.settings.Setting.{Setting}
use Rattle.nm_command.specs.declared.settings.Setting.TheVariants.{Accumulate, Batch, Clear, DumpForm, Exclude, Json, Limit, Offset, Oldest, Output, Raw, ReadForm}
use Rattle.nm_command.specs.declared.settings.Settings.{Settings}

-- before any option
abbrev pub nothing_set : Settings
nothing_set = record {
  json = None;
  raw = None;
  dump_form = None;
  read_form = None;
  output = None;
  oldest = None;
  offset = None;
  limit = None;
  exclude = None;
  batch = false;
  clear = false;
  accumulate = false;
}

-- a value is there
abbrev pub is_there : {A : Type 0} → Option A → Bool
is_there None = false
is_there (Some value) = true

-- an option that sets the same was there, whichever value it had
abbrev pub is_given : Settings → Setting → Bool
is_given settings (Json json) = is_there settings.json
is_given settings (Raw raw) = is_there settings.raw
is_given settings (DumpForm form) = is_there settings.dump_form
is_given settings (ReadForm form) = is_there settings.read_form
is_given settings (Output output) = is_there settings.output
is_given settings (Oldest oldest) = is_there settings.oldest
is_given settings (Offset offset) = is_there settings.offset
is_given settings (Limit limit) = is_there settings.limit
is_given settings (Exclude exclude) = is_there settings.exclude
is_given settings Batch = settings.batch
is_given settings Clear = settings.clear
is_given settings Accumulate = settings.accumulate

-- the settings with one more
abbrev pub with_setting : Settings → Setting → Settings
with_setting settings (Json json) = record settings { json = Some json }
with_setting settings (Raw raw) = record settings { raw = Some raw }
with_setting settings (DumpForm form) = record settings { dump_form = Some form }
with_setting settings (ReadForm form) = record settings { read_form = Some form }
with_setting settings (Output output) = record settings { output = Some output }
with_setting settings (Oldest oldest) = record settings { oldest = Some oldest }
with_setting settings (Offset offset) = record settings { offset = Some offset }
with_setting settings (Limit limit) = record settings { limit = Some limit }
with_setting settings (Exclude exclude) = record settings { exclude = Some exclude }
with_setting settings Batch = record settings { batch = true }
with_setting settings Clear = record settings { clear = true }
with_setting settings Accumulate = record settings { accumulate = true }

-- a value that was set, or the default
abbrev pub or_default : {A : Type 0} → Option A → A → A
or_default None default = default
or_default (Some value) default = value
