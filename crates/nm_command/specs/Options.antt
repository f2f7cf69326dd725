-- The options of a command, judged from left to right. Cited by `leading_options`, `options` and `command_parser`.
use Rattle.std.specs.Prelude.{ℕ, Bool, List, [], ◌∷◌, length, nat_eq, nat_lt, Option, Some, None, Result, Ok, Err, codes, if◌then◌else◌}
use Rattle.std.specs.List.{after_first, before_first, position_or_len, starts_with}
use Rattle.nm_base.specs.Order.{same_text}
use Rattle.nm_base.specs.declared.refusals.UsageKind.{UsageKind}
use Rattle.nm_base.specs.declared.refusals.UsageKind.TheVariants as kinds
use Rattle.nm_text.specs.Cuts.{is_byte}
use Rattle.nm_command.specs.Settings.{is_given, with_setting}
use Rattle.nm_command.specs.Table.{flag_setting, meaning_of, options_of, value_setting}
use Rattle.nm_command.specs.declared.settings.Setting.{Setting}
use Rattle.nm_command.specs.declared.settings.Settings.{Settings}
use Rattle.nm_command.specs.declared.table.CommandName.{CommandName}
use Rattle.nm_command.specs.declared.table.Form.{Form}

-- a value out of its form is a fault
abbrev pub or_bad_value : Option Setting → Result Setting UsageKind
or_bad_value setting = elim setting [ Some setting ↦ Ok setting | None ↦ Err kinds.Value ]

-- what an option sets, where there is one, by what its form says
abbrev pub or_no_option : Option Form → (Form → Option Setting) → Result Setting UsageKind
or_no_option form sets = elim form [ Some form ↦ or_bad_value (sets form) | None ↦ Err kinds.Option ]

-- what an option sets: the first `=` is between its name and its value
abbrev pub setting_of : CommandName → List ℕ → Result Setting UsageKind
setting_of command word =
    if nat_lt (position_or_len (is_byte 61) word) (length word)
    then or_no_option (meaning_of (before_first (is_byte 61) word) (options_of command)) (λ form. value_setting form (after_first (is_byte 61) word))
    else or_no_option (meaning_of word (options_of command)) flag_setting

-- the settings with one more; an option occurs once
abbrev pub once : Settings → Setting → Result Settings UsageKind
once settings setting = if is_given settings setting then Err kinds.Repeat else Ok (with_setting settings setting)

-- the settings with that of one more option, or what is wrong with it
abbrev pub with_option : CommandName → Settings → List ℕ → Result Settings UsageKind
with_option command settings word = elim (setting_of command word) [ Ok setting ↦ once settings setting | Err kind ↦ Err kind ]

-- the front of each option
abbrev pub begins_with_dashes : List ℕ → Bool
begins_with_dashes word = starts_with nat_eq word (codes "--")

-- what follows an option that may be there
abbrev pub after_option : List ℕ → Result Settings UsageKind → (Settings → Result (Settings × List (List ℕ)) (List ℕ × UsageKind)) → Result (Settings × List (List ℕ)) (List ℕ × UsageKind)
after_option word settings after = elim settings [ Ok settings ↦ after settings | Err kind ↦ Err (word, kind) ]

-- what the options at the front of these words set after others, and the words after them; or the first word at fault.
-- `--` ends them and is dropped, and so does the first word without dashes, which stays
abbrev pub read_options : CommandName → Settings → List (List ℕ) → Result (Settings × List (List ℕ)) (List ℕ × UsageKind)
read_options command settings [] = Ok (settings, [])
read_options command settings (word ∷ more) =
    if same_text word (codes "--") then Ok (settings, more)
    else (if begins_with_dashes word then after_option word (with_option command settings word) (λ settings. read_options command settings more)
    else Ok (settings, word ∷ more))
