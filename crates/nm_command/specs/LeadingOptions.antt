-- The program's leading options: what comes before the command, and what it says.
--   leading := (name "=" value)*, each name once at most
-- Cited by `leading_options` and `nm_top`.
use Rattle.std.specs.Prelude.{ℕ, Bool, true, false, ◌&&◌, not, nat_lt, List, [], ◌∷◌, length, map, Some, None, Result, Ok, Err, codes, if◌then◌else◌, is_some}
use Rattle.std.specs.List.{after_first, before_first, list_all, take_while}
use Rattle.std.specs.Option.{option_and_then}
use Rattle.nm_text.specs.Cuts.{is_byte}
use Rattle.nm_command.specs.Numbers.{moment_in, workers_in}
use Rattle.nm_command.specs.Options.{begins_with_dashes}
use Rattle.nm_command.specs.Settings.{or_default}
use Rattle.nm_command.specs.Table.{leading_options, meaning_of}
use Rattle.nm_command.specs.declared.leading_options.HeadError.{HeadError}
use Rattle.nm_command.specs.declared.leading_options.HeadError.TheVariants.{Usage}
use Rattle.nm_command.specs.declared.leading_options.Leading.{Leading}
use Rattle.nm_command.specs.declared.table.LeadingForm.{LeadingForm}
use Rattle.nm_command.specs.declared.table.LeadingForm.TheVariants.{Folder, Moment, Workers}

-- the name and the value in a word: the first `=` is between them; without one there is no value
abbrev pub cut_option : List ℕ → List ℕ × List ℕ
cut_option word = (before_first (is_byte 61) word, after_first (is_byte 61) word)

-- the options in the words before the first that does not begin with dashes
abbrev pub options_in : List (List ℕ) → List (List ℕ × List ℕ)
options_in words = map cut_option (take_while begins_with_dashes words)

-- an option of this form may have this value: a folder has a name, a number is in its range
abbrev pub may_be : LeadingForm → List ℕ → Bool
may_be Folder value = nat_lt 0 (length value)
may_be Workers value = is_some (workers_in value)
may_be Moment value = is_some (moment_in value)

-- there is an option of this name, and it may have this value
abbrev pub is_option : List ℕ × List ℕ → Bool
is_option option = elim (meaning_of option.0 leading_options) [ Some form ↦ may_be form option.1 | None ↦ false ]

-- no two of them have one name
abbrev pub are_distinct : List (List ℕ × List ℕ) → Bool
are_distinct [] = true
are_distinct (option ∷ more) = not (is_some (meaning_of option.0 more)) && are_distinct more

-- they are options, each name once at most
abbrev pub are_options : List (List ℕ × List ℕ) → Bool
are_options options = list_all is_option options && are_distinct options

-- what the options say, with the default of each that is not there
abbrev pub told_by : List (List ℕ × List ℕ) → Leading
told_by options = record {
  mail = or_default (meaning_of (codes "--mail") options) (codes "mail");
  index = or_default (meaning_of (codes "--index") options) (codes "index");
  workers = or_default (option_and_then workers_in (meaning_of (codes "--workers") options)) 4;
  moment = option_and_then moment_in (meaning_of (codes "--moment") options);
  rest = length options;
}

-- what the words say before the command
abbrev pub leading_of : List (List ℕ) → Result Leading HeadError
leading_of words = if are_options (options_in words) then Ok (told_by (options_in words)) else Err Usage

-- the words of a command: the first one does not begin with dashes
abbrev pub is_command : List (List ℕ) → Bool
is_command [] = true
is_command (word ∷ more) = not (begins_with_dashes word)
