-- Two options of one name set the same, and two of different names do not; these may change places.
-- For the proofs of `an_option_stands_once` and `options_may_change_places`.
use Rattle.std.proofs.Common.{◌≡◌, ◌≢◌, ℕ, true, false, List, ◌∷◌, ◌++◌, refl, sym, ap, ◌∙◌, arith}
use Rattle.std.proofs.lemmas.Option.{same_Some}
use Rattle.std.specs.Prelude.{Some, codes}
use Rattle.std.specs.List.{before_first}
use Rattle.nm_text.specs.Cuts.{is_byte}
use Rattle.nm_command.specs.Grammar.{IsOption, a_flag, a_number, one_of}
use Rattle.nm_command.specs.Options.{read_options}
use Rattle.nm_command.specs.Requests.{after_options, request_named, request_of}
use Rattle.nm_command.specs.Settings.{is_given, nothing_set, with_setting}
use Rattle.nm_command.specs.Table.{commands, meaning_of, number_setting, options_of, values_of}
use Rattle.nm_command.specs.declared.settings.Setting.{Setting}
use Rattle.nm_command.specs.declared.settings.Setting.TheVariants as sets
use Rattle.nm_command.specs.declared.settings.Settings.{Settings}
use Rattle.nm_command.specs.declared.table.CommandName.{CommandName}
use Rattle.nm_command.specs.declared.table.CommandName.TheVariants.{Count, Drill, Dump, New, Restore, Search, Session, Show, Tag}
use Rattle.nm_command.specs.declared.table.Form.{Form}
use Rattle.nm_command.specs.declared.table.Form.TheVariants.{Flag, Number, OneOf}
use Rattle.nm_command.specs.declared.table.Numbered.{Numbered}
use Rattle.nm_command.specs.declared.table.Numbered.TheVariants as numbers
use Rattle.nm_command.specs.declared.table.Values.{Values}
use Rattle.nm_command.specs.declared.table.Values.TheVariants as values
use Rattle.nm_command.proofs.NameLemmas.{cut-nowhere, name-cut, name-found, name-lacks, name-whole}
use Rattle.nm_command.proofs.CommandLemmas.{option-on}
use Rattle.nm_command.proofs.RowLemmas.{AllRows, row-holds}

-- which of the settings it is
abbrev field : Setting → ℕ
field (sets.Json json) = 0
field (sets.Raw raw) = 1
field (sets.Output output) = 2
field (sets.Oldest oldest) = 3
field (sets.Offset offset) = 4
field (sets.Limit limit) = 5
field (sets.Exclude exclude) = 6
field sets.Batch = 7
field (sets.DumpForm form) = 8
field (sets.ReadForm form) = 9
field sets.Clear = 10
field sets.Accumulate = 11

abbrev values_field : Values → ℕ
values_field values.SearchFormat = 0
values_field values.ShowFormat = 1
values_field values.DumpFormat = 8
values_field values.RestoreFormat = 9
values_field values.SearchOutput = 2
values_field values.CountOutput = 2
values_field values.Sort = 3
values_field values.Exclude = 6

abbrev number_field : Numbered → ℕ
number_field numbers.Offset = 4
number_field numbers.Limit = 5

abbrev form_field : Form → ℕ
form_field (Flag setting) = field setting
form_field (OneOf which) = values_field which
form_field (Number which) = number_field which

all_fields : (which : Values) → AllRows (λ word setting. field setting ≡ values_field which) (values_of which)
all_fields values.SearchFormat = (refl, (refl, tt))
all_fields values.ShowFormat = (refl, (refl, tt))
all_fields values.DumpFormat = (refl, (refl, tt))
all_fields values.RestoreFormat = (refl, (refl, (refl, tt)))
all_fields values.SearchOutput = (refl, (refl, (refl, (refl, (refl, tt)))))
all_fields values.CountOutput = (refl, (refl, (refl, tt)))
all_fields values.Sort = (refl, (refl, tt))
all_fields values.Exclude = (refl, (refl, tt))

number-field : (which : Numbered) (number : ℕ) → field (number_setting which number) ≡ number_field which
number-field numbers.Offset number = refl
number-field numbers.Limit number = refl

abbrev name_of : List ℕ → List ℕ
name_of word = before_first (is_byte 61) word

-- the form of an option is found by its name, and says what it sets
record HasForm (command : CommandName) (word : List ℕ) (setting : Setting) : Type 0 where
  form : Form
  found : meaning_of (name_of word) (options_of command) ≡ Some form
  sets : field setting ≡ form_field form

flag-name : (command : CommandName) (name : List ℕ) (form : Form) → meaning_of name (options_of command) ≡ Some form → name_of name ≡ name
flag-name command name form found = name-whole name (cut-nowhere name (name-lacks name (name-found command name form found)))

valued-name : (command : CommandName) (name value : List ℕ) (form : Form) → meaning_of name (options_of command) ≡ Some form → name_of (name ++ 61 ∷ value) ≡ name
valued-name command name value form found = name-cut name value (name-lacks name (name-found command name form found))

option-form : (command : CommandName) (word : List ℕ) (setting : Setting) → IsOption command word setting → HasForm command word setting
option-form command word setting (a_flag _ name _ found) =
    record { form = Flag setting; found = ap (λ name. meaning_of name (options_of command)) (flag-name command name (Flag setting) found) ∙ found; sets = refl }
option-form command word setting (one_of _ name value which _ found told) = record {
  form = OneOf which;
  found = ap (λ name. meaning_of name (options_of command)) (valued-name command name value (OneOf which) found) ∙ found;
  sets = row-holds (λ word setting. field setting ≡ values_field which) (values_of which) value setting (all_fields which) told;
}
option-form command word setting (a_number _ name digits which number found told) = record {
  form = Number which;
  found = ap (λ name. meaning_of name (options_of command)) (valued-name command name digits (Number which) found) ∙ found;
  sets = number-field which number;
}

given-same : (settings : Settings) (first second : Setting) → field first ≡ field second → is_given (with_setting settings first) second ≡ true
given-same settings (sets.Json a) (sets.Json b) h = refl
given-same settings (sets.Raw a) (sets.Raw b) h = refl
given-same settings (sets.DumpForm a) (sets.DumpForm b) h = refl
given-same settings (sets.ReadForm a) (sets.ReadForm b) h = refl
given-same settings (sets.Output a) (sets.Output b) h = refl
given-same settings (sets.Oldest a) (sets.Oldest b) h = refl
given-same settings (sets.Offset a) (sets.Offset b) h = refl
given-same settings (sets.Limit a) (sets.Limit b) h = refl
given-same settings (sets.Exclude a) (sets.Exclude b) h = refl
given-same settings sets.Batch sets.Batch h = refl
given-same settings sets.Clear sets.Clear h = refl
given-same settings sets.Accumulate sets.Accumulate h = refl
given-same settings first second h = absurd (omega (arith, h))

pub repeated-given : (command : CommandName) (settings : Settings) (word other : List ℕ) (first second : Setting) → IsOption command word first → IsOption command other second →
    before_first (is_byte 61) word ≡ before_first (is_byte 61) other → is_given (with_setting settings first) second ≡ true
repeated-given command settings word other first second one two same =
    let form = option-form command word first one in
    let other_form = option-form command other second two in
    given-same settings first second
    (form.sets
    ∙ ap form_field (same_Some form.form other_form.form (sym form.found ∙ ap (λ name. meaning_of name (options_of command)) same ∙ other_form.found))
    ∙ sym other_form.sets)

-- the name of the option that sets it
abbrev setting_name : Setting → List ℕ
setting_name (sets.Json json) = codes "--format"
setting_name (sets.Raw raw) = codes "--format"
setting_name (sets.DumpForm form) = codes "--format"
setting_name (sets.ReadForm form) = codes "--format"
setting_name (sets.Output output) = codes "--output"
setting_name (sets.Oldest oldest) = codes "--sort"
setting_name (sets.Offset offset) = codes "--offset"
setting_name (sets.Limit limit) = codes "--limit"
setting_name (sets.Exclude exclude) = codes "--exclude"
setting_name sets.Batch = codes "--batch"
setting_name sets.Clear = codes "--remove-all"
setting_name sets.Accumulate = codes "--accumulate"

abbrev form_named : List ℕ → Form → Type 0
form_named name (Flag setting) = name ≡ setting_name setting
form_named name (OneOf which) = AllRows (λ word setting. name ≡ setting_name setting) (values_of which)
form_named name (Number which) = (number : ℕ) → name ≡ setting_name (number_setting which number)

all_named : (command : CommandName) → AllRows form_named (options_of command)
all_named New = tt
all_named Search = ((refl, (refl, tt)), ((refl, (refl, (refl, (refl, (refl, tt))))), ((refl, (refl, tt)), ((λ number. refl), ((λ number. refl), ((refl, (refl, tt)), tt))))))
all_named Count = ((refl, (refl, (refl, tt))), ((refl, (refl, tt)), (refl, tt)))
all_named Show = ((refl, (refl, tt)), ((refl, (refl, tt)), tt))
all_named Tag = (refl, (refl, tt))
all_named Dump = ((refl, (refl, tt)), tt)
all_named Restore = (refl, ((refl, (refl, (refl, tt))), tt))
all_named Drill = tt
all_named Session = tt

option-name : (command : CommandName) (word : List ℕ) (setting : Setting) → IsOption command word setting → name_of word ≡ setting_name setting
option-name command word setting (a_flag _ name _ found) =
    flag-name command name (Flag setting) found ∙ row-holds form_named (options_of command) name (Flag setting) (all_named command) found
option-name command word setting (one_of _ name value which _ found told) =
    valued-name command name value (OneOf which) found
    ∙ row-holds (λ word setting. name ≡ setting_name setting) (values_of which) value setting (row-holds form_named (options_of command) name (OneOf which) (all_named command) found) told
option-name command word setting (a_number _ name digits which number found told) =
    valued-name command name digits (Number which) found ∙ row-holds form_named (options_of command) name (Number which) (all_named command) found number

given-other : (settings : Settings) (first second : Setting) → setting_name first ≢ setting_name second → is_given (with_setting settings first) second ≡ is_given settings second
given-other settings (sets.Json a) (sets.Json b) h = absurd (h refl)
given-other settings (sets.Raw a) (sets.Raw b) h = absurd (h refl)
given-other settings (sets.DumpForm a) (sets.DumpForm b) h = absurd (h refl)
given-other settings (sets.ReadForm a) (sets.ReadForm b) h = absurd (h refl)
given-other settings (sets.Output a) (sets.Output b) h = absurd (h refl)
given-other settings (sets.Oldest a) (sets.Oldest b) h = absurd (h refl)
given-other settings (sets.Offset a) (sets.Offset b) h = absurd (h refl)
given-other settings (sets.Limit a) (sets.Limit b) h = absurd (h refl)
given-other settings (sets.Exclude a) (sets.Exclude b) h = absurd (h refl)
given-other settings sets.Batch sets.Batch h = absurd (h refl)
given-other settings sets.Clear sets.Clear h = absurd (h refl)
given-other settings sets.Accumulate sets.Accumulate h = absurd (h refl)
given-other settings first second h = refl

pub another-given : (command : CommandName) (settings : Settings) (word other : List ℕ) (first second : Setting) → IsOption command word first → IsOption command other second →
    before_first (is_byte 61) word ≢ before_first (is_byte 61) other → is_given (with_setting settings first) second ≡ is_given settings second
another-given command settings word other first second one two differ =
    given-other settings first second (λ same. differ (option-name command word first one ∙ same ∙ sym (option-name command other second two)))

pub nothing-given : (setting : Setting) → is_given nothing_set setting ≡ false
nothing-given (sets.Json json) = refl
nothing-given (sets.Raw raw) = refl
nothing-given (sets.DumpForm form) = refl
nothing-given (sets.ReadForm form) = refl
nothing-given (sets.Output output) = refl
nothing-given (sets.Oldest oldest) = refl
nothing-given (sets.Offset offset) = refl
nothing-given (sets.Limit limit) = refl
nothing-given (sets.Exclude exclude) = refl
nothing-given sets.Batch = refl
nothing-given sets.Clear = refl
nothing-given sets.Accumulate = refl

either-order : (settings : Settings) (first second : Setting) → setting_name first ≢ setting_name second →
    with_setting (with_setting settings first) second ≡ with_setting (with_setting settings second) first
either-order settings (sets.Json a) (sets.Json b) h = absurd (h refl)
either-order settings (sets.Raw a) (sets.Raw b) h = absurd (h refl)
either-order settings (sets.DumpForm a) (sets.DumpForm b) h = absurd (h refl)
either-order settings (sets.ReadForm a) (sets.ReadForm b) h = absurd (h refl)
either-order settings (sets.Output a) (sets.Output b) h = absurd (h refl)
either-order settings (sets.Oldest a) (sets.Oldest b) h = absurd (h refl)
either-order settings (sets.Offset a) (sets.Offset b) h = absurd (h refl)
either-order settings (sets.Limit a) (sets.Limit b) h = absurd (h refl)
either-order settings (sets.Exclude a) (sets.Exclude b) h = absurd (h refl)
either-order settings sets.Batch sets.Batch h = absurd (h refl)
either-order settings sets.Clear sets.Clear h = absurd (h refl)
either-order settings sets.Accumulate sets.Accumulate h = absurd (h refl)
either-order settings first second h = refl

both-on : (command : CommandName) (settings : Settings) (word other : List ℕ) (words : List (List ℕ)) (first second : Setting) → IsOption command word first → IsOption command other second →
    before_first (is_byte 61) word ≢ before_first (is_byte 61) other → is_given settings first ≡ false → is_given settings second ≡ false →
    read_options command settings (word ∷ other ∷ words) ≡ read_options command (with_setting (with_setting settings first) second) words
both-on command settings word other words first second one two differ new next =
    option-on command settings first word (other ∷ words) one new
    ∙ option-on command (with_setting settings first) second other words two (another-given command settings word other first second one two differ ∙ next)

pub options-swap : (command : CommandName) (settings : Settings) (word other : List ℕ) (words : List (List ℕ)) (first second : Setting) → IsOption command word first → IsOption command other second →
    before_first (is_byte 61) word ≢ before_first (is_byte 61) other → is_given settings first ≡ false → is_given settings second ≡ false →
    read_options command settings (word ∷ other ∷ words) ≡ read_options command settings (other ∷ word ∷ words)
options-swap command settings word other words first second one two differ new next =
    both-on command settings word other words first second one two differ new next
    ∙ ap (λ settings. read_options command settings words)
    (either-order settings first second (λ same. differ (option-name command word first one ∙ same ∙ sym (option-name command other second two))))
    ∙ sym (both-on command settings other word words second first two one (λ same. differ (sym same)) next new)

pub request-swap : (command : CommandName) (name word other : List ℕ) (words : List (List ℕ)) (first second : Setting) → meaning_of name commands ≡ Some command →
    IsOption command word first → IsOption command other second → before_first (is_byte 61) word ≢ before_first (is_byte 61) other →
    request_of (name ∷ word ∷ other ∷ words) ≡ request_of (name ∷ other ∷ word ∷ words)
request-swap command name word other words first second found one two differ =
    ap (λ command. request_named command name (word ∷ other ∷ words)) found
    ∙ ap (after_options command) (options-swap command nothing_set word other words first second one two differ (nothing-given first) (nothing-given second))
    ∙ sym (ap (λ command. request_named command name (other ∷ word ∷ words)) found)
