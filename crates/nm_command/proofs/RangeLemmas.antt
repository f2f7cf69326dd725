-- What words ask for can be written out: its numbers fit, and `count` counts what it is asked to.
-- For the proof of `a_request_that_is_written_out_is_read_back`.
use Rattle.std.proofs.Common.{◌≡◌, ℕ, Bool, true, false, cond, ◌&&◌, List, [], ◌∷◌, refl, ap, subst, ◌∙◌}
use Rattle.std.proofs.lemmas.Bool.{and_from, and_parts}
use Rattle.std.proofs.lemmas.Option.{same_Some}
use Rattle.std.specs.Prelude.{Option, Some, None, nat_le}
use Rattle.std.specs.List.{list_all}
use Rattle.std.specs.Option.{option_and_then}
use Rattle.std.specs.Str.Parse.{digits_value}
use Rattle.nm_base.specs.Tag.{is_tag}
use Rattle.nm_base.specs.declared.forms.Output.{Output}
use Rattle.nm_base.specs.declared.forms.Output.TheVariants as output
use Rattle.nm_base.specs.declared.tag_op.TagOp.{TagOp}
use Rattle.nm_command.specs.Grammar.{HasChanges, HasOptions, IsChange, IsOption, IsRequest, a_batch_count, a_batch_tag, a_count, a_drill, a_dump, a_flag, a_new, a_number, a_restore, a_search, a_session, a_show, a_tag, an_option, dashes, no_option, no_words, nothing_left, one_change, one_of, query_after_dashes, query_at_once, sets_tag, takes_off}
use Rattle.nm_command.specs.Numbers.{are_digits, drill_count_in, is_number, number_in}
use Rattle.nm_command.specs.Settings.{nothing_set, or_default, with_setting}
use Rattle.nm_command.specs.Requests.{changes_tags, query_of}
use Rattle.nm_command.specs.RequestWords.{are_changes, can_be_asked, fits, is_counted, lacks_query, limit_fits}
use Rattle.nm_command.specs.Table.{number_setting, options_of, values_of}
use Rattle.nm_command.specs.declared.request.Request.{Request}
use Rattle.nm_command.specs.declared.settings.Setting.{Setting}
use Rattle.nm_command.specs.declared.settings.Setting.TheVariants as sets
use Rattle.nm_command.specs.declared.settings.Settings.{Settings}
use Rattle.nm_command.specs.declared.table.CommandName.{CommandName}
use Rattle.nm_command.specs.declared.table.CommandName.TheVariants.{Count, Drill, Dump, New, Restore, Search, Session, Show, Tag}
use Rattle.nm_command.specs.declared.table.Form.{Form}
use Rattle.nm_command.specs.declared.table.Form.TheVariants.{Flag, Number, OneOf}
use Rattle.nm_command.specs.declared.table.Numbered.{Numbered}
use Rattle.nm_command.specs.declared.table.Numbered.TheVariants as numbers
use Rattle.nm_command.proofs.RowLemmas.{AllRows, row-holds}

-- each command but `count` takes any output
abbrev takes : CommandName → Output → Bool
takes New output = true
takes Search output = true
takes Count output = is_counted output
takes Show output = true
takes Tag output = true
takes Dump output = true
takes Restore output = true
takes Drill output = true
takes Session output = true

abbrev setting_fits : CommandName → Setting → Bool
setting_fits command (sets.Json json) = true
setting_fits command (sets.Raw raw) = true
setting_fits command (sets.DumpForm form) = true
setting_fits command (sets.ReadForm form) = true
setting_fits command (sets.Output output) = takes command output
setting_fits command (sets.Oldest oldest) = true
setting_fits command (sets.Offset offset) = fits offset
setting_fits command (sets.Limit limit) = fits limit
setting_fits command (sets.Exclude exclude) = true
setting_fits command sets.Batch = true
setting_fits command sets.Clear = true
setting_fits command sets.Accumulate = true

abbrev value_fits : CommandName → List ℕ → Setting → Type 0
value_fits command word setting = setting_fits command setting ≡ true

abbrev form_fits : CommandName → List ℕ → Form → Type 0
form_fits command name (Flag setting) = setting_fits command setting ≡ true
form_fits command name (OneOf which) = AllRows (value_fits command) (values_of which)
form_fits command name (Number which) = Unit {0}

all_fit : (command : CommandName) → AllRows (form_fits command) (options_of command)
all_fit New = tt
all_fit Search = ((refl, (refl, tt)), ((refl, (refl, (refl, (refl, (refl, tt))))), ((refl, (refl, tt)), (tt, (tt, ((refl, (refl, tt)), tt))))))
all_fit Count = ((refl, (refl, (refl, tt))), ((refl, (refl, tt)), (refl, tt)))
all_fit Show = ((refl, (refl, tt)), ((refl, (refl, tt)), tt))
all_fit Tag = (refl, (refl, tt))
all_fit Dump = ((refl, (refl, tt)), tt)
all_fit Restore = (refl, ((refl, (refl, (refl, tt))), tt))
all_fit Drill = tt
all_fit Session = tt

number-fits : (digits : List ℕ) (number : ℕ) → number_in digits ≡ Some number → fits number ≡ true
number-fits digits number h =
    elim (is_number digits) as (λ v. is_number digits ≡ v → cond v (Some (digits_value 10 digits)) None ≡ Some number → fits number ≡ true) [
      | true ↦ λ is h. subst (λ n. fits n ≡ true) (same_Some (digits_value 10 digits) number h) (and_parts (are_digits 10 digits) (nat_le (digits_value 10 digits) 4294967295) is).1
      | false ↦ λ is h. absurd (cc)
    ] refl h

number-setting-fits : (command : CommandName) (which : Numbered) (number : ℕ) → fits number ≡ true → setting_fits command (number_setting which number) ≡ true
number-setting-fits command numbers.Offset number h = h
number-setting-fits command numbers.Limit number h = h

option-fits : (command : CommandName) (word : List ℕ) (setting : Setting) → IsOption command word setting → setting_fits command setting ≡ true
option-fits command word setting (a_flag _ name _ found) = row-holds (form_fits command) (options_of command) name (Flag setting) (all_fit command) found
option-fits command word setting (one_of _ name value which _ found told) =
    row-holds (value_fits command) (values_of which) value setting (row-holds (form_fits command) (options_of command) name (OneOf which) (all_fit command) found) told
option-fits command word setting (a_number _ name digits which number found told) = number-setting-fits command which number (number-fits digits number told)

-- what is set fits
abbrev output_fits : CommandName → Option Output → Bool
output_fits command None = true
output_fits command (Some output) = takes command output

abbrev offset_fits : Option ℕ → Bool
offset_fits None = true
offset_fits (Some offset) = fits offset

abbrev settings_fit : CommandName → Settings → Bool
settings_fit command settings = output_fits command settings.output && (offset_fits settings.offset && limit_fits settings.limit)

one-more-fits : (command : CommandName) (settings : Settings) (setting : Setting) → settings_fit command settings ≡ true → setting_fits command setting ≡ true →
    settings_fit command (with_setting settings setting) ≡ true
one-more-fits command settings (sets.Json json) h k = h
one-more-fits command settings (sets.Raw raw) h k = h
one-more-fits command settings (sets.DumpForm form) h k = h
one-more-fits command settings (sets.ReadForm form) h k = h
one-more-fits command settings (sets.Output output) h k = and_from (takes command output) (offset_fits settings.offset && limit_fits settings.limit) k (and_parts (output_fits command settings.output) (offset_fits settings.offset && limit_fits settings.limit) h).1
one-more-fits command settings (sets.Oldest oldest) h k = h
one-more-fits command settings (sets.Offset offset) h k =
    let numbers = (and_parts (output_fits command settings.output) (offset_fits settings.offset && limit_fits settings.limit) h).1 in
    and_from (output_fits command settings.output) (fits offset && limit_fits settings.limit) (and_parts (output_fits command settings.output) (offset_fits settings.offset && limit_fits settings.limit) h).0
    (and_from (fits offset) (limit_fits settings.limit) k (and_parts (offset_fits settings.offset) (limit_fits settings.limit) numbers).1)
one-more-fits command settings (sets.Limit limit) h k =
    let numbers = (and_parts (output_fits command settings.output) (offset_fits settings.offset && limit_fits settings.limit) h).1 in
    and_from (output_fits command settings.output) (offset_fits settings.offset && fits limit) (and_parts (output_fits command settings.output) (offset_fits settings.offset && limit_fits settings.limit) h).0
    (and_from (offset_fits settings.offset) (fits limit) (and_parts (offset_fits settings.offset) (limit_fits settings.limit) numbers).0 k)
one-more-fits command settings (sets.Exclude exclude) h k = h
one-more-fits command settings sets.Batch h k = h
one-more-fits command settings sets.Clear h k = h
one-more-fits command settings sets.Accumulate h k = h

options-fit : (command : CommandName) (settings after : Settings) (words rest : List (List ℕ)) → HasOptions command settings words after rest → settings_fit command settings ≡ true →
    settings_fit command after ≡ true
options-fit command settings after words rest (no_words _ _) h = h
options-fit command settings after words rest (dashes _ _ _) h = h
options-fit command settings after words rest (no_option _ _ word more begins) h = h
options-fit command settings after words rest (an_option _ _ _ setting word more _ option new is) h =
    options-fit command (with_setting settings setting) after more rest is (one-more-fits command settings setting h (option-fits command word setting option))

nothing-fits : (command : CommandName) → settings_fit command nothing_set ≡ true
nothing-fits command = refl

offset-told : (offset : Option ℕ) → offset_fits offset ≡ true → fits (or_default offset 0) ≡ true
offset-told None h = refl
offset-told (Some n) h = h

output-told : (told : Option Output) → output_fits Count told ≡ true → is_counted (or_default told output.Messages) ≡ true
output-told None h = refl
output-told (Some o) h = h

counted-fits : (settings : Settings) (query : List ℕ) → settings_fit Count settings ≡ true → lacks_query settings.batch query ≡ true →
    (is_counted (or_default settings.output output.Messages) && lacks_query settings.batch query) ≡ true
counted-fits settings query h lacks =
    and_from (is_counted (or_default settings.output output.Messages)) (lacks_query settings.batch query)
    (output-told settings.output (and_parts (output_fits Count settings.output) (offset_fits settings.offset && limit_fits settings.limit) h).0) lacks

-- each change that words ask for is of a tag
change-fits : (word : List ℕ) (op : TagOp) → IsChange word op → is_tag op.tag ≡ true
change-fits word op (sets_tag tag h) = h
change-fits word op (takes_off tag h) = h

changes-fit : (words query : List (List ℕ)) (ops : List TagOp) → HasChanges words ops query → list_all (λ op. is_tag op.tag) ops ≡ true
changes-fit words query ops nothing_left = refl
changes-fit words query ops (query_after_dashes _) = refl
changes-fit words query ops (query_at_once word more unsigned) = refl
changes-fit words query ops (one_change word op more _ others is has) =
    and_from (is_tag op.tag) (list_all (λ op. is_tag op.tag) others) (change-fits word op is) (changes-fit more query others has)

-- what a drill is asked is from 1 to 20,000
count-told : (told : Option ℕ) (count : ℕ) → option_and_then (λ number. cond (nat_le 1 number && nat_le number 20000) (Some number) None) told ≡ Some count →
    (nat_le 1 count && nat_le count 20000) ≡ true
count-told None count h = absurd (cc)
count-told (Some number) count h =
    elim (nat_le 1 number && nat_le number 20000) as (λ v. (nat_le 1 number && nat_le number 20000) ≡ v → cond v (Some number) None ≡ Some count → (nat_le 1 count && nat_le count 20000) ≡ true) [
      | true ↦ λ fits h. subst (λ n. (nat_le 1 n && nat_le n 20000) ≡ true) (same_Some number count h) fits
      | false ↦ λ beyond h. absurd (cc)
    ] refl h

count-fits : (digits : List ℕ) (count : ℕ) → drill_count_in digits ≡ Some count → (nat_le 1 count && nat_le count 20000) ≡ true
count-fits digits count h = count-told (number_in digits) count h

pub request-fits : (words : List (List ℕ)) (request : Request) → IsRequest words request → can_be_asked request ≡ true
request-fits words request (a_new name more settings found has) = refl
request-fits words request (a_search name word more query settings found has) =
    let fit = options-fit Search nothing_set settings more (word ∷ query) has (nothing-fits Search) in
    let numbers = (and_parts (output_fits Search settings.output) (offset_fits settings.offset && limit_fits settings.limit) fit).1 in
    and_from (fits (or_default settings.offset 0)) (limit_fits settings.limit) (offset-told settings.offset (and_parts (offset_fits settings.offset) (limit_fits settings.limit) numbers).0)
    (and_parts (offset_fits settings.offset) (limit_fits settings.limit) numbers).1
request-fits words request (a_count name more query settings found has single) =
    counted-fits settings (query_of query) (options-fit Count nothing_set settings more query has (nothing-fits Count)) (ap (λ batch. lacks_query batch (query_of query)) single)
request-fits words request (a_batch_count name more settings found has batch) =
    counted-fits settings [] (options-fit Count nothing_set settings more [] has (nothing-fits Count)) (ap (λ batch. lacks_query batch []) batch)
request-fits words request (a_show name word more query settings found has) = refl
request-fits words request (a_tag name word more rest query settings ops found has single changes some) =
    ap (λ batch. are_changes settings.clear batch ops (query_of (word ∷ query))) single
    ∙ and_from (changes_tags settings.clear ops) (list_all (λ op. is_tag op.tag) ops) some (changes-fit rest (word ∷ query) ops changes)
request-fits words request (a_batch_tag name more rest settings found has batch changes) = ap (λ batch. are_changes settings.clear batch [] []) batch
request-fits words request (a_dump name more query settings found has) = refl
request-fits words request (a_restore name more settings found has) = refl
request-fits words request (a_drill name digits more settings count found has says) = count-fits digits count says
request-fits words request (a_session name more settings found has) = refl
