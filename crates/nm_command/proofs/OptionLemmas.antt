-- An option is read as the grammar says: it is cut at its first `=`. For the proof of `setting`.
use Rattle.std.proofs.Common.{◌≡◌, ◌<◌, ℕ, true, false, cond, not, List, ◌∷◌, ◌++◌, length, get_or, refl, sym, ap, subst, ◌∙◌, arith}
use Rattle.std.specs.Prelude.{Option, Some, None, Result, Ok, Err, codes, nat_lt}
use Rattle.std.specs.List.{after_first, before_first, list_all, position_or_len}
use Rattle.std.specs.Option.{option_map}
use Rattle.std.proofs.lemmas.Bool.Decides.{nat_tests}
use Rattle.std.proofs.lemmas.List.Sums.{passes_at_first, split_at_first}
use Rattle.std.proofs.lemmas.Bool.{lt-ltb, ltb-true}
use Rattle.std.proofs.lemmas.Option.{same_Some}
use Rattle.nm_base.specs.Order.{same_text}
use Rattle.nm_base.specs.declared.refusals.UsageKind.{UsageKind}
use Rattle.nm_base.specs.declared.refusals.UsageKind.TheVariants as kinds
use Rattle.nm_text.specs.Cuts.{is_byte}
use Rattle.nm_command.specs.Grammar.{IsFault, IsOption, a_flag, a_number, bad_value, one_of, unknown}
use Rattle.nm_command.specs.Numbers.{number_in}
use Rattle.nm_command.specs.Options.{begins_with_dashes, or_bad_value, or_no_option, setting_of}
use Rattle.nm_command.specs.Table.{flag_setting, meaning_of, number_setting, options_of, value_setting}
use Rattle.nm_command.specs.declared.settings.Setting.{Setting}
use Rattle.nm_command.specs.declared.settings.Settings.{Settings}
use Rattle.nm_command.specs.declared.table.CommandName.{CommandName}
use Rattle.nm_command.specs.declared.table.Form.{Form}
use Rattle.nm_command.specs.declared.table.Form.TheVariants.{Flag, Number, OneOf}
use Rattle.nm_command.proofs.NameLemmas.{cut-nowhere, cut-there, name-cut, name-dashes, name-dashes_on, name-found, name-lacks, name-more, name-more_on, value-cut}

pub setting_of-cut : (command : CommandName) (word name value : List ℕ) (r : Result Setting UsageKind) → position_or_len (is_byte 61) word < length word →
    name ≡ before_first (is_byte 61) word → value ≡ after_first (is_byte 61) word →
    r ≡ or_no_option (meaning_of name (options_of command)) (λ form. value_setting form value) → r ≡ setting_of command word
setting_of-cut command word name value r within front back h =
    h
    ∙ ap (λ (x : List ℕ). or_no_option (meaning_of x (options_of command)) (λ form. value_setting form value)) front
    ∙ ap (λ (x : List ℕ). or_no_option (meaning_of (before_first (is_byte 61) word) (options_of command)) (λ form. value_setting form x)) back
    ∙ ap (λ v. cond v (or_no_option (meaning_of (before_first (is_byte 61) word) (options_of command)) (λ form. value_setting form (after_first (is_byte 61) word)))
    (or_no_option (meaning_of word (options_of command)) flag_setting)) (sym (lt-ltb (position_or_len (is_byte 61) word) (length word) within))

abbrev pub flagged : CommandName → List ℕ → Result Setting UsageKind
flagged command word = or_no_option (meaning_of word (options_of command)) flag_setting

abbrev pub valued : CommandName → List ℕ → Result Setting UsageKind
valued command word =
    or_no_option (meaning_of (before_first (is_byte 61) word) (options_of command)) (λ form. value_setting form (after_first (is_byte 61) word))

valued-read : (command : CommandName) (name value : List ℕ) (form : Form) (setting : Setting) → list_all (λ b. not (is_byte 61 b)) name ≡ true →
    meaning_of name (options_of command) ≡ Some form → value_setting form value ≡ Some setting → valued command (name ++ 61 ∷ value) ≡ Ok setting
valued-read command name value form setting lacks found told =
    ap (λ x. or_no_option (meaning_of x (options_of command)) (λ form. value_setting form (after_first (is_byte 61) (name ++ 61 ∷ value)))) (name-cut name value lacks)
    ∙ ap (λ x. or_no_option (meaning_of name (options_of command)) (λ form. value_setting form x)) (value-cut name value lacks)
    ∙ ap (λ form. or_no_option form (λ form. value_setting form value)) found
    ∙ ap or_bad_value told

-- what the grammar takes for an option is read so
pub option-read : (command : CommandName) (word : List ℕ) (setting : Setting) → IsOption command word setting → setting_of command word ≡ Ok setting
option-read command word setting (a_flag _ name _ found) =
    let lacks = name-lacks name (name-found command name (Flag setting) found) in
    ap (λ v. cond v (valued command name) (flagged command name)) (cut-nowhere name lacks)
    ∙ ap (λ form. or_no_option form flag_setting) found
option-read command word setting (one_of _ name value which _ found told) =
    let lacks = name-lacks name (name-found command name (OneOf which) found) in
    ap (λ v. cond v (valued command (name ++ 61 ∷ value)) (flagged command (name ++ 61 ∷ value))) (cut-there name value lacks)
    ∙ valued-read command name value (OneOf which) setting lacks found told
option-read command word setting (a_number _ name digits which number found told) =
    let lacks = name-lacks name (name-found command name (Number which) found) in
    ap (λ v. cond v (valued command (name ++ 61 ∷ digits)) (flagged command (name ++ 61 ∷ digits))) (cut-there name digits lacks)
    ∙ valued-read command name digits (Number which) (number_setting which number) lacks found (ap (option_map (number_setting which)) told)

-- and what is read as an option, the grammar takes for one
flag-option : (command : CommandName) (name : List ℕ) (setting : Setting) (form : Form) → meaning_of name (options_of command) ≡ Some form → flag_setting form ≡ Some setting →
    IsOption command name setting
flag-option command name setting (Flag other) found told = a_flag command name setting (found ∙ ap (λ setting. Some (Flag setting)) (same_Some other setting told))
flag-option command name setting (OneOf which) found told = absurd (cc)
flag-option command name setting (Number which) found told = absurd (cc)

number-option : (command : CommandName) (name digits : List ℕ) (which : _) (setting : Setting) → meaning_of name (options_of command) ≡ Some (Number which) →
    (number : Option ℕ) → number_in digits ≡ number → option_map (number_setting which) number ≡ Some setting → IsOption command (name ++ 61 ∷ digits) setting
number-option command name digits which setting found None is told = absurd (cc)
number-option command name digits which setting found (Some number) is told =
    subst (IsOption command (name ++ 61 ∷ digits)) (same_Some (number_setting which number) setting told) (a_number command name digits which number found is)

value-option : (command : CommandName) (name value : List ℕ) (setting : Setting) (form : Form) → meaning_of name (options_of command) ≡ Some form →
    value_setting form value ≡ Some setting → IsOption command (name ++ 61 ∷ value) setting
value-option command name value setting (Flag other) found told = absurd (cc)
value-option command name value setting (OneOf which) found told = one_of command name value which setting found told
value-option command name value setting (Number which) found told = number-option command name value which setting found (number_in value) refl told

-- the form that is found, and what it says
read-form : (command : CommandName) (setting : Setting) (name : List ℕ) (sets : Form → Option Setting) (whole : List ℕ) →
    ((form : Form) → meaning_of name (options_of command) ≡ Some form → sets form ≡ Some setting → IsOption command whole setting) →
    or_no_option (meaning_of name (options_of command)) sets ≡ Ok setting → IsOption command whole setting
read-form command setting name sets whole is h =
    elim (meaning_of name (options_of command)) as (λ form. meaning_of name (options_of command) ≡ form → or_no_option form sets ≡ Ok setting → IsOption command whole setting) [
      | None ↦ λ none h. absurd (cc)
      | Some form ↦ λ found h.
          (elim (sets form) as (λ told. sets form ≡ told → or_bad_value told ≡ Ok setting → IsOption command whole setting) [
            | None ↦ λ none h. absurd (cc)
            | Some other ↦ λ told h. is form found (told ∙ ap Some (same other setting h))
          ] refl h)
    ] refl h
  where
    same : (first second : Setting) → (let r : Result Setting UsageKind = Ok first in r ≡ Ok second) → first ≡ second
    same first second h = cc

-- a word with an `=` is its name, that, and its value
cut-word : (word : List ℕ) → nat_lt (position_or_len (is_byte 61) word) (length word) ≡ true → before_first (is_byte 61) word ++ 61 ∷ after_first (is_byte 61) word ≡ word
cut-word word h =
    let within = ltb-true (position_or_len (is_byte 61) word) (length word) h in
    let there : get_or word (position_or_len (is_byte 61) word) 0 ≡ 61 = is_equals (get_or word (position_or_len (is_byte 61) word) 0) (passes_at_first (is_byte 61) word 0 within) in
    ap (λ b. before_first (is_byte 61) word ++ b ∷ after_first (is_byte 61) word) (sym there) ∙ sym (split_at_first (is_byte 61) word 0 within)
  where
    is_equals : (b : ℕ) → is_byte 61 b ≡ true → b ≡ 61
    is_equals b h = grind (arith, nat_tests)

pub read-option : (command : CommandName) (word : List ℕ) (setting : Setting) → setting_of command word ≡ Ok setting → IsOption command word setting
read-option command word setting h =
    elim (nat_lt (position_or_len (is_byte 61) word) (length word)) as (λ v. nat_lt (position_or_len (is_byte 61) word) (length word) ≡ v →
    cond v (valued command word) (flagged command word) ≡ Ok setting → IsOption command word setting) [
      | true ↦ λ cut h. subst (λ whole. IsOption command whole setting) (cut-word word cut)
          (read-form command setting (before_first (is_byte 61) word) (λ form. value_setting form (after_first (is_byte 61) word))
          (before_first (is_byte 61) word ++ 61 ∷ after_first (is_byte 61) word)
          (λ form found told. value-option command (before_first (is_byte 61) word) (after_first (is_byte 61) word) setting form found told) h)
      | false ↦ λ whole h. read-form command setting word flag_setting word (λ form found told. flag-option command word setting form found told) h
    ] refl h

-- an option begins with dashes, and is not those alone
pub option-dashes : (command : CommandName) (word : List ℕ) (setting : Setting) → IsOption command word setting → begins_with_dashes word ≡ true
option-dashes command word setting (a_flag _ name _ found) = name-dashes name (name-found command name (Flag setting) found)
option-dashes command word setting (one_of _ name value which _ found told) = name-dashes_on name (61 ∷ value) (name-found command name (OneOf which) found)
option-dashes command word setting (a_number _ name digits which number found told) = name-dashes_on name (61 ∷ digits) (name-found command name (Number which) found)

pub option-more : (command : CommandName) (word : List ℕ) (setting : Setting) → IsOption command word setting → same_text word (codes "--") ≡ false
option-more command word setting (a_flag _ name _ found) = name-more name (name-found command name (Flag setting) found)
option-more command word setting (one_of _ name value which _ found told) = name-more_on name (61 ∷ value) (name-found command name (OneOf which) found)
option-more command word setting (a_number _ name digits which number found told) = name-more_on name (61 ∷ digits) (name-found command name (Number which) found)

-- what is wrong with a word that is no option
pub fault-form : (command : CommandName) (word name : List ℕ) (sets : Form → Option Setting) (kind : UsageKind) → before_first (is_byte 61) word ≡ name →
    setting_of command word ≡ or_no_option (meaning_of name (options_of command)) sets → or_no_option (meaning_of name (options_of command)) sets ≡ Err kind →
    (settings : Settings) → IsFault command settings word kind
fault-form command word name sets kind named is h settings =
    elim (meaning_of name (options_of command)) as (λ form. meaning_of name (options_of command) ≡ form → or_no_option form sets ≡ Err kind → IsFault command settings word kind) [
      | None ↦ λ none h. subst (IsFault command settings word) (same kinds.Option kind h) (unknown command settings word (ap (λ x. meaning_of x (options_of command)) named ∙ none))
      | Some form ↦ λ found h.
          (elim (sets form) as (λ told. sets form ≡ told → or_bad_value told ≡ Err kind → IsFault command settings word kind) [
            | None ↦ λ none h. subst (IsFault command settings word) (same kinds.Value kind h)
                (bad_value command settings word form (ap (λ x. meaning_of x (options_of command)) named ∙ found) (λ setting option.
                clash setting kind (sym (option-read command word setting option) ∙ is ∙ ap (λ form. or_no_option form sets) found ∙ ap or_bad_value none ∙ h)))
            | Some other ↦ λ told h. absurd (cc)
          ] refl h)
    ] refl h
  where
    same : (first second : UsageKind) → (let r : Result Setting UsageKind = Err first in r ≡ Err second) → first ≡ second
    same first second h = cc

    clash : (setting : Setting) (kind : UsageKind) → (let r : Result Setting UsageKind = Ok setting in r ≡ Err kind) → ⊥
    clash setting kind h = absurd (cc)
