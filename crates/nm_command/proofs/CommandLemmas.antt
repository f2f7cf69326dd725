-- The options of a command are read as the grammar says, and else a word with dashes is at fault.
-- For `AnswerLemmas` and `RepeatLemmas`.
use Rattle.std.proofs.Common.{◌≡◌, ◌≢◌, ℕ, true, false, cond, List, [], ◌∷◌, length, refl, sym, ap, subst, ◌∙◌}
use Rattle.std.specs.Prelude.{Option, Some, None, Result, Ok, Err, codes, nat_lt}
use Rattle.std.specs.Cmp.Lexicographic.{other_text, same_text as text_is}
use Rattle.std.specs.List.{after_first, before_first, position_or_len}
use Rattle.nm_base.specs.Order.{same_text}
use Rattle.nm_base.specs.declared.refusals.UsageKind.{UsageKind}
use Rattle.nm_base.specs.declared.refusals.UsageKind.TheVariants as kinds
use Rattle.nm_text.specs.Cuts.{is_byte}
use Rattle.nm_command.specs.Grammar.{HasFault, HasOptions, IsFault, IsOption, an_option, at_once, bad_value, dashes, later, no_option, no_words, repeated, unknown}
use Rattle.nm_command.specs.Options.{after_option, begins_with_dashes, once, or_bad_value, or_no_option, read_options, setting_of, with_option}
use Rattle.nm_command.specs.Settings.{is_given, with_setting}
use Rattle.nm_command.specs.Table.{flag_setting, meaning_of, options_of, value_setting}
use Rattle.nm_command.specs.declared.settings.Setting.{Setting}
use Rattle.nm_command.specs.declared.settings.Settings.{Settings}
use Rattle.nm_command.specs.declared.table.CommandName.{CommandName}
use Rattle.nm_command.specs.declared.table.Form.{Form}
use Rattle.nm_command.proofs.NameLemmas.{name-whole}
use Rattle.nm_command.proofs.OptionLemmas.{fault-form, flagged, option-dashes, option-more, option-read, read-option, valued}

abbrev judged : Settings → Result Setting UsageKind → Result Settings UsageKind
judged settings setting = elim setting [ Ok setting ↦ once settings setting | Err kind ↦ Err kind ]

option-with : (command : CommandName) (settings : Settings) (setting : Setting) (word : List ℕ) → IsOption command word setting → is_given settings setting ≡ false →
    with_option command settings word ≡ Ok (with_setting settings setting)
option-with command settings setting word option new =
    ap (judged settings) (option-read command word setting option)
    ∙ ap (λ v. cond v (Err kinds.Repeat) (Ok (with_setting settings setting))) new

-- no option of that name
unknown-read : (command : CommandName) (word : List ℕ) → meaning_of (before_first (is_byte 61) word) (options_of command) ≡ None → setting_of command word ≡ Err kinds.Option
unknown-read command word none =
    elim (nat_lt (position_or_len (is_byte 61) word) (length word)) as (λ v. nat_lt (position_or_len (is_byte 61) word) (length word) ≡ v →
    cond v (valued command word) (flagged command word) ≡ Err kinds.Option) [
      | true ↦ λ cut. ap (λ form. or_no_option form (λ form. value_setting form (after_first (is_byte 61) word))) none
      | false ↦ λ whole. ap (λ x. or_no_option (meaning_of x (options_of command)) flag_setting) (sym (name-whole word whole)) ∙ ap (λ form. or_no_option form flag_setting) none
    ] refl

-- an option of that name whose value says nothing
nothing-told : (setting : Option Setting) → ((told : Setting) → or_bad_value setting ≢ Ok told) → or_bad_value setting ≡ Err kinds.Value
nothing-told None h = refl
nothing-told (Some setting) h = absurd (h setting refl)

bad-read : (command : CommandName) (word : List ℕ) (form : Form) → meaning_of (before_first (is_byte 61) word) (options_of command) ≡ Some form →
    ((setting : Setting) → setting_of command word ≢ Ok setting) → setting_of command word ≡ Err kinds.Value
bad-read command word form found nothing =
    elim (nat_lt (position_or_len (is_byte 61) word) (length word)) as (λ v. nat_lt (position_or_len (is_byte 61) word) (length word) ≡ v →
    ((setting : Setting) → cond v (valued command word) (flagged command word) ≢ Ok setting) → cond v (valued command word) (flagged command word) ≡ Err kinds.Value) [
      | true ↦ λ cut nothing.
          let told = ap (λ form. or_no_option form (λ form. value_setting form (after_first (is_byte 61) word))) found in
          told ∙ nothing-told (value_setting form (after_first (is_byte 61) word)) (λ setting h. nothing setting (told ∙ h))
      | false ↦ λ whole nothing.
          let told = ap (λ x. or_no_option (meaning_of x (options_of command)) flag_setting) (sym (name-whole word whole)) ∙ ap (λ form. or_no_option form flag_setting) found in
          told ∙ nothing-told (flag_setting form) (λ setting h. nothing setting (told ∙ h))
    ] refl nothing

fault-with : (command : CommandName) (settings : Settings) (word : List ℕ) (kind : UsageKind) → IsFault command settings word kind → with_option command settings word ≡ Err kind
fault-with command settings word kind (unknown _ _ _ none) = ap (judged settings) (unknown-read command word none)
fault-with command settings word kind (bad_value _ _ _ form found nothing) =
    ap (judged settings) (bad-read command word form found (λ setting h. nothing setting (read-option command word setting h)))
fault-with command settings word kind (repeated _ _ setting _ option given) =
    ap (judged settings) (option-read command word setting option)
    ∙ ap (λ v. cond v (Err kinds.Repeat) (Ok (with_setting settings setting))) given

-- what a word adds to the settings, or what is wrong with it
abbrev IsJudged : CommandName → Settings → List ℕ → Result Settings UsageKind → Type 0
IsJudged command settings word (Ok after) = (setting : Setting) × IsOption command word setting × (is_given settings setting ≡ false) × (with_setting settings setting ≡ after)
IsJudged command settings word (Err kind) = IsFault command settings word kind

fault-read-at : (command : CommandName) (settings : Settings) (word : List ℕ) (kind : UsageKind) → setting_of command word ≡ Err kind → IsFault command settings word kind
fault-read-at command settings word kind h =
    elim (nat_lt (position_or_len (is_byte 61) word) (length word)) as (λ v. nat_lt (position_or_len (is_byte 61) word) (length word) ≡ v →
    setting_of command word ≡ cond v (valued command word) (flagged command word) → cond v (valued command word) (flagged command word) ≡ Err kind → IsFault command settings word kind) [
      | true ↦ λ cut is h. fault-form command word (before_first (is_byte 61) word) (λ form. value_setting form (after_first (is_byte 61) word)) kind refl is h settings
      | false ↦ λ whole is h. fault-form command word word flag_setting kind (name-whole word whole) is h settings
    ] refl refl h

once-is : (command : CommandName) (settings : Settings) (setting : Setting) (word : List ℕ) → IsOption command word setting → IsJudged command settings word (once settings setting)
once-is command settings setting word option =
    elim (is_given settings setting) as (λ v. is_given settings setting ≡ v → IsJudged command settings word (cond v (Err kinds.Repeat) (Ok (with_setting settings setting)))) [
      | true ↦ λ given. repeated command settings setting word option given
      | false ↦ λ new. (setting, option, new, refl)
    ] refl

with-is : (command : CommandName) (settings : Settings) (word : List ℕ) → IsJudged command settings word (with_option command settings word)
with-is command settings word =
    elim (setting_of command word) as (λ read. setting_of command word ≡ read → IsJudged command settings word (judged settings read)) [
      | Ok setting ↦ λ read. once-is command settings setting word (read-option command word setting read)
      | Err kind ↦ λ read. fault-read-at command settings word kind read
    ] refl

-- what the words say
abbrev pub IsRead : CommandName → Settings → List (List ℕ) → Result (Settings × List (List ℕ)) (List ℕ × UsageKind) → Type 0
IsRead command settings words (Ok read) = HasOptions command settings words read.0 read.1
IsRead command settings words (Err fault) = HasFault command settings words fault.0 fault.1

one-more : (command : CommandName) (settings : Settings) (setting : Setting) (word : List ℕ) (words : List (List ℕ)) (read : Result (Settings × List (List ℕ)) (List ℕ × UsageKind)) →
    IsOption command word setting → is_given settings setting ≡ false → IsRead command (with_setting settings setting) words read → IsRead command settings (word ∷ words) read
one-more command settings setting word words (Ok read) option new is = an_option command settings read.0 setting word words read.1 option new is
one-more command settings setting word words (Err fault) option new is = later command settings setting word fault.0 words fault.1 option new is

after-is : (command : CommandName) (settings : Settings) (word : List ℕ) (words : List (List ℕ)) → begins_with_dashes word ≡ true → word ≢ codes "--" →
    (judgement : Result Settings UsageKind) → IsJudged command settings word judgement → ((settings : Settings) → IsRead command settings words (read_options command settings words)) →
    IsRead command settings (word ∷ words) (after_option word judgement (λ settings. read_options command settings words))
after-is command settings word words begins more (Ok after) is then =
    subst (λ after. IsRead command settings (word ∷ words) (read_options command after words)) is.3
    (one-more command settings is.0 word words (read_options command (with_setting settings is.0) words) is.1 is.2 (then (with_setting settings is.0)))
after-is command settings word words begins more (Err kind) is then = at_once command settings word words kind begins more is

pub read-is : (command : CommandName) (settings : Settings) (words : List (List ℕ)) → IsRead command settings words (read_options command settings words)
read-is command settings [] = no_words command settings
read-is command settings (word ∷ words) =
    elim (same_text word (codes "--")) as (λ v. same_text word (codes "--") ≡ v →
    IsRead command settings (word ∷ words) (cond v (Ok (settings, words)) (cond (begins_with_dashes word)
    (after_option word (with_option command settings word) (λ settings. read_options command settings words)) (Ok (settings, word ∷ words))))) [
      | true ↦ λ same. subst (λ word. HasOptions command settings (word ∷ words) settings words) (sym (text_is word (codes "--") (sym same))) (dashes command settings words)
      | false ↦ λ differs.
          (elim (begins_with_dashes word) as (λ v. begins_with_dashes word ≡ v → IsRead command settings (word ∷ words) (cond v
          (after_option word (with_option command settings word) (λ settings. read_options command settings words)) (Ok (settings, word ∷ words)))) [
            | true ↦ λ begins. after-is command settings word words begins (other_text word (codes "--") (sym differs)) (with_option command settings word)
                (with-is command settings word) (λ settings. read-is command settings words)
            | false ↦ λ other. no_option command settings word words other
          ] refl)
    ] refl

others-differ : (word : List ℕ) → begins_with_dashes word ≡ false → same_text word (codes "--") ≡ false
others-differ word h =
    elim (same_text word (codes "--")) as (λ v. same_text word (codes "--") ≡ v → v ≡ false) [
      | true ↦ λ same. absurd (clash (sym (ap begins_with_dashes (text_is word (codes "--") (sym same))) ∙ h))
      | false ↦ λ other. refl
    ] refl
  where
    clash : true ≡ false → ⊥
    clash h = absurd (cc)

dashes-differ : (word : List ℕ) → word ≢ codes "--" → same_text word (codes "--") ≡ false
dashes-differ word differ =
    elim (same_text word (codes "--")) as (λ v. same_text word (codes "--") ≡ v → v ≡ false) [
      | true ↦ λ same. absurd (differ (text_is word (codes "--") (sym same)))
      | false ↦ λ other. refl
    ] refl

abbrev read_on : CommandName → Settings → List ℕ → List (List ℕ) → Result (Settings × List (List ℕ)) (List ℕ × UsageKind)
read_on command settings word words = after_option word (with_option command settings word) (λ settings. read_options command settings words)

-- a word with dashes is judged
judged-read : (command : CommandName) (settings : Settings) (word : List ℕ) (words : List (List ℕ)) → begins_with_dashes word ≡ true → same_text word (codes "--") ≡ false →
    read_options command settings (word ∷ words) ≡ read_on command settings word words
judged-read command settings word words begins differs =
    ap (λ v. cond v (Ok (settings, words)) (cond (begins_with_dashes word) (read_on command settings word words) (Ok (settings, word ∷ words)))) differs
    ∙ ap (λ v. cond v (read_on command settings word words) (Ok (settings, word ∷ words))) begins

-- an option that is new is set, and the words after it are read
pub option-on : (command : CommandName) (settings : Settings) (setting : Setting) (word : List ℕ) (words : List (List ℕ)) → IsOption command word setting → is_given settings setting ≡ false →
    read_options command settings (word ∷ words) ≡ read_options command (with_setting settings setting) words
option-on command settings setting word words option new =
    judged-read command settings word words (option-dashes command word setting option) (option-more command word setting option)
    ∙ ap (λ judgement. after_option word judgement (λ settings. read_options command settings words)) (option-with command settings setting word option new)

pub has-read : (command : CommandName) (settings after : Settings) (words rest : List (List ℕ)) → HasOptions command settings words after rest →
    read_options command settings words ≡ Ok (after, rest)
has-read command settings after words rest (no_words _ _) = refl
has-read command settings after words rest (dashes _ _ _) = refl
has-read command settings after words rest (no_option _ _ word more begins) =
    ap (λ v. cond v (Ok (settings, more)) (cond (begins_with_dashes word) (read_on command settings word more) (Ok (settings, word ∷ more)))) (others-differ word begins)
    ∙ ap (λ v. cond v (read_on command settings word more) (Ok (settings, word ∷ more))) begins
has-read command settings after words rest (an_option _ _ _ setting word more _ option new is) =
    option-on command settings setting word more option new ∙ has-read command (with_setting settings setting) after more rest is

pub fault-read : (command : CommandName) (settings : Settings) (words : List (List ℕ)) (word : List ℕ) (kind : UsageKind) → HasFault command settings words word kind →
    read_options command settings words ≡ Err (word, kind)
fault-read command settings words word kind (at_once _ _ _ more _ begins differs is) =
    judged-read command settings word more begins (dashes-differ word differs)
    ∙ ap (λ judgement. after_option word judgement (λ settings. read_options command settings more)) (fault-with command settings word kind is)
fault-read command settings words word kind (later _ _ setting first _ more _ option new is) =
    option-on command settings setting first more option new ∙ fault-read command (with_setting settings setting) more word kind is
