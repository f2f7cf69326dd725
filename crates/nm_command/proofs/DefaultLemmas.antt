-- The first value of an option is the default. For the proof of `the_first_value_is_the_default`.
use Rattle.std.proofs.Common.{◌≡◌, ℕ, List, [], ◌∷◌, refl, subst}
use Rattle.std.specs.Prelude.{Some}
use Rattle.nm_command.specs.Requests.{request_with}
use Rattle.nm_command.specs.Settings.{nothing_set, with_setting}
use Rattle.nm_command.specs.Table.{meaning_of, options_of, values_of}
use Rattle.nm_command.specs.declared.settings.Setting.{Setting}
use Rattle.nm_command.specs.declared.table.CommandName.{CommandName}
use Rattle.nm_command.specs.declared.table.CommandName.TheVariants.{Count, Drill, Dump, New, Restore, Search, Session, Show, Tag}
use Rattle.nm_command.specs.declared.table.Form.{Form}
use Rattle.nm_command.specs.declared.table.Form.TheVariants.{Flag, Number, OneOf}
use Rattle.nm_command.specs.declared.table.Values.{Values}
use Rattle.nm_command.proofs.RowLemmas.{AllRows, row-holds}

abbrev first_is_default : CommandName → List (List ℕ × Setting) → Type 0
first_is_default command [] = Unit {0}
first_is_default command (first ∷ more) = (words : List (List ℕ)) → request_with command (with_setting nothing_set first.1) words ≡ request_with command nothing_set words

abbrev form_default : CommandName → List ℕ → Form → Type 0
form_default command name (Flag setting) = Unit {0}
form_default command name (OneOf which) = first_is_default command (values_of which)
form_default command name (Number which) = Unit {0}

all_default : (command : CommandName) → AllRows (form_default command) (options_of command)
all_default New = tt
all_default Search = ((λ words. refl), ((λ words. refl), ((λ words. refl), (tt, (tt, ((λ words. refl), tt))))))
all_default Count = ((λ words. refl), ((λ words. refl), (tt, tt)))
all_default Show = ((λ words. refl), ((λ words. refl), tt))
all_default Tag = (tt, (tt, tt))
all_default Dump = ((λ words. refl), tt)
all_default Restore = (tt, ((λ words. refl), tt))
all_default Drill = tt
all_default Session = tt

pub first-default : (command : CommandName) (name value : List ℕ) (which : Values) (first : Setting) (more : List (List ℕ × Setting)) (words : List (List ℕ)) →
    meaning_of name (options_of command) ≡ Some (OneOf which) → values_of which ≡ (value, first) ∷ more →
    request_with command (with_setting nothing_set first) words ≡ request_with command nothing_set words
first-default command name value which first more words found is =
    subst (first_is_default command) is (row-holds (form_default command) (options_of command) name (OneOf which) (all_default command) found) words
