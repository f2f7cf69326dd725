-- What `clap` is reported of the leading options, and what its parse decides. Cited by `leading_options` alone.
use Rattle.std.specs.Prelude.{ℕ, Bool, true, ◌&&◌, nat_lt, List, length, Some, None, codes, is_some}
use Rattle.std.specs.List.{list_all}
use Rattle.clap.specs.Words.{App, Rule, new_app, new_rule, with_rule}
use Rattle.clap.specs.Simple.{on_top}
use Rattle.nm_command.specs.LeadingOptions.{are_distinct, may_be}
use Rattle.nm_command.specs.Table.{leading_options, meaning_of}

-- an option, under its name with the dashes
abbrev pub rule_named : List ℕ → List ℕ → Rule
rule_named name long = record (new_rule name) { long = Some long }

-- a command of no options, without a program's name before its words and without help
abbrev pub bare : App
bare = on_top (λ s. record s { no_binary_name = true; disable_help_flag = true }) (new_app (codes "notmuch"))

-- the command of the leading options
abbrev pub parser : App
parser = with_rule (with_rule (with_rule (with_rule bare (rule_named (codes "--mail") (codes "mail"))) (rule_named (codes "--index") (codes "index")))
    (rule_named (codes "--workers") (codes "workers"))) (rule_named (codes "--moment") (codes "moment"))

-- the value is in the word, and is one that an option of this name may have
abbrev pub has_value : List ℕ × List ℕ → Bool
has_value option = elim (meaning_of option.0 leading_options) [ Some form ↦ may_be form option.1 | None ↦ nat_lt 0 (length option.1) ]

-- there is an option of this name
abbrev pub is_known : List ℕ × List ℕ → Bool
is_known option = is_some (meaning_of option.0 leading_options)

-- there are options of these names, each once at most
abbrev pub are_named : List (List ℕ × List ℕ) → Bool
are_named options = list_all is_known options && are_distinct options
