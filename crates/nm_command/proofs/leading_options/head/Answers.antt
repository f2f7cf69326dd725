-- The words before the command, as the library reads them.
use Rattle.std.proofs.Common.{◌≡◌, ◌∙◌, ◌⊎◌, ap, codes, false, inr, map, refl, subst, sym, true}
use Rattle.std.specs.List.{list_all}
use Rattle.std.specs.Option.{option_and_then}
use Rattle.clap.specs.Matches.{first_value, found_of}
use Rattle.nm_command.specs.LeadingOptions.{cut_option}
use Rattle.nm_command.specs.LeadingParser.{are_named}
use Rattle.nm_command.specs.Numbers.{moment_in, workers_in}
use Rattle.nm_command.specs.Options.{begins_with_dashes}
use Rattle.nm_command.specs.Settings.{or_default}
use Rattle.nm_command.specs.Table.{meaning_of}
use Rattle.nm_command.specs.declared.leading_options.HeadError.TheVariants.{NoMemory, Usage}
use Rattle.nm_command.proofs.NamedLemmas.{front-dashed, head-refused, head-told, head-valueless}
use Rattle.nm_command.proofs.leading_options.head.Goals as goal

pub returns-then-not-have_values-clause-exact : goal.returns-then-not-have_values-clause-exact
returns-then-not-have_values-clause-exact c =
    inr (head-valueless c.args.words.now c.leading_words-options.result.now c.leading_words-options.ensures.words (sym c.have_values.ensures ∙ c.if-not-have_values.true))

pub parsed-requires-clause-dashes : goal.parsed-requires-clause-dashes
parsed-requires-clause-dashes c =
    ap (list_all begins_with_dashes) (ap (map (λ text. text.now)) c.as_slice.ensures.value ∙ c.in_ok-texts.ensures ∙ c.leading_words-options.ensures.words)
    ∙ front-dashed c.args.words.now

pub returns-in-Err-clause-exact : goal.returns-in-Err-clause-exact
returns-in-Err-clause-exact c =
    let front = c.leading_words-options.result.now in
    let same = ap (map (λ text. text.now)) c.as_slice.ensures.value ∙ c.in_ok-texts.ensures in
    head-refused c.args.words.now front c.leading_words-options.ensures.words (sym c.have_values.ensures ∙ c.if-not-have_values.false) c.in-Err.error
    (subst (λ words. (c.in-Err.error ≡ NoMemory) ⊎ ((c.in-Err.error ≡ Usage) × (are_named (map cut_option words) ≡ false))) same c.in-Err.ensures)

pub returns-clause-exact : goal.returns-clause-exact
returns-clause-exact c =
    let front = c.leading_words-options.result.now in
    let same = ap (map (λ text. text.now)) c.as_slice.ensures.value ∙ c.in_ok-texts.ensures in
    head-told c.args.words.now front c.leading_words-options.ensures.words (sym c.have_values.ensures ∙ c.if-not-have_values.false)
    (subst (λ words. are_named (map cut_option words) ≡ true) same c.in-Ok.ensures.0) (first_value (found_of c.in-Ok.matches))
    (λ name. c.in-Ok.ensures.1 name ∙ ap (λ words. meaning_of name (map cut_option words)) same) _
    (c.in_ok-folder.ensures ∙ ap (λ given. or_default given (codes "mail")) c.get_str.ensures)
    (c.in_ok-folder-2.ensures ∙ ap (λ given. or_default given (codes "index")) c.get_str-2.ensures)
    (c.workers_given.ensures.value ∙ ap (λ given. or_default (option_and_then workers_in given) 4) c.get_str-3.ensures)
    (c.moment_given.ensures.value ∙ ap (option_and_then moment_in) c.get_str-4.ensures) refl
