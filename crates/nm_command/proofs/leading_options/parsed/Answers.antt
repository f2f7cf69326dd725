-- The library's matches are those of its walk over the words.
use Rattle.std.proofs.Common.{◌≡◌, ◌∙◌, [], ap, map, subst, sym}
use Rattle.clap.proofs.WalkLemmas.{first_value-rows}
use Rattle.clap.specs.Faults.{fault_of, is_simple_and_free}
use Rattle.clap.specs.Simple.{app_of, is_simple, matches_of}
use Rattle.clap.specs.Kinds.{HasKind}
use Rattle.clap.specs.Matches.{found_of}
use Rattle.clap.specs.Walk.{first_of}
use Rattle.nm_command.specs.LeadingParser.{parser}
use Rattle.nm_command.proofs.NamedLemmas.{refused, taken}
use Rattle.nm_command.proofs.ParserLemmas.{says}
use Rattle.nm_command.proofs.leading_options.parsed.Goals as goal

pub returns-in-Ok : goal.returns-in-Ok
returns-in-Ok c =
    let words = map (λ word. word.now) c.args.words.now in
    let app : app_of c.in_ok-parser.field-0 ≡ parser = c.in_ok-parser.ensures in
    let none : fault_of parser words ≡ [] = sym (ap (λ a. fault_of a words) app) ∙ c.in-Ok.ensures.kinds (ap is_simple_and_free app) in
    let is = taken words c.requires.dashes c.requires.values none in
    let rows = (c.in-Ok.ensures.matches (ap is_simple app)).0 ∙ ap (λ a. matches_of a words) app in
    (is.0, λ name. first_value-rows (found_of c.in-Ok.matches) name ∙ ap (first_of name) rows ∙ says words name is.1)

pub returns-in-Err : goal.returns-in-Err
returns-in-Err c =
    let words = map (λ word. word.now) c.args.words.now in
    let app : app_of c.in_ok-parser.field-0 ≡ parser = c.in_ok-parser.ensures in
    refused words c.requires.dashes c.requires.values _ c.refusal.result (λ out. c.refusal.ensures.memory (c.kind.ensures ∙ out))
    (subst (λ a. HasKind (fault_of a words) c.in-Err.error) app (c.in-Err.ensures.kinds (ap is_simple_and_free app)))
