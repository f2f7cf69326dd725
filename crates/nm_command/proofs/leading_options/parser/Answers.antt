-- What the library's builders say, one after the other, is the command of the leading options.
use Rattle.std.proofs.Common.{rules, ◌≡◌, ◌∙◌, ap₂, codes}
use Rattle.clap.specs.Words.{app_of, rule_of, with_rule}
use Rattle.nm_command.specs.LeadingParser.{bare, rule_named}
use Rattle.nm_command.proofs.leading_options.parser.Goals as goal

pub returns : goal.returns
returns c =
    let mail : rule_of c.long.result ≡ rule_named (codes "--mail") (codes "mail") = search rules in
    let index : rule_of c.long-2.result ≡ rule_named (codes "--index") (codes "index") = search rules in
    let workers : rule_of c.long-3.result ≡ rule_named (codes "--workers") (codes "workers") = search rules in
    let moment : rule_of c.long-4.result ≡ rule_named (codes "--moment") (codes "moment") = search rules in
    let start : app_of c.disable_help_flag-bare.result ≡ bare = search rules in
    c.in_ok-command.ensures.shape (search rules)
    ∙ ap₂ with_rule (c.in_ok-arg-3.ensures.shape (search rules)
    ∙ ap₂ with_rule (c.in_ok-arg-2.ensures.shape (search rules)
    ∙ ap₂ with_rule (c.in_ok-arg.ensures.shape (search rules) ∙ ap₂ with_rule start mail) index) workers) moment
