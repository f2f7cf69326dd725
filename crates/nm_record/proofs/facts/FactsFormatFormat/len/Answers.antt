use Rattle.std.proofs.Common.{◌∙◌}
use Rattle.std.specs.List.{list_all}
use Rattle.nm_base.specs.Limits.{is_date}
use Rattle.nm_record.specs.Facts.{heading_grammar, heading_parts, id_grammar}
use Rattle.nm_record.proofs.LenLemmas.{all_pass, but_date}
use Rattle.nm_record.proofs.facts.FactsFormatFormat.len.Goals as goal

pub returns-clause-value : goal.returns-clause-value
returns-clause-value c =
    let facts = c.args.value.now in
    but_date (id_grammar.is_value facts.id) (list_all id_grammar.is_value facts.links) (is_date facts.date) (heading_grammar.is_value (heading_parts facts))
    c.len.ensures.value (c.len-2.ensures.value ∙ all_pass facts.links) c.heading_len.ensures.value
