use Rattle.nm_codec.specs.Grammar.{list_grammar}
use Rattle.nm_record.specs.Facts.{date_grammar, heading_grammar, heading_parts, id_grammar}
use Rattle.nm_record.proofs.WriteLemmas.{four_written}
use Rattle.nm_record.proofs.facts.FactsFormatFormat.write.Goals as goal

pub returns : goal.returns
returns c =
    let facts = c.args.value.now in
    four_written c.args.writer.now (id_grammar.bytes facts.id) ((list_grammar id_grammar).bytes facts.links) (date_grammar.bytes facts.date) (heading_grammar.bytes (heading_parts facts))
    c.write.new.writer c.write-2.new.writer c.write-3.new.writer c.write_heading.new.writer
    c.in_ok-write.ensures c.in_ok-write-2.ensures c.in_ok-write-3.ensures c.in_ok-write_heading.ensures
