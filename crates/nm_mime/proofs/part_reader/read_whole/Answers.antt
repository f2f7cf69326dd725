use Rattle.std.proofs.Common.{◌∙◌}
use Rattle.nm_mime.proofs.PartReaderLemmas.{whole_opening, whole_rest}
use Rattle.nm_mime.proofs.part_reader.read_whole.Goals as goal

pub read_fields-requires : goal.read_fields-requires
read_fields-requires c = whole_rest c.args.mail.now c.whole.result c.args.header.now c.whole.ensures c.requires

pub returns : goal.returns
returns c = c.in_ok-opening.ensures ∙ whole_opening c.args.mail.now c.whole.result c.args.header.now c.whole.ensures c.requires
