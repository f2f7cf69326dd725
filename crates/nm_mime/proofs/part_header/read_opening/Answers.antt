use Rattle.std.proofs.Common.{refl, ◌∙◌}
use Rattle.nm_mime.specs.Parts.{bytes_in}
use Rattle.nm_mime.proofs.PartLemmas.{opening_is, rest_inside}
use Rattle.nm_mime.proofs.part_header.read_opening.Goals as goal

pub read_fields-requires : goal.read_fields-requires
read_fields-requires c = rest_inside c.args.bytes.now c.args.entity (bytes_in c.args.bytes.now c.args.entity.from c.args.entity.to) c.in_ok-header.header c.requires refl c.in_ok-header.ensures

pub returns : goal.returns
returns c = c.in_ok-opening.ensures ∙ opening_is c.args.bytes.now c.args.entity (bytes_in c.args.bytes.now c.args.entity.from c.args.entity.to) c.in_ok-header.header refl c.in_ok-header.ensures
