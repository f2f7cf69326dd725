use Rattle.nm_mime.proofs.PartReaderLemmas.{opened_stand, part_inside, parts_opened}
use Rattle.nm_mime.proofs.part_reader.PartReader.open.Goals as goal

pub returns-clause-parts : goal.returns-clause-parts
returns-clause-parts c = parts_opened c.args.mail.now c.in_ok-part.part c.new-rest.result c.open_whole.new.rest c.new-rest.ensures c.in_ok-part.ensures.part c.in_ok-part.ensures.rest

pub returns-clause-inside : goal.returns-clause-inside
returns-clause-inside c = part_inside c.args.mail.now c.in_ok-part.part c.in_ok-part.ensures.part

pub returns-clause-stand : goal.returns-clause-stand
returns-clause-stand c = opened_stand c.args.mail.now c.new-rest.result c.open_whole.new.rest c.new-rest.ensures c.in_ok-part.ensures.rest
