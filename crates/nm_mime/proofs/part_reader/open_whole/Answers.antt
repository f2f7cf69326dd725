use Rattle.nm_mime.proofs.PartReaderLemmas.{whole_inside}
use Rattle.nm_mime.proofs.part_reader.open_whole.Goals as goal

pub push_pending-requires : goal.push_pending-requires
push_pending-requires c = (whole_inside c.args.mail.now c.in_ok-opening.opening c.in_ok-opening.ensures).depth
