use Rattle.std.proofs.Common.{◌-◌, take, drop, refl}
use Rattle.nm_mime.proofs.TreeLemmas.{open_next}
use Rattle.nm_mime.proofs.open_parts.next_in.Goals as goal

pub returns-clause-next : goal.returns-clause-next
returns-clause-next c =
    let mail = c.args.mail.now in
    let multipart = c.args.multipart.now in
    open_next mail (take (multipart.part.to - multipart.at) (drop multipart.at mail)) multipart c.in_ok-found.found.span c.in_ok-found.found.next c.entity_in-entity.result c.requires.rises c.requires.ends c.in_ok-found.ensures.inside.within refl c.in_ok-found.ensures.next c.entity_in-entity.ensures
