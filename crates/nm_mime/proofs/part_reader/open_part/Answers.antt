use Rattle.std.proofs.Common.{◌≤◌, subst, sym}
use Rattle.nm_mime.specs.declared.entity.Opening.{Opening}
use Rattle.nm_mime.proofs.PartLemmas.{opening_inside}
use Rattle.nm_mime.proofs.part_reader.open_part.Goals as goal

pub push_pending-requires : goal.push_pending-requires
push_pending-requires c =
    subst (λ (o : Opening). o.part.depth ≤ 32) (sym c.in_ok-opening.ensures) (opening_inside c.args.mail.now c.args.entity c.requires).depth
