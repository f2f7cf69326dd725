use Rattle.std.proofs.Common.{◌≡◌, length, reverse}
use Rattle.nm_mime.specs.OpenParts.{AllInside, entities_to_come}
use Rattle.nm_mime.proofs.open_parts.next_entity.Given as goal

-- what was taken off has nothing to be read
abbrev pub invariant-rest : goal.invariant-rest
invariant-rest l = record {
  same : entities_to_come l.mail (reverse l.rest) ≡ entities_to_come l.mail (reverse l.fn.rest);
  stand : AllInside (length l.mail) (reverse l.rest);
}

abbrev pub decreases-rest : goal.decreases-rest
decreases-rest l = length l.rest
