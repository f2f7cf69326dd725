use Rattle.std.proofs.Common.{reverse}
use Rattle.nm_mime.specs.OpenParts.{entities_to_come}
use Rattle.nm_mime.proofs.PartReaderLemmas.{next_inside, next_stand, no_parts}
use Rattle.nm_mime.proofs.TreeLemmas.{part_then_rest}
use Rattle.nm_mime.proofs.part_reader.PartReader.next.Goals as goal

pub returns-in_default-clause-next : goal.returns-in_default-clause-next
returns-in_default-clause-next c =
    let none = rw c.in_default.is at c.in_ok-entity.ensures.next in
    no_parts c.args.self.now.mail.now _ none

pub returns-clause-next : goal.returns-clause-next
returns-clause-next c =
    let mail = c.args.self.now.mail.now in
    let within = rw c.in-Some.is at c.in_ok-entity.ensures.within in
    let next = rw c.in-Some.is at c.in_ok-entity.ensures.next in
    part_then_rest mail (entities_to_come mail (reverse c.args.self.now.rest)) c.in-Some.entity (reverse c.next_entity.new.rest) (reverse c.open_part.new.rest) c.in_ok-part.part within next c.in_ok-part.ensures.part c.in_ok-part.ensures.rest

pub returns-clause-inside : goal.returns-clause-inside
returns-clause-inside c =
    let within = rw c.in-Some.is at c.in_ok-entity.ensures.within in
    next_inside c.args.self.now.mail.now c.in-Some.entity c.in_ok-part.part within c.in_ok-part.ensures.part

pub returns-clause-stand : goal.returns-clause-stand
returns-clause-stand c =
    let within = rw c.in-Some.is at c.in_ok-entity.ensures.within in
    next_stand c.args.self.now.mail.now c.in-Some.entity (reverse c.next_entity.new.rest) (reverse c.open_part.new.rest) within c.in_ok-entity.ensures.stand c.in_ok-part.ensures.rest
