use Rattle.std.proofs.Common.{arith}
use Rattle.nm_header.proofs.mailbox_lexemes.angle_len.Goals as goal

pub returns-then-at-text-clause-value : goal.returns-then-at-text-clause-value
returns-then-at-text-clause-value c = let place = c.first_place-at.ensures.place in omega (arith, c.if-at-text.true)

pub returns-else-at-text-clause-value : goal.returns-else-at-text-clause-value
returns-else-at-text-clause-value c =
    let place = c.first_place-at.ensures.place in
    let within = c.first_place-at.ensures.within in
    omega (arith, c.if-at-text.false)
