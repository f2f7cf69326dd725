-- The first line goes up to the first LF, or is all.
use Rattle.nm_text.proofs.LineLemmas.{contents_ended, contents_open, lines_ended, lines_open}
use Rattle.nm_text.proofs.lines.line_len.Goals as goal

pub returns-then-at-bytes-clause-first : goal.returns-then-at-bytes-clause-first
returns-then-at-bytes-clause-first c = lines_ended c.args.bytes.now c.first_place-at.result c.first_place-at.ensures.place c.if-at-bytes.true

pub returns-then-at-bytes-clause-content : goal.returns-then-at-bytes-clause-content
returns-then-at-bytes-clause-content c = contents_ended c.args.bytes.now c.first_place-at.result c.first_place-at.ensures.place c.if-at-bytes.true

pub returns-else-at-bytes-clause-first : goal.returns-else-at-bytes-clause-first
returns-else-at-bytes-clause-first c = lines_open c.args.bytes.now c.first_place-at.result c.first_place-at.ensures.place c.if-at-bytes.false c.first_place-at.ensures.within c.requires

pub returns-else-at-bytes-clause-content : goal.returns-else-at-bytes-clause-content
returns-else-at-bytes-clause-content c = contents_open c.args.bytes.now c.first_place-at.result c.first_place-at.ensures.place c.if-at-bytes.false c.first_place-at.ensures.within c.requires
