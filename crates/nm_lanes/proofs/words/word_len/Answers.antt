use Rattle.std.proofs.Common.{sym, ◌∙◌, arith}
use Rattle.nm_text.specs.WhiteSpace.{is_blank}
use Rattle.nm_lanes.proofs.Cuts.{first_place, no_place}
use Rattle.nm_lanes.proofs.words.word_len.Goals as goal

pub returns-then-is_blank-clause-place : goal.returns-then-is_blank-clause-place
returns-then-is_blank-clause-place c = first_place is_blank c.args.text.now c.loop-at.at c.loop-at-test.true c.loop-at.invariant (sym c.is_blank.ensures ∙ c.if-is_blank.true)

pub returns-clause-place : goal.returns-clause-place
returns-clause-place c = no_place is_blank c.args.text.now c.loop-at.at (omega arith) c.loop-at.invariant
