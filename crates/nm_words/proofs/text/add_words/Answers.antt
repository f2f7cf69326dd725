-- A line is cut off after its line feed, and what was found with the words of what is left is all.
use Rattle.std.proofs.Common.{◌≡◌, ◌+◌, ◌-◌, sym, ◌∙◌, ap, ◌++◌, append_assoc, take, arith}
use Rattle.nm_words.specs.Words.{words_of}
use Rattle.nm_words.proofs.LineLemmas.{behind_line, lines_turn}
use Rattle.nm_words.proofs.text.add_words.Goals as goal

pub range-requires-clause-end_boundary : goal.range-requires-clause-end_boundary
range-requires-clause-end_boundary c = behind_line c.lines.left.now c.in-Some.at c.lines.invariant.0 (sym c.in-Some.ensures.found)

pub range_from-left-requires : goal.range_from-left-requires
range_from-left-requires c = λ _. behind_line c.lines.left.now c.in-Some.at c.lines.invariant.0 (sym c.in-Some.ensures.found)

pub lines-preserved : goal.lines-preserved
lines-preserved c =
    let at = c.in-Some.at in
    let line = c.range.result.now in
    let left = c.range_from-left.result.now in
    let front : line ≡ take (at + 1) c.lines.left.now = c.range.ensures.value ∙ ap (λ n. take n c.lines.left.now) (let same : (at + 1) - 0 ≡ at + 1 = omega arith in same) in (
      c.range_from-left.utf8,
      ap (λ found. found ++ words_of left) c.in_ok-add_line.ensures ∙ append_assoc c.lines.found (words_of line) (words_of left)
          ∙ ap (λ more. c.lines.found ++ more) (sym (lines_turn c.lines.left.now line left at c.lines.invariant.0 (sym c.in-Some.ensures.found) front c.range_from-left.ensures.value)) ∙ c.lines.invariant.1,
    )
