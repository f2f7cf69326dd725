-- The text is cut at white space; what is spaced so far counts as the first word.
use Rattle.std.proofs.Common.{sym, ◌∙◌, ap, ◌∷◌}
use Rattle.std.specs.Prelude.{string_bytes}
use Rattle.std.specs.List.{slice_split}
use Rattle.nm_base.specs.Bounds.{is_white_space}
use Rattle.nm_header.proofs.NameLemmas.{joined, white_is_ascii, words_end, words_turn}
use Rattle.nm_header.proofs.SplitLemmas.{boundary_after, boundary_before}
use Rattle.nm_header.proofs.display_name.spaced.Goals as goal

pub range-requires-clause-end_boundary : goal.range-requires-clause-end_boundary
range-requires-clause-end_boundary c = boundary_before is_white_space white_is_ascii _ _ (sym c.in-Some.ensures)

pub range_from-left-requires : goal.range_from-left-requires
range_from-left-requires c = λ _. boundary_after is_white_space white_is_ascii _ _ c.words.invariant.0 (sym c.in-Some.ensures)

pub words-preserved : goal.words-preserved
words-preserved c = (
  c.range_from-left.utf8,
  ap (λ left. joined (string_bytes c.add_word.new.spaced ∷ slice_split is_white_space left)) c.range_from-left.ensures.value ∙ words_turn (string_bytes c.words.spaced) (string_bytes c.add_word.new.spaced) c.words.left.now c.range.result.now c.in-Some.at (sym c.in-Some.ensures) c.range.ensures.value c.in_ok-add_word.ensures ∙ c.words.invariant.1,
)

pub returns : goal.returns
returns c =
    c.in_ok-from_string.ensures ∙ words_end (string_bytes c.words.spaced) (string_bytes c.add_word-2.new.spaced) c.words.left.now (sym c.space_at.ensures ∙ c.in_default.is) c.in_ok-add_word-2.ensures ∙ c.words.invariant.1
