-- The text is cut at an ASCII character, and what was found with what is left to find is all.
use Rattle.std.proofs.Common.{Ok, Err, ◌≡◌, sym, ◌∙◌, ap, ◌++◌, OnOk, [], ◌∷◌}
use Rattle.std.specs.List.{slice_split}
use Rattle.nm_words.specs.Words.{chosen, is_cut, words_in}
use Rattle.nm_words.proofs.PieceLemmas.{boundary_before, boundary_after, pieces_turn, split_none}
use Rattle.nm_words.proofs.pieces.add_pieces.Goals as goal

pub range-requires-clause-end_boundary : goal.range-requires-clause-end_boundary
range-requires-clause-end_boundary c = boundary_before _ _ (sym c.in-Some.ensures)

pub range_from-left-requires : goal.range_from-left-requires
range_from-left-requires c = λ _. boundary_after _ _ c.pieces.invariant.0 (sym c.in-Some.ensures)

pub pieces-preserved : goal.pieces-preserved
pieces-preserved c = (
  c.range_from-left.utf8,
  ap (λ left. c.add_chosen.new.found ++ words_in (chosen c.args.named (slice_split is_cut left))) c.range_from-left.ensures.value ∙ pieces_turn c.args.named c.pieces.found c.add_chosen.new.found c.range.result.now c.pieces.left.now c.in-Some.at (sym c.in-Some.ensures) c.range.ensures.value c.in_ok-add_chosen.ensures ∙ c.pieces.invariant.1,
)

pub returns : goal.returns
returns c =
    elim (c.add_chosen-2.result) as (λ r. OnOk r (c.add_chosen-2.new.found ≡ c.pieces.found ++ words_in (chosen c.args.named (c.pieces.left.now ∷ []))) → OnOk r (c.add_chosen-2.new.found ≡ c.args.found.now ++ words_in (chosen c.args.named (slice_split is_cut c.args.text.now)))) [
      | Ok u ↦ λ h. h ∙ ap (λ pieces. c.pieces.found ++ words_in (chosen c.args.named pieces)) (sym (split_none is_cut c.pieces.left.now (sym c.cut_at.ensures ∙ c.in_default.is))) ∙ c.pieces.invariant.1
      | Err e ↦ λ h. h
    ] c.add_chosen-2.ensures
