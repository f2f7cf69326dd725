use Rattle.std.specs.Result.{is_ok}
use Rattle.std.proofs.Common.{◌≡◌, ◌∷◌, [], ◌++◌, true, List, ℕ, length, ap, ◌∙◌, rules, arith}
use Rattle.nm_segment.specs.Pieces.{AreEnds, pieces}
use Rattle.nm_segment.proofs.PieceLemmas.{pushed_to}
use Rattle.nm_segment.proofs.pieces.Pieces.push.Goals as goal
use Rattle.nm_segment.proofs.pieces.Pieces.push.Goals.{Else-is_err}

-- the places and the block now are those of the pieces with one more
longer : (c : Else-is_err) → AreEnds 0 c.push.new.self.items (length c.extend_from_slice.new.self.items)
    × (pieces 0 c.push.new.self.items c.extend_from_slice.new.self.items ≡ pieces 0 c.self.inside.ends.items c.self.inside.block.items ++ c.args.piece.now ∷ [])
longer c =
    let ok : is_ok c.extend_from_slice.result ≡ true = search rules in
    pushed_to c.self.inside.ends.items c.self.inside.block.items c.args.piece.now _ _ c.len.result c.self.invariant (omega (arith, c.self.inside.block.ok.0)) c.in_ok-push.ensures.items (rw ok at c.extend_from_slice.ensures.items)

pub invariant_of-self-else-is_err : goal.invariant_of-self-else-is_err
invariant_of-self-else-is_err c = (longer c).0

pub returns-clause-ok : goal.returns-clause-ok
returns-clause-ok c = (longer c).1 ∙ ap (λ (list : List (List ℕ)). list ++ c.args.piece.now ∷ []) c.self.view_is
