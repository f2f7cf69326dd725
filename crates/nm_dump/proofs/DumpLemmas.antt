-- Lines and tags that are read one by one. For the proofs of `read_dump` and `set_all`.
use Rattle.std.proofs.Common.{◌≡◌, ℕ, true, List, [], ◌∷◌, ◌++◌, refl, ap, append_assoc, Option, Some, None, Result, Ok, Err}
use Rattle.nm_base.specs.declared.tag_op.TagOp.{TagOp}
use Rattle.nm_tags.specs.declared.line_error.LineKind.{LineKind}
use Rattle.nm_tags.specs.declared.wanted.Wanted.{Wanted}
use Rattle.nm_model_answer.specs.DumpLines.{then_lines}
use Rattle.nm_model_answer.specs.Sup.{set_before}

-- lines before what else is read
abbrev pub with_lines : List Wanted → Result (List Wanted) (ℕ × LineKind) → Result (List Wanted) (ℕ × LineKind)
with_lines before (Ok read) = Ok (before ++ read)
with_lines before (Err fault) = Err fault

-- a line after others
pub with_one_line : (before : List Wanted) (number : ℕ) (id : List ℕ) (ops : List TagOp) (read : Result (List Wanted) (ℕ × LineKind))
    → with_lines (before ++ record { line = number; id = id; ops = ops } ∷ []) read ≡ with_lines before (then_lines number (Ok (Some (id, ops))) read)
with_one_line before number id ops (Ok read) = ap Ok (append_assoc before (record { line = number; id = id; ops = ops } ∷ []) read)
with_one_line before number id ops (Err fault) = refl

-- operations before others, where they are there
abbrev pub with_ops : List TagOp → Option (List TagOp) → Option (List TagOp)
with_ops before (Some ops) = Some (before ++ ops)
with_ops before None = None

-- a tag after others
pub with_one_tag : (before : List TagOp) (tag : List ℕ) (ops : Option (List TagOp)) → with_ops (before ++ record { add = true; tag = tag } ∷ []) ops ≡ with_ops before (set_before tag ops)
with_one_tag before tag (Some ops) = ap Some (append_assoc before (record { add = true; tag = tag } ∷ []) ops)
with_one_tag before tag None = refl
