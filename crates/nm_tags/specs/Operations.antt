-- What operations make of a set of tags. Cited by `apply`, `nm_dump`, `nm_flags` and others.
use Rattle.std.specs.Prelude.{ℕ, Bool, List, [], fold, if◌then◌else◌}
use Rattle.std.specs.List.{list_any}
use Rattle.nm_base.specs.Order.{same_text}
use Rattle.nm_base.specs.Tags.{with_tag, without_tag}
use Rattle.nm_base.specs.declared.tag_op.TagOp.{TagOp}

-- the tags with the one that is set, or without the one that is taken off
abbrev pub after_op : List (List ℕ) → TagOp → List (List ℕ)
after_op tags op = (if op.add then with_tag tags op.tag else without_tag tags op.tag)

-- the tags after the operations, the first of them first
abbrev pub after_ops : List (List ℕ) → List TagOp → List (List ℕ)
after_ops tags ops = fold after_op tags ops

-- the tags that operations begin with: none where they are cleared first
abbrev pub begun_with : Bool → List (List ℕ) → List (List ℕ)
begun_with clear tags = (if clear then [] else tags)

-- one of the operations sets the tag or takes it off
abbrev pub is_named : List ℕ → List TagOp → Bool
is_named tag ops = list_any (λ op. same_text tag op.tag) ops
