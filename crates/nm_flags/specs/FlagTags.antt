-- The tags that follow the flags in the names of a message's files. Cited by `tags`, `nm_model_plan` and `nm_writer`.
use Rattle.std.specs.Prelude.{ℕ, Bool, not, List, [], ◌∷◌, codes}
use Rattle.std.specs.List.{list_any}
use Rattle.nm_base.specs.declared.tag_op.TagOp.{TagOp}
use Rattle.nm_name.specs.Names.{flags_of}
use Rattle.nm_tags.specs.Operations.{after_ops}

-- a file has the flag D
abbrev pub any_draft : List (List ℕ) → Bool
any_draft paths = list_any (λ path. (flags_of path).draft) paths

-- a file has the flag F
abbrev pub any_flagged : List (List ℕ) → Bool
any_flagged paths = list_any (λ path. (flags_of path).flagged) paths

-- a file has the flag P
abbrev pub any_passed : List (List ℕ) → Bool
any_passed paths = list_any (λ path. (flags_of path).passed) paths

-- a file has the flag R
abbrev pub any_replied : List (List ℕ) → Bool
any_replied paths = list_any (λ path. (flags_of path).replied) paths

-- a file has the flag S
abbrev pub any_seen : List (List ℕ) → Bool
any_seen paths = list_any (λ path. (flags_of path).seen) paths

-- a tag is set, or taken off
abbrev pub op_of : Bool → List ℕ → TagOp
op_of set tag = record { add = set; tag = tag }

-- what the names ask for: `draft`, `flagged`, `passed` and `replied` as any file has the flag, and `unread` exactly where no file has S
abbrev pub name_ops : List (List ℕ) → List TagOp
name_ops paths =
    op_of (any_draft paths) (codes "draft")
    ∷ op_of (any_flagged paths) (codes "flagged")
    ∷ op_of (any_passed paths) (codes "passed")
    ∷ op_of (any_replied paths) (codes "replied")
    ∷ op_of (not (any_seen paths)) (codes "unread")
    ∷ []

-- the tags after these
abbrev pub tags_by_names : List (List ℕ) → List (List ℕ) → List (List ℕ)
tags_by_names tags paths = after_ops tags (name_ops paths)

-- the tags that follow names
abbrev pub five_tags : List (List ℕ)
five_tags = codes "draft" ∷ codes "flagged" ∷ codes "passed" ∷ codes "replied" ∷ codes "unread" ∷ []
