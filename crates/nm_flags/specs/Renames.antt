-- The files that have to be renamed for the tags of their message. Cited by `renames`, `nm_writer` and `nm_model_answer`.
use Rattle.std.specs.Prelude.{ℕ, false, not, nat_lt, List, [], ◌∷◌, length, Option, None, Some, codes, if◌then◌else◌}
use Rattle.std.specs.List.{flat_map}
use Rattle.nm_base.specs.Limits.{max_path_bytes}
use Rattle.nm_base.specs.Order.{same_text}
use Rattle.nm_base.specs.Tags.{has_tag}
use Rattle.nm_name.specs.FlaggedPath.{renamed}
use Rattle.nm_name.specs.declared.flags.Flags.{Flags}
use Rattle.nm_flags.specs.declared.renames.Rename.{Rename}

-- the flags that a name is asked to carry for these tags; it is asked for S where `unread` isn't there
abbrev pub asked_flags : List (List ℕ) → Flags
asked_flags tags = record {
  draft = has_tag tags (codes "draft");
  flagged = has_tag tags (codes "flagged");
  passed = has_tag tags (codes "passed");
  replied = has_tag tags (codes "replied");
  seen = not (has_tag tags (codes "unread"));
  trashed = false;
}

-- the new path, unless it would have more than 4,096 bytes
abbrev pub target : List ℕ → Option (List ℕ)
target path = (if nat_lt max_path_bytes (length path) then None else Some path)

-- a file whose path isn't the one that carries the flags is to be renamed to that
abbrev pub rename_to : List ℕ → List ℕ → List Rename
rename_to path new = (if same_text path new then [] else record { from = path; to = target new } ∷ [])

-- the files that are to be renamed, in order
abbrev pub renames : List (List ℕ) → List (List ℕ) → List Rename
renames tags paths = flat_map (λ path. rename_to path (renamed path (asked_flags tags))) paths
