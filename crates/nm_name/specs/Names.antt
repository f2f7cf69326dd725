-- What the name of a mail file says: its flags come after the last `:2,`, as letters (maildir(5)).
-- Cited by `names`, `flagged_path` and `nm_flags`.
use Rattle.std.specs.Prelude.{ℕ, Bool, ◌&&◌, nat_eq, List, [], drop, Option, None, Some, codes, if◌then◌else◌}
use Rattle.std.specs.List.{list_all, starts_with}
use Rattle.std.specs.Char.{is_ascii_alphabetic}
use Rattle.nm_name.specs.Cuts.{cut_last, holds}
use Rattle.nm_name.specs.declared.flags.Flags.{Flags}

-- what comes after the last byte of this value, or the whole
abbrev pub last_part : List ℕ → Option (List ℕ × List ℕ) → List ℕ
last_part whole None = whole
last_part whole (Some cut) = cut.1

-- the last component of a path
abbrev pub name_of : List ℕ → List ℕ
name_of path = last_part path (cut_last 47 path)

-- what comes after the last `:` of a name is `2,` and ASCII letters
abbrev pub is_mark : List ℕ → Bool
is_mark tail = starts_with nat_eq tail (codes "2,") && list_all is_ascii_alphabetic (drop 2 tail)

-- the letters of a name by its cut at the last `:`: those after `2,` where a mark is there, else none
abbrev pub letters_at : Option (List ℕ × List ℕ) → List ℕ
letters_at None = []
letters_at (Some cut) = (if is_mark cut.1 then drop 2 cut.1 else [])

-- the letters of a name: what follows the last `:2,` where that is ASCII letters alone
abbrev pub letters_of : List ℕ → List ℕ
letters_of name = letters_at (cut_last 58 name)

-- the flags that these letters represent
abbrev pub flags_of_letters : List ℕ → Flags
flags_of_letters letters = record {
  draft = holds 68 letters;
  flagged = holds 70 letters;
  passed = holds 80 letters;
  replied = holds 82 letters;
  seen = holds 83 letters;
  trashed = holds 84 letters;
}

-- the flags of a path: those of the letters of its last component
abbrev pub flags_of : List ℕ → Flags
flags_of path = flags_of_letters (letters_of (name_of path))
