-- Tags as a dump has them: the operation that a written tag is read as, and that they are tags of a program.
-- Cited by `line_writer`.
use Rattle.std.specs.Prelude.{◌≡◌, ℕ, true, List}
use Rattle.std.specs.List.{AllByRecursion}
use Rattle.std.specs.Str.{is_utf8}
use Rattle.hex.specs.Hex.{IsBytes}
use Rattle.nm_base.specs.Tag.{is_tag}
use Rattle.nm_base.specs.declared.tag_op.TagOp.{TagOp}

-- the operation that a written tag is
abbrev pub set_tag : List ℕ → TagOp
set_tag tag = record { add = true; tag = tag }

-- a text of bytes in UTF-8, and a tag: so is every tag of a program
abbrev pub IsTagOfBytes : List ℕ → Type 0
IsTagOfBytes tag = IsBytes tag × (is_utf8 tag ≡ true) × (is_tag tag ≡ true)

abbrev pub AreTags : List (List ℕ) → Type 0
AreTags tags = AllByRecursion IsTagOfBytes tags
