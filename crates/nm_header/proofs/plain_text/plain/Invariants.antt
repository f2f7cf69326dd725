use Rattle.std.proofs.Common.{◌≡◌, ◌++◌, length}
use Rattle.std.specs.Prelude.{IsUtf8}
use Rattle.nm_header.specs.Comments.{plain_of}
use Rattle.nm_header.proofs.plain_text.plain.Given as goal

-- so far, and what is left, is all
abbrev pub invariant-lexemes : goal.invariant-lexemes
invariant-lexemes l = record {
  text : l.shown.items ++ plain_of l.left ≡ plain_of l.text;
  utf8 : IsUtf8 (l.shown.items ++ l.left);
}

abbrev pub decreases-lexemes : goal.decreases-lexemes
decreases-lexemes l = length l.left
