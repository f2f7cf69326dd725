use Rattle.std.proofs.Common.{◌≡◌, ◌++◌, length}
use Rattle.std.specs.Prelude.{IsUtf8}
use Rattle.nm_text.specs.QuotedStrings.{unquoted}
use Rattle.nm_text.proofs.quoted_strings.unquoted.Given as goal

-- so far, and what is left, is all, and is text where all is
abbrev pub invariant-pairs : goal.invariant-pairs
invariant-pairs l = record {
  said : l.said.items ++ unquoted l.rest ≡ unquoted l.text;
  text : IsUtf8 l.text → IsUtf8 (l.said.items ++ l.rest);
}

abbrev pub decreases-pairs : goal.decreases-pairs
decreases-pairs l = length l.rest
