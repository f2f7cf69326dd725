-- Texts in byte order, and tests on texts. Cited by `tags`, `nm_maildir`, `nm_extract` and others.
use Rattle.std.specs.Prelude.{ℕ, Bool, List, [], fold, nat_eq}
use Rattle.std.specs.List.{list_any}
use Rattle.std.specs.List.Sorted.{IsStrictlySortedBy}
use Rattle.std.specs.Cmp.Lexicographic.{pointwise, slice_cmp}
use Rattle.std.specs.Ordering.{nat_cmp}
use Rattle.std.specs.BTreeSet.{insert_key}

-- byte for byte the same
abbrev pub same_text : List ℕ → List ℕ → Bool
same_text a b = pointwise nat_eq a b

-- the text is one of these
abbrev pub has_text : List (List ℕ) → List ℕ → Bool
has_text texts text = list_any (same_text text) texts

-- each text is below all that follow it, by their bytes: in order, and without repeats
abbrev pub IsSorted : List (List ℕ) → Type 0
IsSorted texts = IsStrictlySortedBy (slice_cmp nat_cmp) texts

-- the texts and this one at its place in the order, unless it is there already
abbrev pub insert : List (List ℕ) → List ℕ → List (List ℕ)
insert texts text = insert_key (slice_cmp nat_cmp) texts text

-- the texts in order, each once
abbrev pub sorted : List (List ℕ) → List (List ℕ)
sorted texts = fold insert [] texts
