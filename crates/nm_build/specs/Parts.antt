-- The documents of parts, of segments and of pairs of segments, one after the other. Cited by `cut`, `pairs` and `workers`.
use Rattle.std.specs.Prelude.{ℕ, Option, None, Some, List, []}
use Rattle.std.specs.List.{flat_map}
use Rattle.nm_segment.specs.declared.doc_words.DocWords.{DocWords}

-- lists of documents as one
abbrev pub joined : List (List DocWords) → List DocWords
joined parts = flat_map (λ docs. docs) parts

-- the documents of a segment, if there is one
abbrev pub docs_of : Option (List DocWords) → List DocWords
docs_of None = []
docs_of (Some docs) = docs

-- how many segments these are
abbrev pub count_of : Option (List DocWords) → ℕ
count_of None = 0
count_of (Some docs) = 1
