-- The documents that words find. Cited by `documents`, `phrase`, `start` and `laws`.
use Rattle.std.specs.Prelude.{ℕ, Bool, Some, Option, List, filter, map}
use Rattle.nm_base.specs.declared.facts.Field.{Field}
use Rattle.nm_blocks.specs.declared.hit.Hit.{Hit}
use Rattle.nm_segment.specs.Docs.{hits_of}
use Rattle.nm_segment.specs.declared.doc_words.DocWords.{DocWords}
use Rattle.nm_phrase.specs.Ends.{narrowed}
use Rattle.nm_base.specs.AskedWords.{lists_have}

-- the numbers of the documents of which one list of the field has the words one after the other, the last by its front where
-- `starts` is set
abbrev pub numbers_with : Bool → Field → List (List ℕ) → List DocWords → List ℕ
numbers_with starts field words docs = map (λ d. d.doc) (filter (λ d. lists_have (Some field) starts words d.lists) docs)

-- the documents of a word's hits that are right after the words before, where there are any
abbrev pub numbers_of : List DocWords → Field → Option (List Hit) → List ℕ → List ℕ
numbers_of docs field before word = map (λ hit. hit.doc) (narrowed before (hits_of docs word field))
