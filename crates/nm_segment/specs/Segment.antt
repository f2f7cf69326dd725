-- What a segment is: documents, their words in order, and a run of blocks for each word and field. Cited by `segment`.
use Rattle.std.specs.Prelude.{◌≡◌, ℕ, List}
use Rattle.nm_segment.specs.declared.doc_words.DocWords.{DocWords}
use Rattle.nm_segment.specs.Docs.{AreDocs, hits_of, words}
use Rattle.nm_segment.specs.Runs.{AreRuns}

-- the words are those of the documents, and the runs have the hits of each word in each field
pub record IsIndexed (docs : List DocWords) (list : List (List ℕ)) (runs : List (List ℕ)) : Type 0 where
  pub given : AreDocs docs
  pub in_order : list ≡ words docs
  pub packed : AreRuns runs list (hits_of docs)
