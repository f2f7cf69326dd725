-- What the words and the runs of a segment say of its documents. For the proofs of `segment`.
use Rattle.std.proofs.Common.{◌≡◌, ℕ, ◌<◌, false, Some, List, [], length, get_or, slice_get, sym, ap, subst, ◌∙◌, arith}
use Rattle.std.proofs.lemmas.Option.{get_or_from_slice_get, slice_get_within}
use Rattle.nm_base.specs.Order.{has_text}
use Rattle.nm_base.specs.SetLaws.{has_text-sorted}
use Rattle.nm_base.specs.declared.facts.Field.{Field}
use Rattle.nm_blocks.specs.Blocks.{IsRun}
use Rattle.nm_segment.specs.declared.doc_words.DocWords.{DocWords}
use Rattle.nm_segment.specs.Docs.{hits_of, occurrences, texts}
use Rattle.nm_segment.specs.Runs.{row_at}
use Rattle.nm_segment.specs.Segment.{IsIndexed}
use Rattle.nm_segment.proofs.HitsInLemmas.{few_fields, no_hits_in}

-- a word that is found has its run
pub found_run : (docs : List DocWords) (list runs : List (List ℕ)) (word : List ℕ) (field : Field) (at i : ℕ) → IsIndexed docs list runs → slice_get list at ≡ Some word → i ≡ row_at at field
    → (i < length runs) × IsRun (get_or runs i []) (hits_of docs word field)
found_run docs list runs word field at i h here e =
    let less = slice_get_within list at word here in
    rw e (
      omega (arith, h.packed.count, less, few_fields field),
      subst (λ (w : List ℕ). IsRun (get_or runs (row_at at field) []) (hits_of docs w field)) (get_or_from_slice_get list at word [] here) (h.packed.each at field less),
    )

-- a word that is not there has no hits
pub no_hits_of : (docs : List DocWords) (list runs : List (List ℕ)) (word : List ℕ) (field : Field) → IsIndexed docs list runs → has_text list word ≡ false → hits_of docs word field ≡ []
no_hits_of docs list runs word field h none =
    no_hits_in (occurrences docs) word field (sym (has_text-sorted (texts (occurrences docs)) word) ∙ (ap (λ (ws : List (List ℕ)). has_text ws word) (sym h.in_order) ∙ none))
