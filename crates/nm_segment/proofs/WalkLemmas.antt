-- The words of two parts are gone over, and those that have a hit are kept with their runs. For the proofs of
-- `merged_index` and `merged_segment`.
use Rattle.std.proofs.Common.{◌≡◌, ℕ, ◌+◌, ◌-◌, ◌<◌, ◌≤◌, Bool, true, false, cond, ◌||◌, Option, None, Some, List, [], ◌∷◌, ◌++◌, filter, length, refl, sym, ap, subst, ◌∙◌, append-nil, arith}
use Rattle.std.proofs.lemmas.List.{map-append}
use Rattle.std.proofs.lemmas.List.Elements.{filter-append}
use Rattle.std.proofs.lemmas.List.Folds.{list_any-append}
use Rattle.std.proofs.lemmas.Option.{slice_get_within}
use Rattle.std.specs.List.Sorted.{IsStrictlySortedBy}
use Rattle.std.specs.Ordering.{nat_cmp}
use Rattle.nm_base.specs.Order.{IsSorted, has_text, same_text, sorted}
use Rattle.nm_base.specs.SetLaws.{has_text-sorted}
use Rattle.nm_segment.specs.declared.doc_words.DocWords.{DocWords}
use Rattle.nm_segment.specs.declared.merged_index.Next.{Next}
use Rattle.nm_segment.specs.Docs.{AreDocs, Occurrence, hits_of, numbers, occurrences, texts, words}
use Rattle.nm_segment.specs.Segment.{IsIndexed}
use Rattle.nm_segment.specs.Merge.{IsFirst, IsNext, IsPlace, IsSomewhere, IsWithin, after_place, docs_by, living}
use Rattle.nm_segment.specs.Runs.{AddsWord, AreRuns}
use Rattle.nm_segment.proofs.HitsInLemmas.{occurrences-append, words_sorted}
use Rattle.nm_segment.proofs.LiveLemmas.{absent_part, docs_joined, merged_docs}
use Rattle.nm_segment.proofs.MergeLemmas.{AreBelow, all_kept, back-more, front-more, met, met-more, nothing_met}
use Rattle.nm_segment.proofs.RunsLemmas.{no_runs, runs_more}

-- of the words that were met those that the documents have are there, with their runs
pub record HasMerged (front : List (List ℕ)) (at : ℕ) (back : List (List ℕ)) (other : ℕ) (docs : List DocWords) (list runs : List (List ℕ)) : Type 0 where
  pub kept : list ≡ filter (has_text (words docs)) (sorted (met front at back other))
  pub in_front : AreBelow (met front at back other) front at
  pub in_back : AreBelow (met front at back other) back other
  pub packed : AreRuns runs list (hits_of docs)

pub nothing_merged : (front back : List (List ℕ)) (docs : List DocWords) → HasMerged front 0 back 0 docs [] []
nothing_merged front back docs = record { kept = refl; in_front = nothing_met front 0; in_back = nothing_met back 0; packed = no_runs (hits_of docs) }

-- what two lists of documents have
pub words-joined : (docs more : List DocWords) (word : List ℕ) → has_text (words (docs ++ more)) word ≡ (has_text (words docs) word || has_text (words more) word)
words-joined docs more word =
    has_text-sorted (texts (occurrences (docs ++ more))) word
    ∙ (ap (λ (found : List Occurrence). has_text (texts found) word) (occurrences-append docs more)
    ∙ (ap (λ (ws : List (List ℕ)). has_text ws word) (map-append (λ (o : Occurrence). o.word) (occurrences docs) (occurrences more))
    ∙ (list_any-append (same_text word) (texts (occurrences docs)) (texts (occurrences more))
    ∙ (ap (λ b. b || has_text (texts (occurrences more)) word) (sym (has_text-sorted (texts (occurrences docs)) word)) ∙ ap (λ b. has_text (words docs) word || b) (sym (has_text-sorted (texts (occurrences more)) word))))))

-- the same as a call finds it
pub next_of : (front : List (List ℕ)) (at : ℕ) (back : List (List ℕ)) (other : ℕ) (first second : List (List ℕ)) (next : Next) → front ≡ first → back ≡ second → IsNext front at back other next → IsNext first at second other next
next_of front at back other first second next e f is = rw (sym e, sym f) is

-- a place that is reported is within the words
pub within : (words : List (List ℕ)) (word : List ℕ) (place : Option ℕ) → IsPlace words word place → IsWithin words place
within words word None is = tt
within words word (Some at) is = slice_get_within words at word is

module _ (front : List (List ℕ)) (at : ℕ) (back : List (List ℕ)) (other : ℕ) (docs : List DocWords) (list runs : List (List ℕ)) (next : Next) (h : HasMerged front at back other docs list runs) (is : IsNext front at back other next)
    (first : IsSorted front) (second : IsSorted back) where
  more : (b : Bool) → has_text (words docs) next.word.now ≡ b → filter (has_text (words docs)) (sorted (met front (after_place at next.front) back (after_place other next.back))) ≡ list ++ cond b (next.word.now ∷ []) []
  more b e =
      ap (filter (has_text (words docs))) (met-more front at back other next is h.in_front h.in_back)
      ∙ (filter-append (has_text (words docs)) (sorted (met front at back other)) (next.word.now ∷ [])
      ∙ (ap (λ (xs : List (List ℕ)). xs ++ cond (has_text (words docs) next.word.now) (next.word.now ∷ []) []) (sym h.kept) ∙ ap (λ c. list ++ cond c (next.word.now ∷ []) []) e))

  module _ (i j : ℕ) (rest : (let pair : ℕ × ℕ = (i, j) in pair) ≡ next.rest) where
    at_is : i ≡ after_place at next.front
    at_is = ap (λ (p : ℕ × ℕ). p.0) (rest ∙ is.rest)

    other_is : j ≡ after_place other next.back
    other_is = ap (λ (p : ℕ × ℕ). p.1) (rest ∙ is.rest)

    stepped : (b : Bool) (list_then runs_then : List (List ℕ)) → has_text (words docs) next.word.now ≡ b → AddsWord b (list, runs) (list_then, runs_then) next.word.now (hits_of docs next.word.now) → HasMerged front i back j docs list_then runs_then
    stepped true list_then runs_then has adds = rw (at_is, other_is, adds.0) (record {
      kept = sym (more true has);
      in_front = front-more front at back other next is h.in_front h.in_back first;
      in_back = back-more front at back other next is h.in_front h.in_back second;
      packed = runs_more runs runs_then list next.word.now (hits_of docs) h.packed adds.1;
    })
    stepped false list_then runs_then lacks adds = rw (at_is, other_is, adds.0, adds.1) (record {
      kept = sym (more false lacks ∙ append-nil list);
      in_front = front-more front at back other next is h.in_front h.in_back first;
      in_back = back-more front at back other next is h.in_front h.in_back second;
      packed = h.packed;
    })

    -- a word that the documents have is added with its runs, and one that they lack is passed over
    pub word_met : (list_then runs_then : List (List ℕ)) → AddsWord (has_text (words docs) next.word.now) (list, runs) (list_then, runs_then) next.word.now (hits_of docs next.word.now) → HasMerged front i back j docs list_then runs_then
    word_met list_then runs_then adds = stepped (has_text (words docs) next.word.now) list_then runs_then refl adds

  smaller_by : (a b : Option ℕ) → IsFirst front at next.word.now a → IsFirst back other next.word.now b → IsSomewhere a b → (length front - after_place at a) + (length back - after_place other b) < (length front - at) + (length back - other)
  smaller_by None None p q here = absurd (cc)
  smaller_by None (Some k) p q here = (let l = slice_get_within back other next.word.now q.1 in omega (arith, l))
  smaller_by (Some k) None p q here = (let l = slice_get_within front at next.word.now p.1 in omega (arith, l))
  smaller_by (Some k) (Some n) p q here = (let l = slice_get_within front at next.word.now p.1 in let m = slice_get_within back other next.word.now q.1 in omega (arith, l, m))

  -- less is still to come
  pub smaller : (i j : ℕ) → (let pair : ℕ × ℕ = (i, j) in pair) ≡ next.rest → (length front - i) + (length back - j) < (length front - at) + (length back - other)
  smaller i j rest = rw (at_is i j rest, other_is i j rest) (smaller_by next.front next.back is.in_front is.in_back is.somewhere)

-- documents have no words but those of the segments
there_by : (docs : List DocWords) (live : Option (List ℕ)) (t : List ℕ) (b : Bool) → has_text (words docs) t ≡ b → has_text (words (docs_by docs live)) t ≡ true → b ≡ true
there_by docs live t true e has = refl
there_by docs live t false e has = absent_part docs live t e ∙ has

or_end : (c : Bool) → (c || true) ≡ true
or_end true = refl
or_end false = refl

or_both : (a b c d : Bool) → (a ≡ true → c ≡ true) → (b ≡ true → d ≡ true) → (a || b) ≡ true → (c || d) ≡ true
or_both true b c d f g h = rw (f refl) refl
or_both false b c d f g h = rw (g h) (or_end c)

-- in the end the words are those of the documents
pub all_merged : (front back : List DocWords) (live lives : Option (List ℕ)) (at other : ℕ) (list runs : List (List ℕ)) → length (words front) ≤ at → length (words back) ≤ other → HasMerged (words front) at (words back) other (docs_by front live ++ docs_by back lives) list runs
    → list ≡ words (docs_by front live ++ docs_by back lives)
all_merged front back live lives at other list runs done finished h =
    h.kept ∙ all_kept (words front) at (words back) other (words (docs_by front live ++ docs_by back lives)) done finished (words_sorted (docs_by front live ++ docs_by back lives))
    (λ t has. or_both (has_text (words (docs_by front live)) t) (has_text (words (docs_by back lives)) t) (has_text (words front) t) (has_text (words back) t) (there_by front live t (has_text (words front) t) refl)
    (there_by back lives t (has_text (words back) t) refl) (sym (words-joined (docs_by front live) (docs_by back lives) t) ∙ has))

-- the words and the runs of two parts are the index of their documents
pub indexed : (docs first second : List DocWords) (list runs : List (List ℕ)) → AreDocs docs → first ++ second ≡ docs → list ≡ words (first ++ second) → AreRuns runs list (hits_of (first ++ second)) → IsIndexed docs list runs
indexed docs first second list runs are same in_order packed = record {
  given = are;
  in_order = in_order ∙ ap words same;
  packed = subst (λ (ds : List DocWords). AreRuns runs list (hits_of ds)) same packed;
}

-- of those that live
pub merged : (live : List ℕ) (front back docs : List DocWords) (list runs : List (List ℕ)) (first second : List DocWords) → IsStrictlySortedBy nat_cmp (numbers (front ++ back)) → AreDocs front → AreDocs back → docs ≡ living live front ++ living live back
    → first ≡ living live front → second ≡ living live back → list ≡ words (first ++ second) → AreRuns runs list (hits_of (first ++ second)) → IsIndexed docs list runs
merged live front back docs list runs first second rising p q all one other =
    indexed docs first second list runs (subst AreDocs (sym all) (merged_docs live front back rising p q))
    (ap (λ (ds : List DocWords). ds ++ second) one ∙ (ap (λ (ds : List DocWords). living live front ++ ds) other ∙ sym all))

-- and of all
pub joined : (front back docs : List DocWords) (list runs : List (List ℕ)) (first second : List DocWords) → IsStrictlySortedBy nat_cmp (numbers (front ++ back)) → AreDocs front → AreDocs back → docs ≡ front ++ back → first ≡ front → second ≡ back
    → list ≡ words (first ++ second) → AreRuns runs list (hits_of (first ++ second)) → IsIndexed docs list runs
joined front back docs list runs first second rising p q all one other =
    indexed docs first second list runs (subst AreDocs (sym all) (docs_joined front back rising p q)) (ap (λ (ds : List DocWords). ds ++ second) one ∙ (ap (λ (ds : List DocWords). front ++ ds) other ∙ sym all))
