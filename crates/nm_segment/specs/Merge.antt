-- Two segments as one: which documents and hits live, and how two lists of words are gone over. Cited by `live_docs`, `part`,
-- `merged_index` and `merged_segment`.
use Rattle.std.specs.Prelude.{◌≡◌, ℕ, ◌+◌, ◌<◌, Bool, nat_eq, Option, None, Some, MatchOption, IsSome, List, [], filter, length, slice_get, slice_index_or, false}
use Rattle.std.specs.Cmp.Lexicographic.{slice_cmp}
use Rattle.std.specs.List.{list_any}
use Rattle.std.specs.Option.{option_map}
use Rattle.std.specs.Ordering.{nat_cmp}
use Rattle.std.specs.declared.cmp.Ordering.TheVariants.{Less}
use Rattle.nm_base.specs.Order.{has_text}
use Rattle.nm_blocks.specs.declared.hit.Hit.{Hit}
use Rattle.nm_segment.specs.declared.doc_words.DocWords.{DocWords}
use Rattle.nm_segment.specs.declared.merged_index.Next.{Next}
use Rattle.nm_segment.specs.declared.part.Part.{Part}

-- the number is one of these
abbrev pub lives : List ℕ → ℕ → Bool
lives live doc = list_any (nat_eq doc) live

-- the documents that live
abbrev pub living : List ℕ → List DocWords → List DocWords
living live docs = filter (λ d. lives live d.doc) docs

-- the hits in documents that live
abbrev pub living_hits : List ℕ → List Hit → List Hit
living_hits live hits = filter (λ hit. lives live hit.doc) hits

-- the documents that live, where it is told which do
abbrev pub docs_by : List DocWords → Option (List ℕ) → List DocWords
docs_by docs None = docs
docs_by docs (Some live) = living live docs

-- the documents of a part: those that live, or all where all do
abbrev pub docs_of_part : Part → List DocWords
docs_of_part part = docs_by part.segment.now (option_map (λ live. live.now) part.live)

-- the place, if there is one, is that of a word
abbrev pub IsWithin : List (List ℕ) → Option ℕ → Type 0
IsWithin words place = MatchOption place (Unit {0}) (λ at. at < length words)

-- the place is that of the word, and there is none where the word is not there
abbrev pub IsPlace : List (List ℕ) → List ℕ → Option ℕ → Type 0
IsPlace words word place = MatchOption place (has_text words word ≡ false) (λ at. slice_get words at ≡ Some word)

-- where to go on after a word
abbrev pub after_place : ℕ → Option ℕ → ℕ
after_place at None = at
after_place at (Some place) = at + 1

-- of the words from a place on the first is this one, where it has a place, and else they are above it
abbrev pub IsFirst : List (List ℕ) → ℕ → List ℕ → Option ℕ → Type 0
IsFirst words from word place = MatchOption place (from < length words → slice_cmp nat_cmp word (slice_index_or words from []) ≡ Less) (λ at. (at ≡ from) × (slice_get words from ≡ Some word))

-- one of the places is there
abbrev pub IsSomewhere : Option ℕ → Option ℕ → Type 0
IsSomewhere None back = IsSome back
IsSomewhere (Some at) back = Unit {0}

-- the first of the words from a place on in two lists
pub record IsNext (front : List (List ℕ)) (at : ℕ) (back : List (List ℕ)) (other : ℕ) (next : Next) : Type 0 where
  pub in_front : IsFirst front at next.word.now next.front
  pub in_back : IsFirst back other next.word.now next.back
  pub somewhere : IsSomewhere next.front next.back
  pub rest : next.rest ≡ (after_place at next.front, after_place other next.back)
