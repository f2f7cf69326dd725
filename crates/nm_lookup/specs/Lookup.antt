-- The documents that have words. Cited by `documents`, `fields` and `one_word`.
use Rattle.std.specs.Prelude.{◌≡◌, ℕ, ◌+◌, ◌*◌, ◌^◌, ◌≤◌, ◌==◌, Bool, false, Option, None, Some, List, [], ◌∷◌, filter, length, map, if◌then◌else◌}
use Rattle.nm_base.specs.AskedWords.{lists_have}
use Rattle.nm_base.specs.declared.facts.Field.{Field}
use Rattle.nm_blocks.specs.declared.hit.Hit.{Hit}
use Rattle.nm_segment.specs.Docs.{hits_of, words}
use Rattle.nm_segment.specs.declared.doc_words.DocWords.{DocWords}
use Rattle.nm_tiers.specs.declared.tier.Tier.{Tier}

-- the numbers of the documents of which one list of the field, or of any, has the words one after the other, the last by its front where
-- `starts` is set
abbrev pub numbers_having : Option Field → Bool → List (List ℕ) → List DocWords → List ℕ
numbers_having field starts words docs = map (λ d. d.doc) (filter (λ d. lists_have field starts words d.lists) docs)

-- those of them that live
abbrev pub living_having : (ℕ → Bool) → Option Field → Bool → List (List ℕ) → List DocWords → List ℕ
living_having lives field starts words docs = filter lives (numbers_having field starts words docs)

-- ---- one word

-- the document is the last one that was found
abbrev pub is_last : Option ℕ → ℕ → Bool
is_last None doc = false
is_last (Some last) doc = last == doc

-- the documents of hits, but for those that are in the document of the hit before
abbrev pub distinct : Option ℕ → List Hit → List ℕ
distinct last [] = []
distinct last (hit ∷ hits) = if is_last last hit.doc then distinct last hits else hit.doc ∷ distinct (Some hit.doc) hits

-- p probes among n words, where 2^p is at most 2n + 1, and then a step for each hit of the word
abbrev pub WalkSteps : List DocWords → List ℕ → Field → ℕ → ℕ → Type 0
WalkSteps docs word field old new = (p : ℕ) × (new ≡ old + p + length (hits_of docs word field)) × (2 ^ p ≤ 2 * length (words docs) + 1)

-- so many in each tier
abbrev pub WalksSteps : List Tier → List ℕ → Field → ℕ → ℕ → Type 0
WalksSteps [] word field old new = new ≡ old
WalksSteps (tier ∷ tiers) word field old new = (middle : ℕ) × WalkSteps tier.segment word field old middle × WalksSteps tiers word field middle new
