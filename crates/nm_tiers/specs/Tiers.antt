-- Segments in tiers: their documents, how many of those live, and the rule of their sizes. Cited by `tier`, `tier_search`,
-- `settling`, `tiers` and `laws`.
use Rattle.std.specs.Prelude.{◌≡◌, ℕ, ◌+◌, ◌*◌, ◌<◌, ◌≤◌, Bool, false, true, not, ◌&&◌, nat_eq, nat_le, List, [], ◌∷◌, ◌++◌, Some, filter, length, map, slice_get}
use Rattle.std.specs.List.{AllByRecursion, flat_map, list_any}
use Rattle.std.specs.List.Sorted.{IsStrictlySortedBy}
use Rattle.std.specs.Ordering.{nat_cmp}
use Rattle.nm_segment.specs.Docs.{numbers}
use Rattle.nm_segment.specs.declared.doc_words.DocWords.{DocWords}
use Rattle.nm_tiers.specs.declared.tier.Tier.{Tier}

-- the documents of all, tier after tier
abbrev pub docs_of : List Tier → List DocWords
docs_of tiers = flat_map (λ tier. tier.segment) tiers

-- the documents that live
abbrev pub living_docs : (ℕ → Bool) → List DocWords → List DocWords
living_docs lives docs = filter (λ d. lives d.doc) docs

-- a tier says how many of its documents live
abbrev pub IsCounted : (ℕ → Bool) → Tier → Type 0
IsCounted lives tier = tier.live ≡ length (living_docs lives tier.segment)

-- how many documents of each live
abbrev pub sizes_of : List Tier → List ℕ
sizes_of tiers = map (λ tier. tier.live) tiers

-- the size is at least twice the next one, if there is one
abbrev pub IsTwiceNext : ℕ → List ℕ → Type 0
IsTwiceNext size [] = Unit {0}
IsTwiceNext size (next ∷ more) = 2 * next ≤ size

-- no size is 0, and each is at least twice the next
abbrev pub AreSettled : List ℕ → Type 0
AreSettled [] = Unit {0}
AreSettled (size ∷ more) = (0 < size) × IsTwiceNext size more × AreSettled more

-- the sum of sizes
abbrev pub total : List ℕ → ℕ
total [] = 0
total (size ∷ more) = size + total more

-- an older tier is before the others, or merged with the first of them; no document that lives is lost, and the order stays
pub record IsAdded (lives : ℕ → Bool) (tier : Tier) (old new : List Tier) : Type 0 where
  pub docs : living_docs lives (docs_of new) ≡ living_docs lives (tier.segment ++ docs_of old)
  pub counted : AllByRecursion (IsCounted lives) new
  pub settled : AreSettled (sizes_of new)
  pub rising : (front : List DocWords) → IsStrictlySortedBy nat_cmp (numbers (front ++ (tier.segment ++ docs_of old))) → IsStrictlySortedBy nat_cmp (numbers (front ++ docs_of new))

-- ---- one document less

-- the document is one of these
abbrev pub has_doc : List DocWords → ℕ → Bool
has_doc docs doc = list_any (nat_eq doc) (numbers docs)

-- what lives but for this document
abbrev pub but_for : (ℕ → Bool) → ℕ → ℕ → Bool
but_for lives doc other = lives other && not (nat_eq doc other)

-- the first of the documents is this one or comes before it
abbrev pub begins_by : List DocWords → ℕ → Bool
begins_by [] doc = false
begins_by (d ∷ docs) doc = nat_le d.doc doc

-- the tier at this place has the document
pub record HasTier (tiers : List Tier) (doc at : ℕ) : Type 0 where
  pub tier : Tier
  pub there : slice_get tiers at ≡ Some tier
  pub has : has_doc tier.segment doc ≡ true
