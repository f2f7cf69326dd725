-- Where words end that come one after the other, and the hits that go on from there. Cited by `follow`, `ends`, `front`
-- and `laws`.
use Rattle.std.specs.Prelude.{◌≡◌, ◌≢◌, ◌↔◌, ℕ, ◌+◌, Bool, true, false, ◌&&◌, ◌==◌, Option, Some, None, List, [], ◌∷◌, ◌++◌, drop, length, slice_get, if◌then◌else◌}
use Rattle.std.specs.List.{Contains, filter, list_any}
use Rattle.nm_base.specs.declared.facts.Field.{Field}
use Rattle.nm_base.specs.declared.facts.FieldWords.{FieldWords}
use Rattle.nm_blocks.specs.Hits.{is_before, is_rising}
use Rattle.nm_blocks.specs.declared.hit.Hit.{Hit}
use Rattle.nm_segment.specs.Docs.{lists_of}
use Rattle.nm_segment.specs.declared.doc_words.DocWords.{DocWords}
use Rattle.nm_base.specs.AskedWords.{begins_with}

-- a document has a list of the field in which the words come one after the other, the last of them at this hit
pub record EndsAt (docs : List DocWords) (field : Field) (starts : Bool) (words : List (List ℕ)) (hit : Hit) : Type 0 where
  pub list : FieldWords
  pub there : slice_get (lists_of docs hit.doc) hit.list ≡ Some list
  pub of_field : list.field ≡ field
  pub start : ℕ
  pub place : start + length words ≡ hit.place + 1
  pub stand : begins_with starts words (drop start list.words) ≡ true

-- all hits at which the words end, in order
pub record AreEnds (docs : List DocWords) (field : Field) (words : List (List ℕ)) (ends : List Hit) : Type 0 where
  pub some : words ≢ []
  pub rising : is_rising ends ≡ true
  pub each : (hit : Hit) → Contains ends hit ↔ EndsAt docs field false words hit

-- the same, or no hits where there are no words
abbrev pub AreEndsIfAny : List DocWords → Field → List (List ℕ) → Option (List Hit) → Type 0
AreEndsIfAny docs field words None = words ≡ []
AreEndsIfAny docs field words (Some ends) = AreEnds docs field words ends

-- the words are the last one and those before it, which end there
pub record IsFront (docs : List DocWords) (field : Field) (words : List (List ℕ)) (ends : Option (List Hit)) (last : List ℕ) : Type 0 where
  pub front : List (List ℕ)
  pub words_are : words ≡ front ++ last ∷ []
  pub ends_are : AreEndsIfAny docs field front ends

-- ---- from an end to the next word

-- the place after the end comes before the hit
abbrev pub ends_before : Hit → Hit → Bool
ends_before hit end = is_before (record end { place = end.place + 1 }) hit

-- the hit is at the place after the end
abbrev pub is_next : Hit → Hit → Bool
is_next hit end = end.doc == hit.doc && (end.list == hit.list && end.place + 1 == hit.place)

-- the hit is right after one of the ends
abbrev pub follows : List Hit → Hit → Bool
follows ends hit = list_any (is_next hit) ends

-- the hits that are right after the words before, where there are any
abbrev pub narrowed : Option (List Hit) → List Hit → List Hit
narrowed None hits = hits
narrowed (Some ends) hits = filter (follows ends) hits

-- the ends are in order, if there are any
abbrev pub are_rising : Option (List Hit) → Bool
are_rising None = true
are_rising (Some ends) = is_rising ends

-- the ends without those in front after which the hit comes later
abbrev pub drop_before : Hit → List Hit → List Hit
drop_before hit [] = []
drop_before hit (end ∷ ends) = if ends_before hit end then drop_before hit ends else end ∷ ends

-- there is an end, and the place after it comes before the hit
abbrev pub is_end_before : Hit → Option Hit → Bool
is_end_before hit None = false
is_end_before hit (Some end) = ends_before hit end

-- the same of the end at a place
abbrev pub is_before_at : Hit → List Hit → ℕ → Bool
is_before_at hit ends at = is_end_before hit (slice_get ends at)

-- the hit is right after the first of the ends
abbrev pub first_is_before : Hit → List Hit → Bool
first_is_before hit [] = false
first_is_before hit (end ∷ ends) = is_next hit end
