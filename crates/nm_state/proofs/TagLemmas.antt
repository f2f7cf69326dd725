-- Tags as they are opened, and as they are taken from file to file.
-- For the proofs of `parts_of` and `tags_by_id`.
use Rattle.std.proofs.Common.{◌≡◌, refl, sym, ap, subst, ◌∙◌, ℕ, Bool, true, false, ◌||◌, not, cond, List, [], ◌∷◌, inl, inr}
use Rattle.std.specs.Cmp.{both_ways}
use Rattle.std.specs.Prelude.{Contains, IsTrue, Option, Some, ◌↔◌}
use Rattle.std.specs.Cmp.Lexicographic.{slice_cmp}
use Rattle.std.specs.List.{AllByRecursion}
use Rattle.std.specs.Map.{keys_of}
use Rattle.std.specs.Option.{is_some}
use Rattle.std.specs.Ordering.{is_eq, nat_cmp}
use Rattle.std.proofs.lemmas.Bool.{cond-true, cond-false}
use Rattle.std.proofs.lemmas.Map.Text.{is_eq-slice_cmp}
use Rattle.std.proofs.lemmas.Option.{none-some, same_Some}
use Rattle.nm_base.specs.Order.{IsSorted, has_text}
use Rattle.nm_base.specs.declared.facts.Facts.{Facts}
use Rattle.nm_commit.specs.Files.{has_id}
use Rattle.nm_tables.specs.FileTable.{at_text}
use Rattle.nm_parts.specs.Parts.{AreTagged}
use Rattle.nm_state.specs.Taken.{TakesFrom}
use Rattle.nm_base.specs.KeyLaws.{Contains_first, Contains_there, all_at, text_other, same_id, other_id, cases_id}

abbrev TagChange : Type 0
TagChange = List (List ℕ × List (List ℕ))

abbrev Arrivals : Type 0
Arrivals = List (List ℕ × Facts)

-- ---- what a map has for an id

found_first : (test : Bool) (set : List (List ℕ)) (rest : Option (List (List ℕ))) (b : Bool) → is_some rest ≡ b → is_some (cond test (Some set) rest) ≡ (test || b)
found_first true set rest b is = refl
found_first false set rest b is = is

-- it has something where the id is among the keys
pub found_is : (tags : TagChange) (id : List ℕ) → is_some (at_text id tags) ≡ has_text (keys_of tags) id
found_is [] id = refl
found_is (e ∷ tags) id =
    found_first (is_eq (slice_cmp nat_cmp id e.0)) e.1 (at_text id tags) (has_text (keys_of tags) id) (found_is tags id) ∙ ap (λ test. test || has_text (keys_of tags) id) (is_eq-slice_cmp id e.0)

first_or : (test : Bool) (e : List ℕ × List (List ℕ)) (tags : TagChange) (rest : Option (List (List ℕ))) (set : List (List ℕ)) → cond test (Some e.1) rest ≡ Some set
    → (rest ≡ Some set → (one : List ℕ × List (List ℕ)) × Contains tags one × (one.1 ≡ set)) → (one : List ℕ × List (List ℕ)) × Contains (e ∷ tags) one × (one.1 ≡ set)
first_or true e tags rest set is more = (e, Contains_first e tags, same_Some e.1 set is)
first_or false e tags rest set is more = let one = more is in (one.0, Contains_there e tags one.0 one.1, one.2)

-- and that is what is beside a key
pub set_among : (tags : TagChange) (id : List ℕ) (set : List (List ℕ)) → at_text id tags ≡ Some set → (one : List ℕ × List (List ℕ)) × Contains tags one × (one.1 ≡ set)
set_among [] id set is = absurd (none-some set is)
set_among (e ∷ tags) id set is = first_or (is_eq (slice_cmp nat_cmp id e.0)) e tags (at_text id tags) set is (set_among tags id set)

-- ---- tags as they are opened

pub opened_tagged : (files : Arrivals) (tags : TagChange) → ((id : List ℕ) → IsTrue (has_text (keys_of tags) id) ↔ IsTrue (has_id files id)) → AllByRecursion (λ tagged. IsSorted tagged.1) tags → AreTagged files tags
opened_tagged files tags live sets = record {
  live = λ id. found_is tags id ∙ both_ways (has_text (keys_of tags) id) (has_id files id) (live id).0 (live id).1;
  sets = λ id set at. let one = set_among tags id set at in subst IsSorted one.2 (all_at (λ (tagged : List ℕ × List (List ℕ)). IsSorted tagged.1) tags sets one.0 one.1);
}

-- ---- tags that are taken from file to file

-- what no file after this one is of
pub taken_more : (tags old new : TagChange) (file : List ℕ × Facts) (rest : Arrivals) → ((id : List ℕ) → has_id (file ∷ rest) id ≡ false → at_text id old ≡ at_text id tags) → TakesFrom tags file.1.id old new
    → (id : List ℕ) → has_id rest id ≡ false → at_text id new ≡ at_text id tags
taken_more tags old new file rest before takes id none = takes id ∙ elim (cases_id id file.1.id) [
  | inl same ↦ cond-true (is_eq (slice_cmp nat_cmp id file.1.id)) (at_text file.1.id tags) (at_text id old) (same_id id file.1.id same) ∙ ap (λ key. at_text key tags) (sym same)
  | inr not ↦ cond-false (is_eq (slice_cmp nat_cmp id file.1.id)) (at_text file.1.id tags) (at_text id old) (other_id id file.1.id not) ∙ before id (ap (λ test. test || has_id rest id) (text_other id file.1.id not) ∙ none)
]
