-- The first text of a name is that of its first field, whether all fields of the name count or one.
-- For the proof of `first_text`.
use Rattle.std.proofs.Common.{◌≡◌, ℕ, true, false, cond, List, [], ◌∷◌, Option, Some, None, map, filter, refl, ap, ◌∙◌}
use Rattle.std.specs.Prelude.{find, slice_get, unwrap_or}
use Rattle.std.specs.Option.{option_map, option_to_list}
use Rattle.nm_header.specs.Texts.{counts_all, field_text, is_named, text_in}
use Rattle.nm_header.specs.declared.header.HeaderField.{HeaderField}

first_of_all : (fields : List HeaderField) (name : List ℕ) → unwrap_or (slice_get (map text_in (filter (is_named name) fields)) 0) [] ≡ unwrap_or (option_map text_in (find (is_named name) fields)) []
first_of_all [] name = refl
first_of_all (field ∷ fields) name =
    elim (is_named name field) as (λ v. unwrap_or (slice_get (map text_in (cond v (field ∷ filter (is_named name) fields) (filter (is_named name) fields))) 0) [] ≡ unwrap_or (option_map text_in (cond v (Some field) (find (is_named name) fields))) []) [
      | true ↦ refl
      | false ↦ first_of_all fields name
    ]

first_of_one : (text : Option (List ℕ)) → unwrap_or (slice_get (option_to_list text) 0) [] ≡ unwrap_or text []
first_of_one None = refl
first_of_one (Some text) = refl

first_is : (fields : List HeaderField) (name : List ℕ) → field_text fields name ≡ unwrap_or (option_map text_in (find (is_named name) fields)) []
first_is fields name =
    elim (counts_all name) as (λ v. unwrap_or (slice_get (cond v (map text_in (filter (is_named name) fields)) (option_to_list (option_map text_in (find (is_named name) fields)))) 0) [] ≡ unwrap_or (option_map text_in (find (is_named name) fields)) []) [
      | true ↦ first_of_all fields name
      | false ↦ first_of_one (option_map text_in (find (is_named name) fields))
    ]

pub first_some : (fields : List HeaderField) (name : List ℕ) (field : HeaderField) → find (is_named name) fields ≡ Some field → field_text fields name ≡ text_in field
first_some fields name field e = first_is fields name ∙ ap (λ one. unwrap_or (option_map text_in one) []) e

pub first_none : (fields : List HeaderField) (name : List ℕ) → find (is_named name) fields ≡ None → field_text fields name ≡ []
first_none fields name e = first_is fields name ∙ ap (λ one. unwrap_or (option_map text_in one) []) e
