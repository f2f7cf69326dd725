-- When lists have words: one single list of the field has them one after the other, the last whole or by its front.
-- Cited by the definition of what a query finds in `nm_model_answer`, and by the one of what a segment finds in `nm_phrase`.
use Rattle.std.specs.Prelude.{ℕ, Bool, true, false, ◌&&◌, ◌||◌, ◌==◌, List, [], ◌∷◌, Option, Some, None, nat_eq, if◌then◌else◌}
use Rattle.std.specs.List.{list_any, starts_with}
use Rattle.nm_base.specs.FieldNumber.{field_number}
use Rattle.nm_base.specs.Order.{same_text}
use Rattle.nm_base.specs.declared.facts.Field.{Field}
use Rattle.nm_base.specs.declared.facts.FieldWords.{FieldWords}

-- the word found is the last one that is asked, or begins with it where `starts` is set
abbrev pub is_last_word : Bool → List ℕ → List ℕ → Bool
is_last_word starts word found = if starts then starts_with nat_eq found word else same_text word found

-- the list begins with the words
abbrev pub begins_with : Bool → List (List ℕ) → List (List ℕ) → Bool
begins_with starts [] list = true
begins_with starts (word ∷ words) [] = false
begins_with starts (word ∷ []) (found ∷ list) = is_last_word starts word found
begins_with starts (word ∷ next ∷ words) (found ∷ list) = same_text word found && begins_with starts (next ∷ words) list

-- the list has the words one after the other, from some place on
abbrev pub has_words : Bool → List (List ℕ) → List (List ℕ) → Bool
has_words starts words [] = begins_with starts words []
has_words starts words (found ∷ list) = begins_with starts words (found ∷ list) || has_words starts words list

-- the field is the one that is asked; where none is named, each of the five is
abbrev pub is_asked : Option Field → Field → Bool
is_asked None field = true
is_asked (Some asked) field = field_number asked == field_number field

-- one list of the field has the words
abbrev pub lists_have : Option Field → Bool → List (List ℕ) → List FieldWords → Bool
lists_have field starts words lists = list_any (λ list. is_asked field list.field && has_words starts words list.words) lists
