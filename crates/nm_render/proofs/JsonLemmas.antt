-- The text of a value, by this crate's words and by the library's. For the proof of `strings_json`.
use Rattle.std.proofs.Common.{◌≡◌, ℕ, true, false, List, [], ◌∷◌, ◌++◌, map, refl, sym, ap, ◌∙◌, append_assoc}
use Rattle.std.specs.Prelude.{max}
use Rattle.std.specs.List.{flat_map}
use Rattle.json.specs.Print.{escape_byte, quoted}
use Rattle.serde_json.specs.Data.{Data, array, items_depth, string}
use Rattle.serde_json.specs.View.{items_of}
use Rattle.serde_json.specs.Written.{compact_text, items_have_float, items_text}
use Rattle.nm_model_answer.specs.Json.{escaped, json_array, json_string, joined}

byte_same : (byte : ℕ) → escape_byte byte ≡ escaped byte
unfolding escape_byte
byte_same byte = refl

escape_same : (text : List ℕ) → flat_map escape_byte text ≡ flat_map escaped text
escape_same [] = refl
escape_same (byte ∷ text) = ap (λ front. front ++ flat_map escape_byte text) (byte_same byte) ∙ ap (λ rest. escaped byte ++ rest) (escape_same text)

pub quoted_same : (text : List ℕ) → quoted text ≡ json_string text
quoted_same text = ap (λ inside. 34 ∷ (inside ++ 34 ∷ [])) (escape_same text)

-- what comes after the first value
after_first : (values : List Data) → List ℕ
after_first values = items_text true (items_of values)

later_items : (value : Data) (values : List Data) → compact_text value ++ items_text true (items_of values) ≡ joined (44 ∷ []) (map compact_text (value ∷ values)) ++ 93 ∷ []
later_items value [] = refl
later_items value (next ∷ values) =
    ap (λ rest. compact_text value ++ 44 ∷ rest) (later_items next values)
    ∙ sym (append_assoc (compact_text value) (44 ∷ joined (44 ∷ []) (map compact_text (next ∷ values))) (93 ∷ []))

pub array_same : (values : List Data) → compact_text (array (items_of values)) ≡ json_array (map compact_text values)
array_same [] = refl
array_same (value ∷ values) = ap (λ rest. 91 ∷ rest) (later_items value values)

-- ---- an array of strings

pub strings_same : (texts : List (List ℕ)) → compact_text (array (items_of (map string texts))) ≡ json_array (map json_string texts)
strings_same texts = array_same (map string texts) ∙ ap json_array (each texts) where
  each : (texts : List (List ℕ)) → map compact_text (map string texts) ≡ map json_string texts
  each [] = refl
  each (text ∷ texts) = ap (λ first. first ∷ map compact_text (map string texts)) (quoted_same text) ∙ ap (λ rest. json_string text ∷ rest) (each texts)

pub no_floats : (texts : List (List ℕ)) → items_have_float (items_of (map string texts)) ≡ false
no_floats [] = refl
no_floats (text ∷ texts) = no_floats texts

pub no_depth : (texts : List (List ℕ)) → items_depth (items_of (map string texts)) ≡ 0
no_depth [] = refl
no_depth (text ∷ texts) = ap (max 0) (no_depth texts)
