-- The text of an object, by this crate's words and by the library's.
-- For the proofs of `objects_of` and `summaries_json`.
use Rattle.std.proofs.Common.{◌≡◌, ◌≤◌, ℕ, ℤ, pos, negsuc, suc, Bool, true, false, ◌||◌, List, [], ◌∷◌, ◌++◌, map, codes, refl, sym, ap, ap₂, ◌∙◌, ◌+◌, ◌<◌, length, take, get_or, arith, append_assoc}
use Rattle.std.proofs.lemmas.List.{map-append, take_more}
use Rattle.std.specs.Prelude.{max}
use Rattle.std.specs.Fmt.{decimal, signed_decimal}
use Rattle.json.specs.Print.{quoted}
use Rattle.serde_json.specs.Data.{Data, array, depth, items_depth, member, no_members, number, object, string, unsigned, Members}
use Rattle.serde_json.specs.Find.{is_float, of_integer}
use Rattle.serde_json.specs.View.{items_of}
use Rattle.serde_json.specs.Written.{compact_text, has_float, members_text, number_text}
use Rattle.nm_model_answer.specs.Json.{json_array, json_string, joined}
use Rattle.nm_model_answer.specs.Search.{thread_digits}
use Rattle.nm_model_answer.specs.SummaryJson.{json_member, json_object, summary_json, summary_members}
use Rattle.nm_model_answer.specs.declared.summary.ThreadSummary.{ThreadSummary}
use Rattle.nm_render.specs.SummaryData.{summary_data}
use Rattle.nm_render.proofs.JsonLemmas.{array_same, no_depth, no_floats, quoted_same, strings_same}

-- values after their names
abbrev members_of : List (List ℕ × Data) → Members
members_of [] = no_members
members_of (named ∷ more) = member named.0 named.1 (members_of more)

-- and their texts
abbrev texts_of : List (List ℕ × Data) → List (List ℕ × List ℕ)
texts_of named = map (λ m. (m.0, compact_text m.1)) named

member_same : (named : List ℕ × Data) → quoted named.0 ++ 58 ∷ compact_text named.1 ≡ json_member (named.0, compact_text named.1)
member_same named = ap (λ name. name ++ 58 ∷ compact_text named.1) (quoted_same named.0)

later_members : (first : List ℕ × Data) (more : List (List ℕ × Data)) →
    quoted first.0 ++ 58 ∷ (compact_text first.1 ++ members_text true (members_of more)) ≡ joined (44 ∷ []) (map json_member (texts_of (first ∷ more))) ++ 125 ∷ []
later_members first [] =
    sym (append_assoc (quoted first.0) (58 ∷ compact_text first.1) (125 ∷ [])) ∙ ap (λ text. text ++ 125 ∷ []) (member_same first)
later_members first (next ∷ more) =
    sym (append_assoc (quoted first.0) (58 ∷ compact_text first.1) (members_text true (members_of (next ∷ more))))
    ∙ ap₂ (λ text rest. text ++ 44 ∷ rest) (member_same first) (later_members next more)
    ∙ sym (append_assoc (json_member (first.0, compact_text first.1)) (44 ∷ joined (44 ∷ []) (map json_member (texts_of (next ∷ more)))) (125 ∷ []))

object_same : (named : List (List ℕ × Data)) → compact_text (object (members_of named)) ≡ json_object (texts_of named)
object_same [] = refl
object_same (first ∷ more) = ap (λ rest. 123 ∷ rest) (later_members first more)

-- ---- the object of a summary

integer_text : (z : ℤ) → number_text (of_integer z) ≡ signed_decimal z
integer_text (pos n) = refl
integer_text (negsuc n) = refl

integer_whole : (z : ℤ) → is_float (of_integer z) ≡ false
integer_whole (pos n) = refl
integer_whole (negsuc n) = refl

-- the values by their names
abbrev named_data : ThreadSummary → List (List ℕ × Data)
named_data summary =
    (codes "authors", string summary.authors)
    ∷ (codes "files", number (unsigned summary.files))
    ∷ (codes "matched", number (unsigned summary.matched))
    ∷ (codes "subject", string summary.subject)
    ∷ (codes "tags", array (items_of (map string summary.tags)))
    ∷ (codes "thread", string (thread_digits summary.thread))
    ∷ (codes "timestamp", number (of_integer summary.date))
    ∷ (codes "total", number (unsigned summary.total))
    ∷ []

-- the same texts where five of them are the same
abbrev with_texts : ThreadSummary → List ℕ → List ℕ → List ℕ → List ℕ → List ℕ → List (List ℕ × List ℕ)
with_texts summary authors subject tags thread date =
    (codes "authors", authors)
    ∷ (codes "files", decimal summary.files)
    ∷ (codes "matched", decimal summary.matched)
    ∷ (codes "subject", subject)
    ∷ (codes "tags", tags)
    ∷ (codes "thread", thread)
    ∷ (codes "timestamp", date)
    ∷ (codes "total", decimal summary.total)
    ∷ []

members_same : (summary : ThreadSummary) → texts_of (named_data summary) ≡ summary_members summary
members_same summary =
    let with = with_texts summary in
    let authors = quoted summary.authors in
    let subject = quoted summary.subject in
    let tags = compact_text (array (items_of (map string summary.tags))) in
    let thread = quoted (thread_digits summary.thread) in
    let date = number_text (of_integer summary.date) in
    ap (λ text. with text subject tags thread date) (quoted_same summary.authors)
    ∙ ap (λ text. with (json_string summary.authors) text tags thread date) (quoted_same summary.subject)
    ∙ ap (λ text. with (json_string summary.authors) (json_string summary.subject) text thread date) (strings_same summary.tags)
    ∙ ap (λ text. with (json_string summary.authors) (json_string summary.subject) (json_array (map json_string summary.tags)) text date) (quoted_same (thread_digits summary.thread))
    ∙ ap (λ text. with (json_string summary.authors) (json_string summary.subject) (json_array (map json_string summary.tags)) (json_string (thread_digits summary.thread)) text) (integer_text summary.date)

summary_same : (summary : ThreadSummary) → compact_text (summary_data summary) ≡ summary_json summary
summary_same summary = object_same (named_data summary) ∙ ap json_object (members_same summary)

-- ---- an array of summaries

pub summaries_same : (summaries : List ThreadSummary) → compact_text (array (items_of (map summary_data summaries))) ≡ json_array (map summary_json summaries)
summaries_same summaries = array_same (map summary_data summaries) ∙ ap json_array (each summaries) where
  each : (summaries : List ThreadSummary) → map compact_text (map summary_data summaries) ≡ map summary_json summaries
  each [] = refl
  each (summary ∷ more) = ap₂ (λ text texts. text ∷ texts) (summary_same summary) (each more)

summary_whole : (summary : ThreadSummary) → has_float (summary_data summary) ≡ false
summary_whole summary = ap₂ (λ (tags date : Bool). tags || (date || false)) (no_floats summary.tags) (integer_whole summary.date)

pub no_float_within : (summaries : List ThreadSummary) → has_float (array (items_of (map summary_data summaries))) ≡ false
no_float_within [] = refl
no_float_within (summary ∷ more) = ap₂ (λ a b. a || b) (summary_whole summary) (no_float_within more)

summary_depth : (summary : ThreadSummary) → depth (summary_data summary) ≡ 2
summary_depth summary = ap (λ d. suc (max 0 (max 0 (max 0 (max 0 (max (suc d) (max 0 (max 0 (max 0 0))))))))) (no_depth summary.tags)

pub shallow : (summaries : List ThreadSummary) → items_depth (items_of (map summary_data summaries)) ≤ 2
shallow [] = omega arith
shallow (summary ∷ more) = max_fits (depth (summary_data summary)) (items_depth (items_of (map summary_data more))) (omega (arith, summary_depth summary)) (shallow more) where
  max_fits : (a b : ℕ) → a ≤ 2 → b ≤ 2 → max a b ≤ 2
  max_fits a b first second = omega (arith, first, second)

-- ---- an item by two functions, or by one

pub mapped_twice : {X Y Z : Type 0} (f : X → Y) (g : Y → Z) (items : List X) → map g (map f items) ≡ map (λ item. g (f item)) items
mapped_twice f g [] = refl
mapped_twice f g (item ∷ items) = ap (λ rest. g (f item) ∷ rest) (mapped_twice f g items)

pub same_each : {X Y : Type 0} (f g : X → Y) (items : List X) → ((item : X) → f item ≡ g item) → map f items ≡ map g items
same_each f g [] same = refl
same_each f g (item ∷ items) same = ap₂ (λ first rest. first ∷ rest) (same item) (same_each f g items same)

-- an item more, seen by one function as another gives it
pub seen_more : {X Y Z : Type 0} (seen : X → Z) (f : Y → Z) (xs new : List X) (x : X) (ys : List Y) (i : ℕ) (d : Y) → i < length ys → new ≡ xs ++ x ∷ [] → seen x ≡ f (get_or ys i d)
    → map seen xs ≡ map f (take i ys) → map seen new ≡ map f (take (i + 1) ys)
seen_more seen f xs new x ys i d h put same all =
    ap (map seen) put
    ∙ map-append seen xs (x ∷ [])
    ∙ ap₂ (λ front last. front ++ last ∷ []) all same
    ∙ sym (map-append f (take i ys) (get_or ys i d ∷ []))
    ∙ ap (map f) (sym (take_more ys i d h))
