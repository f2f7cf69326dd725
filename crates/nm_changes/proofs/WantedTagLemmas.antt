-- What is wanted, line by line: a line more, and what it finds comes to the messages found before.
-- For the proofs of `want_line` and `wanted_by`.
use Rattle.std.proofs.Common.{◌≡◌, ℕ, ◌+◌, ◌<◌, ℤ, Bool, true, false, ◌||◌, List, [], ◌∷◌, ◌++◌, filter, length, map, take, get_or, refl, sym, ap, ◌∙◌, subst, Result, Ok, Err}
use Rattle.std.proofs.lemmas.List.{take_more}
use Rattle.std.proofs.lemmas.List.Sums.{fold-append}
use Rattle.std.specs.Map.{values_of}
use Rattle.std.specs.Prelude.{OnOk}
use Rattle.std.proofs.lemmas.Bool.{or_parts}
use Rattle.nm_base.specs.Order.{has_text, same_text}
use Rattle.nm_model_index.specs.Index.{live_ids}
use Rattle.nm_model_index.specs.declared.base.Base.{Base}
use Rattle.nm_model_answer.specs.View.{tags_of}
use Rattle.nm_model_answer.specs.WantedTags.{asked_tags, found_by, line_sets, wanted_after, wanted_by}
use Rattle.nm_model_answer.specs.declared.tag_change.TagChange.{TagChange}
use Rattle.nm_eval.specs.Numbers.{live_at_numbers}
use Rattle.nm_changes.specs.WantedTags.{AreTouched}

abbrev Texts : Type 0
Texts = List (List ℕ)

abbrev Pairs : Type 0
Pairs = List (ℕ × List ℕ)

-- what is wanted after these lines, and which messages they found
pub record InWanting (moment : ℤ) (shown : Base) (lines : List TagChange) (after : Base) (pairs : Pairs) : Type 0 where
  pub after_is : after ≡ wanted_by moment shown lines
  pub among : Texts
  pub pairs_are : pairs ≡ live_at_numbers shown among
  pub others : (id : List ℕ) → has_text among id ≡ false → tags_of after id ≡ tags_of shown id

pub nothing_wanted : ((index : Base) → live_at_numbers index [] ≡ []) → (moment : ℤ) (shown after : Base) (pairs : Pairs) → after ≡ shown → pairs ≡ [] → InWanting moment shown [] after pairs
nothing_wanted law moment shown after pairs same none =
    record { after_is = same; among = []; pairs_are = none ∙ sym (law shown); others = λ id apart. ap (λ (i : Base). tags_of i id) same }

or-step : (a : Bool) (b c d : Bool) → b ≡ (c || d) → (a || b) ≡ ((a || c) || d)
or-step true b c d h = refl
or-step false b c d h = h

has-append : (texts others : Texts) (text : List ℕ) → has_text (texts ++ others) text ≡ (has_text texts text || has_text others text)
has-append [] others text = refl
has-append (first ∷ texts) others text = or-step (same_text text first) _ (has_text texts text) (has_text others text) (has-append texts others text)

module _ (others : (moment : ℤ) (index : Base) (line : TagChange) (id : List ℕ) → has_text (found_by moment index line) id ≡ false → tags_of (wanted_after moment index line) id ≡ tags_of index id)
    (rest : (moment : ℤ) (index : Base) (lines : List TagChange) → wanted_by moment index lines ≡ record index { tags = (wanted_by moment index lines).tags }) where
  -- all but tags is that of the index
  same_but_tags : (moment : ℤ) (shown : Base) (lines : List TagChange) (after : Base) (pairs : Pairs) → InWanting moment shown lines after pairs → after ≡ record shown { tags = after.tags }
  same_but_tags moment shown lines after pairs h =
      h.after_is ∙ (rest moment shown lines ∙ ap (λ (i : Base). record shown { tags = i.tags }) (sym h.after_is))

  same_numbers : (moment : ℤ) (shown : Base) (lines : List TagChange) (after : Base) (pairs : Pairs) → InWanting moment shown lines after pairs → (ids : Texts) → live_at_numbers after ids ≡ live_at_numbers shown ids
  same_numbers moment shown lines after pairs h ids = ap (λ (i : Base). live_at_numbers i ids) (same_but_tags moment shown lines after pairs h)

  next_wanted : (moment : ℤ) (shown : Base) (lines : List TagChange) (before : Base) (pairs : Pairs) (line : TagChange) (after : Base) (more : Pairs) → InWanting moment shown lines before pairs
      → after ≡ wanted_after moment before line → ((ids : Texts) → pairs ≡ live_at_numbers before ids → more ≡ live_at_numbers before (ids ++ found_by moment before line)) → InWanting moment shown (lines ++ line ∷ []) after more
  next_wanted moment shown lines before pairs line after more h is put =
      let found : Texts = found_by moment before line in
      record {
        after_is = is ∙ (ap (λ (i : Base). wanted_after moment i line) h.after_is ∙ sym (fold-append (wanted_after moment) shown lines (line ∷ [])));
        among = h.among ++ found;
        pairs_are = put h.among (h.pairs_are ∙ sym (same_numbers moment shown lines before pairs h h.among)) ∙ same_numbers moment shown lines before pairs h (h.among ++ found);
        others = λ id apart. let none = or_parts (has_text h.among id) (has_text found id) (sym (has-append h.among found id) ∙ apart) in
            ap (λ (i : Base). tags_of i id) is ∙ (others moment before line id none.1 ∙ h.others id none.0);
      }

  pub line_more : (moment passed : ℤ) (shown : Base) (lines : List TagChange) (i : ℕ) (before : Base) (pairs : Pairs) (line : TagChange) (after : Base) (more : Pairs) → passed ≡ moment → i < length lines → line ≡ get_or lines i line
      → InWanting moment shown (take i lines) before pairs → after ≡ wanted_after passed before line
      → ((ids : Texts) → pairs ≡ live_at_numbers before ids → more ≡ live_at_numbers before (ids ++ found_by passed before line)) → InWanting moment shown (take (i + 1) lines) after more
  line_more moment passed shown lines i before pairs line after more same within item h is put =
      let front : take (i + 1) lines ≡ take i lines ++ line ∷ [] = take_more lines i line within ∙ ap (λ (l : TagChange). take i lines ++ l ∷ []) (sym item) in
      subst (λ (l : List TagChange). InWanting moment shown l after more) (sym front)
      (next_wanted moment shown (take i lines) before pairs line after more h (is ∙ ap (λ (m : ℤ). wanted_after m before line) same)
      (λ ids so_far. put ids so_far ∙ ap (λ (m : ℤ). live_at_numbers before (ids ++ found_by m before line)) same))

-- and so these are the messages that may have other tags
pub all_touched : ((index : Base) (ids : Texts) → values_of (live_at_numbers index ids) ≡ filter (has_text ids) (live_ids index.files index.entries))
    → (moment : ℤ) (shown : Base) (lines : List TagChange) (after : Base) (pairs : Pairs) (ids : Texts) → InWanting moment shown lines after pairs → ids ≡ values_of pairs → AreTouched shown after ids
all_touched law moment shown lines after pairs ids h are = record { among = h.among; ids_are = are ∙ (ap values_of h.pairs_are ∙ law shown h.among); others = h.others }

-- what a line finds, with the tags that are then wanted
pub sets_are : (moment passed : ℤ) (before : Base) (line : TagChange) (found seen : Texts) (sets : List (List ℕ × Texts)) → passed ≡ moment → found ≡ found_by passed before line → seen ≡ found
    → sets ≡ map (λ id. (id, asked_tags line (tags_of before id))) seen → sets ≡ line_sets moment before line
sets_are moment passed before line found seen sets same is as_found are =
    are ∙ ap (λ (l : Texts). map {A = List ℕ} {B = List ℕ × Texts} (λ id. (id, asked_tags line (tags_of before id))) l) (as_found ∙ (is ∙ ap (λ (m : ℤ). found_by m before line) same))

-- what holds holds where the answer is a value
pub always : {T E P : Type 0} (result : Result T E) → P → OnOk result P
always (Ok value) h = h
always (Err error) h = tt
