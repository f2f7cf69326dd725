-- What a restore comes to: line by line, each message has what the lines so far say of it.
-- For the proof of `a_restore_sets_the_tags_of_each_message`.
use Rattle.std.proofs.Common.{◌≡◌, ℕ, ℤ, Bool, true, false, not, ◌||◌, ◌&&◌, cond, List, [], ◌∷◌, filter, fold, map, refl, sym, ap, ◌∙◌, IsTrue}
use Rattle.std.proofs.Math.Bool.{and-false, and-true}
use Rattle.std.proofs.lemmas.Bool.{or_parts}
use Rattle.std.specs.Cmp.Lexicographic as lexicographic
use Rattle.std.specs.Cmp.Lexicographic.{nat_list_eq_equiv}
use Rattle.nm_model_answer.specs.Matches.{is_match}
use Rattle.nm_model_answer.specs.Restore.{restoring_of, restorings_by, with_firsts}
use Rattle.nm_model_answer.specs.WantedTags.{asked_tags, found_by, is_found, wanted_after, wanted_by}
use Rattle.nm_model_answer.specs.Test.{node_passes, passes}
use Rattle.nm_model_answer.specs.View.{View, tags_of, view_of}
use Rattle.nm_model_answer.specs.declared.tag_change.TagChange.{TagChange}
use Rattle.nm_base.specs.Order.{has_text, same_text}
use Rattle.nm_dump.specs.Restored.{is_live, is_named_in, lines_naming, restored_tags}
use Rattle.nm_model_index.specs.Index.{live_ids}
use Rattle.nm_model_index.specs.declared.base.Base.{Base}
use Rattle.nm_query.specs.declared.query.Query.TheFolds.{fold-roll-Query}
use Rattle.nm_query.specs.declared.query.Query.TheOpen.{Query-F}
use Rattle.nm_query.specs.declared.query.Query.TheVariants.{Id, rolls-Id}
use Rattle.nm_tags.specs.Operations.{after_ops, begun_with}
use Rattle.nm_tags.specs.declared.wanted.Wanted.{Wanted}

abbrev Texts : Type 0
Texts = List (List ℕ)

same_swap : (a b : List ℕ) → same_text a b ≡ same_text b a
same_swap a b = nat_list_eq_equiv.symm a b

-- a filter has a text where the list has it and it is kept
kept_by : (keep : List ℕ → Bool) (x p : List ℕ) (xs : Texts) (b c : Bool) → keep x ≡ b → same_text p x ≡ c → has_text (filter keep xs) p ≡ (has_text xs p && keep p)
    → has_text (cond b (x ∷ filter keep xs) (filter keep xs)) p ≡ ((c || has_text xs p) && keep p)
kept_by keep x p xs true true e d h = ap (λ t. t || has_text (filter keep xs) p) d ∙ sym (ap keep (lexicographic.same_text p x (sym d)) ∙ e)
kept_by keep x p xs true false e d h = ap (λ t. t || has_text (filter keep xs) p) d ∙ h
kept_by keep x p xs false true e d h = h ∙ (ap (λ t. has_text xs p && t) (ap keep (lexicographic.same_text p x (sym d)) ∙ e) ∙ (and-false (has_text xs p) ∙ sym (ap keep (lexicographic.same_text p x (sym d)) ∙ e)))
kept_by keep x p xs false false e d h = h

filter_has : (keep : List ℕ → Bool) (texts : Texts) (p : List ℕ) → has_text (filter keep texts) p ≡ (has_text texts p && keep p)
filter_has keep [] p = refl
filter_has keep (x ∷ xs) p = kept_by keep x p xs (keep x) (same_text p x) refl refl (filter_has keep xs p)

-- a query of an id is passed by the message of that id
passes-Id : (id : List ℕ) (message : View) (moment : ℤ) → passes (Id id) message moment ≡ same_text id message.id
passes-Id id message moment = ap (λ q. passes q message moment) (sym (rolls-Id id)) ∙ fold-roll-Query Bool (node_passes message moment) (Query-F.Id id)

match-Id : (id : List ℕ) (message : View) (moment : ℤ) → is_match (Id id) moment false message ≡ same_text id message.id
match-Id id message moment = and-true (passes (Id id) message moment) ∙ passes-Id id message moment

-- the line of an id finds the live message of that id, and no other
found_is : (accumulate : Bool) (moment : ℤ) (index : Base) (line : Bool × Wanted) (id : List ℕ)
    → has_text (found_by moment index (restoring_of accumulate line)) id ≡ (is_live index id && same_text id line.1.id)
found_is accumulate moment index line id =
    filter_has (λ other. is_match (Id line.1.id) moment false (view_of index other)) (live_ids index.files index.entries) id
    ∙ ap (λ (b : Bool). is_live index id && b) (match-Id line.1.id (view_of index id) moment ∙ same_swap line.1.id id)

-- what the lines ask for, where these ids were named before
abbrev lines_after : Bool → Texts → List Wanted → List TagChange
lines_after accumulate named lines = map (restoring_of accumulate) (with_firsts named lines)

-- the lines take off the tags that a message has, where these ids were named before
abbrev clears : Bool → Texts → List Wanted → List ℕ → Bool
clears accumulate named lines id = not (has_text named id) && (not accumulate && is_named_in lines id)

-- the tags after the operations of these lines
abbrev pub after_lines : List Wanted → Texts → Texts
after_lines lines tags = fold (λ at line. after_ops at line.ops) tags lines

module _ (found : (moment : ℤ) (index : Base) (line : TagChange) (id : List ℕ) → IsTrue (has_text (found_by moment index line) id) → tags_of (wanted_after moment index line) id ≡ asked_tags line (tags_of index id))
    (others : (moment : ℤ) (index : Base) (line : TagChange) (id : List ℕ) → has_text (found_by moment index line) id ≡ false → tags_of (wanted_after moment index line) id ≡ tags_of index id)
    (rest : (moment : ℤ) (index : Base) (lines : List TagChange) → wanted_by moment index lines ≡ record index { tags = (wanted_by moment index lines).tags }) where
  -- a line leaves which messages are live
  live_after : (moment : ℤ) (index : Base) (line : TagChange) (id : List ℕ) → is_live (wanted_after moment index line) id ≡ is_live index id
  live_after moment index line id = ap (λ (i : Base). is_live i id) (rest moment index (line ∷ []))

  -- what is known of the lines after a first one
  abbrev Step : Bool → ℤ → Base → Texts → Wanted → List Wanted → List ℕ → Type 0
  Step accumulate moment index named line lines id =
      let after : Base = wanted_after moment index (restoring_of accumulate (not (has_text named line.id), line)) in
      tags_of (wanted_by moment after (lines_after accumulate (line.id ∷ named) lines)) id ≡ after_lines (lines_naming lines id) (begun_with (clears accumulate (line.id ∷ named) lines id) (tags_of after id))

  -- one line more, which names the message or another
  step_by : (accumulate : Bool) (moment : ℤ) (index : Base) (named : Texts) (line : Wanted) (lines : List Wanted) (id : List ℕ) (b : Bool) → same_text id line.id ≡ b → is_live index id ≡ true
      → Step accumulate moment index named line lines id
      → tags_of (wanted_by moment index (lines_after accumulate named (line ∷ lines))) id ≡ after_lines (cond b (line ∷ lines_naming lines id) (lines_naming lines id)) (begun_with (not (has_text named id) && (not accumulate && (b || is_named_in lines id))) (tags_of index id))
  step_by accumulate moment index named line lines id true is live more =
      let asked : TagChange = restoring_of accumulate (not (has_text named line.id), line) in
      let one : id ≡ line.id = lexicographic.same_text id line.id (sym is) in
      let here : has_text (found_by moment index asked) id ≡ true =
      found_is accumulate moment index (not (has_text named line.id), line) id ∙ (ap (λ (t : Bool). t && same_text id line.id) live ∙ is) in
      more
      ∙ (ap (λ (t : Bool). after_lines (lines_naming lines id) (begun_with (not (t || has_text named id) && (not accumulate && is_named_in lines id)) (tags_of (wanted_after moment index asked) id))) is
      ∙ (ap (after_lines (lines_naming lines id)) (found moment index asked id here)
      ∙ (ap (λ (x : List ℕ). after_lines (lines_naming lines id) (after_ops (begun_with (not (has_text named x) && not accumulate) (tags_of index id)) line.ops)) (sym one)
      ∙ ap (λ (t : Bool). after_lines (lines_naming lines id) (after_ops (begun_with (not (has_text named id) && t) (tags_of index id)) line.ops)) (sym (and-true (not accumulate))))))
  step_by accumulate moment index named line lines id false is live more =
      let asked : TagChange = restoring_of accumulate (not (has_text named line.id), line) in
      let none : has_text (found_by moment index asked) id ≡ false =
      found_is accumulate moment index (not (has_text named line.id), line) id ∙ (ap (λ (t : Bool). t && same_text id line.id) live ∙ is) in
      more
      ∙ (ap (λ (t : Bool). after_lines (lines_naming lines id) (begun_with (not (t || has_text named id) && (not accumulate && is_named_in lines id)) (tags_of (wanted_after moment index asked) id))) is
      ∙ ap (λ (t : Texts). after_lines (lines_naming lines id) (begun_with (clears accumulate named lines id) t)) (others moment index asked id none))

  -- all lines, whatever was named before
  restored_after : (accumulate : Bool) (moment : ℤ) (index : Base) (named : Texts) (lines : List Wanted) (id : List ℕ) → is_live index id ≡ true
      → tags_of (wanted_by moment index (lines_after accumulate named lines)) id ≡ after_lines (lines_naming lines id) (begun_with (clears accumulate named lines id) (tags_of index id))
  restored_after accumulate moment index named [] id live =
      ap (λ (t : Bool). begun_with t (tags_of index id)) (sym (ap (λ (t : Bool). not (has_text named id) && t) (and-false (not accumulate)) ∙ and-false (not (has_text named id))))
  restored_after accumulate moment index named (line ∷ lines) id live =
      let asked : TagChange = restoring_of accumulate (not (has_text named line.id), line) in
      step_by accumulate moment index named line lines id (same_text id line.id) refl live
      (restored_after accumulate moment (wanted_after moment index asked) (line.id ∷ named) lines id (live_after moment index asked id ∙ live))

  pub live_restored : (accumulate : Bool) (moment : ℤ) (index : Base) (lines : List Wanted) (id : List ℕ) → IsTrue (is_live index id)
      → tags_of (wanted_by moment index (restorings_by accumulate lines)) id ≡ restored_tags accumulate lines id (tags_of index id)
  live_restored accumulate moment index lines id live = restored_after accumulate moment index [] lines id live

  -- no line finds a message that is not live
  not_found : (accumulate : Bool) (moment : ℤ) (index : Base) (named : Texts) (lines : List Wanted) (id : List ℕ) → is_live index id ≡ false → is_found moment index (lines_after accumulate named lines) id ≡ false
  not_found accumulate moment index named [] id none = refl
  not_found accumulate moment index named (line ∷ lines) id none =
      let asked : TagChange = restoring_of accumulate (not (has_text named line.id), line) in
      ap (λ (b : Bool). b || is_found moment (wanted_after moment index asked) (lines_after accumulate (line.id ∷ named) lines) id) (found_is accumulate moment index (not (has_text named line.id), line) id ∙ ap (λ (b : Bool). b && same_text id line.id) none)
      ∙ not_found accumulate moment (wanted_after moment index asked) (line.id ∷ named) lines id (live_after moment index asked id ∙ none)

  -- and no line finds one that it does not name
  not_named : (accumulate : Bool) (moment : ℤ) (index : Base) (named : Texts) (lines : List Wanted) (id : List ℕ) → is_named_in lines id ≡ false → is_found moment index (lines_after accumulate named lines) id ≡ false
  not_named accumulate moment index named [] id none = refl
  not_named accumulate moment index named (line ∷ lines) id none =
      let asked : TagChange = restoring_of accumulate (not (has_text named line.id), line) in
      let apart = or_parts (same_text id line.id) (is_named_in lines id) none in
      ap (λ (b : Bool). b || is_found moment (wanted_after moment index asked) (lines_after accumulate (line.id ∷ named) lines) id)
      (found_is accumulate moment index (not (has_text named line.id), line) id ∙ (ap (λ (b : Bool). is_live index id && b) apart.0 ∙ and-false (is_live index id)))
      ∙ not_named accumulate moment (wanted_after moment index asked) (line.id ∷ named) lines id apart.1

  module _ (kept : (moment : ℤ) (index : Base) (lines : List TagChange) (id : List ℕ) → is_found moment index lines id ≡ false → tags_of (wanted_by moment index lines) id ≡ tags_of index id) where
    pub unnamed_kept : (accumulate : Bool) (moment : ℤ) (index : Base) (lines : List Wanted) (id : List ℕ) → is_named_in lines id ≡ false
        → tags_of (wanted_by moment index (restorings_by accumulate lines)) id ≡ tags_of index id
    unnamed_kept accumulate moment index lines id none = kept moment index (restorings_by accumulate lines) id (not_named accumulate moment index [] lines id none)

    pub strangers_kept : (accumulate : Bool) (moment : ℤ) (index : Base) (lines : List Wanted) (id : List ℕ) → is_live index id ≡ false
        → tags_of (wanted_by moment index (restorings_by accumulate lines)) id ≡ tags_of index id
    strangers_kept accumulate moment index lines id none = kept moment index (restorings_by accumulate lines) id (not_found accumulate moment index [] lines id none)
