-- What is among the matches, and what excludes a message.
-- For the proofs of `a_tag_excludes_unless_it_is_named` and `the_matches_are_the_live_messages_that_pass`.
use Rattle.std.proofs.Common.{◌≡◌, ◌↔◌, sym, ap, subst, ◌∙◌, ℕ, ℤ, Bool, true, not, ◌&&◌, List, [], ◌∷◌, map, ◌++◌, true≢false, inl, inr}
use Rattle.std.specs.Prelude.{IsTrue}
use Rattle.std.specs.List.{AllByRecursion, IsDistinct}
use Rattle.std.proofs.lemmas.Bool.{and_from, and_parts, false_from_ne_true, not-true, not_from_false, or_cases}
use Rattle.std.proofs.lemmas.List.Folds.{Any-from_list_any, list_any-from_Any}
use Rattle.std.proofs.lemmas.Slice.Eq.{bytes_eq-Decides}
use Rattle.nm_base.specs.Order.{has_text, same_text}
use Rattle.nm_base.specs.Tags.{has_tag}
use Rattle.nm_base.specs.declared.facts.Facts.{Facts}
use Rattle.nm_commit.specs.Files.{has_id}
use Rattle.nm_model_index.specs.Index.{has_entry, live_ids, row_of}
use Rattle.nm_model_index.specs.Valid.{IsValid, entry_ids}
use Rattle.nm_model_index.specs.declared.base.Base.{Base}
use Rattle.nm_query.specs.declared.query.Query.{Query}
use Rattle.nm_threads.specs.Same.{ids_of}
use Rattle.nm_base.specs.SetLaws.{has_text-filter}
use Rattle.nm_base.specs.declared.facts.LinkRow.{LinkRow}
use Rattle.nm_model_answer.specs.Matches.{Excludes, excluding_tags, is_excluded, is_match, matches_of, names_tag, tags_excluded}
use Rattle.nm_model_answer.specs.View.{View, view_of}
use Rattle.nm_model_answer.proofs.ListLemmas.{distinct_kept, entry_ids_have, ids_kept, keeps, kept}

-- ---- exclusion

excluded_from : (query : Query) (message : View) → IsTrue (is_excluded query message) → (tag : List ℕ) × Excludes query message tag
excluded_from query message is =
    let one = Any-from_list_any (has_tag message.tags) (tags_excluded query) is in
    let among = kept (λ tag. not (names_tag query tag)) excluding_tags one.1 (one.0, one.2, one.3) in
    (one.1, (among.0, one.4, λ named. true≢false (sym named ∙ not-true (names_tag query one.1) among.1)))

excluded_of : (query : Query) (message : View) → (tag : List ℕ) × Excludes query message tag → IsTrue (is_excluded query message)
excluded_of query message (tag, (among, has, unnamed)) =
    let kept_at = keeps (λ tag. not (names_tag query tag)) excluding_tags tag among (not_from_false (names_tag query tag) (false_from_ne_true (names_tag query tag) unnamed)) in
    list_any-from_Any (has_tag message.tags) (tags_excluded query) (kept_at.0, tag, kept_at.1, kept_at.2, has)

pub excluded_by : (query : Query) (message : View) → IsTrue (is_excluded query message) ↔ ((tag : List ℕ) × Excludes query message tag)
excluded_by query message = (excluded_from query message, excluded_of query message)

-- ---- live messages

-- a file's id is in its row
file_entry : (index : Base) (id : List ℕ) (files : List (List ℕ × Facts)) (rows : List LinkRow)
    → AllByRecursion (λ row. AllByRecursion (λ id. IsTrue (has_entry index id)) (ids_of row)) (map (λ file. row_of file.1) files ++ rows)
    → has_id files id ≡ true → has_entry index id ≡ true
file_entry index id [] rows all has = absurd (true≢false (sym has))
file_entry index id (file ∷ files) rows all has = elim (or_cases (same_text id file.1.id) (has_id files id) has) [
  | inl here ↦ ap (has_entry index) ((bytes_eq-Decides id file.1.id).0 here) ∙ all.0.0
  | inr there ↦ file_entry index id files rows all.1 there
]

-- an id is one of the live ones where it has an entry and a file
live_where : (files : List (List ℕ × Facts)) (entries : List (List ℕ × ℕ)) (id : List ℕ) → has_text (live_ids files entries) id ≡ (has_text (map (λ e. e.0) entries) id && has_id files id)
live_where files entries id = ap (λ ids. has_text ids id) (ids_kept (has_id files) entries) ∙ has_text-filter (has_id files) (map (λ e. e.0) entries) id

live_is : (index : Base) → IsValid index → (id : List ℕ) → has_id index.files id ≡ true → has_text (live_ids index.files index.entries) id ≡ true
live_is index valid id has =
    live_where index.files index.entries id
    ∙ and_from (has_text (map (λ e. e.0) index.entries) id) (has_id index.files id)
    (sym (entry_ids_have id index.entries) ∙ file_entry index id index.files index.kept valid.numbered has) has

-- ---- matches

among_from : (index : Base) (query : Query) (moment : ℤ) (exclude : Bool) (id : List ℕ) → IsTrue (has_text (matches_of index query moment exclude) id)
    → IsTrue (has_id index.files id) × IsTrue (is_match query moment exclude (view_of index id))
among_from index query moment exclude id is =
    let parts = and_parts _ _ (sym (has_text-filter (λ id. is_match query moment exclude (view_of index id)) (live_ids index.files index.entries) id) ∙ is) in
    ((and_parts _ _ (sym (live_where index.files index.entries id) ∙ parts.0)).1, parts.1)

among_of : (index : Base) (query : Query) (moment : ℤ) (exclude : Bool) (id : List ℕ) → IsValid index
    → IsTrue (has_id index.files id) × IsTrue (is_match query moment exclude (view_of index id)) → IsTrue (has_text (matches_of index query moment exclude) id)
among_of index query moment exclude id valid (has, is) =
    has_text-filter (λ id. is_match query moment exclude (view_of index id)) (live_ids index.files index.entries) id
    ∙ and_from (has_text (live_ids index.files index.entries) id) (is_match query moment exclude (view_of index id)) (live_is index valid id has) is

pub among_matches : (index : Base) (query : Query) (moment : ℤ) (exclude : Bool) (id : List ℕ) → IsValid index
    → IsTrue (has_text (matches_of index query moment exclude) id) ↔ (IsTrue (has_id index.files id) × IsTrue (is_match query moment exclude (view_of index id)))
among_matches index query moment exclude id valid = (among_from index query moment exclude id, among_of index query moment exclude id valid)

pub matches_distinct : (index : Base) (query : Query) (moment : ℤ) (exclude : Bool) → IsValid index → IsDistinct same_text (matches_of index query moment exclude)
matches_distinct index query moment exclude valid =
    distinct_kept (λ id. is_match query moment exclude (view_of index id)) (live_ids index.files index.entries)
    (subst (IsDistinct same_text) (sym (ids_kept (has_id index.files) index.entries)) (distinct_kept (has_id index.files) (entry_ids index) valid.ids))
