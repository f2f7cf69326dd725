-- Setting tags: what a line finds has what it asks for, all else keeps its tags, and the commit leaves what is wanted.
-- For the proofs of `a_line_tags_what_it_finds` and `the_commit_of_tags_leaves_what_is_wanted`.
use Rattle.std.proofs.Common.{◌≡◌, ℕ, ℤ, Bool, true, false, ◌||◌, ◌&&◌, List, [], ◌∷◌, Option, fold, map, refl, sym, ap, ◌∙◌, IsTrue, arith}
use Rattle.std.specs.Prelude.{unwrap_or}
use Rattle.std.specs.BTreeMap.{is_at}
use Rattle.std.specs.Cmp.Lexicographic.{slice_cmp}
use Rattle.std.specs.List.{AllByRecursion}
use Rattle.std.specs.Map.{lookup}
use Rattle.std.specs.Ordering.{nat_cmp}
use Rattle.std.proofs.lemmas.Bool.{or_parts, or_from}
use Rattle.nm_model_answer.specs.Matches.{is_match}
use Rattle.nm_model_answer.specs.View.{view_of}
use Rattle.nm_base.specs.Order.{has_text, same_text}
use Rattle.nm_base.specs.declared.facts.Facts.{Facts}
use Rattle.nm_commit.specs.Files.{FitChanges, changed, files_after, has_id}
use Rattle.nm_commit.specs.declared.change.Change.{Change}
use Rattle.nm_commit.specs.declared.change.Commit.{Commit}
use Rattle.nm_model_index.specs.Fits.{FitInTurn}
use Rattle.nm_model_index.specs.Index.{applied, folded, live_ids, with_tags}
use Rattle.nm_model_index.specs.declared.base.Base.{Base}
use Rattle.nm_model_answer.specs.View.{tags_of}
use Rattle.nm_model_plan.specs.Numbering.{AreNumbered}
use Rattle.nm_model_answer.specs.WantedTags.{asked_tags, found_by, is_found, line_sets, retagged, wanted_after, wanted_by}
use Rattle.nm_model_plan.specs.TagCommit.{commit_with, tag_changes, tag_commit}
use Rattle.nm_model_answer.specs.declared.tag_change.TagChange.{TagChange}
use Rattle.nm_model_plan.proofs.FitLemmas.{all-live, every-filter, fit-sets}
use Rattle.nm_model_plan.proofs.FoldLemmas.{silent}
use Rattle.nm_base.specs.SetLaws.{bytes_same, has_text-filter}
use Rattle.nm_model_plan.proofs.TagLemmas.{live-apart, sets-other, sets-own, tags-own}

abbrev Texts : Type 0
Texts = List (List ℕ)

abbrev Sets : Type 0
Sets = List (List ℕ × Texts)

-- other tags leave the files and the numbers
retag-files : (index : Base) (sets : Sets) → (retagged index sets).files ≡ index.files
retag-files index [] = refl
retag-files index (set ∷ sets) = retag-files (with_tags index set.0 set.1) sets

retag-entries : (index : Base) (sets : Sets) → (retagged index sets).entries ≡ index.entries
retag-entries index [] = refl
retag-entries index (set ∷ sets) = retag-entries (with_tags index set.0 set.1) sets

-- and all else
retag-rest : (index : Base) (sets : Sets) → retagged index sets ≡ record index { tags = (retagged index sets).tags }
retag-rest index [] = refl
retag-rest index (set ∷ sets) = retag-rest (with_tags index set.0 set.1) sets

pub lines-rest : (moment : ℤ) (index : Base) (lines : List TagChange) → wanted_by moment index lines ≡ record index { tags = (wanted_by moment index lines).tags }
lines-rest moment index [] = refl
lines-rest moment index (line ∷ lines) =
    let after : Base = wanted_after moment index line in
    let all : Base = wanted_by moment after lines in
    lines-rest moment after lines ∙ ap (λ (i : Base). record i { tags = all.tags }) (retag-rest index (line_sets moment index line))

all-sets : (P : List ℕ → Type 0) (tags : List ℕ → Texts) (ids : Texts) → AllByRecursion P ids → AllByRecursion {X = List ℕ × Texts} (λ set. P set.0) (map (λ id. (id, tags id)) ids)
all-sets P tags [] h = tt
all-sets P tags (id ∷ ids) h = (h.0, all-sets P tags ids h.1)

pub line-live : (moment : ℤ) (index : Base) (line : TagChange) → AllByRecursion (λ set. IsTrue (has_id index.files set.0)) (line_sets moment index line)
line-live moment index line =
    all-sets (λ id. IsTrue (has_id index.files id)) (λ id. asked_tags line (tags_of index id)) (found_by moment index line)
    (every-filter (λ id. has_id index.files id ≡ true) (λ id. is_match line.query moment false (view_of index id)) (live_ids index.files index.entries) (all-live index.files index.entries))

first-true : (a : Bool) → (a || false) ≡ true → true ≡ a
first-true true h = refl
first-true false h = sym h

none-live : (moment : ℤ) (index : Base) (line : TagChange) (id : List ℕ) → has_text (live_ids index.files index.entries) id ≡ false → has_text (found_by moment index line) id ≡ false
none-live moment index line id none =
    let keep : List ℕ → Bool = λ other. is_match line.query moment false (view_of index other) in
    has_text-filter keep (live_ids index.files index.entries) id ∙ ap (λ (b : Bool). b && keep id) none

-- no line finds a message that has no file
never-found : (moment : ℤ) (index : Base) (lines : List TagChange) (id : List ℕ) → has_text (live_ids index.files index.entries) id ≡ false → is_found moment index lines id ≡ false
never-found moment index [] id none = refl
never-found moment index (line ∷ lines) id none =
    let after : Base = wanted_after moment index line in
    let sets : Sets = line_sets moment index line in
    or_from _ _ (none-live moment index line id none)
    (never-found moment after lines id (ap (λ (f : List (List ℕ × Facts)). has_text (live_ids f after.entries) id) (retag-files index sets) ∙ (ap (λ (e : List (List ℕ × ℕ)). has_text (live_ids index.files e) id) (retag-entries index sets) ∙ none)))

module _ (others : (index : Base) (id other : List ℕ) (tags : Texts) → same_text other id ≡ false → lookup (is_at (slice_cmp nat_cmp other)) (with_tags index id tags).tags ≡ lookup (is_at (slice_cmp nat_cmp other)) index.tags) where
  one-other : (index : Base) (x id : List ℕ) (tags : Texts) → same_text id x ≡ false → tags_of (with_tags index x tags) id ≡ tags_of index id
  one-other index x id tags apart = ap (λ (o : Option Texts). unwrap_or o []) (others index x id tags apart)

  module _ (tags : List ℕ → Texts) where
    abbrev sets : Texts → Sets
    sets ids = map (λ id. (id, tags id)) ids

    given-other : (ids : Texts) (index : Base) (id : List ℕ) → has_text ids id ≡ false → tags_of (retagged index (sets ids)) id ≡ tags_of index id
    given-other [] index id none = refl
    given-other (x ∷ ids) index id none =
        let apart = or_parts (same_text id x) (has_text ids id) none in
        given-other ids (with_tags index x (tags x)) id apart.1 ∙ one-other index x id (tags x) apart.0

    first-by : (x : List ℕ) (ids : Texts) (index : Base) (id : List ℕ) (b : Bool) → has_text ids id ≡ b → (same_text id x || b) ≡ true
        → (b ≡ true → tags_of (retagged (with_tags index x (tags x)) (sets ids)) id ≡ tags id) → tags_of (retagged (with_tags index x (tags x)) (sets ids)) id ≡ tags id
    first-by x ids index id true is there more = more refl
    first-by x ids index id false is there more =
        let one : id ≡ x = bytes_same id x (first-true (same_text id x) there) in
        given-other ids (with_tags index x (tags x)) id is ∙ (ap (tags_of (with_tags index x (tags x))) one ∙ (tags-own index x (tags x) ∙ ap tags (sym one)))

    given-own : (ids : Texts) (index : Base) (id : List ℕ) → has_text ids id ≡ true → tags_of (retagged index (sets ids)) id ≡ tags id
    given-own [] index id there = absurd (cc)
    given-own (x ∷ ids) index id there =
        first-by x ids index id (has_text ids id) refl there (λ here. given-own ids (with_tags index x (tags x)) id here)

  pub line-found : (moment : ℤ) (index : Base) (line : TagChange) (id : List ℕ) → IsTrue (has_text (found_by moment index line) id) → tags_of (wanted_after moment index line) id ≡ asked_tags line (tags_of index id)
  line-found moment index line id there = given-own (λ other. asked_tags line (tags_of index other)) (found_by moment index line) index id there

  pub line-others : (moment : ℤ) (index : Base) (line : TagChange) (id : List ℕ) → has_text (found_by moment index line) id ≡ false → tags_of (wanted_after moment index line) id ≡ tags_of index id
  line-others moment index line id none = given-other (λ other. asked_tags line (tags_of index other)) (found_by moment index line) index id none

  pub lines-kept : (moment : ℤ) (index : Base) (lines : List TagChange) (id : List ℕ) → is_found moment index lines id ≡ false → tags_of (wanted_by moment index lines) id ≡ tags_of index id
  lines-kept moment index [] id none = refl
  lines-kept moment index (line ∷ lines) id none =
      let after : Base = wanted_after moment index line in
      let apart = or_parts (has_text (found_by moment index line) id) (is_found moment after lines id) none in
      lines-kept moment after lines id apart.1 ∙ line-others moment index line id apart.0

  folded-with : (index : Base) (changes : List Change) (id : List ℕ) → tags_of (folded index (commit_with changes)) id ≡ tags_of (fold applied index changes) id
  folded-with index [] id = refl
  folded-with index (change ∷ changes) id = refl

  pub wanted-live : (index wanted : Base) (id : List ℕ) → AreNumbered index → IsTrue (has_text (live_ids index.files index.entries) id) → tags_of (folded index (tag_commit index wanted)) id ≡ tags_of wanted id
  wanted-live index wanted id numbered there =
      folded-with index (tag_changes index wanted) id
      ∙ sets-own others (tags_of index) (tags_of wanted) (live_ids index.files index.entries) index id (live-apart index.files index.next index.entries numbered) there refl

  wanted-dead : (index wanted : Base) (id : List ℕ) → has_text (live_ids index.files index.entries) id ≡ false → tags_of (folded index (tag_commit index wanted)) id ≡ tags_of index id
  wanted-dead index wanted id none =
      folded-with index (tag_changes index wanted) id ∙ sets-other others (tags_of index) (tags_of wanted) (live_ids index.files index.entries) index id none

  lines-by : (moment : ℤ) (index : Base) (lines : List TagChange) (id : List ℕ) (b : Bool) → has_text (live_ids index.files index.entries) id ≡ b → AreNumbered index
      → tags_of (folded index (tag_commit index (wanted_by moment index lines))) id ≡ tags_of (wanted_by moment index lines) id
  lines-by moment index lines id true is numbered = wanted-live index (wanted_by moment index lines) id numbered is
  lines-by moment index lines id false is numbered =
      wanted-dead index (wanted_by moment index lines) id is ∙ sym (lines-kept moment index lines id (never-found moment index lines id is))

  pub wanted-lines : (moment : ℤ) (index : Base) (lines : List TagChange) (id : List ℕ) → AreNumbered index
      → tags_of (folded index (tag_commit index (wanted_by moment index lines))) id ≡ tags_of (wanted_by moment index lines) id
  wanted-lines moment index lines id numbered = lines-by moment index lines id (has_text (live_ids index.files index.entries) id) refl numbered

pub fit-with : (index : Base) (changes : List Change) → FitChanges index.files changes → FitInTurn index (commit_with changes)
fit-with index [] h = tt
fit-with index (change ∷ changes) h = (record { some = omega arith; each = h }, tt)

-- the commit of tags fits
pub tags-fit : (index wanted : Base) → FitInTurn index (tag_commit index wanted)
tags-fit index wanted =
    fit-with index (tag_changes index wanted) (fit-sets index.files (tags_of index) (tags_of wanted) (live_ids index.files index.entries) (all-live index.files index.entries))

files-with : (files : List (List ℕ × Facts)) (changes : List Change) → files_after files (commit_with changes) ≡ fold changed files changes
files-with files [] = refl
files-with files (change ∷ changes) = refl

-- and leaves the files
pub tags-files : (follow : (index : Base) (commits : List Commit) → (folded index commits).files ≡ files_after index.files commits) (index wanted : Base) → (folded index (tag_commit index wanted)).files ≡ index.files
tags-files follow index wanted =
    follow index (tag_commit index wanted)
    ∙ (files-with index.files (tag_changes index wanted) ∙ silent index.files (tags_of index) (tags_of wanted) (live_ids index.files index.entries))
