-- The tags that follow the changes of a commit. For the proofs of `with_names` and `follow`.
use Rattle.std.proofs.Common.{◌≡◌, Bool, true, false, cond, ℕ, ◌+◌, List, [], ◌∷◌, ◌++◌, filter, map, refl, sym, subst, ap, ◌∙◌}
use Rattle.std.specs.Prelude.{IsTrue, fold}
use Rattle.std.specs.Cmp.Lexicographic.{pointwise}
use Rattle.std.specs.List.{AllByRecursion, flat_map}
use Rattle.std.proofs.lemmas.List.Sums.{fold-append}
use Rattle.nm_base.specs.Order.{has_text, same_text}
use Rattle.nm_base.specs.declared.facts.Facts.{Facts}
use Rattle.nm_commit.specs.Files.{has_id}
use Rattle.nm_commit.specs.declared.change.Change.{Change}
use Rattle.nm_commit.specs.declared.change.Change.TheVariants.{SetTags}
use Rattle.nm_model_index.specs.Index.{applied, committed, with_revision, with_tags}
use Rattle.nm_model_index.specs.declared.base.Base.{Base}
use Rattle.nm_model_answer.specs.View.{tags_of}
use Rattle.nm_model_plan.specs.NameTags.{follow_names, live_of, named_tags, set_tags, with_names}
use Rattle.nm_state.specs.Snapshot.{retagged}
use Rattle.nm_writer.specs.NameTags.{set_of}

abbrev Sets : Type 0
Sets = List (List ℕ × List (List ℕ))

-- ---- what is set

-- what is found of the messages that are there is what follows
pub follow-is : (after : Base) (ids live : List (List ℕ)) (sets : Sets) → live ≡ live_of after ids → map set_of sets ≡ flat_map (λ id. set_tags id (tags_of after id) (named_tags after id)) live
    → map set_of sets ≡ follow_names after ids
follow-is after ids live sets live_is is = is ∙ ap (flat_map (λ id. set_tags id (tags_of after id) (named_tags after id))) live_is

-- the changes, and the tags that follow
pub named-are : (shown after : Base) (changes all : List Change) (ids : List (List ℕ)) (sets : Sets) → after ≡ committed shown (record { changes = changes })
    → map set_of sets ≡ follow_names after ids → all ≡ changes ++ map set_of sets → all ≡ with_names shown changes ids
named-are shown after changes all ids sets is sets_are all_is =
    all_is ∙ (ap (λ (l : List Change). changes ++ l) sets_are ∙ ap (λ (b : Base). changes ++ follow_names b ids) is)

-- ---- the index after all

revised : (sets : Sets) (revision : ℕ) (index : Base) → retagged (with_revision revision index) sets ≡ with_revision revision (retagged index sets)
revised [] revision index = refl
revised (set ∷ sets) revision index = revised sets revision (with_tags index set.0 set.1)

all_set : (sets : Sets) (index : Base) → retagged index sets ≡ fold applied index (map set_of sets)
all_set [] index = refl
all_set (set ∷ sets) index = all_set sets (with_tags index set.0 set.1)

-- the tags that are set on the index after the changes leave the index after both
pub next-is : (shown after next : Base) (changes all : List Change) (sets : Sets) → after ≡ committed shown (record { changes = changes }) → next ≡ retagged after sets → all ≡ changes ++ map set_of sets
    → next ≡ committed shown (record { changes = all })
next-is shown after next changes all sets is next_is all_is =
    let revision : ℕ = shown.revision + 1 in
    next_is
    ∙ (ap (λ (b : Base). retagged b sets) is
    ∙ (revised sets revision (fold applied shown changes)
    ∙ (ap (with_revision revision) (all_set sets (fold applied shown changes) ∙ sym (fold-append applied shown changes (map set_of sets)))
    ∙ ap (λ (l : List Change). committed shown (record { changes = l })) (sym all_is))))

-- ---- those that are set are live

live_one : (test : Bool) (files : List (List ℕ × Facts)) (entry : List ℕ × ℕ) (rest : List (List ℕ × ℕ)) → has_id files entry.0 ≡ test → AllByRecursion (λ id. IsTrue (has_id files id)) (map (λ e. e.0) rest)
    → AllByRecursion (λ id. IsTrue (has_id files id)) (map (λ e. e.0) (cond test (entry ∷ rest) rest))
live_one true files entry rest here more = (here, more)
live_one false files entry rest here more = more

live_all : (files : List (List ℕ × Facts)) (entries : List (List ℕ × ℕ)) → AllByRecursion (λ id. IsTrue (has_id files id)) (map (λ e. e.0) (filter (λ e. has_id files e.0) entries))
live_all files [] = tt
live_all files (entry ∷ entries) = live_one (has_id files entry.0) files entry (filter (λ e. has_id files e.0) entries) refl (live_all files entries)

module _ (P : List ℕ → Type 0) where
  kept_one : (test : Bool) (text : List ℕ) (rest : List (List ℕ)) → P text → AllByRecursion P rest → AllByRecursion P (cond test (text ∷ rest) rest)
  kept_one true text rest here more = (here, more)
  kept_one false text rest here more = more

  kept_all : (keep : List ℕ → Bool) (texts : List (List ℕ)) → AllByRecursion P texts → AllByRecursion P (filter keep texts)
  kept_all keep [] all = tt
  kept_all keep (text ∷ texts) (here, more) = kept_one (keep text) text (filter keep texts) here (kept_all keep texts more)

-- the tags that a change sets are those of a message that has a file
abbrev SetsLive : List (List ℕ × Facts) → Change → Type 0
SetsLive files change = (id : List ℕ) (tags : List (List ℕ)) → change ≡ SetTags id tags → IsTrue (has_id files id)

set_one : (files : List (List ℕ × Facts)) (test : Bool) (id : List ℕ) (new : List (List ℕ)) (more : List Change) → IsTrue (has_id files id) → AllByRecursion (SetsLive files) more
    → AllByRecursion (SetsLive files) (cond test [] (SetTags id new ∷ []) ++ more)
set_one files true id new more here all = all
set_one files false id new more here all = ((λ other tags is. subst (λ it. IsTrue (has_id files it)) (cc is) here), all)

set_all : (after : Base) (ids : List (List ℕ)) → AllByRecursion (λ id. IsTrue (has_id after.files id)) ids
    → AllByRecursion (SetsLive after.files) (flat_map (λ id. set_tags id (tags_of after id) (named_tags after id)) ids)
set_all after [] all = tt
set_all after (id ∷ ids) (here, more) =
    set_one after.files (pointwise same_text (tags_of after id) (named_tags after id)) id (named_tags after id) (flat_map (λ it. set_tags it (tags_of after it) (named_tags after it)) ids) here (set_all after ids more)

live_sets : (files : List (List ℕ × Facts)) (sets : Sets) → AllByRecursion (SetsLive files) (map set_of sets) → AllByRecursion (λ set. IsTrue (has_id files set.0)) sets
live_sets files [] all = tt
live_sets files (set ∷ sets) (here, more) = (here set.0 set.1 refl, live_sets files sets more)

-- tags are set of messages that have a file
pub sets-live : (after : Base) (ids : List (List ℕ)) (sets : Sets) → map set_of sets ≡ follow_names after ids → AllByRecursion (λ set. IsTrue (has_id after.files set.0)) sets
sets-live after ids sets is =
    live_sets after.files sets (subst (AllByRecursion (SetsLive after.files)) (sym is) (set_all after (live_of after ids)
    (kept_all (λ id. IsTrue (has_id after.files id)) (has_text ids) (map (λ e. e.0) (filter (λ e. has_id after.files e.0) after.entries)) (live_all after.files after.entries))))
