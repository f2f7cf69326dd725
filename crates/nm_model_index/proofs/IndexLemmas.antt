-- What a change leaves of files, numbers and tags.
-- For the proofs of `files_follow_their_changes`, `files_follow_their_commits`, `numbers_never_fall` and others.
use Rattle.std.proofs.Common.{◌≡◌, ℕ, ◌+◌, ◌≤◌, Bool, true, false, not, List, [], ◌∷◌, ◌++◌, length, refl, sym, ap, ◌∙◌, cond, if◌then◌else◌, Some, arith}
use Rattle.std.specs.List.{filter, fold}
use Rattle.std.specs.BTreeMap.{insert_entry, is_at}
use Rattle.std.specs.Map.{lookup}
use Rattle.std.specs.Cmp.Lexicographic.{nat_list_cmp_total, slice_cmp, texts_ties}
use Rattle.std.specs.Ordering.{is_eq, match_ordering, nat_cmp}
use Rattle.std.specs.declared.cmp.Ordering.{Ordering}
use Rattle.std.specs.declared.cmp.Ordering.TheVariants.{Less, Equal, Greater}
use Rattle.std.proofs.lemmas.Cmp.{alike_right}
use Rattle.nm_base.specs.Order.{same_text}
use Rattle.nm_base.specs.declared.facts.Facts.{Facts}
use Rattle.nm_commit.specs.Files.{changed, files_after, has_id, without_path}
use Rattle.nm_commit.specs.declared.change.Change.{Change}
use Rattle.nm_commit.specs.declared.change.Change.TheVariants.{Add, Drop, Move, SetTags}
use Rattle.nm_commit.specs.declared.change.Commit.{Commit}
use Rattle.nm_model_index.specs.Fits.{ids_named, named_ids}
use Rattle.nm_model_index.specs.Index.{applied, committed, files_at, folded, has_entry, with_entry, with_first_tags, with_tags, without_dead_tags, without_first}
use Rattle.nm_model_index.specs.declared.base.Base.{Base}

-- what a choice between two indices has, where both have it
chosen : {A : Type 0} (of : Base → A) (test : Bool) (a b : Base) (x : A) → of a ≡ x → of b ≡ x → of (if test then a else b) ≡ x
chosen of true a b x e f = e
chosen of false a b x e f = f

entry_files : (index : Base) (id : List ℕ) → (with_entry index id).files ≡ index.files
entry_files index id = chosen (λ b. b.files) (has_entry index id) index (record index { entries = index.entries ++ (id, index.next) ∷ []; next = index.next + 1 }) index.files refl refl

entries_files : (index : Base) (ids : List (List ℕ)) → (fold with_entry index ids).files ≡ index.files
entries_files index [] = refl
entries_files index (id ∷ ids) = entries_files (with_entry index id) ids ∙ entry_files index id

first_tags_files : (index : Base) (facts : Facts) → (with_first_tags index facts).files ≡ index.files
first_tags_files index facts = chosen (λ b. b.files) (has_id index.files facts.id) index _ index.files refl refl

none_case : {A : Type 0} (test : Bool) (x : A) (kept rest xs : List A) → cond test (x ∷ kept) kept ≡ [] → (kept ≡ [] → rest ≡ xs) → cond (not test) (x ∷ rest) rest ≡ x ∷ xs
none_case true x kept rest xs e h = absurd cc
none_case {A = A} false x kept rest xs e h = ap (λ (ys : List A). x ∷ ys) (h e)

none_there : {A : Type 0} (p : A → Bool) (xs : List A) → filter p xs ≡ [] → filter (λ x. not (p x)) xs ≡ xs
none_there p [] e = refl
none_there p (x ∷ xs) e = none_case (p x) x (filter p xs) (filter (λ y. not (p y)) xs) xs e (none_there p xs)

dead_tags_files : (index : Base) (id : List ℕ) → (without_dead_tags index id).files ≡ index.files
dead_tags_files index id = chosen (λ b. b.files) (has_id index.files id) index _ index.files refl refl

gone_files : (index : Base) (path : List ℕ) (there : List (List ℕ × Facts)) → files_at index path ≡ there → (without_first index path there).files ≡ without_path index.files path
gone_files index path [] e = sym (none_there (λ file. same_text path file.0) index.files e)
gone_files index path (file ∷ more) e = dead_tags_files _ file.1.id

pub change_files : (index : Base) (change : Change) → (applied index change).files ≡ changed index.files change
change_files index (Add path facts) =
    ap (λ (files : List (List ℕ × Facts)). files ++ (path, facts) ∷ []) (first_tags_files (fold with_entry index (facts.id ∷ facts.links)) facts ∙ entries_files index (facts.id ∷ facts.links))
change_files index (Drop path) = gone_files index path (files_at index path) refl
change_files index (Move from to) = refl
change_files index (SetTags id tags) = refl

changes_files : (index : Base) (changes : List Change) → (fold applied index changes).files ≡ fold changed index.files changes
changes_files index [] = refl
changes_files index (change ∷ changes) = changes_files (applied index change) changes ∙ ap (λ files. fold changed files changes) (change_files index change)

pub commits_files : (index : Base) (commits : List Commit) → (folded index commits).files ≡ files_after index.files commits
commits_files index [] = refl
commits_files index (commit ∷ commits) = commits_files (committed index commit) commits ∙ ap (λ files. files_after files commits) (changes_files index commit.changes)

next_chosen : (n : ℕ) (test : Bool) (a b : Base) → n ≤ a.next → n ≤ b.next → n ≤ (if test then a else b).next
next_chosen n true a b g h = g
next_chosen n false a b g h = h

entry_next : (index : Base) (id : List ℕ) → index.next ≤ (with_entry index id).next
entry_next index id =
    next_chosen index.next (has_entry index id) index (record index { entries = index.entries ++ (id, index.next) ∷ []; next = index.next + 1 }) (omega arith) (omega arith)

first_tags_next : (index : Base) (facts : Facts) → (with_first_tags index facts).next ≡ index.next
first_tags_next index facts = chosen (λ b. b.next) (has_id index.files facts.id) index _ index.next refl refl

dead_tags_next : (index : Base) (id : List ℕ) → (without_dead_tags index id).next ≡ index.next
dead_tags_next index id = chosen (λ b. b.next) (has_id index.files id) index _ index.next refl refl

entries_next : (index : Base) (ids : List (List ℕ)) → index.next ≤ (fold with_entry index ids).next
entries_next index [] = omega arith
entries_next index (id ∷ ids) = omega (arith, entry_next index id, entries_next (with_entry index id) ids)

gone_next : (index : Base) (path : List ℕ) (there : List (List ℕ × Facts)) → (without_first index path there).next ≡ index.next
gone_next index path [] = refl
gone_next index path (file ∷ more) = dead_tags_next _ file.1.id

pub next_after : (index : Base) (change : Change) → index.next ≤ (applied index change).next
next_after index (Add path facts) =
    let numbered : Base = fold with_entry index (facts.id ∷ facts.links) in
    omega (arith, entries_next index (facts.id ∷ facts.links), first_tags_next numbered facts)
next_after index (Drop path) = omega (arith, gone_next index path (files_at index path))
next_after index (Move from to) = omega arith
next_after index (SetTags id tags) = omega arith

next_at_most : (n : ℕ) (test : Bool) (a b : Base) → a.next ≤ n → b.next ≤ n → (if test then a else b).next ≤ n
next_at_most n true a b g h = g
next_at_most n false a b g h = h

entry_most : (index : Base) (id : List ℕ) → (with_entry index id).next ≤ index.next + 1
entry_most index id =
    next_at_most (index.next + 1) (has_entry index id) index (record index { entries = index.entries ++ (id, index.next) ∷ []; next = index.next + 1 }) (omega arith) (omega arith)

entries_most : (index : Base) (ids : List (List ℕ)) → (fold with_entry index ids).next ≤ index.next + length ids
entries_most index [] = omega arith
entries_most index (id ∷ ids) = omega (arith, entry_most index id, entries_most (with_entry index id) ids)

next_most : (index : Base) (change : Change) → (applied index change).next ≤ index.next + named_ids change
next_most index (Add path facts) =
    let numbered : Base = fold with_entry index (facts.id ∷ facts.links) in
    omega (arith, entries_most index (facts.id ∷ facts.links), first_tags_next numbered facts)
next_most index (Drop path) = omega (arith, gone_next index path (files_at index path))
next_most index (Move from to) = omega arith
next_most index (SetTags id tags) = omega arith

changes_most : (index : Base) (changes : List Change) → (fold applied index changes).next ≤ index.next + ids_named changes
changes_most index [] = omega arith
changes_most index (change ∷ changes) = omega (arith, next_most index change, changes_most (applied index change) changes)

pub commit_most : (index : Base) (commit : Commit) → (committed index commit).next ≤ index.next + ids_named commit.changes
commit_most index commit = changes_most index commit.changes

pub revision_after : (index : Base) (commits : List Commit) → (folded index commits).revision ≡ index.revision + length commits
revision_after index [] = omega arith
revision_after index (commit ∷ commits) = omega (arith, revision_after (committed index commit) commits)

module _ (id other : List ℕ) (tags : List (List ℕ)) (differ : is_eq (slice_cmp nat_cmp other id) ≡ false) where
  looked_up : (x : List ℕ × List (List ℕ)) (rest xs : List (List ℕ × List (List ℕ))) (o : Ordering) → slice_cmp nat_cmp id x.0 ≡ o
      → lookup (is_at (slice_cmp nat_cmp other)) rest ≡ lookup (is_at (slice_cmp nat_cmp other)) xs
      → lookup (is_at (slice_cmp nat_cmp other)) (match_ordering o ((id, tags) ∷ x ∷ xs) ((x.0, tags) ∷ xs) (x ∷ rest)) ≡ lookup (is_at (slice_cmp nat_cmp other)) (x ∷ xs)
  looked_up x rest xs Less e h = rw differ refl
  looked_up x rest xs Equal e h =
      let there : is_eq (slice_cmp nat_cmp other x.0) ≡ false = ap is_eq (sym (alike_right nat_list_cmp_total id x.0 other e)) ∙ differ in
      rw there refl
  looked_up x rest xs Greater e h = ap (cond (is_eq (slice_cmp nat_cmp other x.0)) (Some x.1)) h

  pub others_stay : (xs : List (List ℕ × List (List ℕ))) → lookup (is_at (slice_cmp nat_cmp other)) (insert_entry (slice_cmp nat_cmp) xs id tags) ≡ lookup (is_at (slice_cmp nat_cmp other)) xs
  others_stay [] = rw differ refl
  others_stay (x ∷ xs) = looked_up x (insert_entry (slice_cmp nat_cmp) xs id tags) xs (slice_cmp nat_cmp id x.0) refl (others_stay xs)

pub tags_stay : (index : Base) (id other : List ℕ) (tags : List (List ℕ)) → same_text other id ≡ false
    → lookup (is_at (slice_cmp nat_cmp other)) (with_tags index id tags).tags ≡ lookup (is_at (slice_cmp nat_cmp other)) index.tags
tags_stay index id other tags e = others_stay id other tags (sym (texts_ties other id) ∙ e) index.tags
