-- The files after the commits of a `new`: what was added comes after what was there, and what is missing is no longer
-- there.
-- For the proofs of `the_files_after_batches` and `the_files_after_new`.
use Rattle.std.proofs.Common.{◌≡◌, ℕ, Bool, true, false, ◌||◌, ◌&&◌, not, cond, List, [], ◌∷◌, ◌++◌, map, filter, fold, refl, sym, ap, ◌∙◌, append-nil, append_assoc}
use Rattle.std.specs.Cmp.Lexicographic.{nat_list_eq_equiv, pointwise}
use Rattle.std.specs.List.{flat_map}
use Rattle.std.proofs.lemmas.List.Elements.{filter_agree}
use Rattle.std.proofs.lemmas.Grind.{fold-append}
use Rattle.nm_base.specs.Order.{has_text, same_text}
use Rattle.nm_base.specs.declared.facts.Facts.{Facts}
use Rattle.nm_commit.specs.Files.{changed, files_after, files_with, without_path}
use Rattle.nm_commit.specs.declared.change.Change.{Change}
use Rattle.nm_model_answer.specs.NewText.{gone}
use Rattle.nm_commit.specs.declared.change.Change.TheVariants.{SetTags}
use Rattle.nm_commit.specs.declared.change.Commit.{Commit}
use Rattle.nm_model_index.specs.Index.{applied, folded}
use Rattle.nm_model_index.specs.declared.base.Base.{Base}
use Rattle.nm_model_answer.specs.View.{tags_of}
use Rattle.nm_model_plan.specs.NameTags.{commit_of, follow_names, live_of, named_tags, set_tags}
use Rattle.nm_model_plan.specs.Plan.{add_of, all_added, batch_commit, batch_commits, drop_of, files_after_new, message_ids, new_commits, removed_commit, removed_files}

-- what has come, one by one
pub fold-adds : (files added : List (List ℕ × Facts)) → fold changed files (map add_of added) ≡ files ++ added
fold-adds files [] = sym (append-nil files)
fold-adds files (arrival ∷ added) = fold-adds (files ++ (arrival.0, arrival.1) ∷ []) added ∙ append_assoc files (arrival ∷ []) added

-- two filters one after the other
filter-cond : (b c : Bool) (file : List ℕ × Facts) (p q : List ℕ × Facts → Bool) (rest : List (List ℕ × Facts)) → p file ≡ b → q file ≡ c
    → filter q (cond b (file ∷ filter p rest) (filter p rest)) ≡ cond (b && c) (file ∷ filter q (filter p rest)) (filter q (filter p rest))
filter-cond true c file p q rest e d = ap (λ (t : Bool). cond t (file ∷ filter q (filter p rest)) (filter q (filter p rest))) d
filter-cond false c file p q rest e d = refl

filter-filter : (p q : List ℕ × Facts → Bool) (files : List (List ℕ × Facts)) → filter q (filter p files) ≡ filter (λ file. p file && q file) files
filter-filter p q [] = refl
filter-filter p q (file ∷ files) =
    filter-cond (p file) (q file) file p q files refl refl ∙ ap (λ (l : List (List ℕ × Facts)). cond (p file && q file) (file ∷ l) l) (filter-filter p q files)

not-or : (a b : Bool) → (not a && not b) ≡ not (a || b)
not-or true b = refl
not-or false b = refl

pub filter-all : (files : List (List ℕ × Facts)) → filter (λ file. not false) files ≡ files
filter-all [] = refl
filter-all (file ∷ files) = ap (λ (l : List (List ℕ × Facts)). file ∷ l) (filter-all files)

-- what is missing, one by one
fold-drops : (files : List (List ℕ × Facts)) (paths : List (List ℕ)) → fold changed files (map drop_of paths) ≡ filter (λ file. not (has_text paths file.0)) files
fold-drops files [] = sym (filter-all files)
fold-drops files (path ∷ paths) = fold-drops (without_path files path) paths ∙ (filter-filter (λ file. not (same_text path file.0)) (λ file. not (has_text paths file.0)) files ∙ filter_agree _ _ (λ file. not-or (same_text path file.0) (has_text paths file.0) ∙ ap (λ b. not (b || has_text paths file.0)) (nat_list_eq_equiv.symm path file.0)) files)

-- tags that are set change no file
silent-cond : (files : List (List ℕ × Facts)) (b : Bool) (id : List ℕ) (tags : List (List ℕ)) (more : List Change) → fold changed files (cond b [] (SetTags id tags ∷ []) ++ more) ≡ fold changed files more
silent-cond files true id tags more = refl
silent-cond files false id tags more = refl

pub silent : (files : List (List ℕ × Facts)) (old new : List ℕ → List (List ℕ)) (ids : List (List ℕ)) → fold changed files (flat_map (λ id. set_tags id (old id) (new id)) ids) ≡ files
silent files old new [] = refl
silent files old new (id ∷ ids) =
    silent-cond files (pointwise same_text (old id) (new id)) id (new id) (flat_map (λ other. set_tags other (old other) (new other)) ids) ∙ silent files old new ids

-- the files after the commit of these changes
pub commit_of-files : (index : Base) (changes : List Change) (ids : List (List ℕ)) → files_after index.files (commit_of index changes ids) ≡ fold changed index.files changes
commit_of-files index [] ids = refl
commit_of-files index (change ∷ changes) ids =
    let after : Base = fold applied index (change ∷ changes) in
    fold-append changed index.files (change ∷ changes) (follow_names after ids) ∙ silent (fold changed index.files (change ∷ changes)) (tags_of after) (named_tags after) (live_of after ids)

module _ (follow : (index : Base) (commits : List Commit) → (folded index commits).files ≡ files_after index.files commits) where
  -- the files after the commit of a batch
  pub next-files : (index : Base) (added : List (List ℕ × Facts)) → (folded index (batch_commit index added)).files ≡ fold changed index.files (map add_of added)
  next-files index added = follow index (batch_commit index added) ∙ commit_of-files index (map add_of added) (message_ids added)

  -- the files after the commits of the batches
  pub batch-files : (index : Base) (batches : List (List (List ℕ × Facts))) → files_after index.files (batch_commits index batches) ≡ index.files ++ all_added batches
  batch-files index [] = sym (append-nil index.files)
  batch-files index (added ∷ batches) =
      let next : Base = folded index (batch_commit index added) in
      fold-append files_with index.files (batch_commit index added) (batch_commits next batches)
      ∙ (ap (λ (l : List (List ℕ × Facts)). files_after l (batch_commits next batches)) (sym (follow index (batch_commit index added)))
      ∙ (batch-files next batches
      ∙ (ap (λ (l : List (List ℕ × Facts)). l ++ all_added batches) (next-files index added ∙ fold-adds index.files added) ∙ append_assoc index.files added (all_added batches))))

  -- the files after a `new`
  pub new-files : (index : Base) (listed : List (List ℕ)) (batches : List (List (List ℕ × Facts))) → files_after index.files (new_commits index listed batches) ≡ files_after_new index.files listed (all_added batches)
  new-files index listed batches =
      let drops = map drop_of (gone index.files listed) in
      let made : Base = folded index (batch_commits index batches) in
      fold-append files_with index.files (batch_commits index batches) (removed_commit made index.files listed)
      ∙ (ap (λ (l : List (List ℕ × Facts)). files_after l (removed_commit made index.files listed)) (sym (follow index (batch_commits index batches)))
      ∙ (commit_of-files made drops (message_ids (removed_files index.files listed))
      ∙ (ap (λ (l : List (List ℕ × Facts)). fold changed l drops) (follow index (batch_commits index batches) ∙ batch-files index batches)
      ∙ fold-drops (index.files ++ all_added batches) (gone index.files listed))))
