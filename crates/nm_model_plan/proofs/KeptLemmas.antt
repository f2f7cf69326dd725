-- A message that has a file before and after keeps its tags, but for those that follow the names of files.
-- For the proofs of `a_message_that_stays_keeps_its_tags` and `tags_follow_the_names`.
use Rattle.std.proofs.Common.{◌≡◌, ℕ, ◌+◌, Bool, true, false, ◌||◌, not, cond, List, [], ◌∷◌, ◌++◌, Option, Some, fold, filter, map, refl, sym, ap, ◌∙◌, subst}
use Rattle.std.specs.Prelude.{unwrap_or, IsTrue}
use Rattle.std.specs.BTreeMap.{is_at}
use Rattle.std.specs.BTreeSet.{insert_key}
use Rattle.std.specs.Cmp.Lexicographic.{pointwise, slice_cmp, texts_ties}
use Rattle.std.specs.List.{flat_map}
use Rattle.std.specs.Map.{lookup, remove_entry}
use Rattle.std.specs.Ordering.{nat_cmp}
use Rattle.std.proofs.lemmas.Bool.{false≢true}
use Rattle.std.proofs.Math.Bool.{or-true}
use Rattle.std.proofs.lemmas.Grind.{fold-append}
use Rattle.nm_model_answer.specs.NewText.{gone}
use Rattle.nm_model_answer.specs.View.{message_paths, tags_of}
use Rattle.nm_base.specs.Order.{IsSorted, has_text, same_text}
use Rattle.nm_base.specs.Tags.{has_tag}
use Rattle.nm_base.specs.declared.facts.Facts.{Facts}
use Rattle.nm_base.specs.declared.tag_op.TagOp.{TagOp}
use Rattle.nm_commit.specs.Files.{changed, files_after, has_id, without_path}
use Rattle.nm_commit.specs.declared.change.Change.{Change}
use Rattle.nm_commit.specs.declared.change.Change.TheVariants.{Add, Drop, SetTags}
use Rattle.nm_commit.specs.declared.change.Commit.{Commit}
use Rattle.nm_flags.specs.FlagTags.{five_tags, name_ops, tags_by_names}
use Rattle.nm_model_index.specs.Index.{applied, committed, files_at, first_tags, folded, has_entry, pruned, row_cmp, row_of, with_entry, with_mail, with_tags, without_first}
use Rattle.nm_model_index.specs.declared.base.Base.{Base}
use Rattle.nm_tags.specs.Operations.{after_ops}
use Rattle.nm_model_plan.specs.NameTags.{commit_of, follow_names, live_of, named_tags, set_tags}
use Rattle.nm_model_plan.specs.Plan.{add_of, batch_commit, batch_commits, drop_of, message_ids, new_commits, removed_commit, removed_files}
use Rattle.nm_model_plan.proofs.FoldLemmas.{commit_of-files, fold-adds, next-files}
use Rattle.nm_base.specs.SetLaws.{bytes_same}
use Rattle.nm_model_plan.proofs.TagLemmas.{entries-tags, mail-tags, tags-own, tags-stay}

abbrev Texts : Type 0
Texts = List (List ℕ)

abbrev File : Type 0
File = List ℕ × Facts

abbrev Tagged : Type 0
Tagged = List (List ℕ × Texts)

-- of the others an entry that is removed leaves what was there
removed-by : (id other : List ℕ) (entry : List ℕ × Texts) (entries : Tagged) (b : Bool) → is_at (slice_cmp nat_cmp other) entry.0 ≡ b → same_text id other ≡ false
    → lookup (is_at (slice_cmp nat_cmp id)) (remove_entry (is_at (slice_cmp nat_cmp other)) entries) ≡ lookup (is_at (slice_cmp nat_cmp id)) entries
    → lookup (is_at (slice_cmp nat_cmp id)) (cond b entries (entry ∷ remove_entry (is_at (slice_cmp nat_cmp other)) entries)) ≡ lookup (is_at (slice_cmp nat_cmp id)) (entry ∷ entries)
removed-by id other entry entries true is apart more =
    let same : other ≡ entry.0 = bytes_same other entry.0 (sym (texts_ties other entry.0 ∙ is)) in
    let not_it : is_at (slice_cmp nat_cmp id) entry.0 ≡ false = sym (texts_ties id entry.0) ∙ (ap (same_text id) (sym same) ∙ apart) in
    sym (ap (λ (b : Bool). cond b (Some entry.1) (lookup (is_at (slice_cmp nat_cmp id)) entries)) not_it)
removed-by id other entry entries false is apart more = ap (λ (o : Option Texts). cond (is_at (slice_cmp nat_cmp id) entry.0) (Some entry.1) o) more

removed-other : (id other : List ℕ) → same_text id other ≡ false → (entries : Tagged)
    → lookup (is_at (slice_cmp nat_cmp id)) (remove_entry (is_at (slice_cmp nat_cmp other)) entries) ≡ lookup (is_at (slice_cmp nat_cmp id)) entries
removed-other id other apart [] = refl
removed-other id other apart (entry ∷ entries) = removed-by id other entry entries (is_at (slice_cmp nat_cmp other) entry.0) refl apart (removed-other id other apart entries)

-- a message with a file has one where more come, and had one where fewer are left
more-by : (a b c : Bool) → (a || b) ≡ true → (b ≡ true → c ≡ true) → (a || c) ≡ true
more-by true b c h f = refl
more-by false b c h f = f h

has_id-more : (files more : List File) (id : List ℕ) → has_id files id ≡ true → has_id (files ++ more) id ≡ true
has_id-more [] more id there = absurd (false≢true there)
has_id-more (file ∷ files) more id there = more-by (same_text id file.1.id) (has_id files id) (has_id (files ++ more) id) there (has_id-more files more id)

fewer-by : (keep : Bool) (file : File) (rest : List File) (id : List ℕ) (b : Bool) → has_id (cond keep (file ∷ rest) rest) id ≡ true → (has_id rest id ≡ true → b ≡ true) → (same_text id file.1.id || b) ≡ true
fewer-by true file rest id b there more = more-by (same_text id file.1.id) (has_id rest id) b there more
fewer-by false file rest id b there more = ap (λ (t : Bool). same_text id file.1.id || t) (more there) ∙ or-true (same_text id file.1.id)

has_id-fewer : (keep : File → Bool) (files : List File) (id : List ℕ) → has_id (filter keep files) id ≡ true → has_id files id ≡ true
has_id-fewer keep [] id there = there
has_id-fewer keep (file ∷ files) id there = fewer-by (keep file) file (filter keep files) id (has_id files id) there (has_id-fewer keep files id)

drops-fewer : (paths : Texts) (files : List File) (id : List ℕ) → has_id (fold changed files (map drop_of paths)) id ≡ true → has_id files id ≡ true
drops-fewer [] files id there = there
drops-fewer (path ∷ paths) files id there = has_id-fewer (λ file. not (same_text path file.0)) files id (drops-fewer paths (without_path files path) id there)

-- one message has a file and another has none
differ : (files : List File) (id other : List ℕ) (b : Bool) → same_text id other ≡ b → has_id files id ≡ true → has_id files other ≡ false → same_text id other ≡ false
differ files id other false is there none = is
differ files id other true is there none = absurd (false≢true (sym none ∙ (ap (has_id files) (sym (bytes_same id other (sym is))) ∙ there)))

entry-files : (b : Bool) (index : Base) (id : List ℕ) → (cond b index (record index { entries = index.entries ++ (id, index.next) ∷ []; next = index.next + 1 })).files ≡ index.files
entry-files true index id = refl
entry-files false index id = refl

entries-files : (ids : Texts) (index : Base) → (fold with_entry index ids).files ≡ index.files
entries-files [] index = refl
entries-files (id ∷ ids) index = entries-files ids (with_entry index id) ∙ entry-files (has_entry index id) index id

module _ (others : (index : Base) (id other : List ℕ) (tags : Texts) → same_text other id ≡ false → lookup (is_at (slice_cmp nat_cmp other)) (with_tags index id tags).tags ≡ lookup (is_at (slice_cmp nat_cmp other)) index.tags)
    (single : (index : Base) (change : Change) → (applied index change).files ≡ changed index.files change) where
  -- a mail that comes leaves the tags of a message that has a file
  add-by : (index : Base) (path : List ℕ) (facts : Facts) (id : List ℕ) (b : Bool) → same_text id facts.id ≡ b → has_id index.files id ≡ true → tags_of (with_mail index path facts) id ≡ tags_of index id
  add-by index path facts id true is there =
      let mid : Base = fold with_entry index (facts.id ∷ facts.links) in
      let here : has_id mid.files facts.id ≡ true =
      ap (λ (files : List File). has_id files facts.id) (entries-files (facts.id ∷ facts.links) index) ∙ (ap (has_id index.files) (sym (bytes_same id facts.id (sym is))) ∙ there) in
      ap (λ (b : Bool). tags_of (cond b mid (with_tags mid facts.id (first_tags facts.marks))) id) here
      ∙ ap (λ (t : Tagged). unwrap_or (lookup (is_at (slice_cmp nat_cmp id)) t) []) (entries-tags others (facts.id ∷ facts.links) index)
  add-by index path facts id false is there = mail-tags others index path facts id is

  adds-kept : (added : List File) (index : Base) (id : List ℕ) → has_id index.files id ≡ true → tags_of (fold applied index (map add_of added)) id ≡ tags_of index id
  adds-kept [] index id there = refl
  adds-kept (one ∷ added) index id there =
      adds-kept added (with_mail index one.0 one.1) id (ap (λ (files : List File). has_id files id) (single index (Add one.0 one.1)) ∙ has_id-more index.files ((one.0, one.1) ∷ []) id there)
      ∙ add-by index one.0 one.1 id (same_text id one.1.id) refl there

  -- and a file that goes leaves those of a message that has one after it
  dead-by : (index : Base) (path : List ℕ) (file : File) (id : List ℕ) (b : Bool) → has_id (without_path index.files path) file.1.id ≡ b → has_id (without_path index.files path) id ≡ true
      → let left : Base = pruned (record index { files = without_path index.files path; kept = insert_key row_cmp index.kept (row_of file.1) }) in
      tags_of (cond b left (record left { tags = remove_entry (is_at (slice_cmp nat_cmp file.1.id)) left.tags })) id ≡ tags_of index id
  dead-by index path file id true is there = refl
  dead-by index path file id false is there =
      let apart : same_text id file.1.id ≡ false = differ (without_path index.files path) id file.1.id (same_text id file.1.id) refl there is in
      ap (λ (o : Option Texts). unwrap_or o []) (removed-other id file.1.id apart index.tags)

  drop-by : (index : Base) (path : List ℕ) (files : List File) (id : List ℕ) → has_id (without_path index.files path) id ≡ true → tags_of (without_first index path files) id ≡ tags_of index id
  drop-by index path [] id there = refl
  drop-by index path (file ∷ more) id there = dead-by index path file id (has_id (without_path index.files path) file.1.id) refl there

  drops-kept : (paths : Texts) (index : Base) (id : List ℕ) → has_id (fold changed index.files (map drop_of paths)) id ≡ true → tags_of (fold applied index (map drop_of paths)) id ≡ tags_of index id
  drops-kept [] index id there = refl
  drops-kept (path ∷ paths) index id there =
      drops-kept paths (applied index (Drop path)) id (ap (λ (files : List File). has_id (fold changed files (map drop_of paths)) id) (single index (Drop path)) ∙ there)
      ∙ drop-by index path (files_at index path) id (drops-fewer paths (without_path index.files path) id there)

  -- what holds of the tags that a message has, and of those that it is to have, holds after all are set
  module _ (P : Texts → Type 0) where
    set-keep : (b : Bool) (index : Base) (x id : List ℕ) (tags : Texts) (t : Bool) → same_text id x ≡ t → P (tags_of index id) → (id ≡ x → P tags) → P (tags_of (cond b index (with_tags index x tags)) id)
    set-keep true index x id tags t is h k = h
    set-keep false index x id tags true is h k =
        let one : id ≡ x = bytes_same id x (sym is) in
        subst P (sym (ap (tags_of (with_tags index x tags)) one ∙ tags-own index x tags)) (k one)
    set-keep false index x id tags false is h k = subst P (sym (ap (λ (o : Option Texts). unwrap_or o []) (others index x id tags is))) h

    set-first : (b : Bool) (index : Base) (x : List ℕ) (tags : Texts) (more : List Change) → fold applied index (cond b [] (SetTags x tags ∷ []) ++ more) ≡ fold applied (cond b index (with_tags index x tags)) more
    set-first true index x tags more = refl
    set-first false index x tags more = refl

    sets-keep : (old new : List ℕ → Texts) (ids : Texts) (index : Base) (id : List ℕ) → P (tags_of index id) → P (new id) → P (tags_of (fold applied index (flat_map (λ x. set_tags x (old x) (new x)) ids)) id)
    sets-keep old new [] index id h k = h
    sets-keep old new (x ∷ ids) index id h k =
        let b : Bool = pointwise same_text (old x) (new x) in
        subst (λ (i : Base). P (tags_of i id)) (sym (set-first b index x (new x) (flat_map (λ y. set_tags y (old y) (new y)) ids)))
        (sets-keep old new ids (cond b index (with_tags index x (new x))) id (set-keep b index x id (new x) (same_text id x) refl h (λ one. subst (λ (y : List ℕ). P (new y)) one k)) k)

    module _ (closed : (tags paths : Texts) → P tags → P (tags_by_names tags paths)) where
      commit-keeps : (index : Base) (changes : List Change) (ids : Texts) (id : List ℕ) → tags_of (fold applied index changes) id ≡ tags_of index id → P (tags_of index id) → P (tags_of (folded index (commit_of index changes ids)) id)
      commit-keeps index [] ids id same h = h
      commit-keeps index (change ∷ changes) ids id same h =
          let mid : Base = fold applied index (change ∷ changes) in
          let here : P (tags_of mid id) = subst P (sym same) h in
          subst (λ (i : Base). P (tags_of i id)) (sym (fold-append applied index (change ∷ changes) (follow_names mid ids)))
          (sets-keep (tags_of mid) (named_tags mid) (live_of mid ids) mid id here (closed (tags_of mid id) (message_paths mid.files id) here))

      module _ (follow : (index : Base) (commits : List Commit) → (folded index commits).files ≡ files_after index.files commits) where
        batches-keep : (batches : List (List File)) (index : Base) (id : List ℕ) → has_id index.files id ≡ true → P (tags_of index id) → P (tags_of (folded index (batch_commits index batches)) id)
        batches-keep [] index id there h = h
        batches-keep (added ∷ batches) index id there h =
            let next : Base = folded index (batch_commit index added) in
            let here : has_id next.files id ≡ true = ap (λ (files : List File). has_id files id) (next-files follow index added ∙ fold-adds index.files added) ∙ has_id-more index.files added id there in
            subst (λ (i : Base). P (tags_of i id)) (sym (fold-append committed index (batch_commit index added) (batch_commits next batches)))
            (batches-keep batches next id here (commit-keeps index (map add_of added) (message_ids added) id (adds-kept added index id there) h))

        -- over the commits of a `new`
        pub new-keeps : (index : Base) (listed : Texts) (batches : List (List File)) (id : List ℕ) → has_id index.files id ≡ true → has_id (folded index (new_commits index listed batches)).files id ≡ true → P (tags_of index id)
            → P (tags_of (folded index (new_commits index listed batches)) id)
        new-keeps index listed batches id before after h =
            let made : Base = folded index (batch_commits index batches) in
            let drops : List Change = map drop_of (gone index.files listed) in
            let ids : Texts = message_ids (removed_files index.files listed) in
            let whole : folded index (new_commits index listed batches) ≡ folded made (removed_commit made index.files listed) = fold-append committed index (batch_commits index batches) (removed_commit made index.files listed) in
            let left : has_id (fold changed made.files drops) id ≡ true =
            ap (λ (files : List File). has_id files id) (sym (follow made (removed_commit made index.files listed) ∙ commit_of-files made drops ids)) ∙ (ap (λ (i : Base). has_id i.files id) (sym whole) ∙ after) in
            subst (λ (i : Base). P (tags_of i id)) (sym whole) (commit-keeps made drops ids id (drops-kept (gone index.files listed) made id left) (batches-keep batches index id before h))

  module _ (follow : (index : Base) (commits : List Commit) → (folded index commits).files ≡ files_after index.files commits) where
    removed-none : (paths ids : Texts) (index : Base) (id : List ℕ) → has_text ids id ≡ false → has_id (fold changed index.files (map drop_of paths)) id ≡ true
        → tags_of (folded index (commit_of index (map drop_of paths) ids)) id ≡ tags_of index id
    removed-none [] ids index id none left = refl
    removed-none (path ∷ paths) ids index id none left = tags-stay others index (drop_of path) (map drop_of paths) ids id none ∙ drops-kept (path ∷ paths) index id left

    -- a message that loses no file keeps its tags
    pub removed-stay : (index : Base) (files : List File) (listed : Texts) (id : List ℕ) → has_id (removed_files files listed) id ≡ false → IsTrue (has_id (folded index (removed_commit index files listed)).files id)
        → tags_of (folded index (removed_commit index files listed)) id ≡ tags_of index id
    removed-stay index files listed id none there =
        let drops : List Change = map drop_of (gone files listed) in
        let ids : Texts = message_ids (removed_files files listed) in
        removed-none (gone files listed) ids index id none (ap (λ (all : List File). has_id all id) (sym (follow index (removed_commit index files listed) ∙ commit_of-files index drops ids)) ∙ there)

    -- a tag that does not follow names stays as it was
    pub tag-kept : (ordered : (tags : Texts) (ops : List TagOp) → IsSorted tags → IsSorted (after_ops tags ops))
        (five : (tags paths : Texts) (tag : List ℕ) → IsSorted tags → has_text five_tags tag ≡ false → has_tag (tags_by_names tags paths) tag ≡ has_tag tags tag)
        (index : Base) (listed : Texts) (batches : List (List File)) (id tag : List ℕ) → IsSorted (tags_of index id) → has_text five_tags tag ≡ false → IsTrue (has_id index.files id)
        → IsTrue (has_id (folded index (new_commits index listed batches)).files id) → has_tag (tags_of (folded index (new_commits index listed batches)) id) tag ≡ has_tag (tags_of index id) tag
    tag-kept ordered five index listed batches id tag in_order none before after =
        let kept : IsSorted (tags_of (folded index (new_commits index listed batches)) id) × (has_tag (tags_of (folded index (new_commits index listed batches)) id) tag ≡ has_tag (tags_of index id) tag) =
        new-keeps (λ tags. IsSorted tags × (has_tag tags tag ≡ has_tag (tags_of index id) tag)) (λ tags paths h. (ordered tags (name_ops paths) h.0, five tags paths tag h.0 none ∙ h.1)) follow index listed batches id before after (in_order, refl) in
        kept.1
