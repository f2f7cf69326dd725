-- Two halves that were made one after the other, and the parts of both. For the proofs of `apply_by_halves`, `label_all` and
-- `file_all`.
use Rattle.std.proofs.Common.{◌≡◌, refl, sym, ap, subst, ◌∙◌, ℕ, suc, ◌+◌, ◌<◌, ◌≤◌, Bool, true, false, cond, List, [], ◌∷◌, ◌++◌, length, take, arith}
use Rattle.std.specs.Prelude.{fold, slice_index_or}
use Rattle.std.proofs.lemmas.List.{take_more}
use Rattle.std.proofs.lemmas.List.Sums.{fold-append}
use Rattle.nm_base.specs.declared.facts.Facts.{Facts}
use Rattle.nm_base.specs.declared.facts.LinkRow.{LinkRow}
use Rattle.nm_commit.specs.Files.{FitChanges, FitsChange, changed}
use Rattle.nm_commit.specs.declared.change.Change.{Change}
use Rattle.nm_commit.specs.declared.change.Change.TheVariants.{Add, Drop, Move, SetTags}
use Rattle.nm_model_index.specs.Index.{applied}
use Rattle.nm_model_index.specs.declared.base.Base.{Base}
use Rattle.nm_threads.specs.Labels.{Labelling, entries_of, has_entry, numbered}
use Rattle.nm_tables.specs.FileTable.{AreFiled, files_in}
use Rattle.nm_parts.specs.Parts.{AreParts, base_of}
use Rattle.nm_parts.specs.Halves.{InTurn, IsFiledBy, IsLabelledBy}
use Rattle.nm_parts.specs.ThreadLaws.{ThreadLaws}
use Rattle.nm_parts.specs.declared.parts.Parts.{Parts}
use Rattle.nm_parts.specs.declared.halves.Filed.{Filed}
use Rattle.nm_parts.proofs.AddLemmas.{file_moved, mail_added}

module _ {X S : Type 0} (does : X → S → S → Type 0) where
  turn_more : (xs : List X) (x : X) (old mid new : S) → InTurn does xs old mid → does x mid new → InTurn does (xs ++ x ∷ []) old new
  turn_more [] x old mid new is step = (new, subst (λ o. does x o new) is step, refl)
  turn_more (y ∷ xs) x old mid new (first, one, rest) step = (first, one, turn_more xs x first mid new rest step)

  -- one more
  pub in_turn_more : (xs : List X) (i : ℕ) (x : X) (old mid new : S) → i < length xs → x ≡ slice_index_or xs i x → InTurn does (take i xs) old mid → does x mid new → InTurn does (take (i + 1) xs) old new
  in_turn_more xs i x old mid new lt item turn step =
      subst (λ some. InTurn does some old new) (sym (take_more xs i x lt)) (turn_more (take i xs) (slice_index_or xs i x) old mid new turn (subst (λ y. does y mid new) item step))

-- ---- what a half keeps

-- numbering some ids uses up n numbers at most
numbered_by : (test : Bool) (ids : List (List ℕ)) (id : List ℕ) (entries : List (List ℕ × ℕ)) (next : ℕ) → (numbered entries next ids).1 ≤ next + length ids
    → (numbered (entries ++ (id, next) ∷ []) (next + 1) ids).1 ≤ next + 1 + length ids
    → (cond test (numbered entries next ids) (numbered (entries ++ (id, next) ∷ []) (next + 1) ids)).1 ≤ next + suc (length ids)
numbered_by true ids id entries next old new = omega (arith, old)
numbered_by false ids id entries next old new = omega (arith, new)

pub numbered_within : (ids : List (List ℕ)) (entries : List (List ℕ × ℕ)) (next : ℕ) → (numbered entries next ids).1 ≤ next + length ids
numbered_within [] entries next = omega arith
numbered_within (id ∷ ids) entries next =
    numbered_by (has_entry entries id) ids id entries next (numbered_within ids entries next) (numbered_within ids (entries ++ (id, next) ∷ []) (next + 1))

-- the files stay filed
pub still_filed : (change : Change) (old new : Filed) → AreFiled old.file_table → IsFiledBy change old new → AreFiled new.file_table
still_filed (Add path facts) old new are file = file.filed
still_filed (Drop path) old new are file = absurd file
still_filed (Move from to) old new are file = file.0
still_filed (SetTags id tags) old new are file = subst AreFiled (sym file.0) are

-- and are those after the change
pub files_filed : (change : Change) (old new : Filed) → IsFiledBy change old new → files_in new.file_table ≡ changed (files_in old.file_table) change
files_filed (Add path facts) old new file = file.files
files_filed (Drop path) old new file = absurd file
files_filed (Move from to) old new file = file.1
files_filed (SetTags id tags) old new file = ap files_in file.0

pub folded_more : (first before after : List (List ℕ × Facts)) (xs : List Change) (i : ℕ) (x : Change) → i < length xs → x ≡ slice_index_or xs i x → before ≡ fold changed first (take i xs) → after ≡ changed before x
    → after ≡ fold changed first (take (i + 1) xs)
folded_more first before after xs i x lt item is step =
    step
    ∙ (ap (λ (files : List (List ℕ × Facts)). changed files x) is
    ∙ (ap (changed (fold changed first (take i xs))) item
    ∙ sym (ap (fold changed first) (take_more xs i x lt) ∙ fold-append changed first (take i xs) (slice_index_or xs i x ∷ []))))

-- ---- both halves

-- the parts that have these halves
abbrev joined : Parts → Filed → Labelling → Parts
joined parts filed labels = record { revision = parts.revision; file_table = filed.file_table; kept = parts.kept; labels = labels; tags = filed.tags }

-- the half that has the files and the tags
abbrev filed_of : Parts → Filed
filed_of parts = record { file_table = parts.file_table; tags = parts.tags }

abbrev Joins : Parts → Filed → Labelling → Base → Type 0
Joins parts filed labels base = AreParts (joined parts filed labels) × (base_of (joined parts filed labels) ≡ base)

module _ (laws : ThreadLaws) (old : Parts) (filed : Filed) (labels : Labelling) (are : AreParts old) where
  one_joined : (change : Change) → FitsChange (files_in old.file_table) change → IsLabelledBy change old.labels labels → IsFiledBy change (filed_of old) filed → Joins old filed labels (applied (base_of old) change)
  one_joined (Add path facts) fits label file =
      mail_added laws old (joined old filed labels) path facts are refl refl file.filed file.files label.0 label.1 file.tags (file.tagged are.tagged)
  one_joined (Drop path) fits label file = absurd label
  one_joined (Move from to) fits label (of, files, tags) = (
    file_moved laws old (joined old filed labels) from to are refl label tags of files,
    λ i. record (base_of old) { next = (label i).next; files = files i; entries = entries_of (label i).labels; tags = tags i },
  )
  one_joined (SetTags id set) fits label (same, tags, tagged) =
      let with_set : Parts = record old { tags = filed.tags } in
      let is : joined old filed labels ≡ with_set = λ i. record with_set { file_table = same i; labels = label i } in (
        subst AreParts (sym is)
            (record {
              filed = are.filed;
              kept = are.kept;
              labels = are.labels;
              held = record { rows = are.held.rows; entries = are.held.entries };
              tagged = tagged are.tagged fits;
            }),
        ap base_of is ∙ (λ i. record (base_of old) { tags = tags i }),
      )

module _ (laws : ThreadLaws) (follow : (index : Base) (change : Change) → (applied index change).files ≡ changed index.files change) where
  all_joined : (changes : List Change) (old : Parts) (filed : Filed) (labels : Labelling) → AreParts old → FitChanges (files_in old.file_table) changes → InTurn IsLabelledBy changes old.labels labels
      → InTurn IsFiledBy changes (filed_of old) filed → Joins old filed labels (fold applied (base_of old) changes)
  all_joined [] old filed labels are fits label file =
      let is : joined old filed labels ≡ old = λ i. record old { file_table = (file i).file_table; labels = label i; tags = (file i).tags } in (subst AreParts (sym is) are, ap base_of is)
  all_joined (change ∷ changes) old filed labels are (fits, more) (mid_labels, label, labelled) (mid_filed, file, filed_all) =
      let one : Joins old mid_filed mid_labels (applied (base_of old) change) = one_joined laws old mid_filed mid_labels are change fits label file in
      let files : files_in mid_filed.file_table ≡ changed (files_in old.file_table) change = ap (λ b. b.files) one.1 ∙ follow (base_of old) change in
      let rest : Joins (joined old mid_filed mid_labels) filed labels (fold applied (base_of (joined old mid_filed mid_labels)) changes) =
      all_joined changes (joined old mid_filed mid_labels) filed labels one.0 (subst (λ fs. FitChanges fs changes) (sym files) more) labelled filed_all in
      (rest.0, rest.1 ∙ ap (λ b. fold applied b changes) one.1)

  -- both halves, made one after the other of clones, are those of the parts after the changes
  pub sides_joined : (changes : List Change) (old : Parts) (before filed : Filed) (handles labels : Labelling) (kept : List (List ℕ × LinkRow)) → AreParts old → FitChanges (files_in old.file_table) changes → kept ≡ old.kept
      → handles ≡ old.labels → before.file_table ≡ old.file_table → before.tags ≡ old.tags → InTurn IsLabelledBy changes handles labels → InTurn IsFiledBy changes before filed
      → AreParts (record { revision = old.revision; file_table = filed.file_table; kept = kept; labels = labels; tags = filed.tags })
      × (base_of (record { revision = old.revision; file_table = filed.file_table; kept = kept; labels = labels; tags = filed.tags }) ≡ fold applied (base_of old) changes)
  sides_joined changes old before filed handles labels kept are fits kept_is handles_are file_table tags label file =
      let joins : Joins old filed labels (fold applied (base_of old) changes) =
      all_joined changes old filed labels are fits (subst (λ (l : Labelling). InTurn IsLabelledBy changes l labels) handles_are label)
      (subst (λ (f : Filed). InTurn IsFiledBy changes f filed) (λ i. record { file_table = file_table i; tags = tags i }) file) in
      let is : record (joined old filed labels) { kept = kept } ≡ joined old filed labels = λ i. record (joined old filed labels) { kept = kept_is i } in
      (subst AreParts (sym is) joins.0, ap base_of is ∙ joins.1)
