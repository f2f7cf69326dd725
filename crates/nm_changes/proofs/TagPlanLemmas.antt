-- The changes of tags: those of the messages that may have other tags are those of all. And the paths of a
-- message that has no files. For the proofs of `plan_tags` and `message_paths`.
use Rattle.std.proofs.Common.{◌≡◌, ℕ, Bool, true, false, ◌||◌, ◌&&◌, cond, not, List, [], ◌∷◌, ◌++◌, filter, refl, sym, ap, ◌∙◌}
use Rattle.std.specs.Cmp.Lexicographic.{nat_list_eq_equiv, pointwise}
use Rattle.std.specs.List.{flat_map}
use Rattle.std.proofs.lemmas.Bool.{cond-true}
use Rattle.nm_base.specs.Order.{has_text, same_text}
use Rattle.nm_base.specs.declared.facts.Facts.{Facts}
use Rattle.nm_commit.specs.Files.{has_id, paths_of}
use Rattle.nm_commit.specs.declared.change.Change.{Change}
use Rattle.nm_commit.specs.declared.change.Change.TheVariants.{SetTags}
use Rattle.nm_flags.specs.Renames.{renames}
use Rattle.nm_flags.specs.declared.renames.Rename.{Rename}
use Rattle.nm_model_index.specs.Index.{live_ids}
use Rattle.nm_model_index.specs.declared.base.Base.{Base}
use Rattle.nm_model_answer.specs.RenameOutcomes.{renames_for}
use Rattle.nm_model_answer.specs.View.{message_paths, tags_of}
use Rattle.nm_model_plan.specs.NameTags.{set_tags}
use Rattle.nm_model_plan.specs.TagCommit.{tag_changes}
use Rattle.nm_changes.specs.WantedTags.{AreTouched, renames_of}

abbrev Texts : Type 0
Texts = List (List ℕ)

-- what gives nothing may be left out
drop-by : {X : Type 0} (f : List ℕ → List X) (id : List ℕ) (b : Bool) (rest : Texts) → (b ≡ false → f id ≡ []) → flat_map f (cond b (id ∷ rest) rest) ≡ f id ++ flat_map f rest
drop-by f id true rest silent = refl
drop-by {X} f id false rest silent = ap (λ (l : List X). l ++ flat_map f rest) (sym (silent refl))

filter-silent : {X : Type 0} (f : List ℕ → List X) (keep : List ℕ → Bool) (ids : Texts) → ((id : List ℕ) → keep id ≡ false → f id ≡ []) → flat_map f (filter keep ids) ≡ flat_map f ids
filter-silent f keep [] silent = refl
filter-silent {X} f keep (id ∷ ids) silent = drop-by f id (keep id) (filter keep ids) (silent id) ∙ ap (λ (l : List X). f id ++ l) (filter-silent f keep ids silent)

texts-alike : (texts : Texts) → pointwise same_text texts texts ≡ true
texts-alike [] = refl
texts-alike (text ∷ texts) = ap (λ (b : Bool). b && pointwise same_text texts texts) (nat_list_eq_equiv.refl text) ∙ texts-alike texts

alike : (old new : Texts) → new ≡ old → pointwise same_text old new ≡ true
alike old new same = ap (pointwise same_text old) same ∙ texts-alike old

module _ (index wanted : Base) (ids : Texts) (touched : AreTouched index wanted ids) where
  pub changes-are : (changes : List Change) → changes ≡ flat_map (λ id. set_tags id (tags_of index id) (tags_of wanted id)) ids → changes ≡ tag_changes index wanted
  changes-are changes are =
      let change_of : List ℕ → List Change = λ id. set_tags id (tags_of index id) (tags_of wanted id) in
      are
      ∙ (ap (flat_map change_of) touched.ids_are
      ∙ filter-silent change_of (has_text touched.among) (live_ids index.files index.entries)
      (λ id apart. cond-true (pointwise same_text (tags_of index id) (tags_of wanted id)) [] (SetTags id (tags_of wanted id) ∷ []) (alike (tags_of index id) (tags_of wanted id) (touched.others id apart))))

  changed-by : (id : List ℕ) (b : Bool) (rest : Texts) → flat_map (λ other. renames (tags_of wanted other) (message_paths index.files other)) (cond (not b) (id ∷ rest) rest)
      ≡ cond b [] (renames (tags_of wanted id) (message_paths index.files id)) ++ flat_map (λ other. renames (tags_of wanted other) (message_paths index.files other)) rest
  changed-by id true rest = refl
  changed-by id false rest = refl

  changed-all : (all : Texts) → flat_map (renames_of index wanted) all
      ≡ flat_map (λ id. renames (tags_of wanted id) (message_paths index.files id)) (filter (λ id. not (pointwise same_text (tags_of index id) (tags_of wanted id))) all)
  changed-all [] = refl
  changed-all (id ∷ all) =
      ap (λ (l : List Rename). renames_of index wanted id ++ l) (changed-all all)
      ∙ sym (changed-by id (pointwise same_text (tags_of index id) (tags_of wanted id)) (filter (λ other. not (pointwise same_text (tags_of index other) (tags_of wanted other))) all))

  pub renames-are : (list : List Rename) → list ≡ flat_map (renames_of index wanted) ids → list ≡ renames_for index wanted
  renames-are list are =
      are
      ∙ (ap (flat_map (renames_of index wanted)) touched.ids_are
      ∙ (filter-silent (renames_of index wanted) (has_text touched.among) (live_ids index.files index.entries)
      (λ id apart. cond-true (pointwise same_text (tags_of index id) (tags_of wanted id)) [] (renames (tags_of wanted id) (message_paths index.files id)) (alike (tags_of index id) (tags_of wanted id) (touched.others id apart)))
      ∙ changed-all (live_ids index.files index.entries)))

-- a message without a file has no paths
none-left : (b : Bool) (file : List ℕ × Facts) (rest : List (List ℕ × Facts)) (more : Bool) → (b || more) ≡ false → (more ≡ false → paths_of rest ≡ []) → paths_of (cond b (file ∷ rest) rest) ≡ []
none-left true file rest more h k = absurd (cc)
none-left false file rest more h k = k h

pub no-paths : (files : List (List ℕ × Facts)) (id : List ℕ) → has_id files id ≡ false → message_paths files id ≡ []
no-paths [] id h = refl
no-paths (file ∷ files) id h = none-left (same_text id file.1.id) file (filter (λ other. same_text id other.1.id) files) (has_id files id) h (no-paths files id)
