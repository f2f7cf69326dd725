-- After a `new` that went well over a tree that is known the index has the listed files that are mail, each new one with the facts of its
-- bytes.
-- For the proof of `Writer::new_mail`.
use Rattle.std.proofs.Common.{◌≡◌, ◌⊎◌, inl, inr, ℕ, Bool, true, false, ◌||◌, ◌&&◌, not, cond, List, [], ◌∷◌, ◌++◌, Option, None, Some, IfSome, IfOk, Result, Ok, Err, is_some, filter, refl, sym, ap, ◌∙◌, subst, append-nil}
use Rattle.std.proofs.lemmas.List.Elements.{All-contains_itself, recursion_from_All}
use Rattle.std.specs.List.{AllByRecursion, Contains, flat_map}
use Rattle.std.specs.Prelude.{IsTrue}
use Rattle.std.proofs.Math.Bool.{and-false}
use Rattle.nm_model_answer.specs.NewText.{gone, listed_in}
use Rattle.nm_model_answer.specs.declared.report.NewReport.{NewReport}
use Rattle.nm_base.specs.Limits.{max_mail_bytes}
use Rattle.nm_base.specs.Order.{has_text, same_text}
use Rattle.nm_base.specs.declared.facts.Facts.{Facts}
use Rattle.nm_commit.specs.Files.{has_path, paths_of}
use Rattle.nm_model_index.specs.Index.{folded}
use Rattle.nm_model_index.specs.declared.base.Base.{Base}
use Rattle.nm_maildir.specs.Tree.{Tree, got_of}
use Rattle.nm_maildir.specs.declared.answers.Got.{Got}
use Rattle.nm_maildir.specs.declared.answers.Got.TheVariants as got
use Rattle.nm_maildir.specs.declared.given.Given.{Given}
use Rattle.nm_model_plan.specs.Plan.{all_added, files_after_new, new_commits, to_read}
use Rattle.nm_scan.specs.Batches.{ReadsBatches}
use Rattle.nm_scan.specs.FileReads.{Reads, arrival, arrival_at, arrival_of, found_in}
use Rattle.nm_writer.proofs.ArrivalLemmas.{are-unknown, every-in, every-filter}
use Rattle.nm_base.specs.SetLaws.{bytes_same, has_text-filter}
use Rattle.nm_writer.specs.New.{HasCome, HoldsTheMail, IsAfterNew, StillHolds, facts_at}
use Rattle.nm_writer.specs.Writer.{WriterState}
use Rattle.nm_writer.specs.declared.write_error.WriteError.{WriteError}

abbrev File : Type 0
File = List ℕ × Facts

-- what is so of all files is so of those that a filter keeps, and of two lists together

all-cond : (P : File → Type 0) (b : Bool) (file : File) (files : List File) → P file → AllByRecursion P files → AllByRecursion P (cond b (file ∷ files) files)
all-cond P true file files first rest = (first, rest)
all-cond P false file files first rest = rest

all-filter : (P : File → Type 0) (keep : File → Bool) (files : List File) → AllByRecursion P files → AllByRecursion P (filter keep files)
all-filter P keep [] h = tt
all-filter P keep (file ∷ files) h = all-cond P (keep file) file (filter keep files) h.0 (all-filter P keep files h.1)

all-append : (P : File → Type 0) (files more : List File) → AllByRecursion P files → AllByRecursion P more → AllByRecursion P (files ++ more)
all-append P [] more h k = k
all-append P (file ∷ files) more h k = (h.0, all-append P files more h.1 k)

all-weaker : (P Q : File → Type 0) (files : List File) → ((file : File) → P file → Q file) → AllByRecursion P files → AllByRecursion Q files
all-weaker P Q [] f h = tt
all-weaker P Q (file ∷ files) f h = (f file h.0, all-weaker P Q files f h.1)

-- the mail that is found at a path is that of its facts
arrival-is : (path : List ℕ) (found : Got) → arrival_of path found ≡ arrival path (found_in found)
arrival-is path (got.Found bytes) = refl
arrival-is path got.Missing = refl
arrival-is path got.TooLong = refl

or_assoc : (a b c : Bool) → (a || (b || c)) ≡ ((a || b) || c)
or_assoc true b c = refl
or_assoc false b c = refl

has_path-append : (files more : List File) (path : List ℕ) → has_path (files ++ more) path ≡ (has_path files path || has_path more path)
has_path-append [] more path = refl
has_path-append (file ∷ files) more path = ap (λ b. same_text path file.0 || b) (has_path-append files more path) ∙ or_assoc (same_text path file.0) (has_path files path) (has_path more path)

module _ (tree : Tree) where
  -- mail has come of just the paths at which there is mail

  found-case : (path first : List ℕ) (paths : List (List ℕ)) (rest : List File) (facts : Option Facts) (b : Bool) → facts_at tree first ≡ facts → same_text path first ≡ b
      → has_path rest path ≡ (has_text paths path && is_some (facts_at tree path)) → has_path (arrival first facts ++ rest) path ≡ ((b || has_text paths path) && is_some (facts_at tree path))
  found-case path first paths rest None true is same h =
      let none : is_some (facts_at tree path) ≡ false = ap (λ (p : List ℕ). is_some (facts_at tree p)) (bytes_same path first (sym same)) ∙ ap (λ (o : Option Facts). is_some o) is in
      h ∙ (ap (λ m. has_text paths path && m) none ∙ (and-false (has_text paths path) ∙ sym none))
  found-case path first paths rest None false is same h = h
  found-case path first paths rest (Some facts) true is same h =
      let some : is_some (facts_at tree path) ≡ true = ap (λ (p : List ℕ). is_some (facts_at tree p)) (bytes_same path first (sym same)) ∙ ap (λ (o : Option Facts). is_some o) is in
      ap (λ b. b || has_path rest path) same ∙ sym some
  found-case path first paths rest (Some facts) false is same h = ap (λ b. b || has_path rest path) same ∙ h

  found-at : (paths : List (List ℕ)) (path : List ℕ) → has_path (flat_map (arrival_at tree) paths) path ≡ (has_text paths path && is_some (facts_at tree path))
  found-at [] path = refl
  found-at (first ∷ paths) path =
      ap (λ (l : List File). has_path (l ++ flat_map (arrival_at tree) paths) path) (arrival-is first (got_of tree first max_mail_bytes))
      ∙ found-case path first paths (flat_map (arrival_at tree) paths) (facts_at tree first) (same_text path first) refl refl (found-at paths path)

  -- what is so of the paths is so of those at which mail was found

  path-case : (P : List ℕ → Type 0) (first : List ℕ) (rest : List File) (facts : Option Facts) → P first → AllByRecursion P (paths_of rest) → AllByRecursion P (paths_of (arrival first facts ++ rest))
  path-case P first rest None here h = h
  path-case P first rest (Some facts) here h = (here, h)

  found-paths : (P : List ℕ → Type 0) (paths : List (List ℕ)) → AllByRecursion P paths → AllByRecursion P (paths_of (flat_map (arrival_at tree) paths))
  found-paths P [] h = tt
  found-paths P (first ∷ paths) h =
      subst (λ (l : List File). AllByRecursion P (paths_of (l ++ flat_map (arrival_at tree) paths))) (sym (arrival-is first (got_of tree first max_mail_bytes)))
      (path-case P first (flat_map (arrival_at tree) paths) (facts_at tree first) h.0 (found-paths P paths h.1))

  -- each has the facts of its bytes

  facts-case : (before : List File) (first : List ℕ) (rest : List File) (facts : Option Facts) → facts_at tree first ≡ facts → has_path before first ≡ false → AllByRecursion (HasCome tree before) rest
      → AllByRecursion (HasCome tree before) (arrival first facts ++ rest)
  facts-case before first rest None is fresh h = h
  facts-case before first rest (Some facts) is fresh h = ((fresh, is), h)

  found-facts : (before : List File) (paths : List (List ℕ)) → AllByRecursion (λ path. has_path before path ≡ false) paths → AllByRecursion (HasCome tree before) (flat_map (arrival_at tree) paths)
  found-facts before [] h = tt
  found-facts before (first ∷ paths) h =
      subst (λ (l : List File). AllByRecursion (HasCome tree before) (l ++ flat_map (arrival_at tree) paths)) (sym (arrival-is first (got_of tree first max_mail_bytes)))
      (facts-case before first (flat_map (arrival_at tree) paths) (facts_at tree first) refl h.0 (found-facts before paths h.1))

-- listed, and there before or mail that was found: that is listed and mail
listed-mail : (l h m : Bool) → (h ≡ true → l ≡ true → m ≡ true) → (l && (h || ((l && not h) && m))) ≡ (l && m)
listed-mail true true m still = sym (still refl refl)
listed-mail true false m still = refl
listed-mail false h m still = refl

-- the laws on what a `new` reads and leaves
pub record Laws : Type 0 where
  pub in_one : (tree : Option Tree) (given : List Given) (paths : List (List ℕ)) (batches : List (List File)) (left : List (List ℕ)) → ReadsBatches tree given paths batches left
      → (read : List (List ℕ)) × (paths ≡ read ++ left) × Reads tree given read (all_added batches)
  pub after : (index : Base) (listed : List (List ℕ)) (batches : List (List File)) → (folded index (new_commits index listed batches)).files ≡ files_after_new index.files listed (all_added batches)
  pub leaves : (index : Base) (listed : List (List ℕ)) (batches : List (List File)) (path : List ℕ) → AllByRecursion (λ arrived. IsTrue (has_text listed arrived)) (paths_of (all_added batches))
      → has_path (folded index (new_commits index listed batches)).files path ≡ (has_text listed path && (has_path index.files path || has_path (all_added batches) path))

module _ (laws : Laws) (tree : Tree) (index : Base) (listed : List (List ℕ)) (batches : List (List File)) (found : all_added batches ≡ flat_map (arrival_at tree) (to_read index.files listed)) where
  every-listed : AllByRecursion (λ arrived. IsTrue (has_text listed arrived)) (paths_of (all_added batches))
  every-listed =
      subst (λ (l : List File). AllByRecursion (λ arrived. IsTrue (has_text listed arrived)) (paths_of l)) (sym found)
      (found-paths tree (λ arrived. IsTrue (has_text listed arrived)) (to_read index.files listed) (every-filter (λ arrived. IsTrue (has_text listed arrived)) (λ path. not (has_path index.files path)) listed (every-in listed)))

  mail-paths : StillHolds tree index.files listed → (path : List ℕ) → has_path (folded index (new_commits index listed batches)).files path ≡ (has_text listed path && is_some (facts_at tree path))
  mail-paths still path =
      let added : has_path (all_added batches) path ≡ ((has_text listed path && not (has_path index.files path)) && is_some (facts_at tree path)) =
      ap (λ (l : List File). has_path l path) found
      ∙ (found-at tree (to_read index.files listed) path ∙ ap (λ b. b && is_some (facts_at tree path)) (has_text-filter (λ p. not (has_path index.files p)) listed path)) in
      laws.leaves index listed batches path every-listed
      ∙ (ap (λ b. has_text listed path && (has_path index.files path || b)) added ∙ listed-mail (has_text listed path) (has_path index.files path) (is_some (facts_at tree path)) (still path))

  mail-files : AllByRecursion (λ path. has_path index.files path ≡ false) (to_read index.files listed)
      → AllByRecursion (λ file. Contains index.files file ⊎ HasCome tree index.files file) (folded index (new_commits index listed batches)).files
  mail-files fresh =
      subst (λ (l : List File). AllByRecursion (λ file. Contains index.files file ⊎ HasCome tree index.files file) l) (sym (laws.after index listed batches))
      (all-filter (λ file. Contains index.files file ⊎ HasCome tree index.files file) (λ file. not (has_text (gone index.files listed) file.0)) (index.files ++ all_added batches)
      (all-append (λ file. Contains index.files file ⊎ HasCome tree index.files file) index.files (all_added batches)
      (all-weaker (λ file. Contains index.files file) (λ file. Contains index.files file ⊎ HasCome tree index.files file) index.files (λ file there. inl there) (recursion_from_All (Contains index.files) index.files (All-contains_itself index.files)))
      (all-weaker (HasCome tree index.files) (λ file. Contains index.files file ⊎ HasCome tree index.files file) (all_added batches) (λ file come. inr come)
      (subst (λ (l : List File). AllByRecursion (HasCome tree index.files) l) (sym found) (found-facts tree index.files (to_read index.files listed) fresh)))))

pub holds-mail : (laws : Laws) (tree : Tree) (given : List Given) (old new : WriterState) (faults : ℕ) (report : NewReport) → IsAfterNew (Some tree) given old faults (Ok report) new
    → HoldsTheMail tree (listed_in given) old.shown.files new.shown.files
holds-mail laws tree given old new faults report ((due, are, made), reported) =
    let scan = are.found in
    let listed : List (List ℕ) = listed_in given in
    let same : scan.listed ≡ listed = sym (ap listed_in scan.given_is) in
    let read = laws.in_one (Some tree) scan.answers (to_read old.shown.files scan.listed) are.batches [] scan.reading in
    let found : all_added are.batches ≡ flat_map (arrival_at tree) (to_read old.shown.files listed) =
    read.2.told ∙ (ap (flat_map (arrival_at tree)) (sym (append-nil read.0) ∙ sym read.1) ∙ ap (λ (l : List (List ℕ)). flat_map (arrival_at tree) (to_read old.shown.files l)) same) in
    let files : new.shown.files ≡ (folded old.shown (new_commits old.shown listed are.batches)).files =
    ap (λ (b : Base). b.files) (made.shown ∙ ap (folded old.shown) are.due_are) in
    let unknown = are-unknown old.shown.files scan.listed scan.listing.rising in
    record {
      paths = λ still path. ap (λ (l : List File). has_path l path) files ∙ mail-paths laws tree old.shown listed are.batches found still path;
      files = subst (λ (l : List File). AllByRecursion (λ file. Contains old.shown.files file ⊎ HasCome tree old.shown.files file) l) (sym files)
          (mail-files laws tree old.shown listed are.batches found (subst (λ (l : List (List ℕ)). AllByRecursion (λ path. has_path old.shown.files path ≡ false) (to_read old.shown.files l)) same unknown.fresh));
    }

pub mail-told : (laws : Laws) (tree : Option Tree) (given : List Given) (old new : WriterState) (faults : ℕ) (result : Result NewReport WriteError) → IsAfterNew tree given old faults result new
    → IfSome tree (λ t. IfOk result (λ report. HoldsTheMail t (listed_in given) old.shown.files new.shown.files))
mail-told laws None given old new faults result after = tt
mail-told laws (Some tree) given old new faults (Ok report) after = holds-mail laws tree given old new faults report after
mail-told laws (Some tree) given old new faults (Err error) after = tt
