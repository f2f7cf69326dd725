-- The moves fit: each file is where its rename says, and goes where none is. For the proof of `tag_commits_fit`.
use Rattle.std.proofs.Common.{◌≡◌, ℕ, Bool, true, false, ◌||◌, cond, not, List, [], ◌∷◌, ◌++◌, Option, None, Some, filter, map, refl, sym, ap, ◌∙◌, subst}
use Rattle.std.specs.List.{AllByRecursion, flat_map}
use Rattle.std.proofs.lemmas.Bool.{or_from, and_left, or_parts}
use Rattle.nm_base.specs.Order.{has_text, same_text}
use Rattle.nm_base.specs.declared.facts.Facts.{Facts}
use Rattle.nm_commit.specs.Files.{FitChanges, files_after, has_path, paths_of, with_moved}
use Rattle.nm_commit.specs.declared.change.Change.{Change}
use Rattle.nm_commit.specs.declared.change.Commit.{Commit}
use Rattle.nm_flags.specs.Renames.{asked_flags, renames, target}
use Rattle.nm_flags.specs.declared.renames.Rename.{Rename}
use Rattle.nm_name.specs.FlaggedPath.{renamed}
use Rattle.nm_model_index.specs.Fits.{FitInTurn}
use Rattle.nm_model_index.specs.Index.{folded, live_ids}
use Rattle.nm_model_index.specs.declared.base.Base.{Base}
use Rattle.nm_maildir.specs.declared.answers.Renamed.{Renamed}
use Rattle.nm_maildir.specs.declared.answers.Renamed.TheVariants as answers
use Rattle.nm_maildir.specs.declared.given.Given.{Given}
use Rattle.nm_model_plan.specs.Apart.{AreApart}
use Rattle.nm_model_answer.specs.RenameOutcomes.{IsFree, IsLong, IsTaken, Outcome, Target, WasLong, WasTaken, WasTried, answer_given, changed_ids, files_moved, note_of, outcomes, renames_for}
use Rattle.nm_model_plan.specs.Moves.{HasTried, move_commit, move_given, tag_commits}
use Rattle.nm_model_answer.specs.View.{message_paths, tags_of}
use Rattle.nm_model_plan.specs.Numbering.{AreNumbered}
use Rattle.nm_model_plan.specs.TagCommit.{tag_commit}
use Rattle.nm_model_plan.proofs.ApartLemmas.{files-filter, moved-still, none-filter}
use Rattle.nm_model_plan.proofs.FitLemmas.{IsApart, apart-filter, every-both, every-filter, every-in, every-map, fit-append, has_text-append}
use Rattle.nm_base.specs.SetLaws.{bytes_same, has_text-filter}
use Rattle.nm_model_plan.proofs.TagCommitLemmas.{fit-with, tags-files, tags-fit}
use Rattle.nm_model_plan.proofs.TagLemmas.{live-apart}

abbrev File : Type 0
File = List ℕ × Facts

abbrev Texts : Type 0
Texts = List (List ℕ)

-- none of the texts is this one
none-all : (texts : Texts) (text : List ℕ) → has_text texts text ≡ false → AllByRecursion (λ other. same_text text other ≡ false) texts
none-all [] text h = tt
none-all (first ∷ texts) text h = let apart = or_parts (same_text text first) (has_text texts text) h in (apart.0, none-all texts text apart.1)

paths-apart : (files : List File) → AreApart files → IsApart (paths_of files)
paths-apart [] h = tt
paths-apart (file ∷ files) h = (none-all (paths_of files) file.0 h.0, paths-apart files h.1)

all-append : (P : List ℕ → Type 0) (xs ys : Texts) → AllByRecursion P xs → AllByRecursion P ys → AllByRecursion P (xs ++ ys)
all-append P [] ys h k = k
all-append P (x ∷ xs) ys h k = (h.0, all-append P xs ys h.1 k)

apart-append : (xs ys : Texts) → IsApart xs → IsApart ys → AllByRecursion (λ x. has_text ys x ≡ false) xs → IsApart (xs ++ ys)
apart-append [] ys h k none = k
apart-append (x ∷ xs) ys h k none = (all-append (λ other. same_text x other ≡ false) xs ys h.0 (none-all ys x none.0), apart-append xs ys h.1 k none.1)

-- a path is that of one message
module _ (one two : List ℕ) (apart : same_text one two ≡ false) (path : List ℕ) where
  abbrev PathIn : List File → List ℕ → Bool
  PathIn files id = has_text (message_paths files id) path

  clash : (P : Type 0) (b : Bool) → b ≡ true → b ≡ false → P
  clash P true e f = absurd cc
  clash P false e f = absurd cc

  there-by : (files : List File) (id : List ℕ) (b : Bool) → has_path files path ≡ b → PathIn files id ≡ true → has_path files path ≡ true
  there-by files id true is there = is
  there-by files id false is there = clash (has_path files path ≡ true) (PathIn files id) there (none-filter (λ file. same_text id file.1.id) files path is)

  own-by : (file : File) (files : List File) (t : Bool) → same_text path file.0 ≡ t → has_path files file.0 ≡ false → (t || PathIn files one) ≡ true → (PathIn files one ≡ true → PathIn files two ≡ false) → PathIn files two ≡ false
  own-by file files true is first there more = none-filter (λ other. same_text two other.1.id) files path (ap (has_path files) (bytes_same path file.0 (sym is)) ∙ first)
  own-by file files false is first there more = more there

  other-by : (file : File) (files : List File) (t : Bool) → same_text path file.0 ≡ t → has_path files file.0 ≡ false → PathIn files one ≡ true → PathIn files two ≡ false → (t || PathIn files two) ≡ false
  other-by file files true is first there rest =
      clash ((true || PathIn files two) ≡ false) (has_path files path) (there-by files one (has_path files path) refl there) (ap (has_path files) (bytes_same path file.0 (sym is)) ∙ first)
  other-by file files false is first there rest = rest

  abbrev with_file : Bool → File → List ℕ → List File → Bool
  with_file b file id files = has_text (paths_of (cond b (file ∷ filter (λ other. same_text id other.1.id) files) (filter (λ other. same_text id other.1.id) files))) path

  file-by : (file : File) (files : List File) (a b : Bool) → same_text one file.1.id ≡ a → same_text two file.1.id ≡ b → has_path files file.0 ≡ false → with_file a file one files ≡ true → (PathIn files one ≡ true → PathIn files two ≡ false)
      → with_file b file two files ≡ false
  file-by file files true true is two_is first there more =
      clash _ (same_text one two) (ap (same_text one) (bytes_same two file.1.id (sym two_is)) ∙ is) apart
  file-by file files true false is two_is first there more = own-by file files (same_text path file.0) refl first there more
  file-by file files false true is two_is first there more = other-by file files (same_text path file.0) refl first there (more there)
  file-by file files false false is two_is first there more = more there

  cross : (files : List File) → AreApart files → PathIn files one ≡ true → PathIn files two ≡ false
  cross [] h there = refl
  cross (file ∷ files) h there = file-by file files (same_text one file.1.id) (same_text two file.1.id) refl refl h.0 there (cross files h.1)

-- the paths of a message, some of them, for each of these messages
module _ (files : List File) (apart : AreApart files) (keep : List ℕ → List ℕ → Bool) where
  abbrev some_paths : List ℕ → Texts
  some_paths id = filter (keep id) (message_paths files id)

  paths-cond : (P : List ℕ → Type 0) (b : Bool) (file : File) (rest : List File) → P file.0 → AllByRecursion P (paths_of rest) → AllByRecursion P (paths_of (cond b (file ∷ rest) rest))
  paths-cond P true file rest first more = (first, more)
  paths-cond P false file rest first more = more

  paths-all : (P : List ℕ → Type 0) (pick : File → Bool) (all : List File) → AllByRecursion P (paths_of all) → AllByRecursion P (paths_of (filter pick all))
  paths-all P pick [] h = tt
  paths-all P pick (file ∷ all) h = paths-cond P (pick file) file (filter pick all) h.0 (paths-all P pick all h.1)

  none-others : (id path : List ℕ) (ids : Texts) → has_text (message_paths files id) path ≡ true → AllByRecursion (λ other. same_text id other ≡ false) ids → has_text (flat_map some_paths ids) path ≡ false
  none-others id path [] there h = refl
  none-others id path (other ∷ ids) there h =
      has_text-append (some_paths other) (flat_map some_paths ids) path
      ∙ or_from _ _ (has_text-filter (keep other) (message_paths files other) path ∙ and_left _ _ (cross id other h.0 path files apart there)) (none-others id path ids there h.1)

  pub some-apart : (ids : Texts) → IsApart ids → IsApart (flat_map some_paths ids)
  some-apart [] h = tt
  some-apart (id ∷ ids) h =
      apart-append (some_paths id) (flat_map some_paths ids)
      (apart-filter (keep id) (message_paths files id) (paths-apart (filter (λ file. same_text id file.1.id) files) (files-filter (λ file. same_text id file.1.id) files apart)))
      (some-apart ids h.1)
      (every-filter (λ path. has_text (flat_map some_paths ids) path ≡ false) (keep id) (message_paths files id)
      (every-map (λ path. has_text (message_paths files id) path ≡ true) (λ path. has_text (flat_map some_paths ids) path ≡ false) (message_paths files id) (λ path there. none-others id path ids there h.0) (every-in (message_paths files id))))

  pub some-there : (ids : Texts) → AllByRecursion (λ path. has_path files path ≡ true) (flat_map some_paths ids)
  some-there [] = tt
  some-there (id ∷ ids) =
      all-append (λ path. has_path files path ≡ true) (some_paths id) (flat_map some_paths ids)
      (every-filter (λ path. has_path files path ≡ true) (keep id) (message_paths files id) (paths-all (λ path. has_path files path ≡ true) (λ file. same_text id file.1.id) files (every-in (paths_of files))))
      (some-there ids)

-- from where the renames go
abbrev froms : List Rename → Texts
froms list = map (λ rename. rename.from) list

froms-append : (xs ys : List Rename) → froms (xs ++ ys) ≡ froms xs ++ froms ys
froms-append [] ys = refl
froms-append (x ∷ xs) ys = ap (λ (l : Texts). x.from ∷ l) (froms-append xs ys)

from-cond : (b : Bool) (path : List ℕ) (to : Option (List ℕ)) (rest : List Rename) → froms (cond b [] (record { from = path; to = to } ∷ []) ++ rest) ≡ cond (not b) (path ∷ froms rest) (froms rest)
from-cond true path to rest = refl
from-cond false path to rest = refl

abbrev keeps : Texts → List ℕ → Bool
keeps tags path = not (same_text path (renamed path (asked_flags tags)))

renames-froms : (tags paths : Texts) → froms (renames tags paths) ≡ filter (keeps tags) paths
renames-froms tags [] = refl
renames-froms tags (path ∷ paths) =
    let new : List ℕ = renamed path (asked_flags tags) in
    from-cond (same_text path new) path (target new) (renames tags paths) ∙ ap (λ (l : Texts). cond (keeps tags path) (path ∷ l) l) (renames-froms tags paths)

module _ (files : List File) (tags : List ℕ → Texts) where
  abbrev keep_of : List ℕ → List ℕ → Bool
  keep_of id path = keeps (tags id) path

  all-froms : (ids : Texts) → froms (flat_map (λ id. renames (tags id) (message_paths files id)) ids) ≡ flat_map (λ id. filter (keep_of id) (message_paths files id)) ids
  all-froms [] = refl
  all-froms (id ∷ ids) =
      froms-append (renames (tags id) (message_paths files id)) (flat_map (λ other. renames (tags other) (message_paths files other)) ids)
      ∙ (ap (λ (l : Texts). l ++ froms (flat_map (λ other. renames (tags other) (message_paths files other)) ids)) (renames-froms (tags id) (message_paths files id))
      ∙ ap (λ (l : Texts). filter (keep_of id) (message_paths files id) ++ l) (all-froms ids))

-- the moves that the outcomes have
abbrev moves_of : List Outcome → List Change
moves_of done = flat_map move_given (flat_map note_of done)

abbrev Fit : List File → List Rename → List Renamed → Type 0
Fit files list told = FitChanges files (moves_of (outcomes files list told))

-- what comes of a rename whose target is this one
abbrev at_target : List File → List ℕ → List Rename → List Renamed → Target → List Outcome
at_target files from more told target =
    elim target [
      | IsLong ↦ WasLong from ∷ outcomes files more told
      | IsTaken ↦ WasTaken from ∷ outcomes files more told
      | IsFree to ↦ elim told [ [] ↦ [] | answer ∷ others ↦ WasTried from to answer ∷ outcomes (files_moved files from to answer) more others ]
    ]

-- what is left is where it did after a move of another file
left-there : (files : List File) (from to : List ℕ) (paths : Texts) → AllByRecursion (λ path. has_path files path ≡ true) paths → AllByRecursion (λ path. same_text from path ≡ false) paths → AllByRecursion (λ path. has_path (with_moved files from to) path ≡ true) paths
left-there files from to paths h k =
    every-both (λ path. has_path files path ≡ true) (λ path. same_text from path ≡ false) (λ path. has_path (with_moved files from to) path ≡ true) paths (λ path there apart. moved-still files from to path there apart) h k

answered : (files : List File) (from to : List ℕ) (more : List Rename) (answer : Renamed) (others : List Renamed) → has_path files from ≡ true → has_path files to ≡ false → AllByRecursion (λ path. same_text from path ≡ false) (froms more)
    → AllByRecursion (λ path. has_path files path ≡ true) (froms more) → ((after : List File) → AllByRecursion (λ path. has_path after path ≡ true) (froms more) → Fit after more others)
    → FitChanges files (moves_of (WasTried from to answer ∷ outcomes (files_moved files from to answer) more others))
answered files from to more answers.Moved others here none apart there rest = ((here, none), rest (with_moved files from to) (left-there files from to (froms more) there apart))
answered files from to more answers.Missing others here none apart there rest = rest files there
answered files from to more answers.Exists others here none apart there rest = rest files there

to-free : (files : List File) (from to : List ℕ) (more : List Rename) (b : Bool) (told : List Renamed) → has_path files to ≡ b → has_path files from ≡ true → AllByRecursion (λ path. same_text from path ≡ false) (froms more)
    → AllByRecursion (λ path. has_path files path ≡ true) (froms more) → ((after : List File) (others : List Renamed) → AllByRecursion (λ path. has_path after path ≡ true) (froms more) → Fit after more others)
    → Fit files (record { from = from; to = Some to } ∷ more) told
to-free files from to more true told is here apart there rest = subst (λ (b : Bool). FitChanges files (moves_of (at_target files from more told (cond b IsTaken (IsFree to))))) (sym is) (rest files told there)
to-free files from to more false [] is here apart there rest = subst (λ (b : Bool). FitChanges files (moves_of (at_target files from more [] (cond b IsTaken (IsFree to))))) (sym is) tt
to-free files from to more false (answer ∷ others) is here apart there rest =
    subst (λ (b : Bool). FitChanges files (moves_of (at_target files from more (answer ∷ others) (cond b IsTaken (IsFree to))))) (sym is)
    (answered files from to more answer others here is apart there (λ after still. rest after others still))

to-some : (files : List File) (from : List ℕ) (to : Option (List ℕ)) (more : List Rename) (told : List Renamed) → has_path files from ≡ true → AllByRecursion (λ path. same_text from path ≡ false) (froms more)
    → AllByRecursion (λ path. has_path files path ≡ true) (froms more) → ((after : List File) (others : List Renamed) → AllByRecursion (λ path. has_path after path ≡ true) (froms more) → Fit after more others)
    → Fit files (record { from = from; to = to } ∷ more) told
to-some files from None more told here apart there rest = rest files told there
to-some files from (Some to) more told here apart there rest = to-free files from to more (has_path files to) told refl here apart there rest

moves-fit : (list : List Rename) (files : List File) (told : List Renamed) → IsApart (froms list) → AllByRecursion (λ path. has_path files path ≡ true) (froms list) → Fit files list told
moves-fit [] files told apart there = tt
moves-fit (rename ∷ more) files told apart there = to-some files rename.from rename.to more told there.0 apart.0 there.1 (λ after others still. moves-fit more after others apart.1 still)

-- the commits of a command that sets tags fit
pub commits-fit : (follow : (index : Base) (commits : List Commit) → (folded index commits).files ≡ files_after index.files commits) (index wanted : Base) (noted : List Given) → AreNumbered index → AreApart index.files
    → HasTried index wanted noted → FitInTurn index (tag_commits index wanted noted)
commits-fit follow index wanted noted numbered apart tried =
    let ids : Texts = changed_ids index wanted in
    let list : List Rename = renames_for index wanted in
    let tags : List ℕ → Texts = tags_of wanted in
    let told : List Renamed = flat_map answer_given noted in
    let are : froms list ≡ flat_map (λ id. filter (keep_of index.files tags id) (message_paths index.files id)) ids = all-froms index.files tags ids in
    let once : IsApart (froms list) = subst IsApart (sym are) (some-apart index.files apart (keep_of index.files tags) ids (apart-filter _ (live_ids index.files index.entries) (live-apart index.files index.next index.entries numbered))) in
    let there : AllByRecursion (λ path. has_path index.files path ≡ true) (froms list) =
    subst (AllByRecursion (λ path. has_path index.files path ≡ true)) (sym are) (some-there index.files apart (keep_of index.files tags) ids) in
    let moves : FitChanges index.files (flat_map move_given noted) = subst (λ (l : List Given). FitChanges index.files (flat_map move_given l)) (sym tried) (moves-fit list index.files told once there) in
    let after : Base = folded index (tag_commit index wanted) in
    fit-append index (tag_commit index wanted) (move_commit noted) (tags-fit index wanted)
    (fit-with after (flat_map move_given noted) (subst (λ (files : List File). FitChanges files (flat_map move_given noted)) (sym (tags-files follow index wanted)) moves))
