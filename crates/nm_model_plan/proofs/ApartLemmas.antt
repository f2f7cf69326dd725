-- No two files are at one path: what comes and what moves goes where none is. For the proof of `files_stay_apart`.
use Rattle.std.proofs.Common.{◌≡◌, ℕ, Bool, true, false, ◌||◌, cond, not, List, [], ◌∷◌, ◌++◌, fold, filter, refl, sym, ap, ◌∙◌, subst}
use Rattle.std.specs.Cmp.Lexicographic.{nat_list_eq_equiv}
use Rattle.std.proofs.lemmas.Bool.{or_from, or_parts}
use Rattle.std.proofs.Math.Bool.{or-true}
use Rattle.nm_base.specs.Order.{same_text}
use Rattle.nm_base.specs.declared.facts.Facts.{Facts}
use Rattle.nm_commit.specs.Files.{FitChanges, FitsChange, changed, files_after, has_path, moved_path, with_moved}
use Rattle.nm_commit.specs.declared.change.Change.{Change}
use Rattle.nm_commit.specs.declared.change.Change.TheVariants.{Add, Drop, Move, SetTags}
use Rattle.nm_commit.specs.declared.change.Commit.{Commit}
use Rattle.nm_model_index.specs.Fits.{FitInTurn}
use Rattle.nm_model_index.specs.Index.{committed, folded}
use Rattle.nm_model_index.specs.declared.base.Base.{Base}
use Rattle.nm_model_plan.specs.Apart.{AreApart}
use Rattle.nm_model_plan.proofs.FitLemmas.{not_there}
use Rattle.nm_base.specs.SetLaws.{bytes_same}

abbrev File : Type 0
File = List ℕ × Facts

turned : (a b : List ℕ) (t : Bool) → same_text a b ≡ t → same_text b a ≡ t
turned a b t h = nat_list_eq_equiv.symm b a ∙ h

-- a filter adds no path
pub none-cond : (b : Bool) (file : File) (rest : List File) (path : List ℕ) → same_text path file.0 ≡ false → has_path rest path ≡ false → has_path (cond b (file ∷ rest) rest) path ≡ false
none-cond true file rest path first more = or_from _ _ first more
none-cond false file rest path first more = more

pub none-filter : (keep : File → Bool) (files : List File) (path : List ℕ) → has_path files path ≡ false → has_path (filter keep files) path ≡ false
none-filter keep [] path h = refl
none-filter keep (file ∷ files) path h =
    let apart = or_parts (same_text path file.0) (has_path files path) h in
    none-cond (keep file) file (filter keep files) path apart.0 (none-filter keep files path apart.1)

apart-cond : (b : Bool) (file : File) (rest : List File) → has_path rest file.0 ≡ false → AreApart rest → AreApart (cond b (file ∷ rest) rest)
apart-cond true file rest first more = (first, more)
apart-cond false file rest first more = more

pub files-filter : (keep : File → Bool) (files : List File) → AreApart files → AreApart (filter keep files)
files-filter keep [] h = tt
files-filter keep (file ∷ files) h = apart-cond (keep file) file (filter keep files) (none-filter keep files file.0 h.0) (files-filter keep files h.1)

-- one more, where none is
files-push : (files : List File) (path : List ℕ) (facts : Facts) → AreApart files → has_path files path ≡ false → AreApart (files ++ (path, facts) ∷ [])
files-push [] path facts h none = (refl, tt)
files-push (file ∷ files) path facts h none =
    let apart = or_parts (same_text path file.0) (has_path files path) none in (
      not_there files (path, facts) file.0 h.0 apart.0,
      files-push files path facts h.1 apart.1,
    )

moved-by : (b : Bool) (to old path : List ℕ) → same_text path to ≡ false → same_text path old ≡ false → same_text path (cond b to old) ≡ false
moved-by true to old path other apart = other
moved-by false to old path other apart = apart

-- where nothing is after a move
moved-none : (files : List File) (from to path : List ℕ) → has_path files path ≡ false → same_text path to ≡ false → has_path (with_moved files from to) path ≡ false
moved-none [] from to path h other = refl
moved-none (file ∷ files) from to path h other =
    let apart = or_parts (same_text path file.0) (has_path files path) h in
    or_from _ _ (moved-by (same_text from file.0) to file.0 path other apart.0) (moved-none files from to path apart.1 other)

-- a move from where none is changes nothing
unmoved : (files : List File) (from to : List ℕ) → has_path files from ≡ false → with_moved files from to ≡ files
unmoved [] from to h = refl
unmoved (file ∷ files) from to h =
    let apart = or_parts (same_text from file.0) (has_path files from) h in
    ap (λ (b : Bool). (cond b to file.0, file.1) ∷ with_moved files from to) apart.0 ∙ ap (λ (l : List File). file ∷ l) (unmoved files from to apart.1)

-- what is elsewhere stays
still-by : (file : File) (from to path : List ℕ) (b : Bool) (rest : Bool) → same_text path file.0 ≡ b → same_text from path ≡ false → (b ≡ false → rest ≡ true) → (same_text path (moved_path from to file.0) || rest) ≡ true
still-by file from to path true rest is apart more =
    let one : path ≡ file.0 = bytes_same path file.0 (sym is) in
    ap (λ (t : Bool). same_text path (cond t to file.0) || rest) (ap (same_text from) (sym one) ∙ apart) ∙ ap (λ (t : Bool). t || rest) is
still-by file from to path false rest is apart more = ap (λ (t : Bool). same_text path (moved_path from to file.0) || t) (more refl) ∙ or-true (same_text path (moved_path from to file.0))

there-after : (a b : Bool) → (a || b) ≡ true → a ≡ false → b ≡ true
there-after true b h k = absurd (cc)
there-after false b h k = h

pub moved-still : (files : List File) (from to path : List ℕ) → has_path files path ≡ true → same_text from path ≡ false → has_path (with_moved files from to) path ≡ true
moved-still [] from to path h apart = absurd (cc)
moved-still (file ∷ files) from to path h apart =
    still-by file from to path (same_text path file.0) (has_path (with_moved files from to) path) refl apart
    (λ other. moved-still files from to path (there-after (same_text path file.0) (has_path files path) h other) apart)

first-moved : (file : File) (files : List File) (from to : List ℕ) (b : Bool) → same_text from file.0 ≡ b → has_path files file.0 ≡ false → same_text to file.0 ≡ false → has_path files to ≡ false
    → has_path (with_moved files from to) (cond b to file.0) ≡ false
first-moved file files from to true is first apart none =
    ap (λ (l : List File). has_path l to) (unmoved files from to (ap (has_path files) (bytes_same from file.0 (sym is)) ∙ first)) ∙ none
first-moved file files from to false is first apart none = moved-none files from to file.0 first (turned to file.0 false apart)

-- and what moves goes where none is
files-moved : (files : List File) (from to : List ℕ) → AreApart files → has_path files to ≡ false → AreApart (with_moved files from to)
files-moved [] from to h none = tt
files-moved (file ∷ files) from to h none =
    let apart = or_parts (same_text to file.0) (has_path files to) none in
    (first-moved file files from to (same_text from file.0) refl h.0 apart.0 apart.1, files-moved files from to h.1 apart.1)

change-apart : (files : List File) (change : Change) → AreApart files → FitsChange files change → AreApart (changed files change)
change-apart files (Add path facts) h fits = files-push files path facts h fits.0
change-apart files (Drop path) h fits = files-filter (λ file. not (same_text path file.0)) files h
change-apart files (Move from to) h fits = files-moved files from to h fits.1
change-apart files (SetTags id tags) h fits = h

changes-apart : (files : List File) (changes : List Change) → AreApart files → FitChanges files changes → AreApart (fold changed files changes)
changes-apart files [] h fits = h
changes-apart files (change ∷ changes) h fits = changes-apart (changed files change) changes (change-apart files change h fits.0) fits.1

pub commits-apart : (follow : (index : Base) (commits : List Commit) → (folded index commits).files ≡ files_after index.files commits) (index : Base) (commits : List Commit)
    → AreApart index.files → FitInTurn index commits → AreApart (folded index commits).files
commits-apart follow index [] h fits = h
commits-apart follow index (commit ∷ commits) h fits =
    commits-apart follow (committed index commit) commits (subst AreApart (sym (follow index (commit ∷ []))) (changes-apart index.files commit.changes h fits.0.each)) fits.1
