-- A map from paths to places, as files are added and moved.
-- For the proofs of `place`, `MemoryFiles::move_file`, `MemoryFiles::rename` and others.
use Rattle.std.proofs.Common.{◌≡◌, ℕ, ◌+◌, ◌<◌, List, Bool, true, cond, Option, Some, None, length, get_or, set, take, refl, sym, ap, subst, ◌∙◌, arith}
use Rattle.std.specs.Prelude.{IfSome, is_some}
use Rattle.std.specs.Option.{option_map}
use Rattle.std.specs.Cmp.Lexicographic.{slice_cmp, texts_ties}
use Rattle.std.specs.Ordering.{nat_cmp}
use Rattle.std.specs.BTreeMap.{BTreeMap, get, is_at}
use Rattle.std.proofs.lemmas.List.{take_more, length-take}
use Rattle.nm_maildir.specs.MemoryFiles.{IsIndex, Locates, place_of}
use Rattle.nm_maildir.specs.Still.{are_distinct, paths_of}
use Rattle.nm_maildir.specs.Tree.{Tree, bytes_at, moved, renamed_of}
use Rattle.nm_base.specs.Order.{same_text}
use Rattle.nm_maildir.specs.declared.answers.Renamed.TheVariants.{Moved, Missing, Exists}
use Rattle.nm_maildir.proofs.PlaceLemmas.{Path, File, bytes_at-place, place_of-below, place_of-push, place_of-moved, moved-at}

-- what the map finds at a path
abbrev pub found_in : BTreeMap Path ℕ → Path → Option ℕ
found_in m q = get (slice_cmp nat_cmp) m q

-- the map finds this at a path, and all else as before
abbrev pub Puts : BTreeMap Path ℕ → BTreeMap Path ℕ → Path → Option ℕ → Type 0
Puts m n path place = (q : Path) → found_in n q ≡ cond (is_at (slice_cmp nat_cmp path) q) place (found_in m q)

pub below_length : (files : List File) (q : Path) (at : ℕ) → place_of files q ≡ Some at → at < length files
below_length files q at e = let h = place_of-below files q in rw e at h

pub IsIndex-push : (m n : BTreeMap Path ℕ) (files : List File) (i : ℕ) (d : File) → place_of (take i files) (get_or files i d).0 ≡ None → i < length files
    → IsIndex m (take i files) → Puts m n (get_or files i d).0 (Some i) → IsIndex n (take (i + 1) files)
IsIndex-push m n files i d missing lt before puts q =
    let path = (get_or files i d).0 in
    let tests : same_text path q ≡ is_at (slice_cmp nat_cmp path) q = texts_ties path q in
    let found = puts q in
    let earlier = before q in
    let longer = place_of-push (take i files) (get_or files i d) q missing in
    let count : length (take i files) ≡ i = omega (arith, length-take {A = File}) in
    let more = take_more files i d lt in
    cc

pub IsIndex-moved : (m n o : BTreeMap Path ℕ) (files : List File) (at : ℕ) (from to : Path) (bytes : List ℕ) → are_distinct (paths_of files) ≡ true
    → place_of files from ≡ Some at → place_of files to ≡ None → IsIndex m files
    → Puts m n to (Some at) → Puts n o from None → IsIndex o (set files at (to, bytes))
IsIndex-moved m n o files at from to bytes distinct is missing before puts takes q =
    let tests : same_text to q ≡ is_at (slice_cmp nat_cmp to) q = texts_ties to q in
    let tests' : same_text from q ≡ is_at (slice_cmp nat_cmp from) q = texts_ties from q in
    let found = puts q in
    let left = takes q in
    let earlier = before q in
    let after = place_of-moved files at from to q bytes distinct is missing in
    cc

-- the tree whose file at that place has the new path is the moved one
pub moved-held : (dirs : List Path) (files : List File) (at : ℕ) (from to : Path) (d : File) → are_distinct (paths_of files) ≡ true → place_of files from ≡ Some at
    → (let tree : Tree = record { dirs = dirs; files = set files at (to, (get_or files at d).1) } in tree) ≡ moved (record { dirs = dirs; files = files }) from to
moved-held dirs files at from to d distinct is = ap (λ fs. record { dirs = dirs; files = fs }) (sym (moved-at files at from to d distinct is))

-- a place that is found locates the bytes
located : (files : List File) (q : Path) (o : Option ℕ) → IfSome o (λ k. k < length files)
    → ((d : File) → bytes_at files q ≡ option_map (λ k. (get_or files k d).1) o) → Locates files q o
located files q None below is = is (q, q)
located files q (Some at) below is = (below, is)

pub Locates-place : (files : List File) (q : Path) (o : Option ℕ) → o ≡ place_of files q → Locates files q o
Locates-place files q o e =
    subst (Locates files q) (sym e) (located files q (place_of files q) (place_of-below files q) (bytes_at-place files q))

some_mapped : {A B : Type 0} (f : A → B) (o : Option A) → is_some (option_map f o) ≡ is_some o
some_mapped f None = refl
some_mapped f (Some x) = refl

-- a place is found exactly where there are bytes
pub is_some-place : (files : List File) (q : Path) (o : Option ℕ) → o ≡ place_of files q → is_some o ≡ is_some (bytes_at files q)
is_some-place files q o e =
    ap is_some e ∙ sym (ap is_some (bytes_at-place files q (q, q)) ∙ some_mapped (λ k. (get_or files k (q, q)).1) (place_of files q))

-- what a rename answers, by what was found
pub renamed_of-is : (old new : Tree) (from to : Path) (a b : Bool) → new ≡ old → a ≡ is_some (bytes_at new.files from) → b ≡ is_some (bytes_at new.files to)
    → cond a (cond b Exists Moved) Missing ≡ renamed_of old from to
renamed_of-is old new from to a b e p q = (λ i. cond (p i) (cond (q i) Exists Moved) Missing) ∙ ap (λ t. renamed_of t from to) e

pub ruleset place_lemmas = (Locates-place, is_some-place)
