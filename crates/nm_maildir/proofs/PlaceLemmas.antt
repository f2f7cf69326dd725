-- Where a file is among files with distinct paths, and after one of them took another path.
-- For the proofs of `MemoryFiles::move_file` and `places_of`.
use Rattle.std.proofs.Common.{◌≡◌, ℕ, suc, zero, ◌+◌, ◌<◌, List, [], ◌∷◌, ◌++◌, Bool, true, false, cond, Option, Some, None, length, get_or, set, take, refl, sym, ap, subst, ◌∙◌, ◌⊎◌, inl, inr, arith}
use Rattle.std.specs.Prelude.{◌&&◌, not, map, IfSome, is_some}
use Rattle.std.specs.List.{list_any}
use Rattle.std.specs.Option.{option_map}
use Rattle.std.proofs.lemmas.Bool.{or_parts}
use Rattle.std.proofs.lemmas.Cmp.{nat_list_eq_equiv}
use Rattle.std.proofs.lemmas.List.{take_more}
use Rattle.nm_maildir.specs.MemoryFiles.{place_of}
use Rattle.nm_maildir.specs.Still.{are_distinct, paths_of}
use Rattle.nm_maildir.specs.Tree.{bytes_at}
use Rattle.nm_base.specs.Order.{same_text}

abbrev pub Path : Type 0
Path = List ℕ

abbrev pub File : Type 0
File = Path × List ℕ

-- ---- the first place

at_head : (b : Bool) (file : File) (files : List File) (d : File) (o : Option ℕ) (bytes : Option (List ℕ))
    → bytes ≡ option_map (λ k. (get_or files k d).1) o
    → cond b (Some file.1) bytes ≡ option_map (λ k. (get_or (file ∷ files) k d).1) (cond b (Some 0) (option_map suc o))
at_head true file files d o bytes e = refl
at_head false file files d None bytes e = e
at_head false file files d (Some k) bytes e = e

-- the bytes of a file are those at its place
pub bytes_at-place : (files : List File) (q : Path) (d : File) → bytes_at files q ≡ option_map (λ k. (get_or files k d).1) (place_of files q)
bytes_at-place [] q d = refl
bytes_at-place (file ∷ files) q d = at_head (same_text file.0 q) file files d (place_of files q) (bytes_at files q) (bytes_at-place files q d)

below_head : (b : Bool) (o : Option ℕ) (n : ℕ) → IfSome o (λ k. k < n) → IfSome (cond b (Some 0) (option_map suc o)) (λ k. k < suc n)
below_head true o n h = omega arith
below_head false None n h = tt
below_head false (Some k) n h = omega arith

pub place_of-below : (files : List File) (q : Path) → IfSome (place_of files q) (λ k. k < length files)
place_of-below [] q = tt
place_of-below (file ∷ files) q = below_head (same_text file.0 q) (place_of files q) (length files) (place_of-below files q)

-- ---- paths that differ

both : (a b : Bool) → (not a && b) ≡ true → (a ≡ false) × (b ≡ true)
both true b e = absurd (cc)
both false b e = (refl, e)

-- a path that equals one of two that differ differs from the other
other : (a b q : Path) → same_text a b ≡ false → same_text b q ≡ true → same_text a q ≡ false
other a b q differ equal = nat_list_eq_equiv.symm a q ∙ sym (nat_list_eq_equiv.congr b q a equal) ∙ nat_list_eq_equiv.symm b a ∙ differ

other' : (a b q : Path) → same_text a b ≡ false → same_text a q ≡ true → same_text b q ≡ false
other' a b q differ equal = other b a q (nat_list_eq_equiv.symm b a ∙ differ) equal

missing_head : (b : Bool) (o : Option ℕ) → cond b (Some 0) (option_map suc o) ≡ None → (b ≡ false) × (o ≡ None)
missing_head true o e = absurd (cc)
missing_head false None e = (refl, refl)
missing_head false (Some k) e = absurd (cc)

-- no path equals a: then none is found that equals a
none_found : (a q : Path) (files : List File) → list_any (same_text a) (paths_of files) ≡ false → same_text a q ≡ true → place_of files q ≡ None
none_found a q [] h e = refl
none_found a q (file ∷ files) h e =
    let parts = or_parts (same_text a file.0) (list_any (same_text a) (paths_of files)) h in
    let here : same_text file.0 q ≡ false = other' a file.0 q parts.0 e in
    let rest = none_found a q files parts.1 e in
    simp (here, rest) refl

-- and the way back
none_equal : (a : Path) (files : List File) → place_of files a ≡ None → list_any (same_text a) (paths_of files) ≡ false
none_equal a [] h = refl
none_equal a (file ∷ files) h =
    let parts = missing_head (same_text file.0 a) (place_of files a) h in
    let here : same_text a file.0 ≡ false = nat_list_eq_equiv.symm a file.0 ∙ parts.0 in
    let rest = none_equal a files parts.1 in
    simp (here, rest) refl

-- ---- one file more

push_head : (a b : Bool) (n : ℕ) (o : Option ℕ) → (b ≡ true → a ≡ false)
    → cond a (Some 0) (option_map suc (cond b (Some n) o)) ≡ cond b (Some (suc n)) (cond a (Some 0) (option_map suc o))
push_head true true n o h = absurd (let e = h refl in cc)
push_head true false n o h = refl
push_head false true n o h = refl
push_head false false n o h = refl

last_head : (b : Bool) → cond b (Some 0) (option_map suc None) ≡ cond b (Some 0) None
last_head true = refl
last_head false = refl

-- a file whose path is new is at the end
pub place_of-push : (files : List File) (file : File) (q : Path) → place_of files file.0 ≡ None
    → place_of (files ++ file ∷ []) q ≡ cond (same_text file.0 q) (Some (length files)) (place_of files q)
place_of-push [] file q h = last_head (same_text file.0 q)
place_of-push (first ∷ files) file q h =
    let parts = missing_head (same_text first.0 file.0) (place_of files file.0) h in
    ap (λ o. cond (same_text first.0 q) (Some 0) (option_map suc o)) (place_of-push files file q parts.1)
    ∙ push_head (same_text first.0 q) (same_text file.0 q) (length files) (place_of files q) (λ e. other first.0 file.0 q parts.0 e)

differs_at : (a : Path) (files : List File) (i : ℕ) (d : File) → list_any (same_text a) (paths_of files) ≡ false → i < length files → same_text a (get_or files i d).0 ≡ false
differs_at a [] i d h lt = absurd (omega arith)
differs_at a (file ∷ files) zero d h lt = (or_parts (same_text a file.0) (list_any (same_text a) (paths_of files)) h).0
differs_at a (file ∷ files) (suc i) d h lt = differs_at a files i d (or_parts (same_text a file.0) (list_any (same_text a) (paths_of files)) h).1 (omega arith)

-- among distinct paths each is new where it is
pub place_of-new : (files : List File) (i : ℕ) (d : File) → are_distinct (paths_of files) ≡ true → i < length files → place_of (take i files) (get_or files i d).0 ≡ None
place_of-new [] i d h lt = absurd (omega arith)
place_of-new (file ∷ files) zero d h lt = refl
place_of-new (file ∷ files) (suc i) d h lt =
    let parts = both (list_any (same_text file.0) (paths_of files)) (are_distinct (paths_of files)) h in
    let here : same_text file.0 (get_or files i d).0 ≡ false = differs_at file.0 files i d parts.0 (omega arith) in
    let rest = place_of-new files i d parts.1 (omega arith) in
    simp (here, rest) refl

differs_from_all : (a : Path) (files : List File) (file : File) → list_any (same_text a) (paths_of files) ≡ false → same_text a file.0 ≡ false
    → list_any (same_text a) (paths_of (files ++ file ∷ [])) ≡ false
differs_from_all a [] file h e = simp e refl
differs_from_all a (first ∷ files) file h e =
    let parts = or_parts (same_text a first.0) (list_any (same_text a) (paths_of files)) h in
    let rest = differs_from_all a files file parts.1 e in
    simp (parts.0, rest) refl

-- a path that is new leaves the paths distinct
are_distinct-push : (files : List File) (file : File) → are_distinct (paths_of files) ≡ true → place_of files file.0 ≡ None
    → are_distinct (paths_of (files ++ file ∷ [])) ≡ true
are_distinct-push [] file h e = refl
are_distinct-push (first ∷ files) file h e =
    let parts = both (list_any (same_text first.0) (paths_of files)) (are_distinct (paths_of files)) h in
    let missing = missing_head (same_text first.0 file.0) (place_of files file.0) e in
    let apart = differs_from_all first.0 files file parts.0 missing.0 in
    let rest = are_distinct-push files file parts.1 missing.1 in
    simp (apart, rest) refl

pub are_distinct-more : (files : List File) (i : ℕ) (d : File) → i < length files → are_distinct (paths_of (take i files)) ≡ true
    → place_of (take i files) (get_or files i d).0 ≡ None → are_distinct (paths_of (take (i + 1) files)) ≡ true
are_distinct-more files i d lt h e =
    let more = take_more files i d lt in
    let all = are_distinct-push (take i files) (get_or files i d) h e in
    cc

-- a look-up that finds nothing
pub none_from : (found : Option ℕ) → false ≡ is_some found → found ≡ None
none_from None e = refl
none_from (Some at) e = absurd (cc)

not_distinct : (b : Bool) (found : Option ℕ) → (b ≡ true → found ≡ None) → is_some found ≡ true → false ≡ b
not_distinct true found h e = absurd (let none = h refl in cc)
not_distinct false found h e = refl

-- a path that is found before it is makes them not distinct
pub are_distinct-repeated : (files : List File) (i : ℕ) (d : File) (found : Option ℕ) → i < length files
    → found ≡ place_of (take i files) (get_or files i d).0 → is_some found ≡ true → false ≡ are_distinct (paths_of files)
are_distinct-repeated files i d found lt is some = not_distinct (are_distinct (paths_of files)) found (λ h. is ∙ place_of-new files i d h lt) some

-- ---- a file takes another path

first_head : (b c a : Bool) (o : Option ℕ) → (b ≡ true → (c ≡ false) × (o ≡ None)) → a ≡ b
    → cond c (Some 0) (option_map suc o) ≡ cond b None (cond c (Some 0) (cond a (Some 0) (option_map suc o)))
first_head true c a o h e = let f = h refl in simp (f.0, f.1) refl
first_head false c a o h e = simp e refl

later_head : (a b c : Bool) (n : ℕ) (o : Option ℕ) → (b ≡ true → a ≡ false) → (c ≡ true → a ≡ false)
    → cond a (Some 0) (option_map suc (cond b None (cond c (Some n) o))) ≡ cond b None (cond c (Some (suc n)) (cond a (Some 0) (option_map suc o)))
later_head true true c n o h k = absurd (let e = h refl in cc)
later_head true false true n o h k = absurd (let e = k refl in cc)
later_head true false false n o h k = refl
later_head false true c n o h k = refl
later_head false false true n o h k = refl
later_head false false false n o h k = refl

-- the file that is found is the first, or a later one
found_head : (b : Bool) (o : Option ℕ) (at : ℕ) → cond b (Some 0) (option_map suc o) ≡ Some at
    → ((b ≡ true) × (at ≡ 0)) ⊎ ((b ≡ false) × (n : ℕ) × (o ≡ Some n) × (at ≡ suc n))
found_head true o at e = inl (refl, cc)
found_head false None at e = absurd (cc)
found_head false (Some k) at e = inr (refl, k, refl, cc)

first_moved : (file : File) (files : List File) (from to q : Path) (bytes : List ℕ) → are_distinct (paths_of (file ∷ files)) ≡ true
    → same_text file.0 from ≡ true → place_of (file ∷ files) to ≡ None
    → place_of (set (file ∷ files) 0 (to, bytes)) q ≡ cond (same_text from q) None (cond (same_text to q) (Some 0) (place_of (file ∷ files) q))
first_moved file files from to q bytes distinct is missing =
    let alike = nat_list_eq_equiv.congr file.0 from q is in
    let parts = both (list_any (same_text file.0) (paths_of files)) (are_distinct (paths_of files)) distinct in
    let differ : same_text to file.0 ≡ false = nat_list_eq_equiv.symm to file.0 ∙ (missing_head (same_text file.0 to) (place_of files to) missing).0 in
    first_head (same_text from q) (same_text to q) (same_text file.0 q) (place_of files q)
    (λ h. (other to file.0 q differ (alike ∙ h), none_found file.0 q files parts.0 (alike ∙ h))) alike

later_moved : (file : File) (files : List File) (n : ℕ) (from to q : Path) (bytes : List ℕ)
    → same_text file.0 from ≡ false → place_of (file ∷ files) to ≡ None
    → place_of (set files n (to, bytes)) q ≡ cond (same_text from q) None (cond (same_text to q) (Some n) (place_of files q))
    → place_of (set (file ∷ files) (suc n) (to, bytes)) q ≡ cond (same_text from q) None (cond (same_text to q) (Some (suc n)) (place_of (file ∷ files) q))
later_moved file files n from to q bytes differs missing rest =
    let apart = (missing_head (same_text file.0 to) (place_of files to) missing).0 in
    ap (λ o. cond (same_text file.0 q) (Some 0) (option_map suc o)) rest
    ∙ later_head (same_text file.0 q) (same_text from q) (same_text to q) n (place_of files q) (λ h. other file.0 from q differs h) (λ h. other file.0 to q apart h)

-- what is found after the file at the place of `from` took the path `to`
pub place_of-moved : (files : List File) (at : ℕ) (from to q : Path) (bytes : List ℕ) → are_distinct (paths_of files) ≡ true
    → place_of files from ≡ Some at → place_of files to ≡ None
    → place_of (set files at (to, bytes)) q ≡ cond (same_text from q) None (cond (same_text to q) (Some at) (place_of files q))
place_of-moved [] at from to q bytes distinct found missing = absurd (cc)
place_of-moved (file ∷ files) at from to q bytes distinct found missing =
    elim (found_head (same_text file.0 from) (place_of files from) at found) [
      | inl f ↦
          subst (λ n. place_of (set (file ∷ files) n (to, bytes)) q ≡ cond (same_text from q) None (cond (same_text to q) (Some n) (place_of (file ∷ files) q)))
          (sym f.1) (first_moved file files from to q bytes distinct f.0 missing)
      | inr f ↦
          let rest = place_of-moved files f.1 from to q bytes (both (list_any (same_text file.0) (paths_of files)) (are_distinct (paths_of files)) distinct).1
          f.2 (missing_head (same_text file.0 to) (place_of files to) missing).1 in
          subst (λ n. place_of (set (file ∷ files) n (to, bytes)) q ≡ cond (same_text from q) None (cond (same_text to q) (Some n) (place_of (file ∷ files) q)))
          (sym f.3) (later_moved file files f.1 from to q bytes f.0 missing rest)
    ]

-- ---- the paths stay distinct

differs_after : (a to : Path) (files : List File) (at : ℕ) (bytes : List ℕ) → list_any (same_text a) (paths_of files) ≡ false → same_text a to ≡ false
    → list_any (same_text a) (paths_of (set files at (to, bytes))) ≡ false
differs_after a to [] at bytes h e = h
differs_after a to (file ∷ files) zero bytes h e =
    let parts = or_parts (same_text a file.0) (list_any (same_text a) (paths_of files)) h in simp (e, parts.1) refl
differs_after a to (file ∷ files) (suc at) bytes h e =
    let parts = or_parts (same_text a file.0) (list_any (same_text a) (paths_of files)) h in
    let rest = differs_after a to files at bytes parts.1 e in simp (parts.0, rest) refl

pub are_distinct-moved : (files : List File) (at : ℕ) (to : Path) (bytes : List ℕ) → are_distinct (paths_of files) ≡ true → place_of files to ≡ None
    → are_distinct (paths_of (set files at (to, bytes))) ≡ true
are_distinct-moved [] at to bytes h e = h
are_distinct-moved (file ∷ files) zero to bytes h e =
    let parts = both (list_any (same_text file.0) (paths_of files)) (are_distinct (paths_of files)) h in
    let tail = none_equal to files (missing_head (same_text file.0 to) (place_of files to) e).1 in
    simp (tail, parts.1) refl
are_distinct-moved (file ∷ files) (suc at) to bytes h e =
    let parts = both (list_any (same_text file.0) (paths_of files)) (are_distinct (paths_of files)) h in
    let missing = missing_head (same_text file.0 to) (place_of files to) e in
    let here = differs_after file.0 to files at bytes parts.0 missing.0 in
    let rest = are_distinct-moved files at to bytes parts.1 missing.1 in
    simp (here, rest) refl

-- ---- the tree after the move

same_names : (a from to : Path) (files : List File) → list_any (same_text a) (paths_of files) ≡ false → same_text a from ≡ true
    → map (λ (file : File). cond (same_text file.0 from) (to, file.1) file) files ≡ files
same_names a from to [] h e = refl
same_names a from to (file ∷ files) h e =
    let parts = or_parts (same_text a file.0) (list_any (same_text a) (paths_of files)) h in
    let here : same_text file.0 from ≡ false = other' a file.0 from parts.0 e in
    let rest = same_names a from to files parts.1 e in
    simp (here, rest) refl

abbrev takes : Path → Path → File → File
takes from to file = cond (same_text file.0 from) (to, file.1) file

first_takes : (file : File) (files : List File) (from to : Path) → are_distinct (paths_of (file ∷ files)) ≡ true → same_text file.0 from ≡ true
    → map (takes from to) (file ∷ files) ≡ (to, file.1) ∷ files
first_takes file files from to distinct is =
    let parts = both (list_any (same_text file.0) (paths_of files)) (are_distinct (paths_of files)) distinct in
    let rest = same_names file.0 from to files parts.0 is in
    simp (is, rest) refl

-- only the file at that place changes
pub moved-at : (files : List File) (at : ℕ) (from to : Path) (d : File) → are_distinct (paths_of files) ≡ true → place_of files from ≡ Some at
    → map (λ (file : File). cond (same_text file.0 from) (to, file.1) file) files ≡ set files at (to, (get_or files at d).1)
moved-at [] at from to d distinct found = absurd (cc)
moved-at (file ∷ files) at from to d distinct found =
    elim (found_head (same_text file.0 from) (place_of files from) at found) [
      | inl f ↦
          subst (λ n. map (takes from to) (file ∷ files) ≡ set (file ∷ files) n (to, (get_or (file ∷ files) n d).1))
          (sym f.1) (first_takes file files from to distinct f.0)
      | inr f ↦
          let rest = moved-at files f.1 from to d (both (list_any (same_text file.0) (paths_of files)) (are_distinct (paths_of files)) distinct).1 f.2 in
          subst (λ n. map (takes from to) (file ∷ files) ≡ set (file ∷ files) n (to, (get_or (file ∷ files) n d).1))
          (sym f.3) (simp (f.0, rest) refl)
    ]
