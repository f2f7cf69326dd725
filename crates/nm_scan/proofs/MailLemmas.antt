-- What a walk meets is the mail of a tree: each path that it lists is one, and it lists each one where no limit is passed.
-- For the proof of `a_walk_lists_the_mail_of_the_tree`.
use Rattle.std.proofs.Common.{◌≡◌, inl, inr, ℕ, zero, suc, Bool, true, false, ◌||◌, List, [], ◌∷◌, ◌++◌, filter, map, refl, sym, ap, ◌∙◌, cond, codes, arith}
use Rattle.std.specs.Cmp.Lexicographic as lexicographic
use Rattle.std.specs.List.{flat_map}
use Rattle.std.proofs.lemmas.List.Folds.{list_any-append}
use Rattle.std.proofs.lemmas.Bool.{or_cases, or_left, or_right}
use Rattle.nm_base.specs.MailPath.{is_mail_path}
use Rattle.nm_base.specs.Order.{has_text, same_text}
use Rattle.nm_maildir.specs.Tree.{Tree, listing_of}
use Rattle.nm_scan.specs.Mail.{IsMailAt, IsReached, below, paths_met}
use Rattle.nm_scan.specs.Walk.{Met, counts, file, folder, inside, is_walked, mail_met, met_in, part_met, paths_in}

-- texts that compare as the same are
pub same-is : (a b : List ℕ) → same_text a b ≡ true → a ≡ b
same-is a b h = lexicographic.same_text a b (sym h)

pub same-self : (a : List ℕ) → same_text a a ≡ true
same-self [] = refl
same-self (x ∷ a) = grind (arith, same-self a)

-- an element of two lists is one of the first or of the second
has-both : (xs ys : List (List ℕ)) (path : List ℕ) → has_text (xs ++ ys) path ≡ (has_text xs path || has_text ys path)
has-both xs ys path = list_any-append (same_text path) xs ys

met-both : (xs ys : List Met) → paths_met (xs ++ ys) ≡ paths_met xs ++ paths_met ys
met-both [] ys = refl
met-both (folder levels ∷ xs) ys = met-both xs ys
met-both (file path ∷ xs) ys = ap (λ l. path ∷ l) (met-both xs ys)

pub met-files : (paths : List (List ℕ)) → paths_met (map file paths) ≡ paths
met-files [] = refl
met-files (path ∷ paths) = ap (λ l. path ∷ l) (met-files paths)

abbrev pub meets : List Met → List ℕ → Bool
meets all path = has_text (paths_met all) path

pub meets-both : (xs ys : List Met) (path : List ℕ) → meets (xs ++ ys) path ≡ (meets xs path || meets ys path)
meets-both xs ys path = ap (λ l. has_text l path) (met-both xs ys) ∙ has-both (paths_met xs) (paths_met ys) path

-- a name of the list of which this holds
record Found (names : List (List ℕ)) (holds : List ℕ → Type 0) : Type 0 where
  name : List ℕ
  there : has_text names name ≡ true
  has : holds name

found-more : (first : List ℕ) (names : List (List ℕ)) (holds : List ℕ → Type 0) → Found names holds → Found (first ∷ names) holds
found-more first names holds found = record { name = found.name; there = or_right (same_text found.name first) (has_text names found.name) found.there; has = found.has }

found-first : (first : List ℕ) (names : List (List ℕ)) (holds : List ℕ → Type 0) → holds first → Found (first ∷ names) holds
found-first first names holds h = record { name = first; there = or_left (same_text first first) (has_text names first) (same-self first); has = h }

-- what is met in one of some folders
flat-found : (f : List ℕ → List Met) (names : List (List ℕ)) (path : List ℕ) → meets (flat_map f names) path ≡ true → Found names (λ name. meets (f name) path ≡ true)
flat-found f [] path h = absurd (cc)
flat-found f (name ∷ names) path h =
    elim (or_cases (meets (f name) path) (meets (flat_map f names) path) (sym (meets-both (f name) (flat_map f names) path) ∙ h)) [
      | inl here ↦ found-first name names (λ name. meets (f name) path ≡ true) here
      | inr there ↦ found-more name names (λ name. meets (f name) path ≡ true) (flat-found f names path there)
    ]

-- a name that a test lets pass
abbrev Passes : (List ℕ → Bool) → List (List ℕ) → List ℕ → Type 0
Passes test names name = (has_text names name ≡ true) × (test name ≡ true)

passes-more : (test : List ℕ → Bool) (first : List ℕ) (names : List (List ℕ)) (name : List ℕ) → Passes test names name → Passes test (first ∷ names) name
passes-more test first names name more = (or_right (same_text name first) (has_text names name) more.0, more.1)

filter-case : (test : List ℕ → Bool) (first : List ℕ) (names : List (List ℕ)) (name : List ℕ) (passes : Bool) → test first ≡ passes → (has_text (filter test names) name ≡ true → Passes test names name)
    → has_text (cond passes (first ∷ filter test names) (filter test names)) name ≡ true → Passes test (first ∷ names) name
filter-case test first names name false e rest h = passes-more test first names name (rest h)
filter-case test first names name true e rest h =
    elim (or_cases (same_text name first) (has_text (filter test names) name) h) [
      | inl here ↦ (or_left (same_text name first) (has_text names name) here, ap test (same-is name first here) ∙ e)
      | inr there ↦ passes-more test first names name (rest there)
    ]

filter-found : (test : List ℕ → Bool) (names : List (List ℕ)) (name : List ℕ) → has_text (filter test names) name ≡ true → Passes test names name
filter-found test [] name h = absurd (cc)
filter-found test (first ∷ names) name h = filter-case test first names name (test first) refl (filter-found test names name) h

-- a path of the names that count
record IsNamed (dir : List ℕ) (names : List (List ℕ)) (path : List ℕ) : Type 0 where
  name : List ℕ
  there : has_text names name ≡ true
  counted : counts name ≡ true
  path_is : path ≡ dir ++ 47 ∷ name
  bounded : is_mail_path path ≡ true

joined-found : (dir : List ℕ) (names : List (List ℕ)) (path : List ℕ) → has_text (map (λ name. dir ++ 47 ∷ name) names) path ≡ true → Found names (λ name. path ≡ dir ++ 47 ∷ name)
joined-found dir [] path h = absurd (cc)
joined-found dir (name ∷ names) path h =
    elim (or_cases (same_text path (dir ++ 47 ∷ name)) (has_text (map (λ name. dir ++ 47 ∷ name) names) path) h) [
      | inl here ↦ found-first name names (λ name. path ≡ dir ++ 47 ∷ name) (same-is path (dir ++ 47 ∷ name) here)
      | inr there ↦ found-more name names (λ name. path ≡ dir ++ 47 ∷ name) (joined-found dir names path there)
    ]

named : (dir : List ℕ) (names : List (List ℕ)) (path : List ℕ) → has_text (paths_in dir names) path ≡ true → IsNamed dir names path
named dir names path h =
    let bounded = filter-found is_mail_path (map (λ name. dir ++ 47 ∷ name) (filter counts names)) path h in
    let joined = joined-found dir (filter counts names) path bounded.0 in
    let counted = filter-found counts names joined.name joined.there in
    record { name = joined.name; there = counted.0; counted = counted.1; path_is = joined.has; bounded = bounded.1 }

-- what is met in `new` or `cur` is mail
part-mail : (levels : ℕ) (tree : Tree) (dir part : List ℕ) (path : List ℕ) (there : Bool) → has_text (listing_of tree dir).dirs part ≡ there → IsReached tree dir → has_text (codes "new" ∷ codes "cur" ∷ []) part ≡ true
    → meets (cond there (mail_met levels tree (inside dir part)) []) path ≡ true → IsMailAt tree path
part-mail levels tree dir part path false e reached is h = absurd (cc)
part-mail levels tree dir part path true e reached is h =
    let found : has_text (paths_in (inside dir part) (listing_of tree (inside dir part)).files) path ≡ true =
    sym (ap (λ l. has_text l path) (met-files (paths_in (inside dir part) (listing_of tree (inside dir part)).files))) ∙ h in
    let name = named (inside dir part) (listing_of tree (inside dir part)).files path found in
    record { dir = dir; reached = reached; part = part; is_part = is; part_there = e; name = name.name; name_there = name.there; counted = name.counted; path_is = name.path_is; bounded = name.bounded }

-- what a walk meets in a folder that it comes to is mail
pub met-mail : (levels : ℕ) (tree : Tree) (dir path : List ℕ) → IsReached tree dir → meets (met_in levels tree dir) path ≡ true → IsMailAt tree path
met-mail zero tree dir path reached h = absurd (cc)
met-mail (suc levels) tree dir path reached h =
    let one : List Met = part_met levels tree dir (codes "new") in
    let two : List Met = part_met levels tree dir (codes "cur") in
    let others : List Met = flat_map (λ name. met_in levels tree (inside dir name)) (filter is_walked (listing_of tree dir).dirs) in
    elim (or_cases (meets one path) (meets (two ++ others) path) (sym (meets-both one (two ++ others) path) ∙ h)) [
      | inl here ↦ part-mail levels tree dir (codes "new") path (has_text (listing_of tree dir).dirs (codes "new")) refl reached refl here
      | inr rest ↦ elim (or_cases (meets two path) (meets others path) (sym (meets-both two others path) ∙ rest)) [
        | inl here ↦ part-mail levels tree dir (codes "cur") path (has_text (listing_of tree dir).dirs (codes "cur")) refl reached refl here
        | inr deeper ↦ (let found = flat-found (λ name. met_in levels tree (inside dir name)) (filter is_walked (listing_of tree dir).dirs) path deeper in
            let walked = filter-found is_walked (listing_of tree dir).dirs found.name found.there in
            met-mail levels tree (inside dir found.name) path (below dir found.name reached walked.0 walked.1) found.has)
      ]
    ]
