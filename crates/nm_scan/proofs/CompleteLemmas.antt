-- Where a walk passes no limit, it lists the mail that it met, and meets all mail of the tree.
-- For the proof of `a_walk_lists_the_mail_of_the_tree`.
use Rattle.std.proofs.Common.{◌≡◌, ◌⊎◌, inl, inr, ℕ, zero, suc, ◌+◌, ◌==◌, Bool, true, false, ◌||◌, List, [], ◌∷◌, ◌++◌, Result, Ok, Err, filter, fold, map, refl, sym, ap, ◌∙◌, cond, codes, nat_le}
use Rattle.std.specs.List.{flat_map, list_any}
use Rattle.std.proofs.lemmas.List.Folds.{list_any-append}
use Rattle.std.proofs.lemmas.Bool.{or_parts, or_cases, or_left, or_right}
use Rattle.nm_base.specs.Limits.{max_files, max_folders}
use Rattle.nm_base.specs.MailPath.{is_mail_path}
use Rattle.nm_base.specs.Order.{has_text, insert, same_text, sorted}
use Rattle.nm_base.specs.declared.limit.Limit.{Limit}
use Rattle.nm_base.specs.declared.limit.Limit.TheVariants as limits
use Rattle.nm_maildir.specs.Tree.{Tree, listing_of}
use Rattle.nm_scan.specs.Mail.{IsMailAt, IsReached, below, mail_of, paths_met, root}
use Rattle.nm_scan.specs.Walk.{Met, counts, file, folder, inside, is_walked, mail_met, met_in, not_begun, part_met, paths_in, paths_walked, scanned, walked, walked_through, with_met}
use Rattle.nm_scan.specs.declared.walk.Walk.{Walk}
use Rattle.nm_scan.proofs.MailLemmas.{meets, meets-both, met-files, same-is, same-self}
use Rattle.nm_scan.proofs.WalkLemmas.{err-stays}

-- a folder that is too deep
abbrev is_end : Met → Bool
is_end (folder zero) = true
is_end (folder (suc levels)) = false
is_end (file path) = false

not-end : (levels : ℕ) → (levels == 0) ≡ false → is_end (folder levels) ≡ false
not-end zero e = absurd (cc)
not-end (suc levels) e = refl

-- one thing more was met, and no limit was passed
record Counted (from : Walk) (met : Met) : Type 0 where
  to : Walk
  is : with_met (Ok from) met ≡ Ok to
  paths : to.paths ≡ fold insert from.paths (paths_met (met ∷ []))
  goes_on : is_end met ≡ false

abbrev Outcome : Walk → Met → Type 0
Outcome from met = ((limit : Limit) × (with_met (Ok from) met ≡ Err limit)) ⊎ Counted from met

folder-case : (from : Walk) (levels : ℕ) (many deep : Bool) → nat_le max_folders from.folders ≡ many → (levels == 0) ≡ deep → Outcome from (folder levels)
folder-case from levels true deep e f = inl (limits.Dirs, ap (λ b. cond b (Err limits.Dirs) (cond (levels == 0) (Err limits.Depth) (Ok (record from { folders = from.folders + 1 })))) e)
folder-case from levels false true e f =
    inl (limits.Depth, ap (λ b. cond b (Err limits.Dirs) (cond (levels == 0) (Err limits.Depth) (Ok (record from { folders = from.folders + 1 })))) e ∙ ap (λ b. cond b (Err limits.Depth) (Ok (record from { folders = from.folders + 1 }))) f)
folder-case from levels false false e f = inr (record {
  to = record from { folders = from.folders + 1 };
  is = ap (λ b. cond b (Err limits.Dirs) (cond (levels == 0) (Err limits.Depth) (Ok (record from { folders = from.folders + 1 })))) e ∙ ap (λ b. cond b (Err limits.Depth) (Ok (record from { folders = from.folders + 1 }))) f;
  paths = refl;
  goes_on = not-end levels f;
})

file-case : (from : Walk) (path : List ℕ) (many : Bool) → nat_le max_files from.files ≡ many → Outcome from (file path)
file-case from path true e = inl (limits.Files, ap (λ b. cond b (Err limits.Files) (Ok (record from { files = from.files + 1; paths = insert from.paths path }))) e)
file-case from path false e = inr (record {
  to = record from { files = from.files + 1; paths = insert from.paths path };
  is = ap (λ b. cond b (Err limits.Files) (Ok (record from { files = from.files + 1; paths = insert from.paths path }))) e;
  paths = refl;
  goes_on = refl;
})

counted : (from : Walk) (met : Met) → Outcome from met
counted from (folder levels) = folder-case from levels (nat_le max_folders from.folders) (levels == 0) refl refl
counted from (file path) = file-case from path (nat_le max_files from.files) refl

abbrev paths_or : Result Walk Limit → List (List ℕ)
paths_or (Ok walk) = walk.paths
paths_or (Err limit) = []

met-first : (met : Met) (all : List Met) (paths : List (List ℕ)) → fold insert (fold insert paths (paths_met (met ∷ []))) (paths_met all) ≡ fold insert paths (paths_met (met ∷ all))
met-first (folder levels) all paths = refl
met-first (file path) all paths = refl

-- what was met is listed, and no folder was too deep
pub all-counted : (all : List Met) (from to : Walk) → walked from all ≡ Ok to → (to.paths ≡ fold insert from.paths (paths_met all)) × (list_any is_end all ≡ false)
all-counted [] from to e = (ap paths_or (sym e), refl)
all-counted (met ∷ all) from to e =
    elim (counted from met) [
      | inl stop ↦ absurd (let no : ◌≡◌ {A = Result Walk Limit} (Err stop.0) (Ok to) = sym (ap (λ (r : Result Walk Limit). fold with_met r all) stop.1 ∙ err-stays stop.0 all) ∙ e in cc)
      | inr c ↦ (let rest = all-counted all c.to to (sym (ap (λ (r : Result Walk Limit). fold with_met r all) c.is) ∙ e) in
          (rest.0 ∙ (ap (λ l. fold insert l (paths_met all)) c.paths ∙ met-first met all from.paths), ap (λ b. b || list_any is_end all) c.goes_on ∙ rest.1))
    ]

-- where none of the folders holds one that is too deep, none of them does
flat-none : (f : List ℕ → List Met) (names : List (List ℕ)) (name : List ℕ) → has_text names name ≡ true → list_any is_end (flat_map f names) ≡ false → list_any is_end (f name) ≡ false
flat-none f [] name h e = absurd (cc)
flat-none f (first ∷ names) name h e =
    let parts = or_parts (list_any is_end (f first)) (list_any is_end (flat_map f names)) (sym (list_any-append is_end (f first) (flat_map f names)) ∙ e) in
    elim (or_cases (same_text name first) (has_text names name) h) [
      | inl here ↦ ap (λ (l : List ℕ). list_any is_end (f l)) (same-is name first here) ∙ parts.0
      | inr there ↦ flat-none f names name there parts.1
    ]

-- what is met in one of the folders
flat-meets : (f : List ℕ → List Met) (names : List (List ℕ)) (name path : List ℕ) → has_text names name ≡ true → meets (f name) path ≡ true → meets (flat_map f names) path ≡ true
flat-meets f [] name path h k = absurd (cc)
flat-meets f (first ∷ names) name path h k =
    meets-both (f first) (flat_map f names) path
    ∙ elim (or_cases (same_text name first) (has_text names name) h) [
      | inl here ↦ or_left (meets (f first) path) (meets (flat_map f names) path) (ap (λ (l : List ℕ). meets (f l) path) (sym (same-is name first here)) ∙ k)
      | inr there ↦ or_right (meets (f first) path) (meets (flat_map f names) path) (flat-meets f names name path there k)
    ]

keeps-case : (test : List ℕ → Bool) (first : List ℕ) (names : List (List ℕ)) (name : List ℕ) (passes : Bool) → test first ≡ passes → (same_text name first ≡ true) ⊎ (has_text (filter test names) name ≡ true) → test name ≡ true
    → has_text (cond passes (first ∷ filter test names) (filter test names)) name ≡ true
keeps-case test first names name true e (inl here) k = or_left (same_text name first) (has_text (filter test names) name) here
keeps-case test first names name true e (inr there) k = or_right (same_text name first) (has_text (filter test names) name) there
keeps-case test first names name false e (inl here) k = absurd (let no : true ≡ false = sym k ∙ (ap test (same-is name first here) ∙ e) in cc)
keeps-case test first names name false e (inr there) k = there

-- a name that the test lets pass is kept
filter-keeps : (test : List ℕ → Bool) (names : List (List ℕ)) (name : List ℕ) → has_text names name ≡ true → test name ≡ true → has_text (filter test names) name ≡ true
filter-keeps test [] name h k = absurd (cc)
filter-keeps test (first ∷ names) name h k =
    keeps-case test first names name (test first) refl
    (elim (or_cases (same_text name first) (has_text names name) h) [ inl here ↦ inl here | inr there ↦ inr (filter-keeps test names name there k) ]) k

joined-keeps : (dir : List ℕ) (names : List (List ℕ)) (name : List ℕ) → has_text names name ≡ true → has_text (map (λ it. dir ++ 47 ∷ it) names) (dir ++ 47 ∷ name) ≡ true
joined-keeps dir [] name h = absurd (cc)
joined-keeps dir (first ∷ names) name h =
    elim (or_cases (same_text name first) (has_text names name) h) [
      | inl here ↦ or_left (same_text (dir ++ 47 ∷ name) (dir ++ 47 ∷ first)) (has_text (map (λ it. dir ++ 47 ∷ it) names) (dir ++ 47 ∷ name))
          (ap (λ (l : List ℕ). same_text (dir ++ 47 ∷ name) (dir ++ 47 ∷ l)) (sym (same-is name first here)) ∙ same-self (dir ++ 47 ∷ name))
      | inr there ↦ or_right (same_text (dir ++ 47 ∷ name) (dir ++ 47 ∷ first)) (has_text (map (λ it. dir ++ 47 ∷ it) names) (dir ++ 47 ∷ name)) (joined-keeps dir names name there)
    ]

-- A walk that meets this folder, and what it meets there.
record Within (tree : Tree) (dir path : List ℕ) (all : List Met) : Type 0 where
  under : ℕ
  goes_on : list_any is_end (met_in (suc under) tree dir) ≡ false
  holds : meets (met_in (suc under) tree dir) path ≡ true → meets all path ≡ true

-- a folder that is listed is at a level above the last
deeper : (tree : Tree) (dir path : List ℕ) (all : List Met) (levels : ℕ) → list_any is_end (met_in levels tree dir) ≡ false → (meets (met_in levels tree dir) path ≡ true → meets all path ≡ true) → Within tree dir path all
deeper tree dir path all zero none holds = absurd (cc)
deeper tree dir path all (suc levels) none holds = record { under = levels; goes_on = none; holds = holds }

child : (tree : Tree) (dir name path : List ℕ) (all : List Met) (levels : ℕ) → has_text (filter is_walked (listing_of tree dir).dirs) name ≡ true → list_any is_end (met_in (suc levels) tree dir) ≡ false
    → (meets (met_in (suc levels) tree dir) path ≡ true → meets all path ≡ true) → Within tree (inside dir name) path all
child tree dir name path all levels there none holds =
    let one : List Met = part_met levels tree dir (codes "new") in
    let two : List Met = part_met levels tree dir (codes "cur") in
    let f : List ℕ → List Met = λ name. met_in levels tree (inside dir name) in
    let names : List (List ℕ) = filter is_walked (listing_of tree dir).dirs in
    let first = or_parts (list_any is_end one) (list_any is_end (two ++ flat_map f names)) (sym (list_any-append is_end one (two ++ flat_map f names)) ∙ none) in
    let second = or_parts (list_any is_end two) (list_any is_end (flat_map f names)) (sym (list_any-append is_end two (flat_map f names)) ∙ first.1) in
    deeper tree (inside dir name) path all levels (flat-none f names name there second.1)
    (λ k. holds (meets-both one (two ++ flat_map f names) path ∙ or_right (meets one path) (meets (two ++ flat_map f names) path)
    (meets-both two (flat_map f names) path ∙ or_right (meets two path) (meets (flat_map f names) path) (flat-meets f names name path there k))))

-- a walk that meets no folder that is too deep meets each that it comes to
reach : (tree : Tree) (dir path : List ℕ) (levels : ℕ) → IsReached tree dir → list_any is_end (met_in levels tree []) ≡ false → Within tree dir path (met_in levels tree [])
reach tree dir path levels root none = deeper tree [] path (met_in levels tree []) levels none (λ k. k)
reach tree dir path levels (below above name reached there walks) none =
    let up : Within tree above path (met_in levels tree []) = reach tree above path levels reached none in
    child tree above name path (met_in levels tree []) up.under (filter-keeps is_walked (listing_of tree above).dirs name there walks) up.goes_on up.holds

part-met : (levels : ℕ) (tree : Tree) (dir part path : List ℕ) → has_text (listing_of tree dir).dirs part ≡ true → has_text (paths_in (inside dir part) (listing_of tree (inside dir part)).files) path ≡ true
    → meets (part_met levels tree dir part) path ≡ true
part-met levels tree dir part path there has =
    ap (λ b. meets (cond b (mail_met levels tree (inside dir part)) []) path) there
    ∙ (ap (λ l. has_text l path) (met-files (paths_in (inside dir part) (listing_of tree (inside dir part)).files)) ∙ has)

-- where no folder is too deep, all mail is met
pub mail-met : (tree : Tree) (path : List ℕ) (levels : ℕ) → list_any is_end (met_in levels tree []) ≡ false → IsMailAt tree path → meets (met_in levels tree []) path ≡ true
mail-met tree path levels none m =
    let within : Within tree m.dir path (met_in levels tree []) = reach tree m.dir path levels m.reached none in
    let place : List ℕ = inside m.dir m.part in
    let joined : has_text (map (λ it. place ++ 47 ∷ it) (filter counts (listing_of tree place).files)) path ≡ true =
    ap (has_text (map (λ it. place ++ 47 ∷ it) (filter counts (listing_of tree place).files))) m.path_is ∙ joined-keeps place (filter counts (listing_of tree place).files) m.name (filter-keeps counts (listing_of tree place).files m.name m.name_there m.counted) in
    let has : has_text (paths_in place (listing_of tree place).files) path ≡ true = filter-keeps is_mail_path (map (λ it. place ++ 47 ∷ it) (filter counts (listing_of tree place).files)) path joined m.bounded in
    let met : meets (part_met within.under tree m.dir m.part) path ≡ true = part-met within.under tree m.dir m.part path m.part_there has in
    let one : List Met = part_met within.under tree m.dir (codes "new") in
    let two : List Met = part_met within.under tree m.dir (codes "cur") in
    let others : List Met = flat_map (λ name. met_in within.under tree (inside m.dir name)) (filter is_walked (listing_of tree m.dir).dirs) in
    within.holds (meets-both one (two ++ others) path
    ∙ elim (or_cases (same_text m.part (codes "new")) (same_text m.part (codes "cur") || false) m.is_part) [
      | inl new ↦ or_left (meets one path) (meets (two ++ others) path) (ap (λ (l : List ℕ). meets (part_met within.under tree m.dir l) path) (sym (same-is m.part (codes "new") new)) ∙ met)
      | inr more ↦ or_right (meets one path) (meets (two ++ others) path) (meets-both two others path
          ∙ elim (or_cases (same_text m.part (codes "cur")) false more) [
            | inl cur ↦ or_left (meets two path) (meets others path) (ap (λ (l : List ℕ). meets (part_met within.under tree m.dir l) path) (sym (same-is m.part (codes "cur") cur)) ∙ met)
            | inr nowhere ↦ absurd (cc)
          ])
    ])

abbrev listed_or : Result (List (List ℕ)) Limit → List (List ℕ)
listed_or (Ok listed) = listed
listed_or (Err limit) = []

-- a walk that passed no limit
through : (tree : Tree) (listed : List (List ℕ)) (result : Result Walk Limit) → paths_walked result ≡ Ok listed → (walk : Walk) × (result ≡ Ok walk) × (walk.paths ≡ listed)
through tree listed (Err limit) e = absurd (cc)
through tree listed (Ok walk) e = (walk, refl, ap listed_or e)

pub listed-are : (tree : Tree) (listed : List (List ℕ)) → scanned tree ≡ Ok listed → listed ≡ sorted (mail_of tree)
listed-are tree listed e =
    let t = through tree listed (walked_through tree) e in
    sym t.2 ∙ (all-counted (met_in 33 tree []) not_begun t.0 t.1).0

pub all-mail : (tree : Tree) (listed : List (List ℕ)) (path : List ℕ) → scanned tree ≡ Ok listed → IsMailAt tree path → has_text (mail_of tree) path ≡ true
all-mail tree listed path e m =
    let t = through tree listed (walked_through tree) e in
    mail-met tree path 33 (all-counted (met_in 33 tree []) not_begun t.0 t.1).1 m
