-- Walks: what is met one after the other, and a limit that stays passed.
-- For the proofs of `add_files`, `list_paths`, `walk_folder` and others.
use Rattle.std.proofs.Common.{◌≡◌, ℕ, zero, suc, ◌+◌, List, [], ◌∷◌, ◌++◌, Option, None, Some, IfSome, Result, Ok, Err, filter, fold, map, reverse, take, drop, refl, sym, ap, ◌∙◌, subst, append-nil, append_assoc, codes}
use Rattle.std.specs.List.{flat_map}
use Rattle.std.proofs.lemmas.List.{map-append, reverse-append, take-append-drop}
use Rattle.std.proofs.lemmas.List.Elements.{filter-append}
use Rattle.nm_base.specs.declared.limit.Limit.{Limit}
use Rattle.nm_base.specs.MailPath.{is_mail_path}
use Rattle.nm_maildir.specs.Tree.{Tree, listing_of}
use Rattle.nm_scan.specs.Walk.{Met, Walks, counts, file, folder, folder_inside, inside, is_walked, mail_met, met_in, not_begun, part_met, paths_in, paths_walked, scanned, to_come, walked, walked_through, with_folder, with_met}
use Rattle.nm_scan.specs.declared.scan_error.ScanError.{ScanError}
use Rattle.nm_scan.specs.declared.scan_error.ScanError.TheVariants as errors
use Rattle.nm_scan.specs.declared.walk.Folder.{Folder}
use Rattle.nm_scan.specs.declared.walk.Walk.{Walk}

-- a limit that was passed stays so
pub err-stays : (limit : Limit) (all : List Met) → fold with_met (Err limit) all ≡ Err limit
err-stays limit [] = refl
err-stays limit (met ∷ all) = err-stays limit all

pub fold-both : (at : Result Walk Limit) (xs ys : List Met) → fold with_met at (xs ++ ys) ≡ fold with_met (fold with_met at xs) ys
fold-both at [] ys = refl
fold-both at (x ∷ xs) ys = fold-both (with_met at x) xs ys

-- some is met, and then more
pub walked-on : (from to : Walk) (xs ys : List Met) → walked from xs ≡ Ok to → walked from (xs ++ ys) ≡ walked to ys
walked-on from to xs ys h = fold-both (Ok from) xs ys ∙ ap (λ (r : Result Walk Limit). fold with_met r ys) h

pub walked-stays : (from : Walk) (limit : Limit) (xs ys : List Met) → walked from xs ≡ Err limit → walked from (xs ++ ys) ≡ Err limit
walked-stays from limit xs ys h = fold-both (Ok from) xs ys ∙ (ap (λ (r : Result Walk Limit). fold with_met r ys) h ∙ err-stays limit ys)

-- the paths of some names and of more
paths-both : (dir : List ℕ) (xs ys : List (List ℕ)) → paths_in dir (xs ++ ys) ≡ paths_in dir xs ++ paths_in dir ys
paths-both dir xs ys =
    ap (λ l. filter is_mail_path (map (λ name. dir ++ 47 ∷ name) l)) (filter-append counts xs ys)
    ∙ (ap (filter is_mail_path) (map-append (λ name. dir ++ 47 ∷ name) (filter counts xs) (filter counts ys))
    ∙ filter-append is_mail_path (map (λ name. dir ++ 47 ∷ name) (filter counts xs)) (map (λ name. dir ++ 47 ∷ name) (filter counts ys)))

abbrev files_met : List ℕ → List (List ℕ) → List Met
files_met dir names = map file (paths_in dir names)

files-both : (dir : List ℕ) (xs ys : List (List ℕ)) → files_met dir (xs ++ ys) ≡ files_met dir xs ++ files_met dir ys
files-both dir xs ys = ap (map file) (paths-both dir xs ys) ∙ map-append file (paths_in dir xs) (paths_in dir ys)

-- one name more was looked at
pub name-more : (from at to : Walk) (dir : List ℕ) (names : List (List ℕ)) (i : ℕ) (name : List ℕ) → walked from (map file (paths_in dir (take i names))) ≡ Ok at → take (i + 1) names ≡ take i names ++ name ∷ []
    → walked at (map file (paths_in dir (name ∷ []))) ≡ Ok to → walked from (map file (paths_in dir (take (i + 1) names))) ≡ Ok to
name-more from at to dir names i name so_far more h =
    ap (λ (l : List (List ℕ)). walked from (files_met dir l)) more
    ∙ (ap (walked from) (files-both dir (take i names) (name ∷ []))
    ∙ (walked-on from at (files_met dir (take i names)) (files_met dir (name ∷ [])) so_far ∙ h))

-- one name more passes a limit
pub name-stops : (from at : Walk) (limit : Limit) (dir : List ℕ) (names : List (List ℕ)) (i : ℕ) (name : List ℕ) → walked from (map file (paths_in dir (take i names))) ≡ Ok at → take (i + 1) names ≡ take i names ++ name ∷ []
    → walked at (map file (paths_in dir (name ∷ []))) ≡ Err limit → walked from (map file (paths_in dir names)) ≡ Err limit
name-stops from at limit dir names i name so_far more h =
    let here : walked from (files_met dir (take (i + 1) names)) ≡ Err limit =
    ap (λ (l : List (List ℕ)). walked from (files_met dir l)) more
    ∙ (ap (walked from) (files-both dir (take i names) (name ∷ []))
    ∙ (walked-on from at (files_met dir (take i names)) (files_met dir (name ∷ [])) so_far ∙ h)) in
    ap (λ (l : List (List ℕ)). walked from (files_met dir l)) (sym (take-append-drop (i + 1) names))
    ∙ (ap (walked from) (files-both dir (take (i + 1) names) (drop (i + 1) names))
    ∙ walked-stays from limit (files_met dir (take (i + 1) names)) (files_met dir (drop (i + 1) names)) here)

-- the other folders of a folder, to be walked through before those that are pending
pub others-come : (levels : ℕ) (tree : Tree) (dir : List ℕ) (names : List (List ℕ)) (pending : List Folder)
    → flat_map (λ name. met_in levels tree (inside dir name)) names ++ to_come tree pending ≡ to_come tree (map (folder_inside levels dir) names ++ pending)
others-come levels tree dir [] pending = refl
others-come levels tree dir (name ∷ names) pending =
    append_assoc (met_in levels tree (inside dir name)) (flat_map (λ name. met_in levels tree (inside dir name)) names) (to_come tree pending)
    ∙ ap (λ l. met_in levels tree (inside dir name) ++ l) (others-come levels tree dir names pending)

-- what a folder holds after itself
abbrev behind : ℕ → Tree → List ℕ → List Met
behind zero tree dir = []
behind (suc levels) tree dir = part_met levels tree dir (codes "new") ++ (part_met levels tree dir (codes "cur") ++ flat_map (λ name. met_in levels tree (inside dir name)) (filter is_walked (listing_of tree dir).dirs))

folder-first : (levels : ℕ) (tree : Tree) (dir : List ℕ) → met_in levels tree dir ≡ folder levels ∷ behind levels tree dir
folder-first zero tree dir = refl
folder-first (suc levels) tree dir = refl

-- what is reported is this error
abbrev Told : ScanError → ScanError → Type 0
Told error other = ◌≡◌ {A = Result (Unit {0}) ScanError} (Err error) (Err other)

-- a step that reported a limit expected it
limit-is : (expected : Result Walk Limit) (error : ScanError) (limit : Limit) (new : Walk) → Walks {T = Unit {0}} expected (Err error) new → Told error (errors.Limit limit) → expected ≡ Err limit
limit-is expected error limit new h e = subst (λ (r : Result (Unit {0}) ScanError). Walks {T = Unit {0}} expected r new) e h

-- a folder that holds mail was not listed
stops-in-mail : (walk new : Walk) (levels : ℕ) (tree : Tree) (dir : List ℕ) (error : ScanError) → Walks {T = Unit {0}} (with_folder levels walk) (Err error) new → Walks {T = Unit {0}} (walked walk (mail_met levels tree dir)) (Err error) new
stops-in-mail walk new levels tree dir errors.MailFault h = tt
stops-in-mail walk new levels tree dir (errors.Limit limit) h =
    ap (λ (r : Result Walk Limit). fold with_met r (map file (paths_in dir (listing_of tree dir).files))) h ∙ err-stays limit (map file (paths_in dir (listing_of tree dir).files))
stops-in-mail walk new levels tree dir errors.NoMemory h = tt

pub mail-stops : (told : Option Tree) (walk new : Walk) (levels : ℕ) (dir : List ℕ) (error : ScanError) → Walks {T = Unit {0}} (with_folder levels walk) (Err error) new
    → IfSome told (λ t. Walks {T = Unit {0}} (walked walk (mail_met levels t dir)) (Err error) new)
mail-stops None walk new levels dir error h = tt
mail-stops (Some t) walk new levels dir error h = stops-in-mail walk new levels t dir error h

-- a folder was not listed
pub folder-stops : (told : Option Tree) (walk new : Walk) (levels : ℕ) (dir : List ℕ) (error : ScanError) → Walks {T = Unit {0}} (with_folder levels walk) (Err error) new
    → (limit : Limit) → Told error (errors.Limit limit) → IfSome told (λ t. walked walk (met_in levels t dir) ≡ Err limit)
folder-stops None walk new levels dir error h limit e = tt
folder-stops (Some t) walk new levels dir error h limit e =
    ap (walked walk) (folder-first levels t dir)
    ∙ (ap (λ (r : Result Walk Limit). fold with_met r (behind levels t dir)) (limit-is (with_folder levels walk) error limit new h e) ∙ err-stays limit (behind levels t dir))

-- what is met after a folder that is listed
in-folder : (walk at : Walk) (levels : ℕ) (tree : Tree) (dir : List ℕ) → with_folder levels walk ≡ Ok at → walked walk (met_in levels tree dir) ≡ walked at (behind levels tree dir)
in-folder walk at levels tree dir h = ap (walked walk) (folder-first levels tree dir) ∙ ap (λ (r : Result Walk Limit). fold with_met r (behind levels tree dir)) h

-- the mail in `new` passes a limit
pub new-stops : (told : Option Tree) (walk at new : Walk) (levels below : ℕ) (dir : List ℕ) (dirs : List (List ℕ)) (error : ScanError) → levels ≡ suc below → with_folder levels walk ≡ Ok at → IfSome told (λ t. dirs ≡ (listing_of t dir).dirs)
    → IfSome told (λ t. dirs ≡ (listing_of t dir).dirs → Walks {T = Unit {0}} (walked at (part_met below t dir (codes "new"))) (Err error) new)
    → (limit : Limit) → Told error (errors.Limit limit) → IfSome told (λ t. walked walk (met_in levels t dir) ≡ Err limit)
new-stops None walk at new levels below dir dirs error some here is part limit e = tt
new-stops (Some t) walk at new levels below dir dirs error some here is part limit e =
    ap (λ (n : ℕ). walked walk (met_in n t dir)) some
    ∙ (in-folder walk at (suc below) t dir (subst (λ (n : ℕ). with_folder n walk ≡ Ok at) some here)
    ∙ walked-stays at limit (part_met below t dir (codes "new")) (part_met below t dir (codes "cur") ++ flat_map (λ name. met_in below t (inside dir name)) (filter is_walked (listing_of t dir).dirs))
    (limit-is (walked at (part_met below t dir (codes "new"))) error limit new (part is) e))

-- the mail in `cur` passes a limit
pub cur-stops : (told : Option Tree) (walk at past new : Walk) (levels below : ℕ) (dir : List ℕ) (dirs : List (List ℕ)) (error : ScanError) → levels ≡ suc below → with_folder levels walk ≡ Ok at → IfSome told (λ t. dirs ≡ (listing_of t dir).dirs)
    → IfSome told (λ t. dirs ≡ (listing_of t dir).dirs → walked at (part_met below t dir (codes "new")) ≡ Ok past)
    → IfSome told (λ t. dirs ≡ (listing_of t dir).dirs → Walks {T = Unit {0}} (walked past (part_met below t dir (codes "cur"))) (Err error) new)
    → (limit : Limit) → Told error (errors.Limit limit) → IfSome told (λ t. walked walk (met_in levels t dir) ≡ Err limit)
cur-stops None walk at past new levels below dir dirs error some here is first part limit e = tt
cur-stops (Some t) walk at past new levels below dir dirs error some here is first part limit e =
    let others : List Met = flat_map (λ name. met_in below t (inside dir name)) (filter is_walked (listing_of t dir).dirs) in
    ap (λ (n : ℕ). walked walk (met_in n t dir)) some
    ∙ (in-folder walk at (suc below) t dir (subst (λ (n : ℕ). with_folder n walk ≡ Ok at) some here)
    ∙ (walked-on at past (part_met below t dir (codes "new")) (part_met below t dir (codes "cur") ++ others) (first is)
    ∙ walked-stays past limit (part_met below t dir (codes "cur")) others (limit-is (walked past (part_met below t dir (codes "cur"))) error limit new (part is) e)))

-- a folder was listed with its mail, and its others are pending
pub folder-done : (told : Option Tree) (walk at past new : Walk) (levels below : ℕ) (dir lent_dir : List ℕ) (dirs : List (List ℕ)) (lent_names : List (List ℕ)) (pending left : List Folder) → levels ≡ suc below → with_folder levels walk ≡ Ok at → IfSome told (λ t. dirs ≡ (listing_of t dir).dirs)
    → IfSome told (λ t. dirs ≡ (listing_of t dir).dirs → walked at (part_met below t dir (codes "new")) ≡ Ok past)
    → IfSome told (λ t. dirs ≡ (listing_of t dir).dirs → walked past (part_met below t dir (codes "cur")) ≡ Ok new)
    → lent_dir ≡ dir → lent_names ≡ dirs → reverse left ≡ map (folder_inside below lent_dir) (filter is_walked lent_names) ++ reverse pending
    → IfSome told (λ t. walked walk (met_in levels t dir ++ to_come t (reverse pending)) ≡ walked new (to_come t (reverse left)))
folder-done None walk at past new levels below dir lent_dir dirs lent_names pending left some here is first second same_dir same_names pushed = tt
folder-done (Some t) walk at past new levels below dir lent_dir dirs lent_names pending left some here is first second same_dir same_names pushed =
    let names : List (List ℕ) = filter is_walked (listing_of t dir).dirs in
    let others : List Met = flat_map (λ name. met_in below t (inside dir name)) names in
    let one : List Met = part_met below t dir (codes "new") in
    let two : List Met = part_met below t dir (codes "cur") in
    let after_it : List Met = to_come t (reverse pending) in
    ap (λ (n : ℕ). walked walk (met_in n t dir ++ after_it)) some
    ∙ (ap (λ (r : Result Walk Limit). fold with_met r ((one ++ (two ++ others)) ++ after_it)) (subst (λ (n : ℕ). with_folder n walk ≡ Ok at) some here)
    ∙ (ap (walked at) (append_assoc one (two ++ others) after_it)
    ∙ (walked-on at past one ((two ++ others) ++ after_it) (first is)
    ∙ (ap (walked past) (append_assoc two others after_it)
    ∙ (walked-on past new two (others ++ after_it) (second is)
    ∙ (ap (walked new) (others-come below t dir names (reverse pending))
    ∙ ap (λ (l : List Folder). walked new (to_come t l)) (ap (λ (l : List (List ℕ)). map (folder_inside below dir) (filter is_walked l) ++ reverse pending) (sym is)
    ∙ (ap (λ (l : List (List ℕ)). map (folder_inside below dir) (filter is_walked l) ++ reverse pending) (sym same_names)
    ∙ (ap (λ (l : List ℕ). map (folder_inside below l) (filter is_walked lent_names) ++ reverse pending) (sym same_dir) ∙ sym pushed)))))))))

-- nothing was met yet, and the root is pending
pub begun : (told : Option Tree) (paths : List (List ℕ)) (root : List ℕ) (pending all : List Folder) → paths ≡ [] → root ≡ [] → pending ≡ [] → all ≡ pending ++ record { path = root; levels = 33 } ∷ []
    → IfSome told (λ t. walked_through t ≡ walked (record { folders = 0; files = 0; paths = paths }) (to_come t (reverse all)))
begun None paths root pending all none at_root empty pushed = tt
begun (Some t) paths root pending all none at_root empty pushed =
    sym (ap (λ (l : List Folder). walked (record { folders = 0; files = 0; paths = paths }) (to_come t (reverse l))) pushed ∙ (ap (λ (l : List (List ℕ)). walked (record { folders = 0; files = 0; paths = l }) (to_come t (reverse (pending ++ record { path = root; levels = 33 } ∷ [])))) none
    ∙ (ap (λ (l : List Folder). walked not_begun (to_come t (reverse (l ++ record { path = root; levels = 33 } ∷ [])))) empty
    ∙ (ap (λ (l : List ℕ). walked not_begun (met_in 33 t l ++ [])) at_root ∙ ap (walked not_begun) (append-nil (met_in 33 t []))))))

stops-on : (told : Option Tree) (walk : Walk) (pending rest : List Folder) (next : Folder) (limit : Limit) → pending ≡ rest ++ next ∷ []
    → IfSome told (λ t. walked_through t ≡ walked walk (to_come t (reverse pending))) → IfSome told (λ t. walked walk (met_in next.levels t next.path) ≡ Err limit) → IfSome told (λ t. scanned t ≡ Err limit)
stops-on None walk pending rest next limit popped so_far h = tt
stops-on (Some t) walk pending rest next limit popped so_far h =
    let top : reverse pending ≡ next ∷ reverse rest = ap reverse popped ∙ reverse-append rest (next ∷ []) in
    ap paths_walked (so_far ∙ (ap (λ (l : List Folder). walked walk (to_come t l)) top ∙ walked-stays walk limit (met_in next.levels t next.path) (to_come t (reverse rest)) h))

abbrev err-of : {A : Type 0} → Result A ScanError → ScanError
err-of (Ok done) = errors.NoMemory
err-of (Err error) = error

abbrev err-with : {B : Type 0} → ScanError → Result B ScanError
err-with error = Err error

-- the same error, of another result
pub told-again : {A B : Type 0} (error other : ScanError) → ◌≡◌ {A = Result A ScanError} (Err error) (Err other) → ◌≡◌ {A = Result B ScanError} (Err error) (Err other)
told-again error other e = ap err-with (ap err-of e)

-- the walk through the folder on top passes a limit, and so does the whole
pub walk-stops : (told now : Option Tree) (walk : Walk) (pending rest : List Folder) (next : Folder) (limit : Limit) → now ≡ told → pending ≡ rest ++ next ∷ []
    → IfSome told (λ t. walked_through t ≡ walked walk (to_come t (reverse pending))) → IfSome now (λ t. walked walk (met_in next.levels t next.path) ≡ Err limit) → IfSome told (λ t. scanned t ≡ Err limit)
walk-stops told now walk pending rest next limit same popped so_far h =
    stops-on told walk pending rest next limit popped so_far (subst (λ (o : Option Tree). IfSome o (λ t. walked walk (met_in next.levels t next.path) ≡ Err limit)) same h)

-- a file was not counted
pub names-stop : (from at new : Walk) (dir : List ℕ) (names : List (List ℕ)) (i : ℕ) (name : List ℕ) (error : ScanError) → take (i + 1) names ≡ take i names ++ name ∷ [] → walked from (map file (paths_in dir (take i names))) ≡ Ok at
    → Walks {T = Unit {0}} (walked at (map file (paths_in dir (name ∷ [])))) (Err error) new → Walks {T = Unit {0}} (walked from (map file (paths_in dir names))) (Err error) new
names-stop from at new dir names i name errors.MailFault more so_far h = tt
names-stop from at new dir names i name (errors.Limit limit) more so_far h = name-stops from at limit dir names i name so_far more h
names-stop from at new dir names i name errors.NoMemory more so_far h = tt
