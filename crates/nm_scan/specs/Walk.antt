-- The walk through a tree of Maildirs (maildir(5)): which folders are listed, in which order, which files count, and which limit is
-- passed first.
-- Cited by `scan_error`, `walk` and `nm_writer`.
use Rattle.std.specs.Prelude.{◌≡◌, ℕ, zero, suc, ◌+◌, ◌==◌, Bool, true, false, not, List, [], ◌∷◌, ◌++◌, filter, fold, map, codes, nat_le, Result, Ok, Err, if◌then◌else◌}
use Rattle.std.specs.List.{flat_map}
use Rattle.nm_base.specs.Limits.{max_depth, max_files, max_folders}
use Rattle.nm_base.specs.MailPath.{is_mail_path}
use Rattle.nm_base.specs.Order.{has_text, insert}
use Rattle.nm_base.specs.declared.limit.Limit.{Limit}
use Rattle.nm_base.specs.declared.limit.Limit.TheVariants as limits
use Rattle.nm_maildir.specs.Tree.{Tree, listing_of}
use Rattle.nm_maildir.specs.declared.answers.MailError.{MailError}
use Rattle.nm_maildir.specs.declared.answers.MailError.TheVariants as mail_errors
use Rattle.nm_scan.specs.declared.scan_error.ScanError.{ScanError}
use Rattle.nm_scan.specs.declared.scan_error.ScanError.TheVariants as scan_errors
use Rattle.nm_scan.specs.declared.walk.Walk.{Walk}
use Rattle.nm_scan.specs.declared.walk.Folder.{Folder}

-- a file counts where its name does not begin with a dot
abbrev pub counts : List ℕ → Bool
counts [] = false
counts (first ∷ more) = not (first == 46)

-- the paths of the files that count, where they are paths
abbrev pub paths_in : List ℕ → List (List ℕ) → List (List ℕ)
paths_in folder names = filter is_mail_path (map (λ name. folder ++ 47 ∷ name) (filter counts names))

-- the path of a name in a folder; the root is the empty text
abbrev pub inside : List ℕ → List ℕ → List ℕ
inside [] name = name
inside (first ∷ more) name = (first ∷ more) ++ 47 ∷ name

-- What a walk meets: a folder, with how many levels from it on may be listed, or a file that counts.
pub data Met : Type 0 where
  folder : ℕ → Met
  file : List ℕ → Met

-- `new` and `cur` hold the mail of a folder, `tmp` and `.notmuch` are never listed, and each other folder is walked through
abbrev pub is_walked : List ℕ → Bool
is_walked name = not (has_text (codes "new" ∷ codes "cur" ∷ codes "tmp" ∷ codes ".notmuch" ∷ []) name)

-- a folder that holds mail, and the files that count in it
abbrev pub mail_met : ℕ → Tree → List ℕ → List Met
mail_met levels tree dir = folder levels ∷ map file (paths_in dir (listing_of tree dir).files)

-- `new` or `cur`, where the folder has it
abbrev pub part_met : ℕ → Tree → List ℕ → List ℕ → List Met
part_met levels tree dir name = if has_text (listing_of tree dir).dirs name then mail_met levels tree (inside dir name) else []

-- What a walk through a folder meets: the folder, then its mail, then its other folders in byte order, each in the same way.
abbrev pub met_in : ℕ → Tree → List ℕ → List Met
met_in zero tree dir = folder zero ∷ []
met_in (suc levels) tree dir =
    folder (suc levels) ∷ (part_met levels tree dir (codes "new") ++ (part_met levels tree dir (codes "cur")
    ++ flat_map (λ name. met_in levels tree (inside dir name)) (filter is_walked (listing_of tree dir).dirs)))

-- one folder more is listed; that there are too many is reported before that it is too deep
abbrev pub with_folder : ℕ → Walk → Result Walk Limit
with_folder levels walk =
    if nat_le max_folders walk.folders then Err limits.Dirs
    else (if levels == 0 then Err limits.Depth else Ok (record walk { folders = walk.folders + 1 }))

-- one file more counts
abbrev pub with_file : List ℕ → Walk → Result Walk Limit
with_file path walk =
    if nat_le max_files walk.files then Err limits.Files
    else Ok (record walk { files = walk.files + 1; paths = insert walk.paths path })

-- what is met counts, where no limit was passed before
abbrev pub with_met : Result Walk Limit → Met → Result Walk Limit
with_met (Err limit) met = Err limit
with_met (Ok walk) (folder levels) = with_folder levels walk
with_met (Ok walk) (file path) = with_file path walk

-- all of this is met, one after the other
abbrev pub walked : Walk → List Met → Result Walk Limit
walked walk all = fold with_met (Ok walk) all

-- nothing was met
abbrev pub not_begun : Walk
not_begun = record { folders = 0; files = 0; paths = [] }

-- the walk through a whole tree, from its root on
abbrev pub walked_through : Tree → Result Walk Limit
walked_through tree = walked not_begun (met_in (suc max_depth) tree [])

-- the paths of a walk that passed no limit
abbrev pub paths_walked : Result Walk Limit → Result (List (List ℕ)) Limit
paths_walked (Err limit) = Err limit
paths_walked (Ok walk) = Ok walk.paths

-- the paths of a tree's mail in byte order, or the first limit that the walk through it passes
abbrev pub scanned : Tree → Result (List (List ℕ)) Limit
scanned tree = paths_walked (walked_through tree)

-- a folder in a folder, to be walked through
abbrev pub folder_inside : ℕ → List ℕ → List ℕ → Folder
folder_inside levels dir name = record { path = inside dir name; levels = levels }

-- folders that are still to be walked through, the next one first
abbrev pub to_come : Tree → List Folder → List Met
to_come tree folders = flat_map (λ next. met_in next.levels tree next.path) folders

-- a fault of the mail folder is one of the scan
abbrev pub scan_error_of : MailError → ScanError
scan_error_of mail_errors.Failed = scan_errors.MailFault
scan_error_of mail_errors.NoMemory = scan_errors.NoMemory

-- the error is a fault of the mail folder
abbrev pub is_scan_fault : ScanError → Bool
is_scan_fault scan_errors.MailFault = true
is_scan_fault (scan_errors.Limit limit) = false
is_scan_fault scan_errors.NoMemory = false

-- the limits that a walk may pass: of files, of folders, of their depth
abbrev pub is_walk_limit : Limit → Bool
is_walk_limit limits.Files = true
is_walk_limit limits.Dirs = true
is_walk_limit limits.Depth = true
is_walk_limit limits.IndexBytes = false
is_walk_limit limits.CommitBytes = false
is_walk_limit limits.InputBytes = false
is_walk_limit limits.Lines = false
is_walk_limit limits.Commits = false
is_walk_limit limits.QueryBytes = false
is_walk_limit limits.QueryDepth = false
is_walk_limit limits.ShowBytes = false
is_walk_limit limits.Numbers = false

-- an error that a walk may give: of the limits only those that it may pass
abbrev pub is_walk_error : ScanError → Bool
is_walk_error scan_errors.MailFault = true
is_walk_error (scan_errors.Limit limit) = is_walk_limit limit
is_walk_error scan_errors.NoMemory = true

-- What a step of a walk leaves is what was expected; a limit is reported exactly where it was expected. Of a step that failed nothing is
-- said.
abbrev pub Walks : {T : Type 0} → Result Walk Limit → Result T ScanError → Walk → Type 0
Walks expected (Ok done) walk = expected ≡ Ok walk
Walks expected (Err scan_errors.MailFault) walk = Unit {0}
Walks expected (Err (scan_errors.Limit limit)) walk = expected ≡ Err limit
Walks expected (Err scan_errors.NoMemory) walk = Unit {0}
