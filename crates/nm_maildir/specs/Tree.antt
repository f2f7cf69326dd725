-- A tree of mail: folders, and files with their bytes, each by its path below the root (maildir(5)).
-- Cited by `maildir`, `memory_files`, `nm_scan` and others.
use Rattle.std.specs.Prelude.{ℕ, Bool, ◌||◌, ◌==◌, List, [], ◌∷◌, length, map, filter, Option, None, Some, is_some, nat_lt, if◌then◌else◌}
use Rattle.std.specs.List.{before_last, after_last}
use Rattle.nm_base.specs.Order.{has_text, same_text, sorted}
use Rattle.nm_maildir.specs.declared.answers.Listing.{Listing}
use Rattle.nm_maildir.specs.declared.answers.Got.{Got}
use Rattle.nm_maildir.specs.declared.answers.Got.TheVariants as got
use Rattle.nm_maildir.specs.declared.answers.Renamed.{Renamed}
use Rattle.nm_maildir.specs.declared.answers.Renamed.TheVariants as renamed

-- folders, and files with their bytes
pub record Tree : Type 0 where
  pub dirs : List (List ℕ)
  pub files : List (List ℕ × List ℕ)

-- the folder that holds the path: all before its last `/`, or the root, which is the empty text
abbrev pub folder_of : List ℕ → List ℕ
folder_of path = before_last (λ b. b == 47) path

-- the last component of the path
abbrev pub name_of : List ℕ → List ℕ
name_of path = after_last (λ b. b == 47) path

-- the names of those paths that are directly in the folder, in byte order, without repeats
abbrev pub names_in : List ℕ → List (List ℕ) → List (List ℕ)
names_in folder paths = sorted (map name_of (filter (λ path. same_text (folder_of path) folder) paths))

-- the root, or a folder of the tree
abbrev pub is_folder : Tree → List ℕ → Bool
is_folder tree folder = (length folder == 0) || has_text tree.dirs folder

-- what a folder holds; a folder that is not there holds nothing
abbrev pub listing_of : Tree → List ℕ → Listing
listing_of tree folder =
    if is_folder tree folder
    then record { dirs = names_in folder tree.dirs; files = names_in folder (map (λ file. file.0) tree.files) }
    else record { dirs = []; files = [] }

-- the bytes of a file
abbrev pub bytes_at : List (List ℕ × List ℕ) → List ℕ → Option (List ℕ)
bytes_at [] path = None
bytes_at (file ∷ files) path = if same_text file.0 path then Some file.1 else bytes_at files path

-- what a read of at most max bytes answers
abbrev pub got_from : ℕ → Option (List ℕ) → Got
got_from max None = got.Missing
got_from max (Some bytes) = if nat_lt max (length bytes) then got.TooLong else got.Found bytes

abbrev pub got_of : Tree → List ℕ → ℕ → Got
got_of tree path max = got_from max (bytes_at tree.files path)

-- what a rename answers: the source has to be there, and the target must not
abbrev pub renamed_of : Tree → List ℕ → List ℕ → Renamed
renamed_of tree from to =
    if is_some (bytes_at tree.files from)
    then (if is_some (bytes_at tree.files to) then renamed.Exists else renamed.Moved)
    else renamed.Missing

-- the file `from` is `to`, in its place
abbrev pub moved : Tree → List ℕ → List ℕ → Tree
moved tree from to = record {
  dirs = tree.dirs;
  files = map (λ file. if same_text file.0 from then (to, file.1) else file) tree.files;
}
