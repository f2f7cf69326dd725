-- Which files of a tree are its mail, in words of its folders: what a walk through it finds. Cited by `laws`.
use Rattle.std.specs.Prelude.{◌≡◌, ℕ, ◌+◌, IsTrue, List, [], ◌∷◌, ◌++◌, codes}
use Rattle.nm_base.specs.Limits.{max_depth}
use Rattle.nm_base.specs.MailPath.{is_mail_path}
use Rattle.nm_base.specs.Order.{has_text}
use Rattle.nm_maildir.specs.Tree.{Tree, listing_of}
use Rattle.nm_scan.specs.Walk.{Met, counts, file, folder, inside, is_walked, met_in}

-- the paths of the files that were met
abbrev pub paths_met : List Met → List (List ℕ)
paths_met [] = []
paths_met (folder levels ∷ all) = paths_met all
paths_met (file path ∷ all) = path ∷ paths_met all

-- the paths that a walk through the tree meets
abbrev pub mail_of : Tree → List (List ℕ)
mail_of tree = paths_met (met_in (1 + max_depth) tree [])

-- A walk comes to the folder: it is the root, or is in one that a walk comes to and is one that is walked through.
pub data IsReached (tree : Tree) : List ℕ → Type 0 where
  root : IsReached tree []
  below : (dir name : List ℕ) → IsReached tree dir → IsTrue (has_text (listing_of tree dir).dirs name) → IsTrue (is_walked name) → IsReached tree (inside dir name)

-- The path is one of mail: a file in the folder `new` or `cur` of a folder that a walk comes to, whose name does not begin with a dot.
pub record IsMailAt (tree : Tree) (path : List ℕ) : Type 0 where
  pub dir : List ℕ
  pub reached : IsReached tree dir
  pub part : List ℕ
  pub is_part : IsTrue (has_text (codes "new" ∷ codes "cur" ∷ []) part)
  pub part_there : IsTrue (has_text (listing_of tree dir).dirs part)
  pub name : List ℕ
  pub name_there : IsTrue (has_text (listing_of tree (inside dir part)).files name)
  pub counted : IsTrue (counts name)
  pub path_is : path ≡ inside dir part ++ 47 ∷ name
  pub bounded : IsTrue (is_mail_path path)
