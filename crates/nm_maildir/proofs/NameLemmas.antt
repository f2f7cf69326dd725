-- The names in each folder, one path after another. For the proofs of `add_path` and `take_names`.
use Rattle.std.proofs.Common.{◌≡◌, ◌∙◌, ℕ, List, [], ◌∷◌, ◌++◌, Bool, true, false, cond, Option, None, Some, refl, sym, ap}
use Rattle.std.specs.Prelude.{map, filter, fold}
use Rattle.std.specs.Cmp.Lexicographic.{bytes_decides, slice_cmp, texts_ties}
use Rattle.std.specs.Ordering.{nat_cmp}
use Rattle.std.specs.BTreeMap.{BTreeMap, get, is_at}
use Rattle.std.specs.BTreeSet.{BTreeSet, insert_key}
use Rattle.nm_maildir.specs.Names.{AddsPath, DropsFolder, found_names, names_at, with_name}
use Rattle.nm_maildir.specs.Tree.{names_in, folder_of, name_of}
use Rattle.nm_base.specs.Order.{same_text}

module _ {A B C : Type 0} (put : C → B → C) (f : A → B) where
  at_end : (b : Bool) (x : A) (c : C) → fold put c (map f (cond b (x ∷ []) [])) ≡ cond b (put c (f x)) c
  at_end true x c = refl
  at_end false x c = refl

  before : (b q : Bool) (y x : A) (few more : List A)
      → ((c : C) → fold put c (map f more) ≡ cond q (put (fold put c (map f few)) (f x)) (fold put c (map f few)))
      → (c : C) → fold put c (map f (cond b (y ∷ more) more)) ≡ cond q (put (fold put c (map f (cond b (y ∷ few) few))) (f x)) (fold put c (map f (cond b (y ∷ few) few)))
  before true q y x few more is c = is (put c (f y))
  before false q y x few more is c = is c

  -- what is put from one item more, where it passes
  fold-filter_push : (p : A → Bool) (xs : List A) (x : A) (c : C)
      → fold put c (map f (filter p (xs ++ x ∷ []))) ≡ cond (p x) (put (fold put c (map f (filter p xs))) (f x)) (fold put c (map f (filter p xs)))
  fold-filter_push p [] x c = at_end (p x) x c
  fold-filter_push p (y ∷ ys) x c = before (p y) (p x) y x (filter p ys) (filter p (ys ++ x ∷ [])) (fold-filter_push p ys x) c

-- one path more
pub names_in-push : (folder : List ℕ) (paths : List (List ℕ)) (path : List ℕ) → names_in folder (paths ++ path ∷ []) ≡ with_name folder (names_in folder paths) path
names_in-push folder paths path = fold-filter_push (insert_key (slice_cmp nat_cmp)) name_of (λ x. same_text (folder_of x) folder) paths path []

-- ---- the map of a look-up

-- a map from folders to their names
abbrev pub Names : Type 0
Names = BTreeMap (List ℕ) (BTreeSet (List ℕ))

none_found : (b : Bool) (found : Option (BTreeSet (List ℕ))) → found_names (cond b None found) ≡ cond b [] (found_names found)
none_found true found = refl
none_found false found = refl

-- a folder is taken out of the map
pub drops_folder : (m n : Names) (folder : List ℕ) → ((q : List ℕ) → get (slice_cmp nat_cmp) n q ≡ cond (is_at (slice_cmp nat_cmp folder) q) None (get (slice_cmp nat_cmp) m q))
    → DropsFolder m n folder
drops_folder m n folder takes q =
    ap found_names (takes q)
    ∙ none_found (is_at (slice_cmp nat_cmp folder) q) (get (slice_cmp nat_cmp) m q)
    ∙ ap (λ b. cond b [] (names_at m q)) (sym (texts_ties folder q))

by_folder : (b : Bool) (names : BTreeSet (List ℕ)) (after : Option (BTreeSet (List ℕ))) (had here : List (List ℕ)) (name : List ℕ)
    → (b ≡ true → here ≡ had) → names.keys ≡ insert_key (slice_cmp nat_cmp) had name → found_names after ≡ cond b [] here
    → found_names (cond b (Some names) after) ≡ cond b (insert_key (slice_cmp nat_cmp) here name) here
by_folder true names after had here name same put dropped = put ∙ ap (λ those. insert_key (slice_cmp nat_cmp) those name) (sym (same refl))
by_folder false names after had here name same put dropped = dropped

-- and put back with one name more
pub adds_path : (m n o : Names) (path folder name : List ℕ) (names : BTreeSet (List ℕ)) → folder ≡ folder_of path → name ≡ name_of path → DropsFolder m n folder
    → names.keys ≡ insert_key (slice_cmp nat_cmp) (names_at m folder) name
    → ((q : List ℕ) → get (slice_cmp nat_cmp) o q ≡ cond (is_at (slice_cmp nat_cmp folder) q) (Some names) (get (slice_cmp nat_cmp) n q))
    → AddsPath m o path
adds_path m n o path folder name names is_folder is_name dropped put puts q =
    ap found_names (puts q ∙ ap (λ b. cond b (Some names) (get (slice_cmp nat_cmp) n q)) (sym (texts_ties folder q)))
    ∙ by_folder (same_text folder q) names (get (slice_cmp nat_cmp) n q) (names_at m folder) (names_at m q) name
    (λ e. ap (names_at m) (sym ((bytes_decides folder q).0 e))) put (dropped q)
    ∙ ap (λ f. cond (same_text f q) (insert_key (slice_cmp nat_cmp) (names_at m q) name) (names_at m q)) is_folder
    ∙ ap (λ x. cond (same_text (folder_of path) q) (insert_key (slice_cmp nat_cmp) (names_at m q) x) (names_at m q)) is_name
