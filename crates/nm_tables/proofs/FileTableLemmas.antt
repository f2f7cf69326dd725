-- The files of an index and their maps: what is there, and what an arrival, a move and a removal leave.
-- For the proofs of `add_file`, `has_file`, `is_live` and others.
use Rattle.std.proofs.Common.{◌≡◌, ◌≢◌, refl, sym, ap, subst, ◌∙◌, ℕ, ◌+◌, ◌<◌, Bool, true, false, ◌||◌, ◌==◌, not, cond, List, map, [], ◌∷◌, ◌++◌, arith, inl, inr, true≢false, if◌then◌else◌, eq-eqb, eqb-true}
use Rattle.std.proofs.lemmas.List.{append-nil}
use Rattle.std.specs.Cmp.{both_ways}
use Rattle.std.proofs.lemmas.Bool.{cond-true, cond-false, false_from_ne_true}
use Rattle.std.specs.Prelude.{Contains, Option, Some, None, unwrap_or}
use Rattle.std.specs.BTreeMap.{insert_entry, is_at}
use Rattle.std.specs.Cmp.Lexicographic.{slice_cmp}
use Rattle.std.specs.List.{filter}
use Rattle.std.specs.List.Sorted.{IsStrictlySortedBy}
use Rattle.std.specs.Map.{keys_of, remove_entry, values_of}
use Rattle.std.specs.Borrow.{Bor}
use Rattle.std.specs.Option.{is_some, option_copied}
use Rattle.std.specs.Ordering.{is_eq, nat_cmp}
use Rattle.std.proofs.lemmas.Cmp.{nat_cmp_total}
use Rattle.std.proofs.lemmas.Option.{none-some, same_Some}
use Rattle.nm_base.specs.Limits.{IsDate}
use Rattle.nm_base.specs.Order.{same_text}
use Rattle.nm_base.specs.declared.facts.Facts.{Facts}
use Rattle.nm_commit.specs.Files.{has_id, has_path, moved_path, with_moved, without_path}
use Rattle.nm_tables.specs.FileTable.{AreFiled, at_place, at_text, files_in, lying_in, places_of, told, told_places, without_place}
use Rattle.nm_tables.specs.declared.file_table.FileTable.{FileTable}
use Rattle.nm_base.specs.KeyLaws.{Contains_there, Contains_first, Contains_cases, Contains_none, Contains_map, Contains_from_map, any_one, any_of, same_text_from, same_text_of, text_same, text_other, same_id, other_id, cases_id, same_number, other_number, cases_number, number_from, chosen, other, some_by}
use Rattle.nm_tables.proofs.OrderLemmas.{sorted_insert, found_in, pushed_entry, revalued, inserted_at}
use Rattle.nm_shared.specs.EntryLaws.{sorted_remove}
use Rattle.nm_tables.specs.FoundLaws.{sorted_rest, not_first, found_at}

-- ---- what a look-up answered

copied_some : {V : Type 0} (r : Option (Bor V)) → is_some (option_copied r) ≡ is_some r
copied_some None = refl
copied_some (Some x) = refl

pub copied_is : {V : Type 0} (r : Option (Bor V)) (b : Bool) (o : Option V) → b ≡ is_some r → option_copied r ≡ o → b ≡ is_some o
copied_is r b o is copied = is ∙ sym (copied_some r) ∙ ap is_some copied

-- ---- what is there

module _ (f : FileTable) (are : AreFiled f) where
  path_of : (path : List ℕ) (place : ℕ) → at_text path f.places ≡ Some place → has_path (files_in f) path ≡ true
  path_of path place at =
      let there = are.found path place at in
      any_of (same_text path) (map (λ file. file.0) (files_in f)) path
      (Contains_map (λ (file : List ℕ × Facts). file.0) (files_in f) (path, there.0) (Contains_map (λ (file : ℕ × (List ℕ × Facts)). file.1) f.files (place, (path, there.0)) (found_in f.files place (path, there.0) there.1))) (same_text_of path)

  path_from : (path : List ℕ) → has_path (files_in f) path ≡ true → (place : ℕ) × (facts : Facts) × (at_text path f.places ≡ Some place) × (at_place place f.files ≡ Some (path, facts))
  path_from path has =
      let one = any_one (same_text path) (map (λ file. file.0) (files_in f)) has in
      let file = Contains_from_map (λ (file : List ℕ × Facts). file.0) (files_in f) one.0 one.1 in
      let entry = Contains_from_map (λ (file : ℕ × (List ℕ × Facts)). file.1) f.files file.0 file.1 in
      let is : path ≡ entry.0.1.0 = same_text_from path one.0 one.2 ∙ sym file.2 ∙ sym (ap (λ x. x.0) entry.2) in
      let at : at_place entry.0.0 f.files ≡ Some (path, entry.0.1.1) = subst (λ p. at_place entry.0.0 f.files ≡ Some (p, entry.0.1.1)) (sym is) (found_at f.files are.sorted entry.0 entry.1) in
      (entry.0.0, entry.0.1.1, are.kept entry.0.0 path entry.0.1.1 at, at)

  -- a path has a place just where a file is there
  pub has_place : (path : List ℕ) → is_some (at_text path f.places) ≡ has_path (files_in f) path
  has_place path =
      both_ways (is_some (at_text path f.places)) (has_path (files_in f) path) (λ is. let one = some_by (at_text path f.places) is in path_of path one.0 one.1) (λ has. let there = path_from path has in ap is_some there.2)

  pub no_place : (path : List ℕ) → has_path (files_in f) path ≡ true → None ≡ at_text path f.places → ⊥
  no_place path has none = let there = path_from path has in none-some there.0 (none ∙ there.2)

  pub no_file : (path : List ℕ) → has_path (files_in f) path ≡ true → (place : ℕ) → Some place ≡ at_text path f.places → None ≡ at_place place f.files → ⊥
  no_file path has place at none = let there = are.found path place (sym at) in none-some (path, there.0) (none ∙ there.1)

  pub lies_there : (path : List ℕ) (place : ℕ) → Some place ≡ at_text path f.places → (file : List ℕ × Facts) → Some file ≡ at_place place f.files → at_place place f.files ≡ Some (path, file.1)
  lies_there path place at file is =
      let there = are.found path place (sym at) in
      let path_is : file.0 ≡ path = ap (λ x. x.0) (same_Some file (path, there.0) (is ∙ there.1)) in sym is ∙ (λ i. Some (path_is i, file.1))

-- ---- the places of a message

live_by : (test : Bool) (e : ℕ × (List ℕ × Facts)) (rest : List (ℕ × (List ℕ × Facts))) (b : Bool) → is_some (told (map (λ file. file.0) rest)) ≡ b → is_some (told (map (λ file. file.0) (cond test (e ∷ rest) rest))) ≡ (test || b)
live_by true e rest b is = refl
live_by false e rest b is = is

places_live : (es : List (ℕ × (List ℕ × Facts))) (id : List ℕ) → is_some (told (places_of es id)) ≡ has_id (values_of es) id
places_live [] id = refl
places_live (e ∷ es) id = live_by (same_text id e.1.1.id) e (filter (λ file. same_text id file.1.1.id) es) (has_id (values_of es) id) (places_live es id)

-- a message has places just where it has a file
pub has_places : (f : FileTable) (are : AreFiled f) (id : List ℕ) → is_some (at_text id f.of_id) ≡ has_id (files_in f) id
has_places f are id = ap is_some (are.ids id) ∙ places_live f.files id

all_told : (xs : List ℕ) → unwrap_or (told xs) [] ≡ xs
all_told [] = refl
all_told (x ∷ xs) = refl

told_last : (xs : List ℕ) (x : ℕ) → told (xs ++ x ∷ []) ≡ Some (xs ++ x ∷ [])
told_last [] x = refl
told_last (y ∷ xs) x = refl

pub told_is : (f : FileTable) (are : AreFiled f) (id : List ℕ) → told_places f.of_id id ≡ places_of f.files id
told_is f are id = ap (λ o. unwrap_or o []) (are.ids id) ∙ all_told (places_of f.files id)

one_more : (test : Bool) (e : ℕ × (List ℕ × Facts)) (rest : List (ℕ × (List ℕ × Facts))) (more : List ℕ) (last : List ℕ) → more ≡ map (λ file. file.0) rest ++ last
    → map (λ file. file.0) (cond test (e ∷ rest) rest) ++ last ≡ cond test (e.0 ∷ more) more
one_more true e rest more last is = ap (λ xs. e.0 ∷ xs) (sym is)
one_more false e rest more last is = sym is

pub map_cond : (test : Bool) (e : ℕ × (List ℕ × Facts)) (rest : List (ℕ × (List ℕ × Facts))) → map (λ file. file.0) (cond test (e ∷ rest) rest) ≡ cond test (e.0 ∷ map (λ file. file.0) rest) (map (λ file. file.0) rest)
map_cond true e rest = refl
map_cond false e rest = refl

places_more : (es : List (ℕ × (List ℕ × Facts))) (e : ℕ × (List ℕ × Facts)) (id : List ℕ) → places_of (es ++ e ∷ []) id ≡ places_of es id ++ (if same_text id e.1.1.id then e.0 ∷ [] else [])
places_more [] e id = map_cond (same_text id e.1.1.id) e []
places_more (x ∷ es) e id =
    map_cond (same_text id x.1.1.id) x (filter (λ file. same_text id file.1.1.id) (es ++ e ∷ []))
    ∙ sym (one_more (same_text id x.1.1.id) x (filter (λ file. same_text id file.1.1.id) es) (places_of (es ++ e ∷ []) id) (if same_text id e.1.1.id then e.0 ∷ [] else []) (places_more es e id))

values_push : (es : List (ℕ × (List ℕ × Facts))) (e : ℕ × (List ℕ × Facts)) → values_of (es ++ e ∷ []) ≡ values_of es ++ e.1 ∷ []
values_push [] e = refl
values_push (x ∷ es) e = ap (λ more. x.1 ∷ more) (values_push es e)

-- ---- an arrival

module _ (old new : FileTable) (path : List ℕ) (facts : Facts) (are : AreFiled old) (free : has_path (files_in old) path ≡ false)
    (files : new.files ≡ insert_entry nat_cmp old.files old.next (path, facts))
    (files_found : (place : ℕ) → at_place place new.files ≡ (if is_eq (nat_cmp place old.next) then Some (path, facts) else at_place place old.files))
    (places_found : (other : List ℕ) → at_text other new.places ≡ (if is_eq (slice_cmp nat_cmp other path) then Some old.next else at_text other old.places))
    (ids_found : (id : List ℕ) → at_text id new.of_id ≡ (if is_eq (slice_cmp nat_cmp id facts.id) then Some (told_places old.of_id facts.id ++ old.next ∷ []) else at_text id old.of_id))
    (next : new.next ≡ old.next + 1) (date : IsDate facts.date) where
  below_next : (x : ℕ × (List ℕ × Facts)) → Contains old.files x → x.0 < old.next
  below_next x among = are.below x.0 x.1 (found_at old.files are.sorted x among)

  pushed : new.files ≡ old.files ++ (old.next, (path, facts)) ∷ []
  pushed = files ∙ pushed_entry old.files old.next (path, facts) below_next

  none_there : (place : ℕ) → at_text path old.places ≡ Some place → ⊥
  none_there place at = true≢false (sym (path_of old are path place at) ∙ free)

  old_place : (place : ℕ) (file : List ℕ × Facts) → at_place place old.files ≡ Some file → at_place place new.files ≡ Some file
  old_place place file at =
      files_found place ∙ cond-false (is_eq (nat_cmp place old.next)) (Some (path, facts)) (at_place place old.files) (other_number place old.next (λ same. omega (arith, are.below place file at, same))) ∙ at

  new_below : (place : ℕ) (file : List ℕ × Facts) → at_place place new.files ≡ Some file → place < new.next
  new_below place file at = elim (cases_number place old.next) [
    | inl same ↦ omega (arith, same, next)
    | inr not ↦ omega (arith, next, are.below place file (other (is_eq (nat_cmp place old.next)) (Some (path, facts)) (at_place place old.files) (Some file) (other_number place old.next not) (sym (files_found place) ∙ at)))
  ]

  new_dated : (place : ℕ) (file : List ℕ × Facts) → at_place place new.files ≡ Some file → IsDate file.1.date
  new_dated place file at = elim (cases_number place old.next) [
    | inl same ↦
        subst (λ (f : List ℕ × Facts). IsDate f.1.date)
        (same_Some (path, facts) file (chosen (is_eq (nat_cmp place old.next)) (Some (path, facts)) (at_place place old.files) (Some file) (same_number place old.next same) (sym (files_found place) ∙ at)))
        date
    | inr not ↦ are.dated place file (other (is_eq (nat_cmp place old.next)) (Some (path, facts)) (at_place place old.files) (Some file) (other_number place old.next not) (sym (files_found place) ∙ at))
  ]

  new_found : (p : List ℕ) (place : ℕ) → at_text p new.places ≡ Some place → (of : Facts) × (at_place place new.files ≡ Some (p, of))
  new_found p place at = elim (cases_id p path) [
    | inl same ↦
        let is : old.next ≡ place = same_Some old.next place (chosen (is_eq (slice_cmp nat_cmp p path)) (Some old.next) (at_text p old.places) (Some place) (same_id p path same) (sym (places_found p) ∙ at)) in (
          facts,
          files_found place ∙ cond-true (is_eq (nat_cmp place old.next)) (Some (path, facts)) (at_place place old.files) (same_number place old.next (sym is)) ∙ ap (λ q. Some (q, facts)) (sym same),
        )
    | inr not ↦
        let there = are.found p place (other (is_eq (slice_cmp nat_cmp p path)) (Some old.next) (at_text p old.places) (Some place) (other_id p path not) (sym (places_found p) ∙ at)) in (there.0, old_place place (p, there.0) there.1)
  ]

  new_kept : (place : ℕ) (p : List ℕ) (of : Facts) → at_place place new.files ≡ Some (p, of) → at_text p new.places ≡ Some place
  new_kept place p of at = elim (cases_number place old.next) [
    | inl same ↦
        let is : (path, facts) ≡ (p, of) = same_Some (path, facts) (p, of) (chosen (is_eq (nat_cmp place old.next)) (Some (path, facts)) (at_place place old.files) (Some (p, of)) (same_number place old.next same) (sym (files_found place) ∙ at)) in
        places_found p ∙ cond-true (is_eq (slice_cmp nat_cmp p path)) (Some old.next) (at_text p old.places) (same_id p path (sym (ap (λ x. x.0) is))) ∙ ap Some (sym same)
    | inr not ↦
        let at_old : at_text p old.places ≡ Some place = are.kept place p of (other (is_eq (nat_cmp place old.next)) (Some (path, facts)) (at_place place old.files) (Some (p, of)) (other_number place old.next not) (sym (files_found place) ∙ at)) in
        places_found p ∙ cond-false (is_eq (slice_cmp nat_cmp p path)) (Some old.next) (at_text p old.places) (other_id p path (λ same. none_there place (subst (λ q. at_text q old.places ≡ Some place) same at_old))) ∙ at_old
  ]

  more_places : (id : List ℕ) → places_of new.files id ≡ places_of old.files id ++ (if same_text id facts.id then old.next ∷ [] else [])
  more_places id = ap (λ files. places_of files id) pushed ∙ places_more old.files (old.next, (path, facts)) id

  new_ids : (id : List ℕ) → at_text id new.of_id ≡ told (places_of new.files id)
  new_ids id = elim (cases_id id facts.id) [
    | inl same ↦
        ids_found id ∙ cond-true (is_eq (slice_cmp nat_cmp id facts.id)) (Some (told_places old.of_id facts.id ++ old.next ∷ [])) (at_text id old.of_id) (same_id id facts.id same)
        ∙ ap (λ xs. Some (xs ++ old.next ∷ [])) (told_is old are facts.id ∙ ap (places_of old.files) (sym same))
        ∙ sym (told_last (places_of old.files id) old.next)
        ∙ ap told (sym (more_places id ∙ ap (λ xs. places_of old.files id ++ xs) (cond-true (same_text id facts.id) (old.next ∷ []) [] (text_same id facts.id same))))
    | inr not ↦
        ids_found id ∙ cond-false (is_eq (slice_cmp nat_cmp id facts.id)) (Some (told_places old.of_id facts.id ++ old.next ∷ [])) (at_text id old.of_id) (other_id id facts.id not)
        ∙ are.ids id
        ∙ ap told (sym (more_places id ∙ ap (λ xs. places_of old.files id ++ xs) (cond-false (same_text id facts.id) (old.next ∷ []) [] (text_other id facts.id not)) ∙ append-nil (places_of old.files id)))
  ]

  pub filed_added : AreFiled new
  filed_added = record {
    sorted = subst (λ es. IsStrictlySortedBy nat_cmp (keys_of es)) (sym files) (sorted_insert nat_cmp_total old.files old.next (path, facts) are.sorted);
    below = new_below;
    dated = new_dated;
    found = new_found;
    kept = new_kept;
    ids = new_ids;
  }

  pub files_added : files_in new ≡ files_in old ++ (path, facts) ∷ []
  files_added = ap values_of pushed ∙ values_push old.files (old.next, (path, facts))

module _ (old new : FileTable) (path key : List ℕ) (facts : Facts) (value : List ℕ × Facts) (are : AreFiled old) (free : has_path (files_in old) path ≡ false) (key_is : key ≡ path) (is : value ≡ (path, facts))
    (files : new.files ≡ insert_entry nat_cmp old.files old.next value)
    (files_found : (place : ℕ) → at_place place new.files ≡ (if is_eq (nat_cmp place old.next) then Some value else at_place place old.files))
    (places_found : (other : List ℕ) → at_text other new.places ≡ (if is_eq (slice_cmp nat_cmp other key) then Some old.next else at_text other old.places))
    (ids_found : (id : List ℕ) → at_text id new.of_id ≡ (if is_eq (slice_cmp nat_cmp id facts.id) then Some (told_places old.of_id facts.id ++ old.next ∷ []) else at_text id old.of_id))
    (next : new.next ≡ old.next + 1) (date : IsDate facts.date) where
  pub added : AreFiled new × (files_in new ≡ files_in old ++ (path, facts) ∷ [])
  added =
      let at : new.files ≡ insert_entry nat_cmp old.files old.next (path, facts) = subst (λ v. new.files ≡ insert_entry nat_cmp old.files old.next v) is files in
      let at_found : (place : ℕ) → at_place place new.files ≡ (if is_eq (nat_cmp place old.next) then Some (path, facts) else at_place place old.files) =
      λ place. subst (λ v. at_place place new.files ≡ (if is_eq (nat_cmp place old.next) then Some v else at_place place old.files)) is (files_found place) in
      let places : (other : List ℕ) → at_text other new.places ≡ (if is_eq (slice_cmp nat_cmp other path) then Some old.next else at_text other old.places) =
      λ other. subst (λ k. at_text other new.places ≡ (if is_eq (slice_cmp nat_cmp other k) then Some old.next else at_text other old.places)) key_is (places_found other) in
      (filed_added old new path facts are free at at_found places ids_found next date, files_added old new path facts are free at at_found places ids_found next date)

-- ---- what is at a path that has a file

module _ (old : FileTable) (are : AreFiled old) (path : List ℕ) (place : ℕ) (facts : Facts) (at_path : at_text path old.places ≡ Some place) (at : at_place place old.files ≡ Some (path, facts)) where
  the_file : (e : ℕ × (List ℕ × Facts)) → Contains old.files e → place ≡ e.0 → e.1 ≡ (path, facts)
  the_file e among same = same_Some e.1 (path, facts) (sym (found_at old.files are.sorted e among) ∙ ap (λ n. at_place n old.files) (sym same) ∙ at)

  the_place : (e : ℕ × (List ℕ × Facts)) → Contains old.files e → path ≡ e.1.0 → place ≡ e.0
  the_place e among same =
      same_Some place e.0 (sym at_path ∙ ap (λ p. at_text p old.places) same ∙ are.kept e.0 e.1.0 e.1.1 (found_at old.files are.sorted e among))

  -- the file of the place is the one at the path
  pub agree : (e : ℕ × (List ℕ × Facts)) → Contains old.files e → is_eq (nat_cmp place e.0) ≡ same_text path e.1.0
  agree e among =
      both_ways (is_eq (nat_cmp place e.0)) (same_text path e.1.0) (λ is. text_same path e.1.0 (sym (ap (λ x. x.0) (the_file e among (number_from place e.0 is)))))
      (λ is. same_number place e.0 (the_place e among (same_text_from path e.1.0 is)))

  -- ---- a move

  module _ (new : FileTable) (to : List ℕ) (free : has_path (files_in old) to ≡ false)
      (files : new.files ≡ insert_entry nat_cmp old.files place (to, facts))
      (files_found : (n : ℕ) → at_place n new.files ≡ (if is_eq (nat_cmp n place) then Some (to, facts) else at_place n old.files))
      (places_found : (other : List ℕ) → at_text other new.places ≡ (if is_eq (slice_cmp nat_cmp other to) then Some place else (if is_eq (slice_cmp nat_cmp other path) then None else at_text other old.places)))
      (of_id : new.of_id ≡ old.of_id) (next : new.next ≡ old.next) where
    in_place : new.files ≡ map (revalued place (to, facts)) old.files
    in_place = files ∙ inserted_at old.files place (to, facts) (path, facts) are.sorted (found_in old.files place (path, facts) at)

    not_free : (n : ℕ) → at_text to old.places ≡ Some n → ⊥
    not_free n is = true≢false (sym (path_of old are to n is) ∙ free)

    each_moved : (e : ℕ × (List ℕ × Facts)) → Contains old.files e → (revalued place (to, facts) e).1 ≡ (moved_path path to e.1.0, e.1.1)
    each_moved e among = elim (cases_number place e.0) [
      | inl same ↦
          let file : e.1 ≡ (path, facts) = the_file e among same in
          let path_is : to ≡ moved_path path to e.1.0 = sym (cond-true (same_text path e.1.0) to e.1.0 (text_same path e.1.0 (sym (ap (λ x. x.0) file)))) in
          let facts_is : facts ≡ e.1.1 = sym (ap (λ x. x.1) file) in cond-true (is_eq (nat_cmp place e.0)) (to, facts) e.1 (same_number place e.0 same) ∙ (λ i. (path_is i, facts_is i))
      | inr not ↦
          let path_is : e.1.0 ≡ moved_path path to e.1.0 = sym (cond-false (same_text path e.1.0) to e.1.0 (text_other path e.1.0 (λ same. not (the_place e among same)))) in
          cond-false (is_eq (nat_cmp place e.0)) (to, facts) e.1 (other_number place e.0 not) ∙ (λ i. (path_is i, e.1.1))
    ]

    moved_values : (es : List (ℕ × (List ℕ × Facts))) → ((e : ℕ × (List ℕ × Facts)) → Contains es e → (revalued place (to, facts) e).1 ≡ (moved_path path to e.1.0, e.1.1))
        → values_of (map (revalued place (to, facts)) es) ≡ with_moved (values_of es) path to
    moved_values [] each = refl
    moved_values (e ∷ es) each =
        let first : (revalued place (to, facts) e).1 ≡ (moved_path path to e.1.0, e.1.1) = each e (Contains_first e es) in
        let rest : values_of (map (revalued place (to, facts)) es) ≡ with_moved (values_of es) path to = moved_values es (λ x among. each x (Contains_there e es x among)) in (λ i. first i ∷ rest i)

    same_places : (id : List ℕ) (es : List (ℕ × (List ℕ × Facts))) → ((e : ℕ × (List ℕ × Facts)) → Contains es e → (revalued place (to, facts) e).1 ≡ (moved_path path to e.1.0, e.1.1))
        → places_of (map (revalued place (to, facts)) es) id ≡ places_of es id
    same_places id [] each = refl
    same_places id (e ∷ es) each =
        let facts_is : (revalued place (to, facts) e).1.1 ≡ e.1.1 = ap (λ x. x.1) (each e (Contains_first e es)) in
        let rest : places_of (map (revalued place (to, facts)) es) id ≡ places_of es id = same_places id es (λ x among. each x (Contains_there e es x among)) in
        map_cond (same_text id (revalued place (to, facts) e).1.1.id) (revalued place (to, facts) e) (filter (λ file. same_text id file.1.1.id) (map (revalued place (to, facts)) es))
        ∙ (λ i. cond (same_text id (facts_is i).id) (e.0 ∷ rest i) (rest i))
        ∙ sym (map_cond (same_text id e.1.1.id) e (filter (λ file. same_text id file.1.1.id) es))

    moved_below : (n : ℕ) (file : List ℕ × Facts) → at_place n new.files ≡ Some file → n < new.next
    moved_below n file is = elim (cases_number n place) [
      | inl same ↦ omega (arith, same, next, are.below place (path, facts) at)
      | inr not ↦ omega (arith, next, are.below n file (other (is_eq (nat_cmp n place)) (Some (to, facts)) (at_place n old.files) (Some file) (other_number n place not) (sym (files_found n) ∙ is)))
    ]

    moved_dated : (n : ℕ) (file : List ℕ × Facts) → at_place n new.files ≡ Some file → IsDate file.1.date
    moved_dated n file is = elim (cases_number n place) [
      | inl same ↦
          subst (λ (f : List ℕ × Facts). IsDate f.1.date)
          (same_Some (to, facts) file (chosen (is_eq (nat_cmp n place)) (Some (to, facts)) (at_place n old.files) (Some file) (same_number n place same) (sym (files_found n) ∙ is)))
          (are.dated place (path, facts) at)
      | inr not ↦ are.dated n file (other (is_eq (nat_cmp n place)) (Some (to, facts)) (at_place n old.files) (Some file) (other_number n place not) (sym (files_found n) ∙ is))
    ]

    moved_found : (p : List ℕ) (n : ℕ) → at_text p new.places ≡ Some n → (of : Facts) × (at_place n new.files ≡ Some (p, of))
    moved_found p n is = elim (cases_id p to) [
      | inl same ↦
          let n_is : place ≡ n = same_Some place n (chosen (is_eq (slice_cmp nat_cmp p to)) (Some place) _ (Some n) (same_id p to same) (sym (places_found p) ∙ is)) in (
            facts,
            files_found n ∙ cond-true (is_eq (nat_cmp n place)) (Some (to, facts)) (at_place n old.files) (same_number n place (sym n_is)) ∙ ap (λ q. Some (q, facts)) (sym same),
          )
      | inr not ↦
          let inner : (if is_eq (slice_cmp nat_cmp p path) then None else at_text p old.places) ≡ Some n = other (is_eq (slice_cmp nat_cmp p to)) (Some place) _ (Some n) (other_id p to not) (sym (places_found p) ∙ is) in
          elim (cases_id p path) [
            | inl same ↦ absurd (none-some n (chosen (is_eq (slice_cmp nat_cmp p path)) None (at_text p old.places) (Some n) (same_id p path same) inner))
            | inr apart ↦
                let there = are.found p n (other (is_eq (slice_cmp nat_cmp p path)) None (at_text p old.places) (Some n) (other_id p path apart) inner) in
                let n_not : n ≢ place = λ same. apart (ap (λ x. x.0) (same_Some (p, there.0) (path, facts) (sym there.1 ∙ ap (λ m. at_place m old.files) same ∙ at))) in
                (there.0, files_found n ∙ cond-false (is_eq (nat_cmp n place)) (Some (to, facts)) (at_place n old.files) (other_number n place n_not) ∙ there.1)
          ]
    ]

    moved_kept : (n : ℕ) (p : List ℕ) (of : Facts) → at_place n new.files ≡ Some (p, of) → at_text p new.places ≡ Some n
    moved_kept n p of is = elim (cases_number n place) [
      | inl same ↦
          let file : (to, facts) ≡ (p, of) = same_Some (to, facts) (p, of) (chosen (is_eq (nat_cmp n place)) (Some (to, facts)) (at_place n old.files) (Some (p, of)) (same_number n place same) (sym (files_found n) ∙ is)) in
          places_found p ∙ cond-true (is_eq (slice_cmp nat_cmp p to)) (Some place) _ (same_id p to (sym (ap (λ x. x.0) file))) ∙ ap Some (sym same)
      | inr not ↦
          let old_at : at_text p old.places ≡ Some n = are.kept n p of (other (is_eq (nat_cmp n place)) (Some (to, facts)) (at_place n old.files) (Some (p, of)) (other_number n place not) (sym (files_found n) ∙ is)) in
          places_found p ∙ cond-false (is_eq (slice_cmp nat_cmp p to)) (Some place) _ (other_id p to (λ same. not_free n (subst (λ q. at_text q old.places ≡ Some n) same old_at)))
          ∙ cond-false (is_eq (slice_cmp nat_cmp p path)) None (at_text p old.places) (other_id p path (λ same. not (same_Some n place (sym old_at ∙ ap (λ q. at_text q old.places) same ∙ at_path)))) ∙ old_at
    ]

    pub moved : AreFiled new × (files_in new ≡ with_moved (files_in old) path to)
    moved = (
      record {
        sorted = subst (λ es. IsStrictlySortedBy nat_cmp (keys_of es)) (sym files) (sorted_insert nat_cmp_total old.files place (to, facts) are.sorted);
        below = moved_below;
        dated = moved_dated;
        found = moved_found;
        kept = moved_kept;
        ids = λ id. ap (at_text id) of_id ∙ are.ids id ∙ ap told (sym (ap (λ es. places_of es id) in_place ∙ same_places id old.files each_moved));
      },
      ap values_of in_place ∙ moved_values old.files each_moved,
    )

-- ---- a removal

gap_of : {A : Type 0} (test : Bool) (x : A) (xs : List A) (ys : List A) → test ≡ true → ys ≡ xs → ys ≡ cond (not test) (x ∷ xs) xs
gap_of true x xs ys is same = same
gap_of false x xs ys is same = absurd (true≢false (sym is))

not_gap : {A : Type 0} (test : Bool) (x : A) (xs : List A) → test ≡ false → cond (not test) (x ∷ xs) xs ≡ x ∷ xs
not_gap true x xs is = absurd (true≢false is)
not_gap false x xs is = refl

other_place : (a b : ℕ) → a ≢ b → (a == b) ≡ false
other_place a b apart = false_from_ne_true (a == b) (λ is. apart (eqb-true a b is))

-- a place that is not there is not missed
not_there : (place : ℕ) (xs : List ℕ) → ((n : ℕ) → Contains xs n → n ≢ place) → without_place xs place ≡ xs
not_there place [] apart = refl
not_there place (n ∷ xs) apart =
    not_gap (n == place) n (without_place xs place) (other_place n place (apart n (Contains_first n xs))) ∙ ap (λ more. n ∷ more) (not_there place xs (λ m among. apart m (Contains_there n xs m among)))

among_by : (e : ℕ × (List ℕ × Facts)) (es : List (ℕ × (List ℕ × Facts))) (n : ℕ) (places : List ℕ) → (Contains places n → (x : ℕ × (List ℕ × Facts)) × Contains es x × (x.0 ≡ n)) → (test : Bool) → Contains (cond test (e.0 ∷ places) places) n
    → (x : ℕ × (List ℕ × Facts)) × Contains (e ∷ es) x × (x.0 ≡ n)
among_by e es n places more true among = elim (Contains_cases e.0 places n among) [ inl here ↦ (e, Contains_first e es, here) | inr there ↦ let one = more there in (one.0, Contains_there e es one.0 one.1, one.2) ]
among_by e es n places more false among = let one = more among in (one.0, Contains_there e es one.0 one.1, one.2)

among_places : (es : List (ℕ × (List ℕ × Facts))) (id : List ℕ) (n : ℕ) → Contains (places_of es id) n → (e : ℕ × (List ℕ × Facts)) × Contains es e × (e.0 ≡ n)
among_places [] id n among = absurd (Contains_none n among)
among_places (e ∷ es) id n among =
    among_by e es n (places_of es id) (among_places es id n) (same_text id e.1.1.id) (subst (λ xs. Contains xs n) (map_cond (same_text id e.1.1.id) e (filter (λ file. same_text id file.1.1.id) es)) among)

-- places that come after the first of all
after_place : (place : ℕ) (e : ℕ × (List ℕ × Facts)) (es : List (ℕ × (List ℕ × Facts))) (id : List ℕ) → IsStrictlySortedBy nat_cmp (keys_of (e ∷ es)) → place ≡ e.0 → without_place (places_of es id) place ≡ places_of es id
after_place place e es id sorted same =
    not_there place (places_of es id) (λ n among is. let one = among_places es id n among in not_first e es sorted one.0 one.1 (sym same ∙ sym is ∙ sym one.2))

module _ (place : ℕ) (id : List ℕ) where
  without_first : (test : Bool) (e : ℕ × (List ℕ × Facts)) (es : List (ℕ × (List ℕ × Facts))) → place ≡ e.0 → without_place (places_of es id) place ≡ places_of es id
      → places_of es id ≡ without_place (cond test (e.0 ∷ places_of es id) (places_of es id)) place
  without_first true e es same rest = gap_of (e.0 == place) e.0 (without_place (places_of es id) place) (places_of es id) (eq-eqb e.0 place (sym same)) (sym rest)
  without_first false e es same rest = sym rest

  without_later : (test : Bool) (n : ℕ) (xs ys : List ℕ) → n ≢ place → xs ≡ without_place ys place → cond test (n ∷ xs) xs ≡ without_place (cond test (n ∷ ys) ys) place
  without_later true n xs ys apart rest = ap (λ more. n ∷ more) rest ∙ sym (not_gap (n == place) n (without_place ys place) (other_place n place apart))
  without_later false n xs ys apart rest = rest

  removed_by : (e : ℕ × (List ℕ × Facts)) (es : List (ℕ × (List ℕ × Facts))) (test : Bool) → is_eq (nat_cmp place e.0) ≡ test → IsStrictlySortedBy nat_cmp (keys_of (e ∷ es))
      → places_of (remove_entry (is_at (nat_cmp place)) es) id ≡ without_place (places_of es id) place
      → places_of (cond test es (e ∷ remove_entry (is_at (nat_cmp place)) es)) id ≡ without_place (places_of (e ∷ es) id) place
  removed_by e es true is sorted rest =
      let same : place ≡ e.0 = number_from place e.0 is in
      without_first (same_text id e.1.1.id) e es same (after_place place e es id sorted same)
      ∙ ap (λ xs. without_place xs place) (sym (map_cond (same_text id e.1.1.id) e (filter (λ file. same_text id file.1.1.id) es)))
  removed_by e es false is sorted rest =
      map_cond (same_text id e.1.1.id) e (filter (λ file. same_text id file.1.1.id) (remove_entry (is_at (nat_cmp place)) es))
      ∙ without_later (same_text id e.1.1.id) e.0 (places_of (remove_entry (is_at (nat_cmp place)) es) id) (places_of es id) (λ same. true≢false (sym (same_number place e.0 (sym same)) ∙ is)) rest
      ∙ ap (λ xs. without_place xs place) (sym (map_cond (same_text id e.1.1.id) e (filter (λ file. same_text id file.1.1.id) es)))

  places_removed : (es : List (ℕ × (List ℕ × Facts))) → IsStrictlySortedBy nat_cmp (keys_of es) → places_of (remove_entry (is_at (nat_cmp place)) es) id ≡ without_place (places_of es id) place
  places_removed [] sorted = refl
  places_removed (e ∷ es) sorted = removed_by e es (is_eq (nat_cmp place e.0)) refl sorted (places_removed es (sorted_rest e es sorted))

  kept_by : (e : ℕ × (List ℕ × Facts)) (es : List (ℕ × (List ℕ × Facts))) (test : Bool) → is_eq (nat_cmp place e.0) ≡ test → (place ≡ e.0 → same_text id e.1.1.id ≡ false)
      → places_of (remove_entry (is_at (nat_cmp place)) es) id ≡ places_of es id → places_of (cond test es (e ∷ remove_entry (is_at (nat_cmp place)) es)) id ≡ places_of (e ∷ es) id
  kept_by e es true is apart rest =
      sym
      (map_cond (same_text id e.1.1.id) e (filter (λ file. same_text id file.1.1.id) es)
      ∙ cond-false (same_text id e.1.1.id) (e.0 ∷ places_of es id) (places_of es id) (apart (number_from place e.0 is)))
  kept_by e es false is apart rest =
      map_cond (same_text id e.1.1.id) e (filter (λ file. same_text id file.1.1.id) (remove_entry (is_at (nat_cmp place)) es))
      ∙ (λ i. cond (same_text id e.1.1.id) (e.0 ∷ rest i) (rest i))
      ∙ sym (map_cond (same_text id e.1.1.id) e (filter (λ file. same_text id file.1.1.id) es))

  -- another message keeps its places
  places_kept : (es : List (ℕ × (List ℕ × Facts))) → ((e : ℕ × (List ℕ × Facts)) → Contains es e → place ≡ e.0 → same_text id e.1.1.id ≡ false) → places_of (remove_entry (is_at (nat_cmp place)) es) id ≡ places_of es id
  places_kept [] apart = refl
  places_kept (e ∷ es) apart = kept_by e es (is_eq (nat_cmp place e.0)) refl (apart e (Contains_first e es)) (places_kept es (λ x among. apart x (Contains_there e es x among)))

module _ (place : ℕ) (path : List ℕ) where
  -- the tests of the place and of the path agree along these files
  abbrev Agree : List (ℕ × (List ℕ × Facts)) → Type 0
  Agree es = (x : ℕ × (List ℕ × Facts)) → Contains es x → is_eq (nat_cmp place x.0) ≡ same_text path x.1.0

  agree_rest : (e : ℕ × (List ℕ × Facts)) (es : List (ℕ × (List ℕ × Facts))) → Agree (e ∷ es) → Agree es
  agree_rest e es agrees = λ x among. agrees x (Contains_there e es x among)

  none_after : (e : ℕ × (List ℕ × Facts)) (es : List (ℕ × (List ℕ × Facts))) → IsStrictlySortedBy nat_cmp (keys_of (e ∷ es)) → Agree (e ∷ es) → place ≡ e.0 → (x : ℕ × (List ℕ × Facts)) → Contains es x → same_text path x.1.0 ≡ false
  none_after e es sorted agrees same x among = sym (agree_rest e es agrees x among) ∙ other_number place x.0 (λ is. not_first e es sorted x among (sym same ∙ is))

  all_stay : (es : List (ℕ × (List ℕ × Facts))) → ((x : ℕ × (List ℕ × Facts)) → Contains es x → same_text path x.1.0 ≡ false) → without_path (values_of es) path ≡ values_of es
  all_stay [] none = refl
  all_stay (e ∷ es) none =
      not_gap (same_text path e.1.0) e.1 (without_path (values_of es) path) (none e (Contains_first e es)) ∙ ap (λ more. e.1 ∷ more) (all_stay es (λ x among. none x (Contains_there e es x among)))

  none_lie : (es : List (ℕ × (List ℕ × Facts))) → ((x : ℕ × (List ℕ × Facts)) → Contains es x → same_text path x.1.0 ≡ false) → lying_in (values_of es) path ≡ []
  none_lie [] none = refl
  none_lie (e ∷ es) none = cond-false (same_text path e.1.0) (e.1 ∷ lying_in (values_of es) path) (lying_in (values_of es) path) (none e (Contains_first e es)) ∙ none_lie es (λ x among. none x (Contains_there e es x among))

  values_by : (e : ℕ × (List ℕ × Facts)) (es : List (ℕ × (List ℕ × Facts))) (test : Bool) → is_eq (nat_cmp place e.0) ≡ test → IsStrictlySortedBy nat_cmp (keys_of (e ∷ es)) → Agree (e ∷ es)
      → values_of (remove_entry (is_at (nat_cmp place)) es) ≡ without_path (values_of es) path → values_of (cond test es (e ∷ remove_entry (is_at (nat_cmp place)) es)) ≡ without_path (values_of (e ∷ es)) path
  values_by e es true is sorted agrees rest =
      gap_of (same_text path e.1.0) e.1 (without_path (values_of es) path) (values_of es) (sym (agrees e (Contains_first e es)) ∙ is) (sym (all_stay es (none_after e es sorted agrees (number_from place e.0 is))))
  values_by e es false is sorted agrees rest =
      ap (λ more. e.1 ∷ more) rest ∙ sym (not_gap (same_text path e.1.0) e.1 (without_path (values_of es) path) (sym (agrees e (Contains_first e es)) ∙ is))

  -- what is left without the file at the place
  values_removed : (es : List (ℕ × (List ℕ × Facts))) → IsStrictlySortedBy nat_cmp (keys_of es) → Agree es → values_of (remove_entry (is_at (nat_cmp place)) es) ≡ without_path (values_of es) path
  values_removed [] sorted agrees = refl
  values_removed (e ∷ es) sorted agrees = values_by e es (is_eq (nat_cmp place e.0)) refl sorted agrees (values_removed es (sorted_rest e es sorted) (agree_rest e es agrees))

  -- the one file that is at the path
  one_lies : (es : List (ℕ × (List ℕ × Facts))) → IsStrictlySortedBy nat_cmp (keys_of es) → Agree es → (file : List ℕ × Facts) → Contains es (place, file) → lying_in (values_of es) path ≡ file ∷ []
  one_lies [] sorted agrees file among = absurd (Contains_none (place, file) among)
  one_lies (e ∷ es) sorted agrees file among = elim (Contains_cases e es (place, file) among) [
    | inl here ↦
        let same : place ≡ e.0 = sym (ap (λ x. x.0) here) in
        cond-true (same_text path e.1.0) (e.1 ∷ lying_in (values_of es) path) (lying_in (values_of es) path) (sym (agrees e (Contains_first e es)) ∙ same_number place e.0 same)
        ∙ (let first : e.1 ≡ file = ap (λ x. x.1) here in let rest : lying_in (values_of es) path ≡ [] = none_lie es (none_after e es sorted agrees same) in (λ i. first i ∷ rest i))
    | inr there ↦
        cond-false (same_text path e.1.0) (e.1 ∷ lying_in (values_of es) path) (lying_in (values_of es) path)
        (sym (agrees e (Contains_first e es)) ∙ other_number place e.0 (λ same. not_first e es sorted (place, file) there (sym same)))
        ∙ one_lies es (sorted_rest e es sorted) (agree_rest e es agrees) file there
  ]

module _ (old : FileTable) (are : AreFiled old) (path : List ℕ) (place : ℕ) (facts : Facts) (at_path : at_text path old.places ≡ Some place) (at : at_place place old.files ≡ Some (path, facts)) (new : FileTable)
    (files : new.files ≡ remove_entry (is_at (nat_cmp place)) old.files)
    (files_found : (n : ℕ) → at_place n new.files ≡ (if is_eq (nat_cmp n place) then None else at_place n old.files))
    (places_found : (other : List ℕ) → at_text other new.places ≡ (if is_eq (slice_cmp nat_cmp other path) then None else at_text other old.places))
    (ids_found : (id : List ℕ) → at_text id new.of_id ≡ (if is_eq (slice_cmp nat_cmp id facts.id) then told (without_place (told_places old.of_id facts.id) place) else at_text id old.of_id))
    (next : new.next ≡ old.next) where
  still_at : (n : ℕ) (file : List ℕ × Facts) → at_place n new.files ≡ Some file → (n ≢ place) × (at_place n old.files ≡ Some file)
  still_at n file is = elim (cases_number n place) [
    | inl same ↦ absurd (none-some file (chosen (is_eq (nat_cmp n place)) None (at_place n old.files) (Some file) (same_number n place same) (sym (files_found n) ∙ is)))
    | inr apart ↦ (apart, other (is_eq (nat_cmp n place)) None (at_place n old.files) (Some file) (other_number n place apart) (sym (files_found n) ∙ is))
  ]

  gone_found : (p : List ℕ) (n : ℕ) → at_text p new.places ≡ Some n → (of : Facts) × (at_place n new.files ≡ Some (p, of))
  gone_found p n is = elim (cases_id p path) [
    | inl same ↦ absurd (none-some n (chosen (is_eq (slice_cmp nat_cmp p path)) None (at_text p old.places) (Some n) (same_id p path same) (sym (places_found p) ∙ is)))
    | inr apart ↦
        let there = are.found p n (other (is_eq (slice_cmp nat_cmp p path)) None (at_text p old.places) (Some n) (other_id p path apart) (sym (places_found p) ∙ is)) in
        let n_not : n ≢ place = λ same. apart (ap (λ x. x.0) (same_Some (p, there.0) (path, facts) (sym there.1 ∙ ap (λ m. at_place m old.files) same ∙ at))) in
        (there.0, files_found n ∙ cond-false (is_eq (nat_cmp n place)) None (at_place n old.files) (other_number n place n_not) ∙ there.1)
  ]

  gone_kept : (n : ℕ) (p : List ℕ) (of : Facts) → at_place n new.files ≡ Some (p, of) → at_text p new.places ≡ Some n
  gone_kept n p of is =
      let still = still_at n (p, of) is in
      let old_at : at_text p old.places ≡ Some n = are.kept n p of still.1 in
      places_found p ∙ cond-false (is_eq (slice_cmp nat_cmp p path)) None (at_text p old.places) (other_id p path (λ same. still.0 (same_Some n place (sym old_at ∙ ap (λ q. at_text q old.places) same ∙ at_path)))) ∙ old_at

  removed_ids : (id : List ℕ) → at_text id new.of_id ≡ told (places_of new.files id)
  removed_ids id = elim (cases_id id facts.id) [
    | inl same ↦
        ids_found id ∙ cond-true (is_eq (slice_cmp nat_cmp id facts.id)) (told (without_place (told_places old.of_id facts.id) place)) (at_text id old.of_id) (same_id id facts.id same)
        ∙ ap (λ xs. told (without_place xs place)) (told_is old are facts.id ∙ ap (places_of old.files) (sym same))
        ∙ ap told (sym (ap (λ es. places_of es id) files ∙ places_removed place id old.files are.sorted))
    | inr apart ↦
        ids_found id ∙ cond-false (is_eq (slice_cmp nat_cmp id facts.id)) (told (without_place (told_places old.of_id facts.id) place)) (at_text id old.of_id) (other_id id facts.id apart)
        ∙ are.ids id
        ∙ ap told
        (sym
        (ap (λ es. places_of es id) files
        ∙ places_kept place id old.files (λ e among is. text_other id e.1.1.id (λ same. apart (same ∙ ap (λ file. file.1.id) (the_file old are path place facts at_path at e among is))))))
  ]

  pub removed : AreFiled new × (files_in new ≡ without_path (files_in old) path) × (lying_in (files_in old) path ≡ (path, facts) ∷ [])
  removed = (
    record {
      sorted = subst (λ es. IsStrictlySortedBy nat_cmp (keys_of es)) (sym files) (sorted_remove nat_cmp (is_at (nat_cmp place)) old.files are.sorted);
      below = λ n file is. omega (arith, next, are.below n file (still_at n file is).1);
      dated = λ n file is. are.dated n file (still_at n file is).1;
      found = gone_found;
      kept = gone_kept;
      ids = removed_ids;
    },
    ap values_of files ∙ values_removed place path old.files are.sorted (agree old are path place facts at_path at),
    one_lies place path old.files are.sorted (agree old are path place facts at_path at) (path, facts) (found_in old.files place (path, facts) at),
  )

-- ---- the same, with copies

pub move_filed : (old new : FileTable) → AreFiled old → (path : List ℕ) (place : ℕ) (facts : Facts) → at_text path old.places ≡ Some place → at_place place old.files ≡ Some (path, facts) → (to key : List ℕ) (value : List ℕ × Facts)
    → has_path (files_in old) to ≡ false → key ≡ to → value ≡ (to, facts) → new.files ≡ insert_entry nat_cmp old.files place value
    → ((n : ℕ) → at_place n new.files ≡ (if is_eq (nat_cmp n place) then Some value else at_place n old.files))
    → ((other : List ℕ) → at_text other new.places ≡ (if is_eq (slice_cmp nat_cmp other key) then Some place else (if is_eq (slice_cmp nat_cmp other path) then None else at_text other old.places)))
    → new.of_id ≡ old.of_id → new.next ≡ old.next → AreFiled new × (files_in new ≡ with_moved (files_in old) path to)
move_filed old new are path place facts at_path at to key value free key_is is files files_found places_found of_id next =
    moved old are path place facts at_path at new to free (subst (λ v. new.files ≡ insert_entry nat_cmp old.files place v) is files)
    (λ n. subst (λ v. at_place n new.files ≡ (if is_eq (nat_cmp n place) then Some v else at_place n old.files)) is (files_found n))
    (λ other. subst (λ k. at_text other new.places ≡ (if is_eq (slice_cmp nat_cmp other k) then Some place else (if is_eq (slice_cmp nat_cmp other path) then None else at_text other old.places))) key_is (places_found other))
    of_id next

pub remove_filed : (old new : FileTable) → AreFiled old → (path : List ℕ) (place : ℕ) (facts copied of : Facts) → at_text path old.places ≡ Some place → at_place place old.files ≡ Some (path, facts) → copied ≡ facts → of ≡ copied
    → new.files ≡ remove_entry (is_at (nat_cmp place)) old.files → ((n : ℕ) → at_place n new.files ≡ (if is_eq (nat_cmp n place) then None else at_place n old.files))
    → ((other : List ℕ) → at_text other new.places ≡ (if is_eq (slice_cmp nat_cmp other path) then None else at_text other old.places))
    → ((id : List ℕ) → at_text id new.of_id ≡ (if is_eq (slice_cmp nat_cmp id of.id) then told (without_place (told_places old.of_id of.id) place) else at_text id old.of_id)) → new.next ≡ old.next
    → AreFiled new × (files_in new ≡ without_path (files_in old) path) × (lying_in (files_in old) path ≡ (path, copied) ∷ [])
remove_filed old new are path place facts copied of at_path at copied_is of_is files files_found places_found ids_found next =
    let all = removed old are path place facts at_path at new files files_found places_found
    (λ id. subst (λ f. at_text id new.of_id ≡ (if is_eq (slice_cmp nat_cmp id f.id) then told (without_place (told_places old.of_id f.id) place) else at_text id old.of_id)) (of_is ∙ copied_is) (ids_found id))
    next in
    (all.0, all.1, all.2 ∙ ap (λ f. (path, f) ∷ []) (sym copied_is))
