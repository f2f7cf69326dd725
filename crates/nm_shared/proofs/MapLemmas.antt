-- What a change of one run does to a map. For the proofs of `cut_run`, `join_run`, `Part::get_by` and others.
use Rattle.std.proofs.Common.{◌≡◌, ◌≢◌, refl, sym, ap, subst, ◌∙◌, ℕ, ◌+◌, ◌-◌, ◌<◌, ◌≤◌, suc, zero, Bool, true, false, List, [], ◌∷◌, ◌++◌, length, take, drop, get_or, set, arith, append_assoc, length-append, length-drop, add-one, lit<, inl, inr, ◌⊎◌, not}
use Rattle.std.proofs.lemmas.List.Edits.{length-insert, length-remove, get_or-insert_below, get_or-insert_at, get_or-insert_above, get_or-remove_below, get_or-remove_above}
use Rattle.std.proofs.Math.ListN.{length-set}
use Rattle.std.proofs.Math.Seq.{take-suc}
use Rattle.std.specs.Prelude.{Some, None}
use Rattle.std.specs.declared.cmp.Ordering.{Ordering}
use Rattle.std.specs.declared.cmp.Ordering.TheVariants.{Equal}
use Rattle.std.specs.BTreeMap.{insert_entry, is_at}
use Rattle.std.specs.BTreeMap.Range.{entries_from}
use Rattle.std.specs.Cmp.{IsTotalOrder}
use Rattle.std.specs.List.{insert, remove, slice_get}
use Rattle.std.specs.List.Sorted.{IsStrictlySortedBy}
use Rattle.std.specs.Map.{keys_of, lookup, remove_entry}
use Rattle.std.proofs.lemmas.Bool.{cases_lt}
use Rattle.std.proofs.lemmas.Grind.{common_steps}
use Rattle.std.proofs.lemmas.Option.{slice_get_within, get_or_from_slice_get}
use Rattle.std.proofs.lemmas.List.{take-append-drop, drop_all, get_or_default, nil_from_length, length-take, length-take-le, take_all, append-nil, take-set-le, drop-set}
use Rattle.std.proofs.lemmas.List.Concat.{flat_map-append}
use Rattle.nm_shared.specs.Map.{IsMap}
use Rattle.nm_shared.specs.Runs.{flat, run_at, HaveItems}
use Rattle.nm_shared.specs.Spot.{AllBelow, AllAbove, BeginsAt, Follows, IsSpotOf}
use Rattle.nm_shared.specs.declared.search.Spot.{Spot}
use Rattle.nm_shared.proofs.EntryLemmas.{insert_entry-below, insert_entry-above, insert_entry-equal, remove_entry-below, remove_entry-above, remove_entry-equal, lookup-below, lookup-above, lookup-equal, entries_from-below, entries_from-follows, sorted_insert, sorted_none}
use Rattle.nm_shared.specs.EntryLaws.{sorted_remove}
use Rattle.nm_shared.proofs.SpotLemmas.{Cut, cut, flat_cut, flat_drop, flat_set}

module _ {X : Type 0} where
  -- four parts of a list, however they are grouped
  regroup : (a b c d : List X) → a ++ ((b ++ c) ++ d) ≡ a ++ (b ++ (c ++ d))
  regroup a b c d = ap (λ rest. a ++ rest) (append_assoc b c d)

  -- runs cut inside one of them
  pub flat_at : (runs : List (List X)) (run at : ℕ) → run < length runs → flat runs ≡ flat (take run runs) ++ (take at (run_at runs run) ++ (drop at (run_at runs run) ++ flat (drop (run + 1) runs)))
  flat_at runs run at lt =
      flat_cut runs run lt
      ∙ ap (λ items. flat (take run runs) ++ (items ++ flat (drop (run + 1) runs))) (sym (take-append-drop at (run_at runs run)))
      ∙ regroup (flat (take run runs)) (take at (run_at runs run)) (drop at (run_at runs run)) (flat (drop (run + 1) runs))

  -- the same, with the run changed from that place on
  pub flat_changed : (runs : List (List X)) (run at : ℕ) (back : List X) → run < length runs
      → flat (set runs run (take at (run_at runs run) ++ back)) ≡ flat (take run runs) ++ (take at (run_at runs run) ++ (back ++ flat (drop (run + 1) runs)))
  flat_changed runs run at back lt = flat_set runs run (take at (run_at runs run) ++ back) lt ∙ regroup (flat (take run runs)) (take at (run_at runs run)) back (flat (drop (run + 1) runs))

  pub HaveItems_set : (runs : List (List X)) (run : ℕ) (items : List X) → HaveItems runs → 0 < length items → HaveItems (set runs run items)
  HaveItems_set runs run items filled some = λ place lt. grind (arith, common_steps, filled place)

  pub HaveItems_remove : (runs : List (List X)) (run : ℕ) → HaveItems runs → run < length runs → HaveItems (remove runs run)
  HaveItems_remove runs run filled lt = λ place within.
      let count : length (remove runs run) + 1 ≡ length runs = length-remove runs run lt in
      elim (cases_lt place run) [
        | inl below ↦ subst (λ items. 0 < length items) (sym (get_or-remove_below runs run [] place below lt)) (filled place (omega arith))
        | inr above ↦ subst (λ items. 0 < length items) (sym (get_or-remove_above runs run [] place above lt)) (filled (place + 1) (omega arith))
      ]

  insert_at : (runs : List (List X)) (run : ℕ) (items : List X) → HaveItems runs → run ≤ length runs → 0 < length items → (place : ℕ) → place < length (insert runs run items)
      → (place < run) ⊎ (run ≤ place) → (run < place) ⊎ (place ≤ run) → 0 < length (run_at (insert runs run items) place)
  insert_at runs run items filled le some place within (inl below) other = subst (λ all. 0 < length all) (sym (get_or-insert_below runs run items [] place below le)) (filled place (omega arith))
  insert_at runs run items filled le some place within (inr from) (inl above) =
      let count : length (insert runs run items) ≡ length runs + 1 = length-insert runs run items le in
      let back : place - 1 + 1 ≡ place = omega arith in
      subst (λ p. 0 < length (run_at (insert runs run items) p)) back
      (subst (λ all. 0 < length all) (sym (get_or-insert_above runs run items [] (place - 1) (omega arith) le)) (filled (place - 1) (omega arith)))
  insert_at runs run items filled le some place within (inr from) (inr upto) =
      let same : run ≡ place = omega arith in
      subst (λ p. 0 < length (run_at (insert runs run items) p)) same (subst (λ all. 0 < length all) (sym (get_or-insert_at runs run items [] le)) some)

  pub HaveItems_insert : (runs : List (List X)) (run : ℕ) (items : List X) → HaveItems runs → run ≤ length runs → 0 < length items → HaveItems (insert runs run items)
  HaveItems_insert runs run items filled le some = λ place within. insert_at runs run items filled le some place within (cases_lt place run) (cases_lt run place)

  set_is : (xs : List X) (place : ℕ) (x : X) → place < length xs → set xs place x ≡ take place xs ++ (x ∷ drop (place + 1) xs)
  set_is xs place x lt = sym (take-append-drop place (set xs place x)) ∙ ap (λ all. all ++ drop place (set xs place x)) (take-set-le place xs place x (omega arith)) ∙ ap (λ all. take place xs ++ all) (drop-set xs place x lt)

module _ {K V : Type 0} (cmp : K → K → Ordering) (key : K) (runs : List (List (K × V))) (spot : Spot) (is : IsSpotOf cmp key runs spot) (lt : spot.run < length runs) where
  abbrev before : List (K × V)
  before = flat (take spot.run runs)

  abbrev items : List (K × V)
  items = run_at runs spot.run

  abbrev after : List (K × V)
  after = flat (drop (spot.run + 1) runs)

  -- what passes over keys below passes to the spot
  to_spot : (f : List (K × V) → List (K × V)) → ((xs ys : List (K × V)) → AllBelow cmp key xs → f (xs ++ ys) ≡ xs ++ f ys) → f (flat runs) ≡ before ++ (take spot.at items ++ f (drop spot.at items ++ after))
  to_spot f passes =
      ap f (flat_at runs spot.run spot.at lt)
      ∙ passes before (take spot.at items ++ (drop spot.at items ++ after)) is.before_run
      ∙ ap (λ rest. before ++ rest) (passes (take spot.at items) (drop spot.at items ++ after) is.before)

  changed : (f : List (K × V) → List (K × V)) → ((xs ys : List (K × V)) → AllBelow cmp key xs → f (xs ++ ys) ≡ xs ++ f ys) → (back : List (K × V)) → f (drop spot.at items ++ after) ≡ back ++ after
      → flat (set runs spot.run (take spot.at items ++ back)) ≡ f (flat runs)
  changed f passes back there = flat_changed runs spot.run spot.at back lt ∙ sym (to_spot f passes ∙ ap (λ rest. before ++ (take spot.at items ++ rest)) there)

  follows_above : spot.found ≡ false → AllAbove cmp key (drop spot.at items ++ after)
  follows_above missing = subst (λ found. Follows cmp key found (drop spot.at items ++ after)) missing is.after

  follows_equal : spot.found ≡ true → (c : Cut items spot.at) → cmp key c.item.0 ≡ Equal
  follows_equal hit c = (subst (λ all. BeginsAt cmp key (all ++ after)) c.from (subst (λ found. Follows cmp key found (drop spot.at items ++ after)) hit is.after)).0

  pub insert_missing : (value : V) → spot.found ≡ false → flat (set runs spot.run (insert items spot.at (key, value))) ≡ insert_entry cmp (flat runs) key value
  insert_missing value missing =
      changed (λ entries. insert_entry cmp entries key value) (λ xs ys below. insert_entry-below cmp key xs ys value below) ((key, value) ∷ drop spot.at items)
      (insert_entry-above cmp key (drop spot.at items ++ after) value (follows_above missing))

  pub insert_found : (value : V) → spot.found ≡ true → (entry : K × V) → flat (set runs spot.run (set items spot.at ((get_or items spot.at entry).0, value))) ≡ insert_entry cmp (flat runs) key value
  insert_found value hit entry =
      let within : spot.at < length items = is.found_within hit in
      let c : Cut items spot.at = cut items spot.at within in
      let new : set items spot.at ((get_or items spot.at entry).0, value) ≡ take spot.at items ++ ((c.item.0, value) ∷ drop (spot.at + 1) items) =
      set_is items spot.at ((get_or items spot.at entry).0, value) within ∙ ap (λ e. take spot.at items ++ ((e.0, value) ∷ drop (spot.at + 1) items)) (c.is entry) in
      ap (λ all. flat (set runs spot.run all)) new
      ∙ changed (λ entries. insert_entry cmp entries key value) (λ xs ys below. insert_entry-below cmp key xs ys value below) ((c.item.0, value) ∷ drop (spot.at + 1) items)
      (ap (λ all. insert_entry cmp (all ++ after) key value) c.from ∙ insert_entry-equal cmp key c.item (drop (spot.at + 1) items ++ after) value (follows_equal hit c))

  pub remove_found : spot.found ≡ true → flat (set runs spot.run (remove items spot.at)) ≡ remove_entry (is_at (cmp key)) (flat runs)
  remove_found hit =
      let c : Cut items spot.at = cut items spot.at (is.found_within hit) in
      ap (λ n. flat (set runs spot.run (take spot.at items ++ drop n items))) (sym (add-one spot.at))
      ∙ changed (remove_entry (is_at (cmp key))) (remove_entry-below cmp key) (drop (spot.at + 1) items)
      (ap (λ all. remove_entry (is_at (cmp key)) (all ++ after)) c.from ∙ remove_entry-equal cmp key c.item (drop (spot.at + 1) items ++ after) (follows_equal hit c))

  pub remove_missing : spot.found ≡ false → remove_entry (is_at (cmp key)) (flat runs) ≡ flat runs
  remove_missing missing =
      to_spot (remove_entry (is_at (cmp key))) (remove_entry-below cmp key)
      ∙ ap (λ rest. before ++ (take spot.at items ++ rest)) (remove_entry-above cmp key (drop spot.at items ++ after) (follows_above missing))
      ∙ sym (flat_at runs spot.run spot.at lt)

  -- a run of one item goes whole
  pub remove_run : spot.found ≡ true → length items ≡ 1 → flat (remove runs spot.run) ≡ remove_entry (is_at (cmp key)) (flat runs)
  remove_run hit one =
      let c : Cut items spot.at = cut items spot.at (is.found_within hit) in
      let none_before : take spot.at items ≡ [] = nil_from_length (take spot.at items) (omega (arith, length-take {A = K × V}, is.found_within hit)) in
      let none_after : drop (spot.at + 1) items ≡ [] = drop_all (spot.at + 1) items (omega arith) in
      let whole : remove_entry (is_at (cmp key)) (drop spot.at items ++ after) ≡ after =
      ap (λ all. remove_entry (is_at (cmp key)) (all ++ after)) c.from ∙ remove_entry-equal cmp key c.item (drop (spot.at + 1) items ++ after) (follows_equal hit c) ∙ ap (λ all. all ++ after) none_after in
      ap (λ n. flat (take spot.run runs ++ drop n runs)) (sym (add-one spot.run))
      ∙ flat_map-append (λ run. run) (take spot.run runs) (drop (spot.run + 1) runs)
      ∙ sym (to_spot (remove_entry (is_at (cmp key))) (remove_entry-below cmp key) ∙ ap (λ rest. before ++ (take spot.at items ++ rest)) whole ∙ ap (λ all. before ++ (all ++ after)) none_before)

  pub lookup_found : spot.found ≡ true → (entry : K × V) → lookup (is_at (cmp key)) (flat runs) ≡ Some (get_or items spot.at entry).1
  lookup_found hit entry =
      let c : Cut items spot.at = cut items spot.at (is.found_within hit) in
      ap (lookup (is_at (cmp key))) (flat_at runs spot.run spot.at lt)
      ∙ lookup-below cmp key before (take spot.at items ++ (drop spot.at items ++ after)) is.before_run
      ∙ lookup-below cmp key (take spot.at items) (drop spot.at items ++ after) is.before
      ∙ ap (λ all. lookup (is_at (cmp key)) (all ++ after)) c.from
      ∙ lookup-equal cmp key c.item (drop (spot.at + 1) items ++ after) (follows_equal hit c)
      ∙ ap (λ e. Some e.1) (sym (c.is entry))

  lookup_missing_in : spot.found ≡ false → lookup (is_at (cmp key)) (flat runs) ≡ None
  lookup_missing_in missing =
      ap (lookup (is_at (cmp key))) (flat_at runs spot.run spot.at lt)
      ∙ lookup-below cmp key before (take spot.at items ++ (drop spot.at items ++ after)) is.before_run
      ∙ lookup-below cmp key (take spot.at items) (drop spot.at items ++ after) is.before
      ∙ lookup-above cmp key (drop spot.at items ++ after) (follows_above missing)

  pub entries_from_spot : drop spot.at items ++ after ≡ entries_from (cmp key) (flat runs)
  entries_from_spot = sym (
      ap (entries_from (cmp key)) (flat_at runs spot.run spot.at lt)
      ∙ entries_from-below cmp key before (take spot.at items ++ (drop spot.at items ++ after)) is.before_run
      ∙ entries_from-below cmp key (take spot.at items) (drop spot.at items ++ after) is.before
      ∙ entries_from-follows cmp key spot.found (drop spot.at items ++ after) is.after)

module _ {K V : Type 0} (cmp : K → K → Ordering) (key : K) where
  pub lookup_missing : (runs : List (List (K × V))) (spot : Spot) → IsSpotOf cmp key runs spot → spot.found ≡ false → lookup (is_at (cmp key)) (flat runs) ≡ None
  lookup_missing [] spot is missing = refl
  lookup_missing (run ∷ runs) spot is missing = lookup_missing_in cmp key (run ∷ runs) spot is (is.run_within (omega arith)) missing

  pub remove_missing_any : (runs : List (List (K × V))) (spot : Spot) → IsSpotOf cmp key runs spot → spot.found ≡ false → remove_entry (is_at (cmp key)) (flat runs) ≡ flat runs
  remove_missing_any [] spot is missing = refl
  remove_missing_any (run ∷ runs) spot is missing = remove_missing cmp key (run ∷ runs) spot is (is.run_within (omega arith)) missing

-- ---- what holds of the runs of a map stays

HaveItems_one : {X : Type 0} (item : X) → HaveItems ((item ∷ []) ∷ [])
HaveItems_one item zero within = lit< tt
HaveItems_one item (suc place) within = absurd (omega arith)

module _ {K V : Type 0} {cmp : K → K → Ordering} (order : IsTotalOrder cmp) (key : K) (runs : List (List (K × V))) (len : ℕ) (map : IsMap cmp runs len) where
  pub map_of_insert : (value : V) (new : List (List (K × V))) (count : ℕ) → flat new ≡ insert_entry cmp (flat runs) key value → HaveItems new → count ≡ length (flat new) → IsMap cmp new count
  map_of_insert value new count is filled counted =
      record { sorted = subst (λ all. IsStrictlySortedBy cmp (keys_of all)) (sym is) (sorted_insert order (flat runs) key value map.sorted); filled = filled; counted = counted }

  pub map_of_remove : (new : List (List (K × V))) (count : ℕ) → flat new ≡ remove_entry (is_at (cmp key)) (flat runs) → HaveItems new → count ≡ length (flat new) → IsMap cmp new count
  map_of_remove new count is filled counted =
      record { sorted = subst (λ all. IsStrictlySortedBy cmp (keys_of all)) (sym is) (sorted_remove cmp (is_at (cmp key)) (flat runs) map.sorted); filled = filled; counted = counted }

  module _ (spot : Spot) (is : IsSpotOf cmp key runs spot) (lt : spot.run < length runs) where
    -- the count after one run is changed from the spot on
    count_changed : (back : List (K × V)) → length (flat (set runs spot.run (take spot.at (run_at runs spot.run) ++ back))) + length (drop spot.at (run_at runs spot.run)) ≡ len + length back
    count_changed back =
        let new : length (flat (set runs spot.run (take spot.at (run_at runs spot.run) ++ back))) ≡ length (flat (take spot.run runs) ++ (take spot.at (run_at runs spot.run) ++ (back ++ flat (drop (spot.run + 1) runs)))) = ap length (flat_changed runs spot.run spot.at back lt) in
        let old : length (flat runs) ≡ length (flat (take spot.run runs) ++ (take spot.at (run_at runs spot.run) ++ (drop spot.at (run_at runs spot.run) ++ flat (drop (spot.run + 1) runs)))) = ap length (flat_at runs spot.run spot.at lt) in
        omega (arith, map.counted, simp length-append at new, simp length-append at old)

    pub map_insert_missing : (value : V) → spot.found ≡ false → IsMap cmp (set runs spot.run (insert (run_at runs spot.run) spot.at (key, value))) (len + 1)
    map_insert_missing value missing =
        map_of_insert value (set runs spot.run (insert (run_at runs spot.run) spot.at (key, value))) (len + 1) (insert_missing cmp key runs spot is lt value missing)
        (HaveItems_set runs spot.run (insert (run_at runs spot.run) spot.at (key, value)) map.filled (omega (arith, length-insert (run_at runs spot.run) spot.at (key, value) is.within)))
        (omega (arith, count_changed ((key, value) ∷ drop spot.at (run_at runs spot.run))))

    pub map_insert_found : (value : V) → spot.found ≡ true → (entry : K × V) → IsMap cmp (set runs spot.run (set (run_at runs spot.run) spot.at ((get_or (run_at runs spot.run) spot.at entry).0, value))) len
    map_insert_found value hit entry =
        let x : K × V = ((get_or (run_at runs spot.run) spot.at entry).0, value) in
        let within : spot.at < length (run_at runs spot.run) = is.found_within hit in
        map_of_insert value (set runs spot.run (set (run_at runs spot.run) spot.at x)) len (insert_found cmp key runs spot is lt value hit entry)
        (HaveItems_set runs spot.run (set (run_at runs spot.run) spot.at x) map.filled (omega (arith, length-set {A = K × V}, within)))
        (let count : length (flat (set runs spot.run (set (run_at runs spot.run) spot.at x))) + length (drop spot.at (run_at runs spot.run)) ≡ len + length (x ∷ drop (spot.at + 1) (run_at runs spot.run)) =
        ap (λ all. length (flat (set runs spot.run all)) + length (drop spot.at (run_at runs spot.run))) (set_is (run_at runs spot.run) spot.at x within) ∙ count_changed (x ∷ drop (spot.at + 1) (run_at runs spot.run)) in
        omega (arith, count, length-drop {A = K × V}, within))

    pub map_remove_found : spot.found ≡ true → length (run_at runs spot.run) ≢ 1 → IsMap cmp (set runs spot.run (remove (run_at runs spot.run) spot.at)) (len - 1)
    map_remove_found hit more =
        let within : spot.at < length (run_at runs spot.run) = is.found_within hit in
        map_of_remove (set runs spot.run (remove (run_at runs spot.run) spot.at)) (len - 1) (remove_found cmp key runs spot is lt hit)
        (HaveItems_set runs spot.run (remove (run_at runs spot.run) spot.at) map.filled (omega (arith, length-remove (run_at runs spot.run) spot.at within)))
        (omega (arith, count_changed (drop (suc spot.at) (run_at runs spot.run)), length-drop {A = K × V}, within))

    pub map_remove_run : spot.found ≡ true → length (run_at runs spot.run) ≡ 1 → IsMap cmp (remove runs spot.run) (len - 1)
    map_remove_run hit one =
        map_of_remove (remove runs spot.run) (len - 1) (remove_run cmp key runs spot is lt hit one) (HaveItems_remove runs spot.run map.filled lt)
        (let new : length (flat (remove runs spot.run)) ≡ length (flat (take spot.run runs) ++ flat (drop (suc spot.run) runs)) = ap length (flat_map-append (λ run. run) (take spot.run runs) (drop (suc spot.run) runs)) in
        let old : length (flat runs) ≡ length (flat (take spot.run runs) ++ (run_at runs spot.run ++ flat (drop (suc spot.run) runs))) = ap length (flat_cut runs spot.run lt) ∙ ap (λ n. length (flat (take spot.run runs) ++ (run_at runs spot.run ++ flat (drop n runs)))) (add-one spot.run) in
        omega (arith, map.counted, one, simp length-append at new, simp length-append at old))

  pub map_insert_first : (value : V) → runs ≡ [] → IsMap cmp (((key, value) ∷ []) ∷ []) (len + 1)
  map_insert_first value none =
      map_of_insert value (((key, value) ∷ []) ∷ []) (len + 1) (ap (λ all. insert_entry cmp (flat all) key value) (sym none))
      (HaveItems_one (key, value)) (omega (arith, map.counted, ap (λ all. length (flat all)) none))

-- ---- a run cut in two

module _ {X : Type 0} where
  set_seam : (front : List X) (x y : X) (back : List X) (n : ℕ) → n ≡ length front → set (front ++ x ∷ back) n y ≡ front ++ y ∷ back
  set_seam [] x y back zero is = refl
  set_seam [] x y back (suc n) is = absurd (omega (arith, is))
  set_seam (first ∷ front) x y back zero is = absurd (omega (arith, is))
  set_seam (first ∷ front) x y back (suc n) is = ap (λ rest. first ∷ rest) (set_seam front x y back n (omega (arith, is)))

module _ {X : Type 0} (runs : List (List X)) (run : ℕ) (front back : List X) (lt : run < length runs) (both : run_at runs run ≡ front ++ back) where
  cut_runs : set (insert runs (run + 1) back) run front ≡ take run runs ++ (front ∷ (back ∷ drop (run + 1) runs))
  cut_runs =
      let taken : take (run + 1) runs ≡ take run runs ++ (run_at runs run ∷ []) = ap (λ n. take n runs) (add-one run) ∙ take-suc runs run [] lt in
      ap (λ all. set (all ++ (back ∷ drop (run + 1) runs)) run front) taken
      ∙ ap (λ all. set all run front) (append_assoc (take run runs) (run_at runs run ∷ []) (back ∷ drop (run + 1) runs))
      ∙ set_seam (take run runs) (run_at runs run) front (back ∷ drop (run + 1) runs) run (sym (length-take-le run runs (omega arith)))

  pub flat_cut_run : flat (set (insert runs (run + 1) back) run front) ≡ flat runs
  flat_cut_run =
      ap flat cut_runs
      ∙ flat_map-append (λ all. all) (take run runs) (front ∷ (back ∷ drop (run + 1) runs))
      ∙ ap (λ all. flat (take run runs) ++ all) (sym (append_assoc front back (flat (drop (run + 1) runs))))
      ∙ ap (λ all. flat (take run runs) ++ (all ++ flat (drop (run + 1) runs))) (sym both)
      ∙ sym (flat_cut runs run lt)

  pub HaveItems_cut_run : HaveItems runs → 0 < length front → 0 < length back → HaveItems (set (insert runs (run + 1) back) run front)
  HaveItems_cut_run filled some_front some_back =
      HaveItems_set (insert runs (run + 1) back) run front (HaveItems_insert runs (run + 1) back filled (omega arith) some_back) some_front

-- ---- what the calls of a map do

pub not_true : (b : Bool) → not b ≡ true → b ≡ false
not_true true e = sym e
not_true false e = refl

pub not_false : (b : Bool) → not b ≡ false → b ≡ true
not_false true e = refl
not_false false e = sym e

-- the same pairs in other runs are the same map
pub map_again : {K V : Type 0} (cmp : K → K → Ordering) (runs new : List (List (K × V))) (len : ℕ) → IsMap cmp runs len → flat new ≡ flat runs → HaveItems new → IsMap cmp new len
map_again cmp runs new len map is filled = record { sorted = subst (λ all. IsStrictlySortedBy cmp (keys_of all)) (sym is) map.sorted; filled = filled; counted = map.counted ∙ ap length (sym is) }

pub map_of_none : {K V : Type 0} (cmp : K → K → Ordering) (runs : List (List (K × V))) → runs ≡ [] → IsMap cmp runs 0
map_of_none {V = V} cmp runs none = subst (λ all. IsMap cmp all 0) (sym none) (record { sorted = sorted_none V cmp; filled = λ place lt. absurd (omega arith); counted = refl })

module _ {K V : Type 0} {cmp : K → K → Ordering} (key : K) (runs : List (List (K × V))) (spot : Spot) (is : IsSpotOf cmp key runs spot) where
  spot_lt : (all : List (List (K × V))) → IsSpotOf cmp key all spot → spot.found ≡ true → spot.run < length all
  spot_lt [] there hit = absurd (omega (arith, there.found_within hit))
  spot_lt (run ∷ rest) there hit = there.run_within (omega arith)

  pub run_lt : spot.found ≡ true → spot.run < length runs
  run_lt hit = spot_lt runs is hit

  run_is : (run : List (K × V)) → run ≡ get_or runs spot.run run → spot.run < length runs → run_at runs spot.run ≡ run
  run_is run read lt = get_or_default runs spot.run [] run lt ∙ sym read

  pub get_is : spot.found ≡ true → (run : List (K × V)) → run ≡ get_or runs spot.run run → (entry : K × V) → entry ≡ get_or run spot.at entry → Some entry.1 ≡ lookup (is_at (cmp key)) (flat runs)
  get_is hit run read entry entry_is =
      sym (lookup_found cmp key runs spot is (run_lt hit) hit entry ∙ ap (λ items. Some (get_or items spot.at entry).1) (run_is run read (run_lt hit)) ∙ ap (λ e. Some e.1) (sym entry_is))

  pub iter_is : (run : List (K × V)) → run ≡ get_or runs spot.run run → spot.run < length runs → drop spot.at run ++ flat (drop (spot.run + 1) runs) ≡ entries_from (cmp key) (flat runs)
  iter_is run read lt = ap (λ items. drop spot.at items ++ flat (drop (spot.run + 1) runs)) (sym (run_is run read lt)) ∙ entries_from_spot cmp key runs spot is lt

  module _ (order : IsTotalOrder cmp) (len : ℕ) (map : IsMap cmp runs len) (value : V) (run new : List (K × V)) (read : run ≡ get_or runs spot.run run) where
    pub put_found : spot.found ≡ true → ((entry : K × V) → new ≡ set run spot.at ((get_or run spot.at entry).0, value)) → IsMap cmp (set runs spot.run new) len × (flat (set runs spot.run new) ≡ insert_entry cmp (flat runs) key value)
    put_found hit write =
        let lt : spot.run < length runs = run_lt hit in
        let entry : K × V = (cut (run_at runs spot.run) spot.at (is.found_within hit)).item in
        let same : run_at runs spot.run ≡ run = run_is run read lt in
        let written : set (run_at runs spot.run) spot.at ((get_or (run_at runs spot.run) spot.at entry).0, value) ≡ new = ap (λ items. set items spot.at ((get_or items spot.at entry).0, value)) same ∙ sym (write entry) in (
          subst (λ items. IsMap cmp (set runs spot.run items) len) written (map_insert_found order key runs len map spot is lt value hit entry),
          subst (λ items. flat (set runs spot.run items) ≡ insert_entry cmp (flat runs) key value) written (insert_found cmp key runs spot is lt value hit entry),
        )

    pub put_missing : spot.found ≡ false → 0 < length runs → new ≡ insert run spot.at (key, value) → IsMap cmp (set runs spot.run new) (len + 1) × (flat (set runs spot.run new) ≡ insert_entry cmp (flat runs) key value)
    put_missing miss some write =
        let lt : spot.run < length runs = is.run_within some in
        let written : insert (run_at runs spot.run) spot.at (key, value) ≡ new = ap (λ items. insert items spot.at (key, value)) (run_is run read lt) ∙ sym write in (
          subst (λ items. IsMap cmp (set runs spot.run items) (len + 1)) written (map_insert_missing order key runs len map spot is lt value miss),
          subst (λ items. flat (set runs spot.run items) ≡ insert_entry cmp (flat runs) key value) written (insert_missing cmp key runs spot is lt value miss),
        )

  module _ (order : IsTotalOrder cmp) (len : ℕ) (map : IsMap cmp runs len) (run : List (K × V)) (read : run ≡ get_or runs spot.run run) (hit : spot.found ≡ true) where
    pub take_item : (new seen : List (K × V)) → seen ≡ get_or runs spot.run seen → length seen ≢ 1 → new ≡ remove run spot.at → IsMap cmp (set runs spot.run new) (len - 1) × (flat (set runs spot.run new) ≡ remove_entry (is_at (cmp key)) (flat runs))
    take_item new seen seen_is more write =
        let lt : spot.run < length runs = run_lt hit in
        let same : run_at runs spot.run ≡ run = run_is run read lt in
        let written : remove (run_at runs spot.run) spot.at ≡ new = ap (λ items. remove items spot.at) same ∙ sym write in (
          subst (λ items. IsMap cmp (set runs spot.run items) (len - 1)) written (map_remove_found order key runs len map spot is lt hit (λ one. more (ap length (sym (run_is seen seen_is lt)) ∙ one))),
          subst (λ items. flat (set runs spot.run items) ≡ remove_entry (is_at (cmp key)) (flat runs)) written (remove_found cmp key runs spot is lt hit),
        )

    pub take_run : (new : List (List (K × V))) → length run ≡ 1 → new ≡ remove runs spot.run → IsMap cmp new (len - 1) × (flat new ≡ remove_entry (is_at (cmp key)) (flat runs))
    take_run new one write =
        let lt : spot.run < length runs = run_lt hit in
        let same : run_at runs spot.run ≡ run = run_is run read lt in (
          subst (λ all. IsMap cmp all (len - 1)) (sym write) (map_remove_run order key runs len map spot is lt hit (ap length same ∙ one)),
          subst (λ all. flat all ≡ remove_entry (is_at (cmp key)) (flat runs)) (sym write) (remove_run cmp key runs spot is lt hit (ap length same ∙ one)),
        )

module _ {K V : Type 0} {cmp : K → K → Ordering} (order : IsTotalOrder cmp) (key : K) (value : V) where
  pub put_empty : (runs new : List (List (K × V))) (len : ℕ) → IsMap cmp runs len → runs ≡ [] → new ≡ ((key, value) ∷ []) ∷ [] → IsMap cmp new (len + 1) × (flat new ≡ insert_entry cmp (flat runs) key value)
  put_empty runs new len map none write = (
    subst (λ all. IsMap cmp all (len + 1)) (sym write) (map_insert_first order key runs len map value none),
    ap flat write ∙ ap (λ all. insert_entry cmp (flat all) key value) (sym none),
  )

module _ {X : Type 0} where
  halves : (items front back : List X) (m : ℕ) → front ≡ take m items → back ≡ take (length items - m) (drop m items) → items ≡ front ++ back
  halves items front back m front_is back_is =
      let second : back ≡ drop m items = back_is ∙ take_all (length items - m) (drop m items) (omega (arith, length-drop {A = X})) in
      sym (take-append-drop m items) ∙ ap (λ all. all ++ drop m items) (sym front_is) ∙ ap (λ all. front ++ all) (sym second)

  -- a run cut in its halves
  pub cut_is : (runs slice new : List (List X)) (at m : ℕ) (run items front back : List X) → slice ≡ runs → run ≡ get_or slice at [] → at < length slice → items ≡ run
      → 0 < m → m < length items → front ≡ take m items → back ≡ take (length items - m) (drop m items) → new ≡ insert runs (at + 1) back
      → (flat (set new at front) ≡ flat runs) × (HaveItems runs → HaveItems (set new at front))
  cut_is runs slice new at m run items front back same run_is lt items_is some more front_is back_is new_is =
      let within : at < length runs = subst (λ all. at < length all) same lt in
      let both : run_at runs at ≡ front ++ back = ap (λ all. get_or all at []) (sym same) ∙ sym run_is ∙ sym items_is ∙ halves items front back m front_is back_is in
      let front_some : 0 < length front = subst (λ all. 0 < length all) (sym front_is) (omega (arith, length-take {A = X})) in
      let back_some : 0 < length back = subst (λ all. 0 < length all) (sym back_is) (omega (arith, length-take {A = X}, length-drop {A = X})) in (
        ap (λ all. flat (set all at front)) new_is ∙ flat_cut_run runs at front back within both,
        λ filled. subst (λ all. HaveItems (set all at front)) (sym new_is) (HaveItems_cut_run runs at front back within both filled front_some back_some),
      )

-- ---- two neighbours joined

module _ {X : Type 0} (runs : List (List X)) (run : ℕ) (lt : run + 1 < length runs) where
  joined_runs : set (remove runs (run + 1)) run (run_at runs run ++ run_at runs (run + 1)) ≡ take run runs ++ ((run_at runs run ++ run_at runs (run + 1)) ∷ drop (run + 1 + 1) runs)
  joined_runs =
      let here : run < length runs = omega arith in
      let taken : take (run + 1) runs ≡ take run runs ++ (run_at runs run ∷ []) = ap (λ n. take n runs) (add-one run) ∙ take-suc runs run [] here in
      ap (λ n. set (take (run + 1) runs ++ drop n runs) run (run_at runs run ++ run_at runs (run + 1))) (sym (add-one (run + 1)))
      ∙ ap (λ all. set (all ++ drop (run + 1 + 1) runs) run (run_at runs run ++ run_at runs (run + 1))) taken
      ∙ ap (λ all. set all run (run_at runs run ++ run_at runs (run + 1))) (append_assoc (take run runs) (run_at runs run ∷ []) (drop (run + 1 + 1) runs))
      ∙ set_seam (take run runs) (run_at runs run) (run_at runs run ++ run_at runs (run + 1)) (drop (run + 1 + 1) runs) run (sym (length-take-le run runs (omega arith)))

  flat_joined : flat (set (remove runs (run + 1)) run (run_at runs run ++ run_at runs (run + 1))) ≡ flat runs
  flat_joined =
      let here : run < length runs = omega arith in
      ap flat joined_runs
      ∙ flat_map-append (λ all. all) (take run runs) ((run_at runs run ++ run_at runs (run + 1)) ∷ drop (run + 1 + 1) runs)
      ∙ ap (λ all. flat (take run runs) ++ all) (append_assoc (run_at runs run) (run_at runs (run + 1)) (flat (drop (run + 1 + 1) runs)))
      ∙ ap (λ all. flat (take run runs) ++ (run_at runs run ++ all)) (sym (flat_drop runs (run + 1) lt))
      ∙ sym (flat_cut runs run here)

  HaveItems_joined : HaveItems runs → HaveItems (set (remove runs (run + 1)) run (run_at runs run ++ run_at runs (run + 1)))
  HaveItems_joined filled =
      HaveItems_set (remove runs (run + 1)) run (run_at runs run ++ run_at runs (run + 1)) (HaveItems_remove runs (run + 1) filled lt)
      (omega (arith, filled run (omega arith), length-append (run_at runs run) (run_at runs (run + 1))))

pub join_is : {X : Type 0} (runs slice new : List (List X)) (at next : ℕ) (front back first second joined : List X) → slice ≡ runs → front ≡ get_or slice at [] → next < length slice → back ≡ get_or slice next [] → next ≡ at + 1
    → first ≡ front → second ≡ back → joined ≡ first ++ second → new ≡ remove runs (at + 1)
    → (flat (set new at joined) ≡ flat runs) × (HaveItems runs → HaveItems (set new at joined))
join_is runs slice new at next front back first second joined same front_is lt back_is next_is first_is second_is joined_is new_is =
    let within : at + 1 < length runs = subst (λ n. n < length runs) next_is (subst (λ all. next < length all) same lt) in
    let front_run : run_at runs at ≡ first = ap (λ all. get_or all at []) (sym same) ∙ sym front_is ∙ sym first_is in
    let back_run : run_at runs (at + 1) ≡ second = ap (λ n. get_or runs n []) (sym next_is) ∙ ap (λ all. get_or all next []) (sym same) ∙ sym back_is ∙ sym second_is in
    let is : set (remove runs (at + 1)) at (run_at runs at ++ run_at runs (at + 1)) ≡ set new at joined =
    ap (λ all. set all at (run_at runs at ++ run_at runs (at + 1))) (sym new_is) ∙ ap (λ all. set new at (all ++ run_at runs (at + 1))) front_run ∙ ap (λ all. set new at (first ++ all)) back_run ∙ ap (λ all. set new at all) (sym joined_is) in (
      ap flat (sym is) ∙ flat_joined runs at within,
      λ filled. subst HaveItems is (HaveItems_joined runs at within filled),
    )

-- ---- the last item of all

module _ {X : Type 0} where
  pub slice_get_right : (xs ys : List X) (n k : ℕ) → n ≡ length xs + k → slice_get (xs ++ ys) n ≡ slice_get ys k
  slice_get_right [] ys n k is = ap (slice_get ys) (omega (arith, is))
  slice_get_right (x ∷ xs) ys zero k is = absurd (omega (arith, is))
  slice_get_right (x ∷ xs) ys (suc n) k is = slice_get_right xs ys n k (omega (arith, is))

  -- the last item of runs none of which is empty is that of the last run
  pub last_is : (runs slice : List (List X)) (run items : List X) → slice ≡ runs → HaveItems runs → Some run ≡ slice_get slice (length slice - 1) → items ≡ run → slice_get items (length items - 1) ≡ slice_get (flat runs) (length (flat runs) - 1)
  last_is runs slice run items same filled run_is items_is =
      let place : ℕ = length slice - 1 in
      let read : slice_get runs place ≡ Some run = ap (λ all. slice_get all place) (sym same) ∙ sym run_is in
      let lt : place < length runs = slice_get_within runs place run read in
      let ends : length runs ≤ place + 1 = subst (λ all. length all ≤ place + 1) same (omega arith) in
      let is : run_at runs place ≡ items = get_or_from_slice_get runs place run [] read ∙ sym items_is in
      let front : List X = flat (take place runs) in
      let whole : flat runs ≡ front ++ items =
      flat_cut runs place lt ∙ ap (λ all. front ++ (run_at runs place ++ flat all)) (drop_all (place + 1) runs ends) ∙ ap (λ all. front ++ all) (append-nil (run_at runs place)) ∙ ap (λ all. front ++ all) is in
      let some : 0 < length items = subst (λ all. 0 < length all) is (filled place lt) in
      sym (ap (λ all. slice_get all (length all - 1)) whole ∙ slice_get_right front items (length (front ++ items) - 1) (length items - 1) (omega (arith, some, length-append front items)))

-- what is from the spot on, read as two slices
pub iter_from_is : {K V : Type 0} {cmp : K → K → Ordering} (key : K) (runs slice slices : List (List (K × V))) (spot : Spot) (run items : List (K × V)) → IsSpotOf cmp key runs spot → slice ≡ runs → slices ≡ runs
    → run ≡ get_or slice spot.run run → spot.run < length slice → items ≡ run
    → take (length items - spot.at) (drop spot.at items) ++ flat (take (length slices - (spot.run + 1)) (drop (spot.run + 1) slices)) ≡ entries_from (cmp key) (flat runs)
iter_from_is key runs slice slices spot run items is same same_too run_is lt items_is =
    ap (λ all. all ++ flat (take (length slices - (spot.run + 1)) (drop (spot.run + 1) slices))) (take_all (length items - spot.at) (drop spot.at items) (omega (arith, length-drop spot.at items)))
    ∙ ap (λ all. drop spot.at items ++ flat all) (take_all (length slices - (spot.run + 1)) (drop (spot.run + 1) slices) (omega (arith, length-drop (spot.run + 1) slices)))
    ∙ ap (λ all. drop spot.at items ++ flat (drop (spot.run + 1) all)) same_too
    ∙ ap (λ all. drop spot.at all ++ flat (drop (spot.run + 1) runs)) items_is
    ∙ iter_is key runs spot is run (subst (λ all. run ≡ get_or all spot.run run) same run_is) (subst (λ all. spot.run < length all) same lt)
