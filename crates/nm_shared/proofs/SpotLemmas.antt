-- A binary search that looks at neighbours alone finds the spot of a key, where the keys are in order.
-- For the proof of `spot_of`.
use Rattle.std.proofs.Common.{◌≡◌, ◌≢◌, refl, sym, ap, subst, ◌∙◌, ℕ, ◌+◌, ◌-◌, ◌<◌, ◌≤◌, suc, zero, Bool, true, false, List, [], ◌∷◌, ◌++◌, length, take, drop, get_or, set, arith, append_assoc, inl, inr, lit≤, true≢false}
use Rattle.std.proofs.lemmas.Bool.{cases_lt}
use Rattle.std.specs.declared.cmp.Ordering.{Ordering}
use Rattle.std.specs.declared.cmp.Ordering.TheVariants.{Less, Equal, Greater}
use Rattle.std.specs.Cmp.{IsTotalOrder}
use Rattle.std.specs.List.Sorted.{IsStrictlySortedBy}
use Rattle.std.specs.Map.{keys_of}
use Rattle.std.proofs.lemmas.List.{take-append-drop, drop_more, drop_all, get_or_default, take-set-le, drop-set}
use Rattle.std.proofs.lemmas.List.Concat.{flat_map-append}
use Rattle.std.proofs.Math.Seq.{take-suc}
use Rattle.nm_shared.specs.Runs.{flat, run_at, HaveItems}
use Rattle.nm_shared.specs.Search.{IsRunOf, IsPlaceOf}
use Rattle.nm_shared.specs.Spot.{AllBelow, AllAbove, Follows, IsSpotOf}
use Rattle.nm_shared.proofs.EntryLemmas.{All-append, All-append_right, below_sorted, above_sorted, equal_sorted, sorted_right}

module _ {X : Type 0} where
  -- a list cut at one of its items
  pub record Cut (xs : List X) (place : ℕ) : Type 0 where
    pub item : X
    pub is : (d : X) → get_or xs place d ≡ item
    pub from : drop place xs ≡ item ∷ drop (place + 1) xs
    pub whole : xs ≡ take place xs ++ (item ∷ drop (place + 1) xs)

  cut_by : (x : X) (xs : List X) (place : ℕ) → place < length xs → Cut xs place
  cut_by x xs place lt = record {
    item = get_or xs place x;
    is = λ d. get_or_default xs place d x lt;
    from = drop_more xs place x lt;
    whole = sym (take-append-drop place xs) ∙ ap (λ rest. take place xs ++ rest) (drop_more xs place x lt);
  }

  pub cut : (xs : List X) (place : ℕ) → place < length xs → Cut xs place
  cut [] place lt = absurd (omega arith)
  cut (x ∷ xs) place lt = cut_by x (x ∷ xs) place lt

  -- runs cut at one of them
  pub flat_cut : (runs : List (List X)) (place : ℕ) → place < length runs → flat runs ≡ flat (take place runs) ++ (run_at runs place ++ flat (drop (place + 1) runs))
  flat_cut runs place lt =
      ap flat (sym (take-append-drop place runs) ∙ ap (λ rest. take place runs ++ rest) (drop_more runs place [] lt))
      ∙ flat_map-append (λ run. run) (take place runs) (run_at runs place ∷ drop (place + 1) runs)

  pub flat_drop : (runs : List (List X)) (place : ℕ) → place < length runs → flat (drop place runs) ≡ run_at runs place ++ flat (drop (place + 1) runs)
  flat_drop runs place lt = ap flat (drop_more runs place [] lt)

  pub flat_parts : (runs : List (List X)) (place : ℕ) → flat runs ≡ flat (take place runs) ++ flat (drop place runs)
  flat_parts runs place = ap flat (sym (take-append-drop place runs)) ∙ flat_map-append (λ run. run) (take place runs) (drop place runs)

  -- the same with the run at the place changed
  pub flat_set : (runs : List (List X)) (place : ℕ) (run : List X) → place < length runs → flat (set runs place run) ≡ flat (take place runs) ++ (run ++ flat (drop (place + 1) runs))
  flat_set runs place run lt =
      flat_parts (set runs place run) place
      ∙ ap (λ front. flat front ++ flat (drop place (set runs place run))) (take-set-le place runs place run (omega arith))
      ∙ ap (λ back. flat (take place runs) ++ flat back) (drop-set runs place run lt)

greater_not : (answer : Ordering) → answer ≡ Greater → answer ≢ Less
greater_not answer is less = cc

only_less : (answer : Ordering) → answer ≢ Greater → answer ≢ Equal → answer ≡ Less
only_less Less greater equal = refl
only_less Equal greater equal = absurd (equal refl)
only_less Greater greater equal = absurd (greater refl)

none_chosen : (place run : ℕ) → run ≡ place - 1 → place ≤ 0 → run ≡ 0
none_chosen place run is le = omega arith

module _ {K V : Type 0} {cmp : K → K → Ordering} (order : IsTotalOrder cmp) (key : K) where
  -- the first items of a run up to one below the key
  pub up_to : (items rest : List (K × V)) (at : ℕ) → IsStrictlySortedBy cmp (keys_of (items ++ rest)) → at < length items → (c : Cut items at) → cmp key c.item.0 ≡ Greater → AllBelow cmp key (take (suc at) items)
  up_to items rest at sorted lt c greater =
      let whole : items ++ rest ≡ take at items ++ (c.item ∷ (drop (at + 1) items ++ rest)) = ap (λ all. all ++ rest) c.whole ∙ append_assoc (take at items) (c.item ∷ drop (at + 1) items) rest in
      let cut_sorted : IsStrictlySortedBy cmp (keys_of (take at items ++ (c.item ∷ (drop (at + 1) items ++ rest)))) = subst (λ all. IsStrictlySortedBy cmp (keys_of all)) whole sorted in
      let ends : take (suc at) items ≡ take at items ++ (c.item ∷ []) = take-suc items at c.item lt ∙ ap (λ item. take at items ++ (item ∷ [])) (c.is c.item) in
      subst (AllBelow cmp key) (sym ends)
      (All-append (λ entry. cmp key entry.0 ≡ Greater) (take at items) (c.item ∷ []) (below_sorted order key (take at items) c.item (drop (at + 1) items ++ rest) cut_sorted (greater_not _ greater)) (greater, tt))

  before_place : (items rest : List (K × V)) (at : ℕ) → IsStrictlySortedBy cmp (keys_of (items ++ rest)) → IsPlaceOf cmp key items at → AllBelow cmp key (take at items)
  before_place items rest zero sorted place = tt
  before_place items rest (suc at) sorted place =
      let lt : at < length items = omega (arith, place.within) in
      let c : Cut items at = cut items at lt in
      let here : suc at - 1 ≡ at = omega arith in
      up_to items rest at sorted lt c
      (ap (λ entry. cmp key entry.0) (sym (c.is c.item)) ∙ ap (λ place. cmp key (get_or items place c.item).0) (sym here) ∙ place.before c.item (omega arith))

  -- what follows the place, where an item is there
  at_item : (rest : List (K × V)) (items : List (K × V)) (at : ℕ) (found : Bool) → (c : Cut items at) → IsStrictlySortedBy cmp (keys_of (c.item ∷ (drop (at + 1) items ++ rest)))
      → (found ≡ true → cmp key c.item.0 ≡ Equal) → (found ≡ false → cmp key c.item.0 ≡ Less) → Follows cmp key found (c.item ∷ (drop (at + 1) items ++ rest))
  at_item rest items at true c sorted hit miss = equal_sorted order key c.item (drop (at + 1) items ++ rest) sorted (hit refl)
  at_item rest items at false c sorted hit miss = above_sorted order key c.item (drop (at + 1) items ++ rest) sorted (miss refl)

  from_item : (items rest : List (K × V)) (at : ℕ) (found : Bool) → IsStrictlySortedBy cmp (keys_of (items ++ rest)) → IsPlaceOf cmp key items at → (at < length items)
      → (found ≡ true → (at < length items) × ((entry : K × V) → cmp key (get_or items at entry).0 ≡ Equal))
      → (found ≡ false → at < length items → (entry : K × V) → cmp key (get_or items at entry).0 ≢ Equal)
      → Follows cmp key found (drop at items ++ rest)
  from_item items rest at found sorted place lt hit miss =
      let c : Cut items at = cut items at lt in
      let whole : items ++ rest ≡ take at items ++ (c.item ∷ (drop (at + 1) items ++ rest)) = ap (λ all. all ++ rest) c.whole ∙ append_assoc (take at items) (c.item ∷ drop (at + 1) items) rest in
      let cut_sorted : IsStrictlySortedBy cmp (keys_of (take at items ++ (c.item ∷ (drop (at + 1) items ++ rest)))) = subst (λ all. IsStrictlySortedBy cmp (keys_of all)) whole sorted in
      let read : (get_or items at c.item) ≡ c.item = c.is c.item in
      subst (λ all. Follows cmp key found (all ++ rest)) (sym c.from)
      (at_item rest items at found c (sorted_right cmp (take at items) (c.item ∷ (drop (at + 1) items ++ rest)) cut_sorted)
      (λ is. ap (λ entry. cmp key entry.0) (sym read) ∙ (hit is).1 c.item)
      (λ is. ap (λ entry. cmp key entry.0) (sym read) ∙ only_less _ (place.after c.item lt) (miss is lt c.item)))

  past_items : (items rest : List (K × V)) (at : ℕ) (found : Bool) → length items ≤ at → AllAbove cmp key rest
      → (found ≡ true → (at < length items) × ((entry : K × V) → cmp key (get_or items at entry).0 ≡ Equal))
      → Follows cmp key found (drop at items ++ rest)
  past_items items rest at true le above hit = absurd (omega (arith, (hit refl).0))
  past_items items rest at false le above hit = subst (λ all. AllAbove cmp key (all ++ rest)) (sym (drop_all at items le)) above

  -- what follows the place in a run
  after_place : (items rest : List (K × V)) (at : ℕ) (found : Bool) → IsStrictlySortedBy cmp (keys_of (items ++ rest)) → IsPlaceOf cmp key items at → AllAbove cmp key rest
      → (found ≡ true → (at < length items) × ((entry : K × V) → cmp key (get_or items at entry).0 ≡ Equal))
      → (found ≡ false → at < length items → (entry : K × V) → cmp key (get_or items at entry).0 ≢ Equal)
      → Follows cmp key found (drop at items ++ rest)
  after_place items rest at found sorted place above hit miss =
      elim (cases_lt at (length items)) [ inl lt ↦ from_item items rest at found sorted place lt hit miss | inr le ↦ past_items items rest at found le above hit ]

  -- ---- among runs

  first_not_less : (runs : List (List (K × V))) (run : ℕ) → IsStrictlySortedBy cmp (keys_of (flat runs)) → (lt : run < length runs) → (c : Cut (run_at runs run) 0) → cmp key c.item.0 ≢ Less
      → AllBelow cmp key (flat (take run runs))
  first_not_less runs run sorted lt c not =
      let whole : flat runs ≡ flat (take run runs) ++ (c.item ∷ (drop 1 (run_at runs run) ++ flat (drop (run + 1) runs))) = flat_cut runs run lt ∙ ap (λ all. flat (take run runs) ++ (all ++ flat (drop (run + 1) runs))) c.whole in
      below_sorted order key (flat (take run runs)) c.item (drop 1 (run_at runs run) ++ flat (drop (run + 1) runs)) (subst (λ all. IsStrictlySortedBy cmp (keys_of all)) whole sorted) not

  -- the runs before the one that is chosen are below the key
  pub before_runs : (runs : List (List (K × V))) (place : ℕ) → HaveItems runs → IsStrictlySortedBy cmp (keys_of (flat runs)) → IsRunOf cmp key runs place → AllBelow cmp key (flat (take (place - 1) runs))
  before_runs runs zero filled sorted chosen = tt
  before_runs runs (suc place) filled sorted chosen =
      let lt : suc place - 1 < length runs = omega (arith, chosen.within) in
      let c : Cut (run_at runs (suc place - 1)) 0 = cut (run_at runs (suc place - 1)) 0 (filled (suc place - 1) lt) in
      first_not_less runs (suc place - 1) sorted lt c (λ less. chosen.before c.item (omega arith) (ap (λ entry. cmp key entry.0) (c.is c.item) ∙ less))

  from_run : (runs : List (List (K × V))) (run : ℕ) → HaveItems runs → IsStrictlySortedBy cmp (keys_of (flat runs)) → (run < length runs) → ((entry : K × V) → cmp key (get_or (run_at runs run) 0 entry).0 ≡ Less) → AllAbove cmp key (flat (drop run runs))
  from_run runs run filled sorted lt less =
      let c : Cut (run_at runs run) 0 = cut (run_at runs run) 0 (filled run lt) in
      let begins : flat (drop run runs) ≡ c.item ∷ (drop 1 (run_at runs run) ++ flat (drop (run + 1) runs)) = flat_drop runs run lt ∙ ap (λ all. all ++ flat (drop (run + 1) runs)) c.whole in
      let tail_sorted : IsStrictlySortedBy cmp (keys_of (flat (drop run runs))) = sorted_right cmp (flat (take run runs)) (flat (drop run runs)) (subst (λ all. IsStrictlySortedBy cmp (keys_of all)) (flat_parts runs run) sorted) in
      subst (AllAbove cmp key) (sym begins)
      (above_sorted order key c.item (drop 1 (run_at runs run) ++ flat (drop (run + 1) runs)) (subst (λ all. IsStrictlySortedBy cmp (keys_of all)) begins tail_sorted) (ap (λ entry. cmp key entry.0) (sym (c.is c.item)) ∙ less c.item))

  past_runs : (runs : List (List (K × V))) (run : ℕ) → length runs ≤ run → AllAbove cmp key (flat (drop run runs))
  past_runs runs run le = subst (λ all. AllAbove cmp key (flat all)) (sym (drop_all run runs le)) tt

  after_run : (runs : List (List (K × V))) (run : ℕ) → HaveItems runs → IsStrictlySortedBy cmp (keys_of (flat runs)) → IsRunOf cmp key runs run → AllAbove cmp key (flat (drop run runs))
  after_run runs run filled sorted chosen =
      elim (cases_lt run (length runs)) [ inl lt ↦ from_run runs run filled sorted lt (λ entry. chosen.after entry lt) | inr le ↦ past_runs runs run le ]

  -- the runs after the one that is chosen are above the key
  pub after_runs : (runs : List (List (K × V))) (place : ℕ) → HaveItems runs → IsStrictlySortedBy cmp (keys_of (flat runs)) → IsRunOf cmp key runs place → place - 1 < length runs → AllAbove cmp key (flat (drop (place - 1 + 1) runs))
  after_runs runs zero filled sorted chosen lt =
      All-append_right (λ entry. cmp key entry.0 ≡ Less) (run_at runs 0) (flat (drop 1 runs)) (subst (AllAbove cmp key) (flat_drop runs 0 lt) (after_run runs 0 filled sorted chosen))
  after_runs runs (suc place) filled sorted chosen lt =
      let here : suc place - 1 + 1 ≡ suc place = omega arith in
      subst (λ from. AllAbove cmp key (flat (drop from runs))) (sym here) (after_run runs (suc place) filled sorted chosen)

  pub spot_is : (runs : List (List (K × V))) (place run : ℕ) (items : List (K × V)) (at : ℕ) (found : Bool) → run ≡ place - 1 → run_at runs run ≡ items → run < length runs
      → HaveItems runs → IsStrictlySortedBy cmp (keys_of (flat runs)) → IsRunOf cmp key runs place → IsPlaceOf cmp key items at
      → (found ≡ true → (at < length items) × ((entry : K × V) → cmp key (get_or items at entry).0 ≡ Equal))
      → (found ≡ false → at < length items → (entry : K × V) → cmp key (get_or items at entry).0 ≢ Equal)
      → IsSpotOf cmp key runs (record { run = run; at = at; found = found })
  spot_is runs place run items at found run_is items_are lt filled sorted chosen here hit miss =
      let rest : List (K × V) = flat (drop (run + 1) runs) in
      let tail_sorted : IsStrictlySortedBy cmp (keys_of (items ++ rest)) = subst (λ all. IsStrictlySortedBy cmp (keys_of (all ++ rest))) items_are
      (sorted_right cmp (flat (take run runs)) (run_at runs run ++ rest) (subst (λ all. IsStrictlySortedBy cmp (keys_of all)) (flat_cut runs run lt) sorted)) in
      let above : AllAbove cmp key rest = subst (λ p. p < length runs → AllAbove cmp key (flat (drop (p + 1) runs))) (sym run_is) (after_runs runs place filled sorted chosen) lt in
      record {
        run_within = λ _. lt;
        within = subst (λ all. at ≤ length all) (sym items_are) here.within;
        found_within = λ is. subst (λ all. at < length all) (sym items_are) (hit is).0;
        before_run = subst (λ p. AllBelow cmp key (flat (take p runs))) (sym run_is) (before_runs runs place filled sorted chosen);
        before = subst (λ all. AllBelow cmp key (take at all)) (sym items_are) (before_place items rest at tail_sorted here);
        after = subst (λ all. Follows cmp key found (drop at all ++ rest)) (sym items_are) (after_place items rest at found tail_sorted here above hit miss);
      }

  pub spot_of_none : (runs : List (List (K × V))) (place run : ℕ) → run ≡ place - 1 → length runs ≤ run → IsRunOf cmp key runs place → IsSpotOf cmp key runs (record { run = run; at = 0; found = false })
  spot_of_none [] place run run_is le chosen = let none : run ≡ 0 = none_chosen place run run_is chosen.within in subst (λ r. IsSpotOf {V = V} cmp key [] (record { run = r; at = 0; found = false })) (sym none) (record {
    run_within = λ lt. lt;
    within = lit≤ tt;
    found_within = λ is. absurd (true≢false (sym is));
    before_run = tt;
    before = tt;
    after = tt;
  })
  spot_of_none (first ∷ runs) place run run_is le chosen = absurd (omega (arith, chosen.within))
