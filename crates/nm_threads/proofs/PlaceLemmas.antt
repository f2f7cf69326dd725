-- What the labels tell of one id. For the proofs of `names_of`, `place_of`, `Labels::name_of` and others.
use Rattle.std.proofs.Common.{◌≡◌, sym, ap, subst, ◌∙◌, ℕ, false, List}
use Rattle.std.specs.Prelude.{Contains, Some, None}
use Rattle.std.specs.Option.{is_some}
use Rattle.std.proofs.lemmas.Option.{none-some, same_Some}
use Rattle.nm_threads.specs.Labels.{entries_of, has_entry}
use Rattle.nm_threads.specs.Maps.{at, at_id, labelling_of, AreMaps}
use Rattle.nm_threads.specs.declared.maps.Maps.{Maps}
use Rattle.nm_threads.specs.declared.maps.Thread.{Thread}
use Rattle.nm_threads.proofs.LabelLemmas.{entry_of}
use Rattle.nm_threads.proofs.MergeLemmas.{name_found}
use Rattle.nm_threads.proofs.NumberLemmas.{label_of, has_is}

module _ (m : Maps) (are : AreMaps m) (id : List ℕ) where
  -- a number has a group, and the group a thread
  pub has_group : (n : ℕ) → Some n ≡ at_id id m.numbers → None ≡ at n m.groups → ⊥
  has_group n is none = let pair = are.grouped n id (are.found id n (sym is)) in none-some pair.0 (none ∙ pair.2)

  pub has_thread : (n g : ℕ) → Some n ≡ at_id id m.numbers → Some g ≡ at n m.groups → None ≡ at g m.threads → ⊥
  has_thread n g is group none =
      let pair = are.grouped n id (are.found id n (sym is)) in
      let same : pair.0 ≡ g = same_Some pair.0 g (sym pair.2 ∙ sym group) in
      none-some pair.1 (none ∙ ap (λ k. at k m.threads) (sym same) ∙ pair.3)

  pub no_entry : at_id id m.numbers ≡ None → has_entry (entries_of (labelling_of m).labels) id ≡ false
  no_entry none = sym (has_is m are id) ∙ ap is_some none

  pub entry_at : (n : ℕ) → Some n ≡ at_id id m.numbers → Contains (entries_of (labelling_of m).labels) (id, n)
  entry_at n is = let among = are.found id n (sym is) in entry_of (labelling_of m).labels _ (label_of m n id among)

  pub label_at_place : (n g : ℕ) (t : Thread) → Contains m.ids (n, id) → at n m.groups ≡ Some g → at g m.threads ≡ Some t → Contains (labelling_of m).labels (record { id = id; number = n; name = t.name })
  label_at_place n g t among group thread = subst (λ name. Contains (labelling_of m).labels (record { id = id; number = n; name = name })) (name_found m n g t group thread) (label_of m n id among)
