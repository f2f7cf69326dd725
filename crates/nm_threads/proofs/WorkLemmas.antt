-- What a join costs is won in the potential of the labels.
-- For the proofs of `the_potential_of_n_ids_is_at_most_n_log_n`, `add` and `add_link`.
use Rattle.std.proofs.Common.{◌≡◌, ◌≢◌, refl, sym, ap, subst, ◌∙◌, ℕ, suc, ◌+◌, ◌*◌, ◌<◌, ◌≤◌, Bool, true, false, cond, min, List, [], ◌∷◌, length, map, arith, inl, inr, ◌⊎◌, eq-eqb, ne_eqb, nat_eq}
use Rattle.std.specs.Prelude.{Contains, Some}
use Rattle.std.proofs.lemmas.Option.{same_Some}
use Rattle.nm_threads.specs.declared.maps.Thread.{Thread}
use Rattle.std.specs.List.{filter, sum_by}
use Rattle.std.proofs.lemmas.Bool.{eqb-true, cases_eq, cases_lt}
use Rattle.std.proofs.lemmas.List.Sums.{count_by-le-length, length-filter, sum_by-cons, sum_by_push}
use Rattle.nm_threads.specs.Labels.{Label, entries_of, has_entry, named}
use Rattle.nm_threads.specs.Maps.{at, labelling_of, AreMaps, given, joined_name, relabelled}
use Rattle.nm_threads.specs.Work.{Doubles, potential}
use Rattle.nm_threads.specs.declared.maps.Maps.{Maps}
use Rattle.nm_threads.proofs.FilterLemmas.{Contains_filter, filter_yes, filter_no}
use Rattle.nm_threads.proofs.JoinLemmas.{Other, joined_of, joined_other, cases_joined}
use Rattle.nm_base.specs.KeyLaws.{Contains_there, Contains_first, Contains_none}
use Rattle.nm_threads.proofs.MergeLemmas.{count_joined, count_other, join_itself}
use Rattle.nm_threads.proofs.RowLemmas.{either}
use Rattle.nm_threads.proofs.StepLemmas.{mid_is, named_by}

-- ---- sums

sum_map : (g : Label → ℕ) (r : Label → Label) (xs : List Label) → sum_by g (map r xs) ≡ sum_by (λ x. g (r x)) xs
sum_map g r [] = refl
sum_map g r (x ∷ xs) = sum_by-cons g (r x) (map r xs) ∙ ap (λ n. g (r x) + n) (sum_map g r xs) ∙ sym (sum_by-cons (λ y. g (r y)) x xs)

more_by : (g h : Label → ℕ) (p : Label → Bool) (x : Label) (xs : List Label) → sum_by g xs + length (filter p xs) ≤ sum_by h xs → (test : Bool) → p x ≡ test → (p x ≡ true → g x + 1 ≤ h x) → g x ≤ h x → sum_by g (x ∷ xs) + length (filter p (x ∷ xs)) ≤ sum_by h (x ∷ xs)
more_by g h p x xs more true is one all = omega (arith, more, one is, sum_by-cons g x xs, sum_by-cons h x xs, ap length (filter_yes p x xs is))
more_by g h p x xs more false is one all = omega (arith, more, all, sum_by-cons g x xs, sum_by-cons h x xs, ap length (filter_no p x xs is))

-- where each number is as large, and larger by one for those that pass, the sum is larger by how many pass
sum_more : (g h : Label → ℕ) (p : Label → Bool) (xs : List Label) → ((x : Label) → Contains xs x → p x ≡ true → g x + 1 ≤ h x) → ((x : Label) → Contains xs x → g x ≤ h x) → sum_by g xs + length (filter p xs) ≤ sum_by h xs
sum_more g h p [] one all = omega arith
sum_more g h p (x ∷ xs) one all =
    more_by g h p x xs (sum_more g h p xs (λ y among. one y (Contains_there x xs y among)) (λ y among. all y (Contains_there x xs y among))) (p x) refl (one x (Contains_first x xs)) (all x (Contains_first x xs))

sum_least : (g h : Label → ℕ) (xs : List Label) → ((x : Label) → Contains xs x → g x ≤ h x) → sum_by g xs ≤ sum_by h xs
sum_least g h xs all = omega (arith, sum_more g h (λ x. false) xs (λ x among is. absurd (cc (is))) all)

-- ---- a join

module _ (f : ℕ → ℕ) (d : Doubles f) (x y : ℕ) (labels : List Label) (apart : x ≢ y) where
  abbrev after : List Label
  after = map (relabelled x y) labels

  abbrev size : ℕ → ℕ
  size name = length (named name labels)

  abbrev before_of : Label → ℕ
  before_of label = f (size label.name)

  abbrev after_of : Label → ℕ
  after_of label = f (length (named (joined_name x y label.name) after))

  after_is : potential f after ≡ sum_by after_of labels
  after_is = sum_map (λ label. f (length (named label.name after))) (relabelled x y) labels

  both_size : (l : Label) → (l.name ≡ x) ⊎ (l.name ≡ y) → length (named (joined_name x y l.name) after) ≡ size x + size y
  both_size l is = ap (λ name. length (named name after)) (joined_of x y l.name is) ∙ count_joined x y labels apart

  other_size : (l : Label) → Other x y l.name → length (named (joined_name x y l.name) after) ≡ size l.name
  other_size l other = ap (λ name. length (named name after)) (joined_other x y l.name other.not_x other.not_y) ∙ count_other x y l.name labels other

  as_large : (l : Label) → ((l.name ≡ x) ⊎ (l.name ≡ y)) ⊎ Other x y l.name → before_of l ≤ after_of l
  as_large l (inl (inl is)) = d.rises (size l.name) (length (named (joined_name x y l.name) after)) (omega (arith, both_size l (inl is), ap size is))
  as_large l (inl (inr is)) = d.rises (size l.name) (length (named (joined_name x y l.name) after)) (omega (arith, both_size l (inr is), ap size is))
  as_large l (inr other) = d.rises (size l.name) (length (named (joined_name x y l.name) after)) (omega (arith, other_size l other))

  some_by : (l : Label) (xs : List Label) → Contains xs l → 1 ≤ length xs
  some_by l [] among = absurd (Contains_none l among)
  some_by l (k ∷ xs) among = omega arith

  some : (l : Label) → Contains labels l → 1 ≤ size l.name
  some l among = some_by l (named l.name labels) (Contains_filter (λ label. nat_eq label.name l.name) labels l among (eq-eqb l.name l.name refl))

  -- an id of the smaller side counts one more
  larger : (l : Label) → Contains labels l → (l.name ≡ x) ⊎ (l.name ≡ y) → 2 * size l.name ≤ size x + size y → before_of l + 1 ≤ after_of l
  larger l among is twice = omega (arith, d.doubles (size l.name) (some l among), d.rises (2 * size l.name) (length (named (joined_name x y l.name) after)) (omega (arith, both_size l is, twice)))

  potential_by : (size x < size y) ⊎ (size y ≤ size x) → potential f labels + min (size x) (size y) ≤ potential f after
  potential_by (inl lt) =
      omega (
        arith,
        lt,
        after_is,
        sum_more before_of after_of (λ label. nat_eq label.name x) labels (λ l among is. larger l among (inl (eqb-true l.name x is)) (omega (arith, lt, ap size (eqb-true l.name x is)))) (λ l among. as_large l (cases_joined x y l.name)),
      )
  potential_by (inr le) =
      omega (
        arith,
        le,
        after_is,
        sum_more before_of after_of (λ label. nat_eq label.name y) labels (λ l among is. larger l among (inr (eqb-true l.name y is)) (omega (arith, le, ap size (eqb-true l.name y is)))) (λ l among. as_large l (cases_joined x y l.name)),
      )

  pub potential_joined : potential f labels + min (size x) (size y) ≤ potential f after
  potential_joined = potential_by (cases_lt (size x) (size y))

-- ---- an id more

module _ (f : ℕ → ℕ) (old mid : Maps) (are : AreMaps old) (are_mid : AreMaps mid) (link : List ℕ) (is : labelling_of mid ≡ given (labelling_of old) link) where
  grown_by : (test : Bool) → potential f (labelling_of old).labels ≤ potential f (either (labelling_of old) link test).labels
  grown_by true = omega arith
  grown_by false =
      let all : List Label = (either (labelling_of old) link false).labels in
      omega (
        arith,
        sum_by_push (λ (label : Label). f (length (named label.name all))) (labelling_of old).labels (record { id = link; number = old.next; name = old.next }),
        sum_least (λ label. f (length (named label.name (labelling_of old).labels))) (λ label. f (length (named label.name all))) (labelling_of old).labels
            (λ a among. omega (arith, ap (λ xs. f (length xs)) (named_by old mid are are_mid link is a among false))),
      )

  pub potential_given : potential f (labelling_of old).labels ≤ potential f (labelling_of mid).labels
  potential_given =
      subst (λ l. potential f (labelling_of old).labels ≤ potential f l.labels) (sym (mid_is old mid are are_mid link is)) (grown_by (has_entry (entries_of (labelling_of old).labels) link))

-- ---- a join of two groups

module _ (f : ℕ → ℕ) (d : Doubles f) (mid new : Maps) (are : AreMaps mid) (g h : ℕ) (s t : Thread) (thread : at g mid.threads ≡ Some s) (other : at h mid.threads ≡ Some t) (labels : (labelling_of new).labels ≡ map (relabelled s.name t.name) (labelling_of mid).labels) where
  same_work : g ≡ h → potential f (labelling_of mid).labels ≡ potential f (labelling_of new).labels
  same_work same =
      let one : s ≡ t = same_Some s t (sym thread ∙ ap (λ k. at k mid.threads) same ∙ other) in
      ap (potential f) (join_itself (labelling_of mid).labels s.name t.name (ap (λ x. x.name) one) ∙ sym labels)

  both_work : g ≢ h → potential f (labelling_of mid).labels + min s.len t.len ≤ potential f (labelling_of new).labels
  both_work apart =
      omega (
        arith,
        are.counted g s thread,
        are.counted h t other,
        potential_joined f d s.name t.name (labelling_of mid).labels (λ is. apart (are.apart g h s t thread other is)),
        ap (potential f) labels,
      )

  pub join_work : (before after : ℕ) → after ≡ before + cond (nat_eq g h) 0 (min s.len t.len) → after + potential f (labelling_of mid).labels ≤ before + potential f (labelling_of new).labels
  join_work before after cost = elim (cases_eq g h) [
    | inl same ↦ omega (arith, cost, ap (λ test. cond test 0 (min s.len t.len)) (eq-eqb g h same), same_work same)
    | inr apart ↦ omega (arith, cost, ap (λ test. cond test 0 (min s.len t.len)) (ne_eqb g h apart), both_work apart)
  ]

-- ---- how large the potential is

times_more : (n m : ℕ) → suc n * m ≡ m + n * m
times_more n m = omega arith

named_le : (name : ℕ) (labels : List Label) → length (named name labels) ≤ length labels
named_le name labels = omega (arith, length-filter (λ label. nat_eq label.name name) labels, count_by-le-length (λ label. nat_eq label.name name) labels)

sum_most : (g : Label → ℕ) (m : ℕ) (xs : List Label) → ((x : Label) → g x ≤ m) → sum_by g xs ≤ length xs * m
sum_most g m [] all = omega arith
sum_most g m (x ∷ xs) all = omega (arith, sum_by-cons g x xs, all x, sum_most g m xs all, times_more (length xs) m)

pub potential_most : (f : ℕ → ℕ) (labels : List Label) → Doubles f → potential f labels ≤ length labels * f (length labels)
potential_most f labels d = sum_most (λ label. f (length (named label.name labels))) (f (length labels)) labels (λ label. d.rises (length (named label.name labels)) (length labels) (named_le label.name labels))
