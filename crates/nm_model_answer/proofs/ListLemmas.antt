-- Items and texts among those that pass a test. For `MatchLemmas`.
use Rattle.std.proofs.Common.{◌≡◌, refl, sym, ap, ◌∙◌, ℕ, zero, suc, Bool, true, false, ◌||◌, cond, List, [], ◌∷◌, map, filter, arith}
use Rattle.std.specs.Prelude.{Contains}
use Rattle.std.specs.List.{AllByRecursion, IsDistinct, list_any}
use Rattle.nm_base.specs.Order.{has_text, same_text}

pub there : {X : Type 0} (x : X) (xs : List X) (y : X) → Contains xs y → Contains (x ∷ xs) y
there x xs y (k, below, is) = (suc k, (omega (arith, below)), is)

pub first : {X : Type 0} (x : X) (xs : List X) (y : X) → x ≡ y → Contains (x ∷ xs) y
first x xs y is = (zero, (omega arith), is)

-- what a filter keeps was there and passes its test
kept_by : {X : Type 0} (p : X → Bool) (y : X) (xs : List X) (test : Bool) → p y ≡ test → (x : X) → (Contains (filter p xs) x → Contains xs x × (p x ≡ true))
    → Contains (cond test (y ∷ filter p xs) (filter p xs)) x → Contains (y ∷ xs) x × (p x ≡ true)
kept_by p y xs true is x more (zero, below, here) = (first y xs x here, ap p (sym here) ∙ is)
kept_by p y xs true is x more (suc k, below, here) = let rest = more (k, (omega (arith, below)), here) in (there y xs x rest.0, rest.1)
kept_by p y xs false is x more among = let rest = more among in (there y xs x rest.0, rest.1)

pub kept : {X : Type 0} (p : X → Bool) (xs : List X) (x : X) → Contains (filter p xs) x → Contains xs x × (p x ≡ true)
kept p [] x among = absurd (omega (arith, among.1))
kept p (y ∷ xs) x among = kept_by p y xs (p y) refl x (kept p xs x) among

-- and what was there and passes is kept
keeps_by : {X : Type 0} (p : X → Bool) (y : X) (xs : List X) (test : Bool) (x : X) → Contains (filter p xs) x → Contains (cond test (y ∷ filter p xs) (filter p xs)) x
keeps_by p y xs true x among = there y (filter p xs) x among
keeps_by p y xs false x among = among

pub keeps : {X : Type 0} (p : X → Bool) (xs : List X) (x : X) → Contains xs x → p x ≡ true → Contains (filter p xs) x
keeps p [] x among is = absurd (omega (arith, among.1))
keeps p (y ∷ xs) x (zero, below, here) is = rw (ap p here ∙ is) (first y (filter p xs) x here)
keeps p (y ∷ xs) x (suc k, below, here) is = keeps_by p y xs (p y) x (keeps p xs x (k, (omega (arith, below)), here) is)

-- a filter keeps texts apart
all_by : {X : Type 0} (P : X → Type 0) (p : X → Bool) (x : X) (xs : List X) (test : Bool) → P x → AllByRecursion P (filter p xs) → AllByRecursion P (cond test (x ∷ filter p xs) (filter p xs))
all_by P p x xs true here rest = (here, rest)
all_by P p x xs false here rest = rest

all_kept : {X : Type 0} (P : X → Type 0) (p : X → Bool) (xs : List X) → AllByRecursion P xs → AllByRecursion P (filter p xs)
all_kept P p [] all = tt
all_kept P p (x ∷ xs) all = all_by P p x xs (p x) all.0 (all_kept P p xs all.1)

distinct_by : (p : List ℕ → Bool) (x : List ℕ) (xs : List (List ℕ)) (test : Bool) → AllByRecursion (λ y. same_text x y ≡ false) xs → IsDistinct same_text (filter p xs)
    → IsDistinct same_text (cond test (x ∷ filter p xs) (filter p xs))
unfolding IsDistinct
distinct_by p x xs true apart rest = (all_kept (λ y. same_text x y ≡ false) p xs apart, rest)
distinct_by p x xs false apart rest = rest

pub distinct_kept : (p : List ℕ → Bool) (xs : List (List ℕ)) → IsDistinct same_text xs → IsDistinct same_text (filter p xs)
unfolding IsDistinct
distinct_kept p [] distinct = tt
distinct_kept p (x ∷ xs) distinct = distinct_by p x xs (p x) distinct.0 (distinct_kept p xs distinct.1)

-- a filter of entries by their ids is one of the ids
ids_by : (p : List ℕ → Bool) (entry : List ℕ × ℕ) (entries : List (List ℕ × ℕ)) (test : Bool)
    → map (λ e. e.0) (filter (λ e. p e.0) entries) ≡ filter p (map (λ e. e.0) entries)
    → map (λ e. e.0) (cond test (entry ∷ filter (λ e. p e.0) entries) (filter (λ e. p e.0) entries)) ≡ cond test (entry.0 ∷ filter p (map (λ e. e.0) entries)) (filter p (map (λ e. e.0) entries))
ids_by p entry entries true rest = ap (λ ids. entry.0 ∷ ids) rest
ids_by p entry entries false rest = rest

pub ids_kept : (p : List ℕ → Bool) (entries : List (List ℕ × ℕ)) → map (λ e. e.0) (filter (λ e. p e.0) entries) ≡ filter p (map (λ e. e.0) entries)
ids_kept p [] = refl
ids_kept p (entry ∷ entries) = ids_by p entry entries (p entry.0) (ids_kept p entries)

-- an id has an entry where it is one of their ids
pub entry_ids_have : (id : List ℕ) (entries : List (List ℕ × ℕ)) → list_any (λ e. same_text id e.0) entries ≡ has_text (map (λ e. e.0) entries) id
entry_ids_have id [] = refl
entry_ids_have id (entry ∷ entries) = ap (λ b. same_text id entry.0 || b) (entry_ids_have id entries)
