-- Items read one after the other, as a loop does. For the proofs of `read_items` and `read_words`.
use Rattle.std.proofs.Common.{Some, ◌≡◌, ℕ, suc, Bool, ◌-◌, ◌+◌, ◌≤◌, ◌<◌, List, [], ◌∷◌, ◌++◌, Ok, Err, refl, sym, ap, ◌∙◌, append_assoc, append-nil, arith}
use Rattle.std.specs.Prelude.{length, slice_get}
use Rattle.std.proofs.lemmas.List.{length_push}
use Rattle.nm_codec.specs.declared.read_error.ReadError.{ReadError}
use Rattle.nm_codec.specs.declared.read_error.ReadError.TheVariants as errors
use Rattle.nm_codec.specs.ReadSteps.{◌>>=◌, GivesUnlessNoMemory, Place, Reading, follows, items_at, last_of, rising_items_at, tested_at}

-- what was read before, and what is still read
abbrev pub with_front : {A : Type 0} → List A → Reading (List A) → Reading (List A)
with_front front read = read >>= λ x. Ok (front ++ x.0, x.1)

regroup : {A : Type 0} (front : List A) (x : A) (read : Reading (List A)) → with_front front (read >>= λ y. Ok (x ∷ y.0, y.1)) ≡ with_front (front ++ x ∷ []) read
regroup {A = A} front x (Ok y) = ap (λ (xs : List A). Ok (xs, y.1)) (simp append_assoc)
regroup front x (Err left) = refl

module _ {A : Type 0} (read : List ℕ → Reading A) (front : List A) (count i : ℕ) (bytes : List ℕ) (total : Reading (List A)) where
  -- an item more
  pub goes_on : (x : A) (after : List ℕ) → i < count → read bytes ≡ Ok (x, after) → with_front front (items_at read (count - i) bytes) ≡ total
      → with_front (front ++ x ∷ []) (items_at read (count - (i + 1)) after) ≡ total
  unfolding items_at
  goes_on x after lt h so_far =
      let k : count - i ≡ suc (count - (i + 1)) = omega arith in
      let one : with_front front (items_at read (count - i) bytes) ≡ with_front (front ++ x ∷ []) (items_at read (count - (i + 1)) after) = rw (k, h) (regroup front x (items_at read (count - (i + 1)) after)) in
      sym one ∙ so_far

  -- no item more
  pub is_done : count ≤ i → with_front front (items_at read (count - i) bytes) ≡ total → total ≡ Ok (front, bytes)
  unfolding items_at
  is_done le so_far =
      let k : count - i ≡ 0 = omega arith in
      let one : with_front front (items_at read (count - i) bytes) ≡ Ok (front, bytes) = rw k (ap (λ (xs : List A). Ok (xs, bytes)) (append-nil front)) in
      sym so_far ∙ one

  faulty : (left : ℕ) → i < count → read bytes ≡ Err left → with_front front (items_at read (count - i) bytes) ≡ total → total ≡ Err left
  unfolding items_at
  faulty left lt h so_far =
      let k : count - i ≡ suc (count - (i + 1)) = omega arith in
      let one : with_front front (items_at read (count - i) bytes) ≡ Err left = rw (k, h) refl in
      sym so_far ∙ one

-- an item that is not read
pub stops : {A : Type 0} (read : List ℕ → Reading A) (front : List A) (count i : ℕ) (total : Reading (List A)) (old mid new last : Place) (e : ReadError) → mid.len ≡ old.len → i < count
    → with_front front (items_at read (count - i) mid.rest) ≡ total → GivesUnlessNoMemory mid (Err e) new (read mid.rest) → GivesUnlessNoMemory old (Err e) last total
stops read front count i total old mid new last errors.NoMemory same lt so_far gives = tt
stops read front count i total old mid new last (errors.Bad at) same lt so_far gives =
    (omega (arith, gives.0, same), faulty read front count i mid.rest total (mid.len - at) lt gives.1 so_far ∙ ap (λ n. Err (n - at)) same)

at_end : {A : Type 0} (xs : List A) (x : A) → slice_get (xs ++ x ∷ []) (length xs) ≡ Some x
at_end [] x = refl
at_end (y ∷ ys) x = at_end ys x

pub last-push : {A : Type 0} (xs : List A) (x : A) → last_of (xs ++ x ∷ []) ≡ Some x
last-push xs x =
    let k : length (xs ++ x ∷ []) - 1 ≡ length xs = omega (arith, length_push xs x) in
    ap (slice_get (xs ++ x ∷ [])) k ∙ at_end xs x

module _ {A : Type 0} (below : A → A → Bool) (read : List ℕ → Reading A) (front : List A) (count i : ℕ) (bytes : List ℕ) (total : Reading (List A)) where
  -- an item more, which follows those before
  pub rises_on : (x : A) (after : List ℕ) → i < count → tested_at (follows below (last_of front)) read bytes ≡ Ok (x, after)
      → with_front front (rising_items_at below read (last_of front) (count - i) bytes) ≡ total
      → with_front (front ++ x ∷ []) (rising_items_at below read (last_of (front ++ x ∷ [])) (count - (i + 1)) after) ≡ total
  unfolding rising_items_at
  rises_on x after lt h so_far =
      let k : count - i ≡ suc (count - (i + 1)) = omega arith in
      let rest = rising_items_at below read (Some x) (count - (i + 1)) after in
      let one : with_front front (rising_items_at below read (last_of front) (count - i) bytes) ≡ with_front (front ++ x ∷ []) rest = rw (k, h) (regroup front x rest) in
      rw (last-push front x) (sym one ∙ so_far)

  -- no item more
  pub has_risen : count ≤ i → with_front front (rising_items_at below read (last_of front) (count - i) bytes) ≡ total → total ≡ Ok (front, bytes)
  unfolding rising_items_at
  has_risen le so_far =
      let k : count - i ≡ 0 = omega arith in
      let one : with_front front (rising_items_at below read (last_of front) (count - i) bytes) ≡ Ok (front, bytes) = rw k (ap (λ (xs : List A). Ok (xs, bytes)) (append-nil front)) in
      sym so_far ∙ one

  risen_fault : (left : ℕ) → i < count → tested_at (follows below (last_of front)) read bytes ≡ Err left → with_front front (rising_items_at below read (last_of front) (count - i) bytes) ≡ total → total ≡ Err left
  unfolding rising_items_at
  risen_fault left lt h so_far =
      let k : count - i ≡ suc (count - (i + 1)) = omega arith in
      let one : with_front front (rising_items_at below read (last_of front) (count - i) bytes) ≡ Err left = rw (k, h) refl in
      sym so_far ∙ one

-- an item that is not read, or does not follow
pub falls : {A : Type 0} (below : A → A → Bool) (read : List ℕ → Reading A) (front : List A) (count i : ℕ) (total : Reading (List A)) (old mid new last : Place) (e : ReadError) → mid.len ≡ old.len → i < count
    → with_front front (rising_items_at below read (last_of front) (count - i) mid.rest) ≡ total → GivesUnlessNoMemory mid (Err e) new (tested_at (follows below (last_of front)) read mid.rest) → GivesUnlessNoMemory old (Err e) last total
falls below read front count i total old mid new last errors.NoMemory same lt so_far gives = tt
falls below read front count i total old mid new last (errors.Bad at) same lt so_far gives =
    (omega (arith, gives.0, same), risen_fault below read front count i mid.rest total (mid.len - at) lt gives.1 so_far ∙ ap (λ n. Err (n - at)) same)
