-- A set has what was put into it, and what it had; of texts, what a filter leaves too.
-- For proofs alone: that of `TextSet::insert`, and those of `nm_model_plan`, `nm_model_answer`, `nm_writer` and others.
use Rattle.std.proofs.Common.{◌≡◌, ℕ, Bool, true, false, cond, ◌&&◌, ◌||◌, List, [], ◌∷◌, filter, fold, refl, sym, ap, ◌∙◌}
use Rattle.std.proofs.Math.Bool.{or-false, or_assoc, or_comm, or_self_left, and-false}
use Rattle.std.specs.List.{list_any}
use Rattle.std.specs.Cmp.{IsEquivalence}
use Rattle.std.specs.declared.cmp.Ordering.{Ordering}
use Rattle.std.specs.declared.cmp.Ordering.TheVariants.{Less, Equal, Greater}
use Rattle.std.specs.Ordering.{match_ordering, is_eq}
use Rattle.std.specs.BTreeSet.{insert_key}
use Rattle.std.specs.Cmp.Lexicographic.{nat_list_eq_equiv, pointwise, slice_cmp, texts_ties}
use Rattle.std.specs.Cmp.Lexicographic as lexicographic
use Rattle.std.specs.Ordering.{nat_cmp}
use Rattle.std.specs.Prelude.{nat_eq}
use Rattle.nm_base.specs.Order.{has_text, insert, same_text, sorted}

or_swap : (a b c : Bool) → (a || (b || c)) ≡ (b || (a || c))
or_swap a b c = sym (or_assoc a b c) ∙ (ap (λ x. x || c) (or_comm a b) ∙ or_assoc b a c)

module _ {K : Type 0} (cmp : K → K → Ordering) (eq : K → K → Bool) (same : (x y : K) → eq x y ≡ is_eq (cmp x y)) (laws : IsEquivalence eq) where
  -- who equals one of two that are equal equals the other
  alike : (other key x : K) → eq key x ≡ true → eq other key ≡ eq other x
  alike other key x e = laws.symm other key ∙ (laws.congr key x other e ∙ laws.symm x other)

  put : (key x other : K) (xs : List K) (o : Ordering) → cmp key x ≡ o → list_any (eq other) (insert_key cmp xs key) ≡ (eq other key || list_any (eq other) xs)
      → list_any (eq other) (match_ordering o (key ∷ x ∷ xs) (x ∷ xs) (x ∷ insert_key cmp xs key)) ≡ (eq other key || (eq other x || list_any (eq other) xs))
  put key x other xs Less e h = refl
  put key x other xs Equal e h =
      sym (or_self_left (eq other x) (list_any (eq other) xs)) ∙ ap (λ b. b || (eq other x || list_any (eq other) xs)) (sym (alike other key x (same key x ∙ ap is_eq e)))
  put key x other xs Greater e h = ap (λ b. eq other x || b) h ∙ or_swap (eq other x) (eq other key) (list_any (eq other) xs)

  pub has-inserted : (keys : List K) (key other : K) → list_any (eq other) (insert_key cmp keys key) ≡ (eq other key || list_any (eq other) keys)
  has-inserted [] key other = refl
  has-inserted (x ∷ xs) key other = put key x other xs (cmp key x) refl (has-inserted xs key other)

-- ---- sets of texts
-- texts that compare as the same are the same
pub bytes_same : (a b : List ℕ) → true ≡ same_text a b → a ≡ b
bytes_same a b e = lexicographic.same_text a b e

has_text-put : (texts : List (List ℕ)) (text other : List ℕ) → has_text (insert texts text) other ≡ (same_text other text || has_text texts other)
has_text-put = has-inserted (slice_cmp nat_cmp) (pointwise nat_eq) texts_ties nat_list_eq_equiv

has_text-fold : (texts set : List (List ℕ)) (other : List ℕ) → has_text (fold insert set texts) other ≡ (has_text set other || has_text texts other)
has_text-fold [] set other = sym (or-false (has_text set other))
has_text-fold (x ∷ xs) set other =
    has_text-fold xs (insert set x) other
    ∙ (ap (λ b. b || has_text xs other) (has_text-put set x other) ∙ (or_assoc (same_text other x) (has_text set other) (has_text xs other) ∙ or_swap (same_text other x) (has_text set other) (has_text xs other)))

-- a set has what the list has that it was made of
pub has_text-sorted : (texts : List (List ℕ)) (other : List ℕ) → has_text (sorted texts) other ≡ has_text texts other
has_text-sorted texts other = has_text-fold texts [] other

kept_case : (keep : List ℕ → Bool) (x other : List ℕ) (xs : List (List ℕ)) (b c : Bool) → keep x ≡ b → same_text other x ≡ c → has_text (filter keep xs) other ≡ (has_text xs other && keep other)
    → has_text (cond b (x ∷ filter keep xs) (filter keep xs)) other ≡ ((c || has_text xs other) && keep other)
kept_case keep x other xs true true e d h = ap (λ t. t || has_text (filter keep xs) other) d ∙ sym (ap keep (bytes_same other x (sym d)) ∙ e)
kept_case keep x other xs true false e d h = ap (λ t. t || has_text (filter keep xs) other) d ∙ h
kept_case keep x other xs false true e d h =
    let no = ap keep (bytes_same other x (sym d)) ∙ e in
    h ∙ (ap (λ t. has_text xs other && t) no ∙ (and-false (has_text xs other) ∙ sym no))
kept_case keep x other xs false false e d h = h

-- a filter takes out what does not pass
pub has_text-filter : (keep : List ℕ → Bool) (texts : List (List ℕ)) (other : List ℕ) → has_text (filter keep texts) other ≡ (has_text texts other && keep other)
has_text-filter keep [] other = refl
has_text-filter keep (x ∷ xs) other = kept_case keep x other xs (keep x) (same_text other x) refl refl (has_text-filter keep xs other)
