-- Calls of a disk one after the other, and the moments that they go through.
-- For `AppendLemmas`, `SyncLemmas` and `WriteLemmas`.
use Rattle.std.proofs.Common.{◌≡◌, List, [], ◌∷◌, ◌++◌, Option, None, Some, IfSome, sym, ap, ◌∙◌, inl, inr, append_assoc, ℕ}
use Rattle.std.specs.List.{AllByRecursion}
use Rattle.nm_disk.specs.declared.disk.FileNo.{FileNo}
use Rattle.nm_disk.specs.declared.state.DiskState.{DiskState}
use Rattle.nm_disk.specs.declared.state.Range.{Range}
use Rattle.nm_disk.specs.Calls.{GoesOn, MayFail}
use Rattle.nm_disk.specs.Observed.{Moments, later}
use Rattle.nm_journal.specs.Moments.{GoesThrough, LeavesOnly}

-- what follows of a call
pub goes_map : {P Q : Moments → Moments → Type 0} → ((a b : Moments) → P a b → Q a b) → (x y : Option Moments) → GoesOn P x y → GoesOn Q x y
goes_map f None None p = tt
goes_map f None (Some b) p = absurd p
goes_map f (Some a) None p = absurd p
goes_map f (Some a) (Some b) p = f a b p

-- two calls
pub goes_then : {P Q R : Moments → Moments → Type 0} → ((a b c : Moments) → P a b → Q b c → R a c) → (x y z : Option Moments) → GoesOn P x y → GoesOn Q y z → GoesOn R x z
goes_then f None None None p q = tt
goes_then f None None (Some c) p q = absurd q
goes_then f None (Some b) z p q = absurd p
goes_then f (Some a) None z p q = absurd p
goes_then f (Some a) (Some b) None p q = absurd q
goes_then f (Some a) (Some b) (Some c) p q = f a b c p q

-- two facts of one call
pub goes_both : (P Q : Moments → Moments → Type 0) (x y : Option Moments) → GoesOn P x y → GoesOn Q x y → GoesOn (λ a b. P a b × Q a b) x y
goes_both P Q None None p q = tt
goes_both P Q None (Some b) p q = absurd p
goes_both P Q (Some a) None p q = absurd p
goes_both P Q (Some a) (Some b) p q = (p, q)

-- what is known at the beginning of a call
pub goes_from : (A : Moments → Type 0) (P : Moments → Moments → Type 0) (x y : Option Moments) → IfSome x A → GoesOn P x y → GoesOn (λ a b. A a × P a b) x y
goes_from A P None None known p = tt
goes_from A P None (Some b) known p = absurd p
goes_from A P (Some a) None known p = absurd p
goes_from A P (Some a) (Some b) known p = (known, p)

-- what is known at its end
pub goes_to : {A B : Moments → Type 0} {P : Moments → Moments → Type 0} → ((a b : Moments) → P a b → A a → B b) → (x y : Option Moments) → GoesOn P x y → IfSome x A → IfSome y B
goes_to f None None p known = known
goes_to f None (Some b) p known = absurd p
goes_to f (Some a) None p known = absurd p
goes_to f (Some a) (Some b) p known = f a b p known

pub if_map : {A B : Moments → Type 0} → ((a : Moments) → A a → B a) → (x : Option Moments) → IfSome x A → IfSome x B
if_map f None known = known
if_map f (Some a) known = f a known

pub if_both : (A B : Moments → Type 0) (x : Option Moments) → IfSome x A → IfSome x B → IfSome x (λ a. A a × B a)
if_both A B None known also = known
if_both A B (Some a) known also = (known, also)

each_append : (P : DiskState → Type 0) (xs ys : List DiskState) → AllByRecursion P xs → AllByRecursion P ys → AllByRecursion P (xs ++ ys)
each_append P [] ys all_xs all_ys = all_ys
each_append P (x ∷ xs) ys all_xs all_ys = (all_xs.0, each_append P xs ys all_xs.1 all_ys)

each_map : (P Q : DiskState → Type 0) → ((s : DiskState) → P s → Q s) → (xs : List DiskState) → AllByRecursion P xs → AllByRecursion Q xs
each_map P Q f [] all = tt
each_map P Q f (x ∷ xs) all = (f x all.0, each_map P Q f xs all.1)

module _ (file : FileNo) (P : List ℕ → Type 0) where
  pub through_then : (a b c : Moments) → GoesThrough file P a b → GoesThrough file P b c → GoesThrough file P a c
  through_then a b c first second = record {
    states = second.states ++ first.states;
    each = each_append (LeavesOnly file P) second.states first.states second.each first.each;
    are = second.are ∙ ap (λ l. second.states ++ l) first.are ∙ sym (append_assoc second.states first.states (a.present ∷ a.past));
  }

  -- one moment
  pub through_one : (a b : Moments) (state : DiskState) → b ≡ later a state → LeavesOnly file P state → GoesThrough file P a b
  through_one a b state e leaves = record {
    states = state ∷ [];
    each = (leaves, tt);
    are = ap (λ (m : Moments). m.present ∷ m.past) e;
  }

  -- a call that failed
  pub through_failed : (a b : Moments) (written : List Range) → MayFail a b written
      → ((state : DiskState) → state.synced ≡ a.present.synced → state.written ≡ written → LeavesOnly file P state) → GoesThrough file P a b
  through_failed a b written (inl e) leaves = record { states = []; each = tt; are = ap (λ (m : Moments). m.present ∷ m.past) e }
  through_failed a b written (inr f) leaves = through_one a b f.0 f.1 (leaves f.0 f.2 f.3)

pub through_map : (file : FileNo) (P Q : List ℕ → Type 0) → ((bytes : List ℕ) → P bytes → Q bytes) → (a b : Moments) → GoesThrough file P a b → GoesThrough file Q a b
through_map file P Q f a b through = record {
  states = through.states;
  each = each_map (LeavesOnly file P) (LeavesOnly file Q) (λ s leaves bytes left. f bytes (leaves bytes left)) through.states through.each;
  are = through.are;
}
