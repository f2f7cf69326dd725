-- Messages by their threads, where only those of some threads are looked at.
-- For the proofs of `groups_of`, `summary_lines` and others.
use Rattle.std.proofs.Common.{◌≡◌, refl, sym, ap, ap₂, subst, ◌∙◌, ℕ, ◌==◌, Bool, true, false, cond, List, [], ◌∷◌, ◌++◌, map, filter, nat_eq, Option, Some, None, true≢false, arith}
use Rattle.std.specs.List.{flat_map, list_any}
use Rattle.std.proofs.lemmas.Bool.{eq-eqb, eqb-true, or_left, or_right}
use Rattle.std.proofs.lemmas.Bool.Decides.{nat_tests}
use Rattle.nm_model_index.specs.Index.{live_ids, rows_of}
use Rattle.nm_model_index.specs.declared.base.Base.{Base}
use Rattle.nm_state.specs.Snapshot.{has_name, thread_messages}
use Rattle.nm_threads.specs.Name.{thread_name}
use Rattle.nm_model_answer.specs.Summary.{in_thread, members_of}
use Rattle.nm_model_answer.specs.Test.{is_thread}

filter_same : {X : Type 0} (p q : X → Bool) (xs : List X) → ((x : X) → p x ≡ q x) → filter p xs ≡ filter q xs
filter_same p q [] same = refl
filter_same p q (x ∷ xs) same = ap₂ (λ keeps rest. cond keeps (x ∷ rest) rest) (same x) (filter_same p q xs same)

-- ---- the messages of a thread

turned : (a b : ℕ) → (a == b) ≡ (b == a)
turned a b = grind (arith, nat_tests)

named_same : (name : ℕ) (told : Option ℕ) → has_name name told ≡ is_thread (Some name) told
named_same name None = refl
named_same name (Some other) = turned other name

pub members_same : (index : Base) (name : ℕ) → thread_messages index name ≡ members_of index name
members_same index name =
    filter_same (λ id. has_name name (thread_name (rows_of index) index.entries id)) (λ id. is_thread (Some name) (thread_name (rows_of index) index.entries id)) (live_ids index.files index.entries)
    (λ id. named_same name (thread_name (rows_of index) index.entries id))

-- ---- each thread of a list

itself : (name : ℕ) → nat_eq name name ≡ true
itself name = eq-eqb name name refl

pub told_within : {Y : Type 0} (f : ℕ → List ℕ) (g : ℕ → Y) (h : Y → List ℕ) (names : List ℕ) → ((name : ℕ) → list_any (nat_eq name) names ≡ true → f name ≡ h (g name))
    → flat_map f names ≡ flat_map h (map g names)
told_within f g h [] same = refl
told_within f g h (name ∷ names) same =
    ap₂ (λ front rest. front ++ rest) (same name (or_left (nat_eq name name) (list_any (nat_eq name) names) (itself name)))
    (told_within f g h names (λ other among. same other (or_right (nat_eq other name) (list_any (nat_eq other) names) among)))

pub mapped_within : {Y : Type 0} (f g : ℕ → Y) (names : List ℕ) → ((name : ℕ) → list_any (nat_eq name) names ≡ true → f name ≡ g name) → map f names ≡ map g names
mapped_within f g [] same = refl
mapped_within f g (name ∷ names) same =
    ap₂ (λ first rest. first ∷ rest) (same name (or_left (nat_eq name name) (list_any (nat_eq name) names) (itself name)))
    (mapped_within f g names (λ other among. same other (or_right (nat_eq other name) (list_any (nat_eq other) names) among)))
