-- A document that was added last changes nothing when it is added again. Cited by the proofs of `documents`.
use Rattle.std.proofs.Common.{◌≡◌, ◌∙◌, ℕ, Option, None, Some, List, [], ◌∷◌, refl, ap, subst}
use Rattle.std.proofs.lemmas.Cmp.{nat_cmp_total, tied_itself}
use Rattle.std.specs.BTreeSet.{insert_key}
use Rattle.std.specs.Ordering.{match_ordering, nat_cmp}
use Rattle.std.specs.declared.cmp.Ordering.{Ordering}
use Rattle.std.specs.declared.cmp.Ordering.TheVariants.{Less, Equal, Greater}

-- the document that was added last, if any was, is there
abbrev pub IsThere : Option ℕ → List ℕ → Type 0
IsThere None keys = Unit {0}
IsThere (Some doc) keys = insert_key nat_cmp keys doc ≡ keys

pub same_there : (last : Option ℕ) (doc : ℕ) (keys : List ℕ) → last ≡ Some doc → IsThere last keys → insert_key nat_cmp keys doc ≡ keys
same_there last doc keys is there = subst (λ (o : Option ℕ). IsThere o keys) is there

itself : (doc : ℕ) (rest : List ℕ) → insert_key nat_cmp (doc ∷ rest) doc ≡ doc ∷ rest
itself doc rest = ap (λ (o : Ordering). match_ordering o (doc ∷ doc ∷ rest) (doc ∷ rest) (doc ∷ insert_key nat_cmp rest doc)) (tied_itself nat_cmp_total doc)

again : (doc key : ℕ) (rest : List ℕ) (o : Ordering) → nat_cmp doc key ≡ o → insert_key nat_cmp (insert_key nat_cmp rest doc) doc ≡ insert_key nat_cmp rest doc
    → insert_key nat_cmp (match_ordering o (doc ∷ key ∷ rest) (key ∷ rest) (key ∷ insert_key nat_cmp rest doc)) doc ≡ match_ordering o (doc ∷ key ∷ rest) (key ∷ rest) (key ∷ insert_key nat_cmp rest doc)
again doc key rest Less e twice = itself doc (key ∷ rest)
again doc key rest Equal e twice = ap (λ (o : Ordering). match_ordering o (doc ∷ key ∷ rest) (key ∷ rest) (key ∷ insert_key nat_cmp rest doc)) e
again doc key rest Greater e twice =
    let more : List ℕ = insert_key nat_cmp rest doc in
    ap (λ (o : Ordering). match_ordering o (doc ∷ key ∷ more) (key ∷ more) (key ∷ insert_key nat_cmp more doc)) e ∙ ap (λ (l : List ℕ). key ∷ l) twice

inserted : (keys : List ℕ) (doc : ℕ) → insert_key nat_cmp (insert_key nat_cmp keys doc) doc ≡ insert_key nat_cmp keys doc
inserted [] doc = itself doc []
inserted (key ∷ rest) doc = again doc key rest (nat_cmp doc key) refl (inserted rest doc)

pub added_there : (keys new : List ℕ) (doc : ℕ) → new ≡ insert_key nat_cmp keys doc → insert_key nat_cmp new doc ≡ new
added_there keys new doc is = rw is (inserted keys doc)
