-- Texts among texts. For `SameLemmas`.
use Rattle.std.proofs.Common.{◌≡◌, subst, ℕ, Bool, true, List, []}
use Rattle.std.specs.List.{list_any}
use Rattle.nm_base.specs.Order.{has_text, same_text}
use Rattle.nm_base.specs.KeyLaws.{any_of, any_one, same_text_from, same_text_of}

-- a text that passes a test
pub text_one : (p : List ℕ → Bool) (xs : List (List ℕ)) → list_any p xs ≡ true → (x : List ℕ) × (has_text xs x ≡ true) × (p x ≡ true)
text_one p xs is = let one = any_one p xs is in (one.0, any_of (same_text one.0) xs one.0 one.1 (same_text_of one.0), one.2)

pub text_any : (p : List ℕ → Bool) (xs : List (List ℕ)) (x : List ℕ) → has_text xs x ≡ true → p x ≡ true → list_any p xs ≡ true
text_any p xs x has here =
    let one = any_one (same_text x) xs has in
    any_of p xs one.0 one.1 (subst (λ y. p y ≡ true) (same_text_from x one.0 one.2) here)
