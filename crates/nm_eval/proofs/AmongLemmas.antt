-- Of the messages that a query names: all that matches is among them. For the proof of `matches`.
use Rattle.std.proofs.Common.{◌≡◌, refl, sym, ap, ◌∙◌, Bool, true, false, cond, List, [], ◌∷◌, filter, true≢false}

kept-by : {X : Type 0} (p q : X → Bool) (x : X) (xs : List X) (a b : Bool) → p x ≡ a → q x ≡ b → (p x ≡ true → q x ≡ true) → filter p (filter q xs) ≡ filter p xs
    → filter p (cond b (x ∷ filter q xs) (filter q xs)) ≡ cond a (x ∷ filter p xs) (filter p xs)
kept-by p q x xs true true here there all rest = rw here (ap (λ l. x ∷ l) rest)
kept-by p q x xs false true here there all rest = rw here rest
kept-by p q x xs true false here there all rest = absurd (true≢false (sym (all here) ∙ there))
kept-by p q x xs false false here there all rest = rest

pub kept_among : {X : Type 0} (p q : X → Bool) (xs : List X) → ((x : X) → p x ≡ true → q x ≡ true) → filter p (filter q xs) ≡ filter p xs
kept_among p q [] all = refl
kept_among p q (x ∷ xs) all = kept-by p q x xs (p x) (q x) refl refl (all x) (kept_among p q xs all)
