use Rattle.std.proofs.Common.{◌≡◌, ℕ, List, [], ◌∷◌, ◌++◌, codes, ap, ◌∙◌, append_assoc}
use Rattle.nm_log.proofs.replies.add_stranger.Goals as goal

-- three texts after another
three-after : (t a b d : List ℕ) → ((t ++ a) ++ b) ++ d ≡ t ++ ((a ++ b) ++ d)
three-after t a b d = ap (λ l. l ++ d) (append_assoc t a b) ∙ append_assoc t (a ++ b) d

pub returns : goal.returns
returns c =
    let t = c.args.text.now in
    let front : List ℕ = codes "Warning: no message: id:" in
    c.in_ok-extend_from_slice-3.ensures.ok
    ∙ (ap (λ l. l ++ 10 ∷ []) (c.in_ok-extend_from_slice-2.ensures.ok ∙ ap (λ l. l ++ c.as_bytes.result.now) c.in_ok-extend_from_slice.ensures.ok)
    ∙ (three-after t front c.as_bytes.result.now (10 ∷ []) ∙ ap (λ p. t ++ ((front ++ p) ++ 10 ∷ [])) (c.as_bytes.ensures ∙ c.text.ensures.same)))
