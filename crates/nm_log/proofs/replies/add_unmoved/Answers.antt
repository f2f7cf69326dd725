use Rattle.std.proofs.Common.{◌≡◌, ℕ, List, [], ◌∷◌, ◌++◌, codes, ap, ◌∙◌, append_assoc}
use Rattle.nm_model_answer.specs.RenameOutcomes.{unmoved_name}
use Rattle.nm_log.proofs.replies.add_unmoved.Goals as goal

-- five texts after another
five-after : (t a b d e f : List ℕ) → ((((t ++ a) ++ b) ++ d) ++ e) ++ f ≡ t ++ ((((a ++ b) ++ d) ++ e) ++ f)
five-after t a b d e f =
    ap (λ l. ((l ++ d) ++ e) ++ f) (append_assoc t a b)
    ∙ (ap (λ l. (l ++ e) ++ f) (append_assoc t (a ++ b) d)
    ∙ (ap (λ l. l ++ f) (append_assoc t ((a ++ b) ++ d) e) ∙ append_assoc t (((a ++ b) ++ d) ++ e) f))

pub returns : goal.returns
returns c =
    let t = c.args.text.now in
    let front : List ℕ = codes "not renamed: " in
    c.in_ok-extend_from_slice-5.ensures.ok
    ∙ (ap (λ l. l ++ 10 ∷ []) (c.in_ok-extend_from_slice-4.ensures.ok
    ∙ ap (λ l. l ++ c.as_bytes-2.result.now) (c.in_ok-extend_from_slice-3.ensures.ok
    ∙ ap (λ l. l ++ 32 ∷ []) (c.in_ok-extend_from_slice-2.ensures.ok
    ∙ ap (λ l. l ++ c.as_bytes.result.now) c.in_ok-extend_from_slice.ensures.ok)))
    ∙ (five-after t front c.as_bytes.result.now (32 ∷ []) c.as_bytes-2.result.now (10 ∷ [])
    ∙ (ap (λ n. t ++ ((((front ++ n) ++ 32 ∷ []) ++ c.as_bytes-2.result.now) ++ 10 ∷ [])) (c.as_bytes.ensures.value ∙ c.unmoved_name-why.ensures)
    ∙ ap (λ p. t ++ ((((front ++ unmoved_name c.args.unmoved.now.1) ++ 32 ∷ []) ++ p) ++ 10 ∷ [])) (c.as_bytes-2.ensures ∙ c.text.ensures.same))))
