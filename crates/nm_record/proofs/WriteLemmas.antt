-- Pieces written one after the other. For the proofs of `ChangeFormat::write` and `FactsFormat::write`.
use Rattle.std.proofs.Common.{◌≡◌, ℕ, List, ◌++◌, ap, ◌∙◌, append_assoc}

pub two_written : (before a b first second : List ℕ) → first ≡ before ++ a → second ≡ first ++ b → second ≡ before ++ (a ++ b)
two_written before a b first second e f = f ∙ ap (λ (t : List ℕ). t ++ b) e ∙ append_assoc before a b

pub four_written : (before a b c d first second third fourth : List ℕ) → first ≡ before ++ a → second ≡ first ++ b → third ≡ second ++ c → fourth ≡ third ++ d
    → fourth ≡ before ++ (a ++ (b ++ (c ++ d)))
four_written before a b c d first second third fourth e f g h =
    two_written before a (b ++ (c ++ d)) first fourth e (two_written first b (c ++ d) second fourth f (two_written second c d third fourth g h))
