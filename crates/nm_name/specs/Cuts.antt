-- Cutting a text at the last byte of a value. Cited by `cuts`, `names` and `flagged_path`.
use Rattle.std.specs.Prelude.{◌≡◌, ℕ, Bool, ◌==◌, false, List, [], ◌∷◌, ◌++◌, Option, None, Some, if◌then◌else◌}
use Rattle.std.specs.List.{list_any}

-- the bytes hold this one
abbrev pub holds : ℕ → List ℕ → Bool
holds wanted bytes = list_any (λ b. b == wanted) bytes

-- one byte more before a cut that was found, or a cut here
abbrev pub cut_before : ℕ → ℕ → List ℕ → Option (List ℕ × List ℕ) → Option (List ℕ × List ℕ)
cut_before wanted byte rest None = (if byte == wanted then Some ([], rest) else None)
cut_before wanted byte rest (Some cut) = Some (byte ∷ cut.0, cut.1)

-- what comes before the last byte of this value, and what comes after it
abbrev pub cut_last : ℕ → List ℕ → Option (List ℕ × List ℕ)
cut_last wanted [] = None
cut_last wanted (byte ∷ bytes) = cut_before wanted byte bytes (cut_last wanted bytes)

-- the text is cut at its last byte of this value
abbrev pub IsCutLast : ℕ → List ℕ → List ℕ × List ℕ → Type 0
IsCutLast wanted bytes cut = (bytes ≡ cut.0 ++ wanted ∷ cut.1) × (holds wanted cut.1 ≡ false)
