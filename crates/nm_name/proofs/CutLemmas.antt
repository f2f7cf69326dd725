-- A text is cut at its last byte of a value in one way, and so is one that was put together there.
-- For the proof of `cut_at_last`.
use Rattle.std.proofs.Common.{◌≡◌, ◌≢◌, ℕ, ◌<◌, Bool, true, false, ◌==◌, List, [], ◌∷◌, ◌++◌, length, take, drop, get_or, take-append-drop, Option, None, Some, if◌then◌else◌, refl, sym, ap, ◌∙◌, subst}
use Rattle.std.proofs.lemmas.Bool.{eqb-false, eqb-true, false_from_ne_true, or_parts, true_from_ne_false}
use Rattle.std.proofs.lemmas.List.Elements.{All-from_get_or}
use Rattle.std.proofs.lemmas.List.Folds.{list_any_none}
use Rattle.std.specs.Option.{MatchOption}
use Rattle.std.specs.Str.Pattern.{RFindsChar, SplitsAroundMatch}
use Rattle.std.proofs.Common.{Bor}
use Rattle.std.proofs.lemmas.Str.Pattern.{NoCharPasses-char, drop_at_char}
use Rattle.nm_name.specs.Cuts.{IsCutLast, cut_before, cut_last, holds}

pub lacks : (wanted : ℕ) (bytes : List ℕ) → ((i : ℕ) → i < length bytes → get_or bytes i 0 ≢ wanted) → holds wanted bytes ≡ false
lacks wanted bytes none = list_any_none (λ b. b == wanted) bytes (All-from_get_or (λ b. (b == wanted) ≡ false) bytes 0 (λ i within. false_from_ne_true (get_or bytes i 0 == wanted) (λ e. none i within (eqb-true (get_or bytes i 0) wanted e))))

pub cut_none : (wanted : ℕ) (bytes : List ℕ) → holds wanted bytes ≡ false → cut_last wanted bytes ≡ None
cut_none wanted [] lacking = refl
cut_none wanted (byte ∷ bytes) lacking =
    let parts = or_parts (byte == wanted) (holds wanted bytes) lacking in
    ap (cut_before wanted byte bytes) (cut_none wanted bytes parts.1) ∙ ap (λ here. if here then Some ([], bytes) else None) parts.0

pub cut_again : (wanted : ℕ) (front back : List ℕ) → holds wanted back ≡ false → cut_last wanted (front ++ wanted ∷ back) ≡ Some (front, back)
cut_again wanted [] back lacking =
    ap (cut_before wanted wanted back) (cut_none wanted back lacking) ∙ ap (λ here. if here then Some ([], back) else None) (true_from_ne_false (wanted == wanted) (λ e. eqb-false wanted wanted e refl))
cut_again wanted (byte ∷ front) back lacking = ap (cut_before wanted byte (front ++ wanted ∷ back)) (cut_again wanted front back lacking)

-- a text that is split around the last such character
pub parted : (wanted : ℕ) (text : List ℕ) (result : Option (Bor (List ℕ) × Bor (List ℕ)))
    → MatchOption result (RFindsChar wanted text None) (λ x. SplitsAroundMatch (RFindsChar wanted) text x.0.now x.1.now) → wanted < 128
    → MatchOption result (cut_last wanted text ≡ None) (λ cut. (cut_last wanted text ≡ Some (cut.0.now, cut.1.now)) × IsCutLast wanted text (cut.0.now, cut.1.now))
parted wanted text None h low = cut_none wanted text (lacks wanted text (λ i within. NoCharPasses-char wanted text i h low within))
parted wanted text (Some x) h low =
    let whole : text ≡ x.0.now ++ wanted ∷ x.1.now =
    sym (take-append-drop h.0 text) ∙ ap (λ l. take h.0 text ++ l) (drop_at_char wanted text h.0 h.1 h.2.1 low) ∙ ap (λ l. l ++ wanted ∷ drop h.1 text) (sym h.3) ∙ ap (λ l. x.0.now ++ wanted ∷ l) (sym h.4) in
    let none : holds wanted x.1.now ≡ false =
    ap (holds wanted) h.4 ∙ lacks wanted (drop h.1 text) (λ i within. NoCharPasses-char wanted (drop h.1 text) i h.2.0 low within) in
    (ap (cut_last wanted) whole ∙ cut_again wanted x.0.now x.1.now none, (whole, none))

-- a cut that is found has the wanted byte between its parts
abbrev pub Joins : ℕ → List ℕ → Option (List ℕ × List ℕ) → Type 0
Joins wanted bytes found = MatchOption found (Unit {0}) (λ cut. bytes ≡ cut.0 ++ wanted ∷ cut.1)

here_joins : (wanted byte : ℕ) (bytes : List ℕ) (here : Bool) → (byte == wanted) ≡ here → Joins wanted (byte ∷ bytes) (if here then Some ([], bytes) else None)
here_joins wanted byte bytes true e = ap (λ b. b ∷ bytes) (eqb-true byte wanted e)
here_joins wanted byte bytes false e = tt

step_joins : (wanted byte : ℕ) (bytes : List ℕ) (found : Option (List ℕ × List ℕ)) → Joins wanted bytes found → Joins wanted (byte ∷ bytes) (cut_before wanted byte bytes found)
step_joins wanted byte bytes None h = here_joins wanted byte bytes (byte == wanted) refl
step_joins wanted byte bytes (Some cut) h = ap (λ l. byte ∷ l) h

pub cut_joins : (wanted : ℕ) (bytes : List ℕ) → Joins wanted bytes (cut_last wanted bytes)
cut_joins wanted [] = tt
cut_joins wanted (byte ∷ bytes) = step_joins wanted byte bytes (cut_last wanted bytes) (cut_joins wanted bytes)

-- the same, where the character was made of the byte
pub parted_at : (wanted given : ℕ) (text : List ℕ) (result : Option (Bor (List ℕ) × Bor (List ℕ))) → given ≡ wanted
    → MatchOption result (RFindsChar given text None) (λ x. SplitsAroundMatch (RFindsChar given) text x.0.now x.1.now) → given < 128
    → MatchOption result (cut_last wanted text ≡ None) (λ cut. (cut_last wanted text ≡ Some (cut.0.now, cut.1.now)) × IsCutLast wanted text (cut.0.now, cut.1.now))
parted_at wanted given text result same h low =
    subst (λ w. MatchOption result (cut_last w text ≡ None) (λ cut. (cut_last w text ≡ Some (cut.0.now, cut.1.now)) × IsCutLast w text (cut.0.now, cut.1.now))) same (parted given text result h low)
