-- A text is read up to its first tag, and after that. For the proofs of `after_tag` and `strip_html_tags`.
use Rattle.std.proofs.Common.{◌≡◌, ℕ, suc, ◌+◌, ◌<◌, ◌≤◌, true, false, cond, not, List, [], ◌∷◌, ◌++◌, length, take, drop, refl, sym, ap, ◌∙◌, append_assoc, arith}
use Rattle.std.specs.List.{after_first, before_first, position_or_len}
use Rattle.nm_text.specs.Cuts.{is_byte}
use Rattle.nm_extract.specs.Html.{strip_from}

-- up to the first tag the text is as it was, and then comes a space
strip-cut : (text : List ℕ) → position_or_len (is_byte 60) text < length text
    → strip_from false text ≡ before_first (is_byte 60) text ++ 32 ∷ strip_from true (after_first (is_byte 60) text)
strip-cut [] h = absurd (omega arith)
strip-cut (b ∷ more) h =
    let n : ℕ = position_or_len (is_byte 60) more in
    let one : 1 + n ≡ suc n = omega arith in
    let two : 1 + n + 1 ≡ suc (n + 1) = omega arith in
    elim (is_byte 60 b) as (λ v. cond (not v) (1 + n) 0 < length (b ∷ more) → cond v (32 ∷ strip_from true more) (b ∷ strip_from false more) ≡ take (cond (not v) (1 + n) 0) (b ∷ more) ++ 32 ∷ strip_from true (drop (cond (not v) (1 + n) 0 + 1) (b ∷ more))) [
      | true ↦ λ h. refl
      | false ↦ λ h. ap (λ l. b ∷ l) (strip-cut more (omega arith)) ∙ (ap (λ k. take k (b ∷ more) ++ 32 ∷ strip_from true (drop (n + 1) more)) (sym one) ∙ ap (λ k. take (1 + n) (b ∷ more) ++ 32 ∷ strip_from true (drop k (b ∷ more))) (sym two))
    ] h

-- a text without a tag stays
pub strip-whole : (text : List ℕ) → length text ≤ position_or_len (is_byte 60) text → strip_from false text ≡ text
strip-whole [] h = refl
strip-whole (b ∷ more) h =
    elim (is_byte 60 b) as (λ v. length (b ∷ more) ≤ cond (not v) (1 + position_or_len (is_byte 60) more) 0 → cond v (32 ∷ strip_from true more) (b ∷ strip_from false more) ≡ b ∷ more) [
      | true ↦ λ h. absurd (omega arith)
      | false ↦ λ h. ap (λ l. b ∷ l) (strip-whole more (omega arith))
    ] h

-- what comes after the end of a tag is read
pub strip-after : (text : List ℕ) → position_or_len (is_byte 62) text < length text → strip_from true text ≡ strip_from false (after_first (is_byte 62) text)
strip-after [] h = absurd (omega arith)
strip-after (b ∷ more) h =
    let n : ℕ = position_or_len (is_byte 62) more in
    let two : 1 + n + 1 ≡ suc (n + 1) = omega arith in
    elim (is_byte 62 b) as (λ v. cond (not v) (1 + n) 0 < length (b ∷ more) → cond v (strip_from false more) (strip_from true more) ≡ strip_from false (drop (cond (not v) (1 + n) 0 + 1) (b ∷ more))) [
      | true ↦ λ h. refl
      | false ↦ λ h. strip-after more (omega arith) ∙ ap (λ k. strip_from false (drop k (b ∷ more))) (sym two)
    ] h

-- a tag without an end runs to the end
pub strip-lost : (text : List ℕ) → length text ≤ position_or_len (is_byte 62) text → strip_from true text ≡ []
strip-lost [] h = refl
strip-lost (b ∷ more) h =
    elim (is_byte 62 b) as (λ v. length (b ∷ more) ≤ cond (not v) (1 + position_or_len (is_byte 62) more) 0 → cond v (strip_from false more) (strip_from true more) ≡ []) [
      | true ↦ λ h. absurd (omega arith)
      | false ↦ λ h. strip-lost more (omega arith)
    ] h

-- a turn: the text before a tag is kept, and a space
pub strip-turn : (kept text before tag rest : List ℕ) → position_or_len (is_byte 60) text < length text → before ≡ before_first (is_byte 60) text → tag ≡ after_first (is_byte 60) text
    → strip_from true tag ≡ strip_from false rest → ((kept ++ before) ++ 32 ∷ []) ++ strip_from false rest ≡ kept ++ strip_from false text
strip-turn kept text before tag rest h b t r =
    append_assoc (kept ++ before) (32 ∷ []) (strip_from false rest)
    ∙ append_assoc kept before (32 ∷ strip_from false rest)
    ∙ ap (λ x. kept ++ (x ++ 32 ∷ strip_from false rest)) b
    ∙ ap (λ x. kept ++ (before_first (is_byte 60) text ++ 32 ∷ x)) (sym r ∙ ap (strip_from true) t)
    ∙ ap (λ x. kept ++ x) (sym (strip-cut text h))
