-- A mark is put in before others. For the proof of `put_lane_read`.
use Rattle.std.proofs.Common.{◌≡◌, ℕ, ◌≤◌, List, [], ◌∷◌, ◌++◌, drop, length, take, zero, suc, refl, ap, ◌∙◌, arith}
use Rattle.nm_trace.specs.declared.trace.Mark.{Mark}

take-front : (n : ℕ) (ms ys : List Mark) → n ≤ length ms → take n (take n ms ++ ys) ≡ take n ms
take-front zero ms ys within = refl
take-front (suc n) [] ys within = absurd (omega (arith, within))
take-front (suc n) (m ∷ ms) ys within = ap (λ (l : List Mark). m ∷ l) (take-front n ms ys (omega (arith, within)))

drop-front : (n : ℕ) (ms ys : List Mark) → n ≤ length ms → drop n (take n ms ++ ys) ≡ ys
drop-front zero ms ys within = refl
drop-front (suc n) [] ys within = absurd (omega (arith, within))
drop-front (suc n) (m ∷ ms) ys within = drop-front n ms ys (omega (arith, within))

pub put-both : (ms between after : List Mark) (at : ℕ) (lane_read reply : Mark) → at ≤ length ms → between ≡ take at ms ++ reply ∷ drop at ms → after ≡ take at between ++ lane_read ∷ drop at between
    → after ≡ take at ms ++ (lane_read ∷ reply ∷ drop at ms)
put-both ms between after at lane_read reply within first second =
    let front : take at between ≡ take at ms = ap (take at) first ∙ take-front at ms (reply ∷ drop at ms) within in
    let back : drop at between ≡ reply ∷ drop at ms = ap (drop at) first ∙ drop-front at ms (reply ∷ drop at ms) within in
    second ∙ (ap (λ (l : List Mark). l ++ lane_read ∷ drop at between) front ∙ ap (λ (l : List Mark). take at ms ++ lane_read ∷ l) back)
