-- A subject without one mark more. For the proofs of `mailboxes_text`, `bare_subject` and `joined`.
use Rattle.std.proofs.Common.{◌≡◌, ◌≤◌, ◌<◌, ℕ, zero, suc, true, false, List, [], ◌∷◌, ◌++◌, map, length, take, drop, codes, refl, sym, ap, ◌∙◌, arith, append-nil, append_assoc, if◌then◌else◌}
use Rattle.std.specs.Char.{to_ascii_lowercase}
use Rattle.std.proofs.lemmas.List.{length-drop, length-map, length-take}
use Rattle.std.proofs.lemmas.Slice.Eq.{bytes_eq-Decides}
use Rattle.std.specs.List.{prefix_len}
use Rattle.nm_base.specs.Bounds.{is_white_space}
use Rattle.nm_model_answer.specs.Json.{joined}
use Rattle.nm_model_answer.specs.Summary.{after_reply, is_reply, without_replies}
use Rattle.nm_render.specs.Joined.{after_first}
use Rattle.nm_text.specs.WhiteSpace.{trimmed_start}

trimmed_len : (s : List ℕ) → length (trimmed_start s) ≤ length s
trimmed_len s = omega (arith, length-drop (prefix_len is_white_space s) s)

-- a mark has three bytes
long : (s : List ℕ) → is_reply s ≡ true → 3 ≤ length (trimmed_start s)
long s is =
    let front = take 3 (trimmed_start s) in
    let same = ap length ((bytes_eq-Decides (map to_ascii_lowercase front) (map to_ascii_lowercase (codes "re:"))).0 is) in
    omega (arith, length-map front to_ascii_lowercase, same, length-take 3 (trimmed_start s))

pub shorter : (s : List ℕ) → is_reply s ≡ true → length (after_reply s) < length s
shorter s is = omega (arith, long s is, trimmed_len s, trimmed_len (drop 3 (trimmed_start s)), length-drop 3 (trimmed_start s))

-- where there is one, the rest is without as many as are left
pub one_less : (n : ℕ) (s whole : List ℕ) → length s ≤ n → is_reply s ≡ true → without_replies n s ≡ whole → (m : ℕ) × (length (after_reply s) ≤ m) × (without_replies m (after_reply s) ≡ whole)
unfolding without_replies
one_less zero s whole fits is same = absurd (omega (arith, fits, shorter s is))
one_less (suc n) s whole fits is same =
    (n, omega (arith, fits, shorter s is), sym (ap (λ b. if b then without_replies n (after_reply s) else s) is) ∙ same)

-- and where there is none that is all
pub no_more : (n : ℕ) (s : List ℕ) → is_reply s ≡ false → without_replies n s ≡ s
unfolding without_replies
no_more zero s is = refl
no_more (suc n) s is = ap (λ b. if b then without_replies n (after_reply s) else s) is

-- texts that are joined: the first one, and each other after what is between
pub joined-cons : (between first : List ℕ) (more : List (List ℕ)) → joined between (first ∷ more) ≡ first ++ after_first between more
joined-cons between first [] = sym (append-nil first)
joined-cons between first (next ∷ more) = ap (λ rest. first ++ (between ++ rest)) (joined-cons between next more) ∙ ap (λ rest. first ++ rest) (sym (append_assoc between next (after_first between more)))
