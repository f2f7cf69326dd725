-- Where a read of a lane has its place in the marks, from the end on. For the proof of `place_of`.
use Rattle.std.proofs.Common.{◌≡◌, ℕ, ◌+◌, ◌≤◌, true, List, [], ◌∷◌, drop, get_or, length, refl, sym, ap, ◌∙◌, subst, arith}
use Rattle.std.proofs.lemmas.List.{drop_more}
use Rattle.nm_trace.specs.Trace.{AreOfOthers, IsPlaceOf, is_of_others, made_by, made_in}
use Rattle.nm_trace.specs.declared.trace.Mark.{Mark}

drop-all : (ms : List Mark) → drop (length ms) ms ≡ []
drop-all [] = refl
drop-all (m ∷ ms) = drop-all ms

-- after this place there are only marks of others, and they have made all but n of the commits
pub record IsBehind (lane behind left : ℕ) (marks : List Mark) (at : ℕ) : Type 0 where
  pub within : at ≤ length marks
  pub others : AreOfOthers lane (drop at marks)
  pub made : made_in (drop at marks) + left ≡ behind

pub behind-none : (lane behind : ℕ) (marks : List Mark) → IsBehind lane behind behind marks (length marks)
behind-none lane behind marks =
    let none : [] ≡ drop (length marks) marks = sym (drop-all marks) in
    record { within = omega arith; others = subst (AreOfOthers lane) none tt; made = omega (arith, ap made_in none) }

pub behind-more : (lane behind left more : ℕ) (marks : List Mark) (at next : ℕ) (mark : Mark) → IsBehind lane behind left marks at → next + 1 ≡ at → mark ≡ get_or marks next mark → is_of_others lane mark ≡ true
    → more + made_by mark ≡ left → IsBehind lane behind more marks next
behind-more lane behind left more marks at next mark h one is other fewer =
    let here : drop next marks ≡ mark ∷ drop at marks =
    drop_more marks next mark (omega (arith, h.within, one)) ∙ (ap (λ (m : Mark). m ∷ drop (next + 1) marks) (sym is) ∙ ap (λ (n : ℕ). mark ∷ drop n marks) one) in
    record {
      within = omega (arith, h.within, one);
      others = subst (AreOfOthers lane) (sym here) (other, h.others);
      made = omega (arith, ap made_in here, h.made, fewer);
    }

pub place-is : (lane behind : ℕ) (marks : List Mark) (at : ℕ) → IsBehind lane behind 0 marks at → IsPlaceOf lane behind marks at
place-is lane behind marks at h = record { within = h.within; others = h.others; made = omega (arith, h.made) }
