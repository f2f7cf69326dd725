-- A search ever further, and then by halves, for the first end that stays. Cited by the proofs of `follow`.
use Rattle.std.proofs.Common.{◌≡◌, ℕ, zero, suc, ◌+◌, Bool, true, false, cond, List, [], ◌∷◌, drop, refl, sym, ap, ◌∙◌, arith}
use Rattle.std.proofs.lemmas.Bool.{and_parts, false≢true}
use Rattle.std.proofs.lemmas.Bool.Decides.{nat_tests}
use Rattle.nm_blocks.specs.Hits.{is_before, is_rising, rise_after}
use Rattle.nm_blocks.specs.declared.hit.Hit.{Hit}
use Rattle.nm_phrase.specs.Ends.{drop_before, ends_before, is_before_at}
use Rattle.nm_phrase.proofs.FollowLemmas.{rising_rest}

earlier_passed : (end other hit : Hit) → is_before end other ≡ true → ends_before hit other ≡ true → ends_before hit end ≡ true
earlier_passed end other hit p q = grind (arith, nat_tests)

passed_at : (end : Hit) (ends : List Hit) (hit : Hit) (at : ℕ) → rise_after end ends ≡ true → is_before_at hit ends at ≡ true → ends_before hit end ≡ true
passed_at end [] hit at r h = absurd (false≢true h)
passed_at end (other ∷ ends) hit zero r h = earlier_passed end other hit (and_parts (is_before end other) (rise_after other ends) r).0 h
passed_at end (other ∷ ends) hit (suc at) r h =
    let parts = and_parts (is_before end other) (rise_after other ends) r in
    earlier_passed end other hit parts.0 (passed_at other ends hit at parts.1 h)

one_more : (n : ℕ) → n + 1 ≡ suc n
one_more n = omega arith

leap : (hit : Hit) (ends : List Hit) (at : ℕ) → is_rising ends ≡ true → is_before_at hit ends at ≡ true → drop_before hit (drop (suc at) ends) ≡ drop_before hit ends
leap hit [] at r h = absurd (false≢true h)
leap hit (end ∷ ends) zero r h = ap (λ (b : Bool). cond b (drop_before hit ends) (end ∷ ends)) (sym h)
leap hit (end ∷ ends) (suc at) r h =
    leap hit ends at (rising_rest end ends r) h ∙ ap (λ (b : Bool). cond b (drop_before hit ends) (end ∷ ends)) (sym (passed_at end ends hit at r h))

-- where the end at a place goes, all up to it go
pub leaped : (hit : Hit) (ends rest : List Hit) (at n : ℕ) → rest ≡ drop n ends → n ≡ at + 1 → is_rising ends ≡ true → is_before_at hit ends at ≡ true → drop_before hit rest ≡ drop_before hit ends
leaped hit ends rest at n is e r h = ap (drop_before hit) is ∙ (ap (λ (k : ℕ). drop_before hit (drop k ends)) (e ∙ one_more at) ∙ leap hit ends at r h)

-- where the first one stays, all stay
pub stays : (hit : Hit) (ends : List Hit) → is_before_at hit ends 0 ≡ false → ends ≡ drop_before hit ends
stays hit [] h = refl
stays hit (end ∷ ends) h = ap (λ (b : Bool). cond b (drop_before hit ends) (end ∷ ends)) (sym h)

is_rising-drop : (n : ℕ) (ends : List Hit) → is_rising ends ≡ true → is_rising (drop n ends) ≡ true
is_rising-drop zero ends r = r
is_rising-drop (suc n) [] r = r
is_rising-drop (suc n) (end ∷ ends) r = is_rising-drop n ends (rising_rest end ends r)

none_at : (n : ℕ) (hit : Hit) (at : ℕ) → is_before_at hit (drop n []) at ≡ false
none_at zero hit at = refl
none_at (suc n) hit at = refl

shifted : (hit : Hit) (ends : List Hit) (n at : ℕ) → is_before_at hit (drop n ends) at ≡ is_before_at hit ends (n + at)
shifted hit ends zero at = ap (is_before_at hit ends) (let e : at ≡ 0 + at = omega arith in e)
shifted hit [] (suc n) at = refl
shifted hit (end ∷ ends) (suc n) at = shifted hit ends n at ∙ ap (is_before_at hit (end ∷ ends)) (let e : suc (n + at) ≡ suc n + at = omega arith in e)

pub rest_rises : (n : ℕ) (ends rest : List Hit) → rest ≡ drop n ends → is_rising ends ≡ true → is_rising rest ≡ true
rest_rises n ends rest is r = ap is_rising is ∙ is_rising-drop n ends r

-- the end that stays, seen from after those that go
pub limit_left : (hit : Hit) (ends rest : List Hit) (n at limit : ℕ) → rest ≡ drop n ends → n + at ≡ limit → is_before_at hit ends limit ≡ false → is_before_at hit rest at ≡ false
limit_left hit ends rest n at limit is e h = ap (λ (left : List Hit). is_before_at hit left at) is ∙ (shifted hit ends n at ∙ (ap (is_before_at hit ends) e ∙ h))
