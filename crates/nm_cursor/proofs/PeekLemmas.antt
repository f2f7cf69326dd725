-- What is left where a document was read ahead, and once all up to one are left out. Cited by the proofs of `peek`.
use Rattle.std.proofs.Common.{◌≡◌, refl, sym, ap, subst, ◌∙◌, ℕ, ◌<◌, ◌≤◌, Bool, true, false, eqb, ltb, leb, List, [], ◌∷◌, Option, Some, None, arith}
use Rattle.std.specs.Prelude.{◌&&◌, ◌||◌}
use Rattle.std.proofs.lemmas.Bool.{le-ltb, lt-ltb}
use Rattle.std.proofs.lemmas.Bool.Decides.{nat_tests}
use Rattle.nm_cursor.specs.Sets.{IsRising, Takes, has, from, above}
use Rattle.nm_cursor.specs.Ahead.{IsAheadOf, ahead_of, with_ahead}
use Rattle.nm_cursor.specs.declared.peek.Ahead.{Ahead}
use Rattle.nm_cursor.specs.declared.peek.Ahead.TheVariants.{At, Ended}
use Rattle.nm_cursor.proofs.SetLemmas.{has-none, has-first, has-cons, has-from, has-above, first_below, rising-from, rising-above, same_list}
use Rattle.nm_cursor.proofs.FromLemmas.{filter_all, found_above, from_first, from_later, from_none, from_rises, not_below, same_le}

above_none : (doc : ℕ) → above doc [] ≡ []
unfolding above
above_none doc = refl

lower_still : (doc x n : ℕ) → doc < x → x ≤ n → doc < n
lower_still doc x n h g = omega arith

pub ahead_rises : (all : List ℕ) (found : Option ℕ) (rest : List ℕ) → Takes all found rest → IsRising all → IsAheadOf (ahead_of found) rest
ahead_rises all (Some doc) rest taken rising = subst IsRising taken rising
ahead_rises all None rest taken rising = taken.1

above_from_at : (doc n : ℕ) (b : Bool) → (b && ltb doc n) ≡ ((b && leb doc n) && ltb doc n)
above_from_at doc n b = grind (arith, nat_tests)

above_from : (doc : ℕ) (all : List ℕ) → IsRising all → above doc all ≡ above doc (from doc all)
above_from doc all rising = same_list (above doc all) (above doc (from doc all)) (rising-above doc all rising) (rising-above doc (from doc all) (rising-from doc all rising))
    (λ n. has-above doc all n ∙ above_from_at doc n (has all n) ∙ ap (λ b. b && ltb doc n) (sym (has-from doc all n)) ∙ sym (has-above doc (from doc all) n))

above_all : (doc : ℕ) (docs : List ℕ) → ((n : ℕ) → has docs n ≡ true → doc < n) → above doc docs ≡ docs
unfolding above
above_all doc docs each = filter_all (ltb doc) docs (λ n is. lt-ltb doc n (each n is))

above_first : (doc : ℕ) (rest : List ℕ) → IsRising (doc ∷ rest) → above doc (doc ∷ rest) ≡ rest
unfolding above
above_first doc rest rising = rw (le-ltb doc doc (same_le doc)) (filter_all (ltb doc) rest (λ n is. lt-ltb doc n (first_below doc rest rising n is)))

had_by : (doc : ℕ) (b c : Bool) → (b && leb doc doc) ≡ c → c ≡ b
had_by doc b c h = grind (arith, nat_tests)

had_from : (doc : ℕ) (all : List ℕ) → has (from doc all) doc ≡ has all doc
had_from doc all = had_by doc (has all doc) (has (from doc all) doc) (sym (has-from doc all doc))

pub left_none : (doc : ℕ) (all : List ℕ) → from doc all ≡ [] → false ≡ has all doc
left_none doc all e = sym (has-none doc) ∙ ap (λ docs. has docs doc) (sym e) ∙ had_from doc all

pub above_ended : (doc : ℕ) (all : List ℕ) → IsRising all → from doc all ≡ [] → [] ≡ above doc all
above_ended doc all rising e = sym (above_none doc) ∙ ap (above doc) (sym e) ∙ sym (above_from doc all rising)

pub left_same : (doc x : ℕ) (all rest : List ℕ) → from doc all ≡ x ∷ rest → x ≡ doc → true ≡ has all doc
left_same doc x all rest e is = sym (has-first doc rest) ∙ ap (λ (y : ℕ). has (y ∷ rest) doc) (sym is) ∙ ap (λ docs. has docs doc) (sym e) ∙ had_from doc all

pub above_same : (doc x : ℕ) (all rest : List ℕ) → IsRising all → from doc all ≡ x ∷ rest → x ≡ doc → rest ≡ above doc all
above_same doc x all rest rising e is =
    let here : from doc all ≡ doc ∷ rest = e ∙ ap (λ (y : ℕ). y ∷ rest) is in
    sym (above_first doc rest (from_rises doc doc all rest here rising)) ∙ ap (above doc) (sym here) ∙ sym (above_from doc all rising)

above_other : (doc x : ℕ) (all rest : List ℕ) → from doc all ≡ x ∷ rest → (x ≡ doc → ⊥) → doc < x
above_other doc x all rest e other = omega (arith, found_above doc x all rest e)

not_first : (doc x : ℕ) (b : Bool) → doc < x → (b ≡ true → x < doc) → (eqb doc x || b) ≡ false
not_first doc x b low h = grind (arith, nat_tests)

pub left_other : (doc x : ℕ) (all rest : List ℕ) → IsRising all → from doc all ≡ x ∷ rest → (x ≡ doc → ⊥) → false ≡ has all doc
left_other doc x all rest rising e other =
    sym (has-cons x rest doc ∙ not_first doc x (has rest doc) (above_other doc x all rest e other) (first_below x rest (from_rises doc x all rest e rising) doc))
    ∙ ap (λ docs. has docs doc) (sym e) ∙ had_from doc all

pub above_rest : (doc x : ℕ) (all rest : List ℕ) → IsRising all → from doc all ≡ x ∷ rest → (x ≡ doc → ⊥) → x ∷ rest ≡ above doc all
above_rest doc x all rest rising e other =
    sym (above_all doc (x ∷ rest) (λ n is. lower_still doc x n (above_other doc x all rest e other) (not_below x rest (from_rises doc x all rest e rising) n is)))
    ∙ ap (above doc) (sym e) ∙ sym (above_from doc all rising)

pub take_later : (doc x : ℕ) (ahead : Ahead) (rest new : List ℕ) (taken : Option ℕ) → ahead ≡ At x → x < doc → Takes (from doc rest) taken new → Takes (from doc (with_ahead ahead rest)) taken new
take_later doc x ahead rest new taken is h takes = subst (λ (a : Ahead). Takes (from doc (with_ahead a rest)) taken new) (sym is) (subst (λ (docs : List ℕ). Takes docs taken new) (sym (from_later doc x rest h)) takes)

pub take_ahead : (doc x : ℕ) (ahead : Ahead) (rest : List ℕ) → ahead ≡ At x → doc ≤ x → IsAheadOf ahead rest → from doc (with_ahead ahead rest) ≡ x ∷ rest
take_ahead doc x ahead rest is h rising = ap (λ (a : Ahead). from doc (with_ahead a rest)) is ∙ from_first doc x rest (subst (λ (a : Ahead). IsAheadOf a rest) is rising) h

pub take_ended : (doc : ℕ) (ahead : Ahead) (rest : List ℕ) → ahead ≡ Ended → IsAheadOf ahead rest → (from doc (with_ahead ahead rest) ≡ []) × (rest ≡ [])
take_ended doc ahead rest is none = (ap (λ (a : Ahead). from doc (with_ahead a rest)) is ∙ from_none doc, subst (λ (a : Ahead). IsAheadOf a rest) is none)
