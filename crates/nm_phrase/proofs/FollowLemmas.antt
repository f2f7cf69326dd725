-- A walk over hits beside the ends that they may follow. Cited by the proofs of `ends` and by `EndLemmas`.
use Rattle.std.proofs.Common.{◌≡◌, Bool, true, false, cond, List, [], ◌∷◌, ◌++◌, refl, sym, ap, ◌∙◌, append_assoc, arith}
use Rattle.std.specs.Prelude.{◌||◌}
use Rattle.std.specs.List.{filter}
use Rattle.std.proofs.lemmas.Bool.{and_parts, and_from}
use Rattle.std.proofs.lemmas.Bool.Decides.{nat_tests}
use Rattle.nm_blocks.specs.Hits.{is_before, is_rising, rise_after}
use Rattle.nm_blocks.specs.declared.hit.Hit.{Hit}
use Rattle.nm_phrase.specs.Ends.{drop_before, ends_before, first_is_before, follows, is_next}

-- ---- two hits, and an end before them

before_trans : (a b c : Hit) → is_before a b ≡ true → is_before b c ≡ true → is_before a c ≡ true
before_trans a b c p q = grind (arith, nat_tests)

passed_not_next : (end hit : Hit) → ends_before hit end ≡ true → is_next hit end ≡ false
passed_not_next end hit p = grind (arith, nat_tests)

passed_later : (end hit next : Hit) → ends_before hit end ≡ true → is_before hit next ≡ true → ends_before next end ≡ true
passed_later end hit next p q = grind (arith, nat_tests)

later_not_next : (end other hit : Hit) → is_before end other ≡ true → ends_before hit end ≡ false → is_next hit other ≡ false
later_not_next end other hit p q = grind (arith, nat_tests)

later_not_passed : (end other hit : Hit) → is_before end other ≡ true → ends_before hit end ≡ false → ends_before hit other ≡ false
later_not_passed end other hit p q = grind (arith, nat_tests)

-- ---- lists that rise

pub rising_rest : (hit : Hit) (hits : List Hit) → is_rising (hit ∷ hits) ≡ true → is_rising hits ≡ true
rising_rest hit [] r = refl
rising_rest hit (next ∷ hits) r = (and_parts (is_before hit next) (rise_after next hits) r).1

rise_earlier : (a b : Hit) (hits : List Hit) → is_before a b ≡ true → rise_after b hits ≡ true → rise_after a hits ≡ true
rise_earlier a b [] p r = refl
rise_earlier a b (hit ∷ hits) p r =
    let parts = and_parts (is_before b hit) (rise_after hit hits) r in
    and_from (is_before a hit) (rise_after hit hits) (before_trans a b hit p parts.0) parts.1

filter_after : (keep : Hit → Bool) (before : Hit) (hits : List Hit) → rise_after before hits ≡ true → rise_after before (filter keep hits) ≡ true
filter_after keep before [] r = refl
filter_after keep before (hit ∷ hits) r =
    let parts = and_parts (is_before before hit) (rise_after hit hits) r in
    elim (keep hit) as (λ b. rise_after before (cond b (hit ∷ filter keep hits) (filter keep hits)) ≡ true) [
      | true ↦ and_from (is_before before hit) (rise_after hit (filter keep hits)) parts.0 (filter_after keep hit hits parts.1)
      | false ↦ filter_after keep before hits (rise_earlier before hit hits parts.0 parts.1)
    ]

pub is_rising-filter : (keep : Hit → Bool) (hits : List Hit) → is_rising hits ≡ true → is_rising (filter keep hits) ≡ true
is_rising-filter keep [] r = refl
is_rising-filter keep (hit ∷ hits) r =
    elim (keep hit) as (λ b. is_rising (cond b (hit ∷ filter keep hits) (filter keep hits)) ≡ true) [
      | true ↦ filter_after keep hit hits r
      | false ↦ is_rising-filter keep hits (rising_rest hit hits r)
    ]

-- ---- the ends that are left

pub is_rising-drop_before : (hit : Hit) (ends : List Hit) → is_rising ends ≡ true → is_rising (drop_before hit ends) ≡ true
is_rising-drop_before hit [] r = refl
is_rising-drop_before hit (end ∷ ends) r =
    elim (ends_before hit end) as (λ b. is_rising (cond b (drop_before hit ends) (end ∷ ends)) ≡ true) [
      | true ↦ is_rising-drop_before hit ends (rising_rest end ends r)
      | false ↦ r
    ]

none_follows : (end : Hit) (ends : List Hit) (hit : Hit) → rise_after end ends ≡ true → ends_before hit end ≡ false → follows ends hit ≡ false
none_follows end [] hit r p = refl
none_follows end (other ∷ ends) hit r p =
    let parts = and_parts (is_before end other) (rise_after other ends) r in
    let here : is_next hit other ≡ false = later_not_next end other hit parts.0 p in
    let rest : follows ends hit ≡ false = none_follows other ends hit parts.1 (later_not_passed end other hit parts.0 p) in
    ap (λ (b : Bool). b || follows ends hit) here ∙ rest

or_none : (b : Bool) → b ≡ (b || false)
or_none true = refl
or_none false = refl

first_case : (end : Hit) (ends : List Hit) (hit : Hit) (b : Bool) → ends_before hit end ≡ b → is_rising (end ∷ ends) ≡ true → first_is_before hit (drop_before hit ends) ≡ follows ends hit
    → first_is_before hit (cond b (drop_before hit ends) (end ∷ ends)) ≡ (is_next hit end || follows ends hit)
first_case end ends hit true p r rest = rest ∙ ap (λ (b : Bool). b || follows ends hit) (sym (passed_not_next end hit p))
first_case end ends hit false p r rest = or_none (is_next hit end) ∙ ap (λ (b : Bool). is_next hit end || b) (sym (none_follows end ends hit r p))

-- the first end that is left tells whether the hit follows one
pub first_tells : (ends : List Hit) (hit : Hit) → is_rising ends ≡ true → first_is_before hit (drop_before hit ends) ≡ follows ends hit
first_tells [] hit r = refl
first_tells (end ∷ ends) hit r = first_case end ends hit (ends_before hit end) refl r (first_tells ends hit (rising_rest end ends r))

left_case : (end : Hit) (ends : List Hit) (hit next : Hit) (b : Bool) → ends_before hit end ≡ b → is_before hit next ≡ true → follows (drop_before hit ends) next ≡ follows ends next
    → follows (cond b (drop_before hit ends) (end ∷ ends)) next ≡ (is_next next end || follows ends next)
left_case end ends hit next true p q rest =
    rest ∙ ap (λ (b : Bool). b || follows ends next) (sym (passed_not_next end next (passed_later end hit next p q)))
left_case end ends hit next false p q rest = refl

-- what a later hit follows is left
left_follows : (ends : List Hit) (hit next : Hit) → is_before hit next ≡ true → follows (drop_before hit ends) next ≡ follows ends next
left_follows [] hit next q = refl
left_follows (end ∷ ends) hit next q = left_case end ends hit next (ends_before hit end) refl q (left_follows ends hit next q)

left_filter : (ends : List Hit) (hit : Hit) (hits : List Hit) → rise_after hit hits ≡ true → filter (follows (drop_before hit ends)) hits ≡ filter (follows ends) hits
left_filter ends hit [] r = refl
left_filter ends hit (next ∷ hits) r =
    let parts = and_parts (is_before hit next) (rise_after next hits) r in
    let rest : filter (follows (drop_before hit ends)) hits ≡ filter (follows ends) hits = left_filter ends hit hits (rise_earlier hit next hits parts.0 parts.1) in
    ap (λ (b : Bool). cond b (next ∷ filter (follows (drop_before hit ends)) hits) (filter (follows (drop_before hit ends)) hits)) (left_follows ends hit next parts.0)
    ∙ ap (λ (kept : List Hit). cond (follows ends next) (next ∷ kept) kept) rest

-- ---- a turn of the walk

-- the hits kept so far, and those left that follow an end that is left, are all
pub record IsWalk (kept ends left all : List Hit) : Type 0 where
  pub ends_rise : is_rising ends ≡ true
  pub hits_rise : is_rising left ≡ true
  pub so_far : kept ++ filter (follows ends) left ≡ all

turned : (ends left : List Hit) (hit : Hit) (b : Bool) → follows ends hit ≡ b → rise_after hit left ≡ true
    → filter (follows ends) (hit ∷ left) ≡ cond b (hit ∷ filter (follows (drop_before hit ends)) left) (filter (follows (drop_before hit ends)) left)
turned ends left hit b e r =
    ap (λ (t : Bool). cond t (hit ∷ filter (follows ends) left) (filter (follows ends) left)) e
    ∙ ap (λ (rest : List Hit). cond b (hit ∷ rest) rest) (sym (left_filter ends hit left r))

turn : (kept ends left after : List Hit) (all : List Hit) (hit : Hit) (b : Bool) → IsWalk kept ends left all → left ≡ hit ∷ after → first_is_before hit (drop_before hit ends) ≡ b
    → kept ++ cond b (hit ∷ filter (follows (drop_before hit ends)) after) (filter (follows (drop_before hit ends)) after) ≡ all
turn kept ends left after all hit b walk taken is =
    ap (λ (found : List Hit). kept ++ found) (sym (turned ends after hit b (sym (first_tells ends hit walk.ends_rise) ∙ is) (ap is_rising (sym taken) ∙ walk.hits_rise)))
    ∙ (ap (λ (hits : List Hit). kept ++ filter (follows ends) hits) (sym taken) ∙ walk.so_far)

pub walk_kept : (kept ends left after rest all new : List Hit) (hit : Hit) → IsWalk kept ends left all → left ≡ hit ∷ after → rest ≡ drop_before hit ends → first_is_before hit rest ≡ true → new ≡ kept ++ hit ∷ [] → IsWalk new rest after all
walk_kept kept ends left after rest all new hit walk taken cut is pushed = rw (cut, pushed) (record {
  ends_rise = is_rising-drop_before hit ends walk.ends_rise;
  hits_rise = rising_rest hit after (ap is_rising (sym taken) ∙ walk.hits_rise);
  so_far = append_assoc kept (hit ∷ []) (filter (follows (drop_before hit ends)) after) ∙ turn kept ends left after all hit true walk taken (ap (first_is_before hit) (sym cut) ∙ is);
})

pub walk_left : (kept ends left after rest all : List Hit) (hit : Hit) → IsWalk kept ends left all → left ≡ hit ∷ after → rest ≡ drop_before hit ends → first_is_before hit rest ≡ false → IsWalk kept rest after all
walk_left kept ends left after rest all hit walk taken cut is = rw cut (record {
  ends_rise = is_rising-drop_before hit ends walk.ends_rise;
  hits_rise = rising_rest hit after (ap is_rising (sym taken) ∙ walk.hits_rise);
  so_far = turn kept ends left after all hit false walk taken (ap (first_is_before hit) (sym cut) ∙ is);
})
