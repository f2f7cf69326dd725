-- Blocks that are written: how long they are, how a loop writes them, and that they are read again.
-- For `block` and `laws`.
use Rattle.std.proofs.Common.{◌≡◌, ℕ, suc, ◌+◌, ◌-◌, ◌*◌, ◌^◌, ◌<◌, ◌≤◌, Bool, true, false, ltb, eqb, ◌&&◌, cond, List, [], ◌∷◌, ◌++◌, length, drop, get_or, refl, ap, sym, ◌∙◌, append_assoc, append-nil, add-one, drop-cons, length-append, arith}
use Rattle.std.proofs.lemmas.Bool.{and_parts, ltb-true}
use Rattle.std.proofs.lemmas.Bool.Decides.{nat_tests}
use Rattle.nm_blocks.specs.declared.hit.Hit.{Hit}
use Rattle.nm_blocks.specs.Hits.{IsBlock, all_fit, fits, is_before, is_rising, rise_after}
use Rattle.nm_blocks.specs.Gaps.{after, capped, gaps}
use Rattle.nm_blocks.specs.Numbers.{number_bytes}
use Rattle.nm_blocks.specs.Blocks.{IsRun, block_bytes, hit_at, hit_bytes, hits_at, hits_bytes, origin, run_hits}
use Rattle.nm_blocks.proofs.NumberLemmas.{number_again, number_bytes-few}
use Rattle.nm_blocks.proofs.ReadLemmas.{run_hits-block, run_hits-nil}

pub hit_bytes-few : (before hit : Hit) → length (hit_bytes before hit) ≤ 15
hit_bytes-few before hit =
    let gap = gaps before hit in
    simp length-append (omega (arith, number_bytes-few gap.doc, number_bytes-few gap.list, number_bytes-few gap.place))

pub hits_bytes-few : (before : Hit) (hits : List Hit) → length (hits_bytes before hits) ≤ 15 * length hits
hits_bytes-few before [] = omega arith
hits_bytes-few before (hit ∷ hits) =
    rw (length-append (hit_bytes before hit) (hits_bytes hit hits)) (omega (arith, hit_bytes-few before hit, hits_bytes-few hit hits))

-- a hit more is written
pub writes_on : (written all : List ℕ) (before : Hit) (hits : List Hit) (i : ℕ) (d : Hit) → i < length hits → written ++ hits_bytes before (drop i hits) ≡ all
    → (written ++ hit_bytes before (get_or hits i d)) ++ hits_bytes (get_or hits i d) (drop (i + 1) hits) ≡ all
writes_on written all before hits i d lt so_far =
    let hit = get_or hits i d in
    let next : hits_bytes before (drop i hits) ≡ hit_bytes before hit ++ hits_bytes hit (drop (i + 1) hits) = rw (add-one, drop-cons hits i d) refl in
    append_assoc written (hit_bytes before hit) (hits_bytes hit (drop (i + 1) hits)) ∙ ap (λ bytes. written ++ bytes) (sym next) ∙ so_far

-- and room is left for the others
pub room_after : (written : List ℕ) (before hit : Hit) (len i : ℕ) → i < len → length written + 16 * (len - i) ≤ 2049 → length (written ++ hit_bytes before hit) + 16 * (len - (i + 1)) ≤ 2049
room_after written before hit len i lt room = rw (length-append written (hit_bytes before hit)) (omega (arith, hit_bytes-few before hit))

-- a hit more has been seen to fit
pub fits_on : (hits : List Hit) (i : ℕ) (d : Hit) → i < length hits → fits (get_or hits i d) ≡ true → all_fit (drop i hits) ≡ all_fit (drop (i + 1) hits)
fits_on hits i d lt fit = rw (add-one, drop-cons hits i d) (ap (λ b. b && all_fit (drop (suc i) hits)) fit)

-- the hit is not before the other one in the order
pub record Reaches (before hit : Hit) : Type 0 where
  pub doc : before.doc ≤ hit.doc
  pub list : before.doc ≡ hit.doc → before.list ≤ hit.list
  pub place : before.doc ≡ hit.doc → before.list ≡ hit.list → before.place ≤ hit.place

doc_again : (b h : ℕ) → b ≤ h → h < 2 ^ 32 → capped (b + (h - b)) ≡ h
doc_again b h le lt = omega arith

list_again : (b h x y : ℕ) → b ≤ h → (b ≡ h → x ≤ y) → y < 2 ^ 32
    → cond (eqb (h - b) 0) (capped (x + cond (eqb h b) (y - x) y)) (cond (eqb h b) (y - x) y) ≡ y
list_again b h x y le up lt = grind (arith, nat_tests)

place_again : (b h x y p q : ℕ) → b ≤ h → (b ≡ h → x ≤ y) → (b ≡ h → x ≡ y → p ≤ q) → q < 2 ^ 32
    → cond (eqb (h - b) 0 && eqb (cond (eqb h b) (y - x) y) 0) (capped (p + cond (eqb h b && eqb y x) (q - p) q)) (cond (eqb h b && eqb y x) (q - p) q) ≡ q
place_again b h x y p q le up high lt = grind (arith, nat_tests)

same_hit : (doc list place : ℕ) (hit : Hit) → doc ≡ hit.doc → list ≡ hit.list → place ≡ hit.place → (let made : Hit = record { doc = doc; list = list; place = place } in made) ≡ hit
same_hit doc list place hit d l p = rw (d, l, p) refl

-- a hit is had again from its gaps
after-gaps : (before hit : Hit) → Reaches before hit → fits hit ≡ true → after before (gaps before hit) ≡ hit
after-gaps before hit reach fit =
    let f = and_parts (ltb hit.doc (2 ^ 32)) (ltb hit.list (2 ^ 32) && ltb hit.place (2 ^ 32)) fit in
    let g = and_parts (ltb hit.list (2 ^ 32)) (ltb hit.place (2 ^ 32)) f.1 in
    same_hit _ _ _ hit
    (doc_again before.doc hit.doc reach.doc (ltb-true _ _ f.0))
    (list_again before.doc hit.doc before.list hit.list reach.doc reach.list (ltb-true _ _ g.0))
    (place_again before.doc hit.doc before.list hit.list before.place hit.place reach.doc reach.list reach.place (ltb-true _ _ g.1))

below_both : (b : Bool) (x y : ℕ) → y < 2 ^ 32 → cond b (y - x) y < 2 ^ 32
below_both true x y lt = omega arith
below_both false x y lt = lt

-- three numbers that were written are read
three : (before : Hit) (doc list place : ℕ) (rest : List ℕ) → doc < 2 ^ 32 → list < 2 ^ 32 → place < 2 ^ 32
    → hit_at before ((number_bytes doc ++ number_bytes list ++ number_bytes place) ++ rest) ≡ (after before (record { doc = doc; list = list; place = place }), rest)
unfolding hit_at
three before doc list place rest d l p =
    let parts : (number_bytes doc ++ number_bytes list ++ number_bytes place) ++ rest ≡ number_bytes doc ++ (number_bytes list ++ (number_bytes place ++ rest)) = simp append_assoc in
    ap (hit_at before) parts
    ∙ rw (number_again doc (number_bytes list ++ (number_bytes place ++ rest)) d, number_again list (number_bytes place ++ rest) l, number_again place rest p) refl

-- a hit that was written is read
hit_again : (before hit : Hit) (rest : List ℕ) → Reaches before hit → fits hit ≡ true → hit_at before (hit_bytes before hit ++ rest) ≡ (hit, rest)
hit_again before hit rest reach fit =
    let f = and_parts (ltb hit.doc (2 ^ 32)) (ltb hit.list (2 ^ 32) && ltb hit.place (2 ^ 32)) fit in
    let g = and_parts (ltb hit.list (2 ^ 32)) (ltb hit.place (2 ^ 32)) f.1 in
    let gap = gaps before hit in
    let doc : gap.doc < 2 ^ 32 = omega (arith, ltb-true _ _ f.0) in
    let list : gap.list < 2 ^ 32 = below_both _ before.list hit.list (ltb-true _ _ g.0) in
    let place : gap.place < 2 ^ 32 = below_both _ before.place hit.place (ltb-true _ _ g.1) in
    three before gap.doc gap.list gap.place rest doc list place ∙ ap (λ (h : Hit). (h, rest)) (after-gaps before hit reach fit)

reach_on : (before hit : Hit) → is_before before hit ≡ true → Reaches before hit
reach_on before hit e = record {
  doc = grind (arith, nat_tests);
  list = λ same. grind (arith, nat_tests);
  place = λ same alike. grind (arith, nat_tests);
}

one_more : (left : ℕ) (before hit : Hit) (bytes rest end : List ℕ) (hits : List Hit) → hit_at before bytes ≡ (hit, rest) → hits_at left hit rest ≡ (hits, end)
    → hits_at (suc left) before bytes ≡ (hit ∷ hits, end)
unfolding hits_at
one_more left before hit bytes rest end hits one others = rw (one, others) refl

none_more : (before : Hit) (bytes : List ℕ) → hits_at 0 before bytes ≡ ([], bytes)
unfolding hits_at
none_more before bytes = refl

-- what follows a hit is read after it
others_again : (before hit : Hit) (hits : List Hit) (rest : List ℕ) → Reaches before hit → rise_after hit hits ≡ true → all_fit (hit ∷ hits) ≡ true
    → hits_at (suc (length hits)) before (hits_bytes before (hit ∷ hits) ++ rest) ≡ (hit ∷ hits, rest)
others_again before hit [] rest reach rising fit =
    let f = and_parts (fits hit) true fit in
    let one : hit_at before ((hit_bytes before hit ++ []) ++ rest) ≡ (hit, rest) = ap (λ bytes. hit_at before (bytes ++ rest)) (append-nil (hit_bytes before hit)) ∙ hit_again before hit rest reach f.0 in
    one_more 0 before hit _ rest rest [] one (none_more hit rest)
others_again before hit (next ∷ hits) rest reach rising fit =
    let f = and_parts (fits hit) (all_fit (next ∷ hits)) fit in
    let r = and_parts (is_before hit next) (rise_after next hits) rising in
    let after_it = hits_bytes hit (next ∷ hits) in
    let one : hit_at before ((hit_bytes before hit ++ after_it) ++ rest) ≡ (hit, after_it ++ rest) =
    ap (hit_at before) (append_assoc (hit_bytes before hit) after_it rest) ∙ hit_again before hit (after_it ++ rest) reach f.0 in
    one_more (suc (length hits)) before hit _ (after_it ++ rest) rest (next ∷ hits) one (others_again hit next hits rest (reach_on hit next r.0) r.1 f.1)

-- a block that was written is read
pub block_again : (hits : List Hit) → 0 < length hits → is_rising hits ≡ true → all_fit hits ≡ true → IsRun (block_bytes hits) hits
block_again [] some rising fit rest = absurd (omega arith)
block_again (hit ∷ hits) some rising fit rest =
    let from_origin : Reaches origin hit = record { doc = omega arith; list = λ same. omega arith; place = λ same alike. omega arith } in
    let all = others_again origin hit hits rest from_origin rising fit in
    run_hits-block (suc (length hits)) (hits_bytes origin (hit ∷ hits) ++ rest) (omega arith) ∙ rw all refl

pub run_is_read : (bytes : List ℕ) (hits : List Hit) → IsRun bytes hits → run_hits bytes ≡ hits
run_is_read bytes hits run = ap run_hits (sym (append-nil bytes)) ∙ run [] ∙ ap (λ (others : List Hit). hits ++ others) run_hits-nil ∙ append-nil hits

pub one_spelling : (hits others : List Hit) → IsBlock hits → IsBlock others → block_bytes hits ≡ block_bytes others → hits ≡ others
one_spelling hits others block other same =
    sym (run_is_read (block_bytes hits) hits (block_again hits block.some block.rising block.fitting))
    ∙ ap run_hits same ∙ run_is_read (block_bytes others) others (block_again others other.some other.rising other.fitting)
