-- Several blocks that are added one after the other, of hits that are cut where a block is full. For `pack_run`
-- and `laws`.
use Rattle.std.proofs.Common.{◌≡◌, ℕ, zero, suc, Bool, true, false, ◌&&◌, List, [], ◌∷◌, ◌++◌, take, drop, refl, ap, sym, ◌∙◌, append_assoc, append-nil}
use Rattle.std.proofs.lemmas.Bool.{and_parts}
use Rattle.nm_blocks.specs.declared.hit.Hit.{Hit}
use Rattle.nm_blocks.specs.Hits.{is_before, is_rising, rise_after}
use Rattle.nm_blocks.specs.Blocks.{IsRun, block_bytes, run_hits}

both : (a b : Bool) → a ≡ true → b ≡ true → (a && b) ≡ true
both true b h k = k
both false b h k = h

rises_before : (before : Hit) (n : ℕ) (hits : List Hit) → rise_after before hits ≡ true → rise_after before (take n hits) ≡ true
rises_before before zero hits rising = refl
rises_before before (suc n) [] rising = refl
rises_before before (suc n) (hit ∷ hits) rising =
    let r = and_parts (is_before before hit) (rise_after hit hits) rising in
    both (is_before before hit) (rise_after hit (take n hits)) r.0 (rises_before hit n hits r.1)

-- the front of rising hits rises
pub rising-take : (n : ℕ) (hits : List Hit) → is_rising hits ≡ true → is_rising (take n hits) ≡ true
rising-take zero hits rising = refl
rising-take (suc n) [] rising = refl
rising-take (suc n) (hit ∷ hits) rising = rises_before hit n hits rising

rising-tail : (hit : Hit) (hits : List Hit) → rise_after hit hits ≡ true → is_rising hits ≡ true
rising-tail hit [] rising = refl
rising-tail hit (next ∷ hits) rising = (and_parts (is_before hit next) (rise_after next hits) rising).1

-- and so does what is after it
pub rising-drop : (n : ℕ) (hits : List Hit) → is_rising hits ≡ true → is_rising (drop n hits) ≡ true
rising-drop zero hits rising = rising
rising-drop (suc n) [] rising = refl
rising-drop (suc n) (hit ∷ hits) rising = rising-drop n hits (rising-tail hit hits rising)

-- the bytes have been added of all hits but the rest
pub record HasPacked (old new : List ℕ) (all rest : List Hit) : Type 0 where
  pub run : List ℕ
  pub begun : List Hit
  pub bytes : new ≡ old ++ run
  pub hits : all ≡ begun ++ rest
  pub is_run : IsRun run begun
  pub rising : is_rising rest ≡ true

pub runs_joined : (front back : List ℕ) (hits others : List Hit) → IsRun front hits → IsRun back others → IsRun (front ++ back) (hits ++ others)
runs_joined front back hits others run other rest =
    ap run_hits (append_assoc front back rest) ∙ run (back ++ rest) ∙ ap (λ (x : List Hit). hits ++ x) (other rest) ∙ sym (append_assoc hits others (run_hits rest))

-- a block more
pub packs_on : (old mid new : List ℕ) (all rest block after : List Hit) → HasPacked old mid all rest → rest ≡ block ++ after → is_rising after ≡ true → IsRun (block_bytes block) block
    → new ≡ mid ++ block_bytes block → HasPacked old new all after
packs_on old mid new all rest block after packed parts rising run added = record {
  run = packed.run ++ block_bytes block;
  begun = packed.begun ++ block;
  bytes = added ∙ ap (λ (bytes : List ℕ). bytes ++ block_bytes block) packed.bytes ∙ append_assoc old packed.run (block_bytes block);
  hits = packed.hits ∙ ap (λ (x : List Hit). packed.begun ++ x) parts ∙ sym (append_assoc packed.begun block after);
  is_run = runs_joined packed.run (block_bytes block) packed.begun block packed.is_run run;
  rising = rising;
}

pub nothing_packed : (bytes : List ℕ) (hits : List Hit) → is_rising hits ≡ true → HasPacked bytes bytes hits hits
nothing_packed bytes hits rising = record { run = []; begun = []; bytes = sym (append-nil bytes); hits = refl; is_run = λ rest. refl; rising = rising }

rises_on_after : (before : Hit) (hits : List Hit) (last next : Hit) (others : List Hit) → rise_after before (hits ++ last ∷ []) ≡ true → is_before last next ≡ true → rise_after next others ≡ true
    → rise_after before ((hits ++ last ∷ []) ++ next ∷ others) ≡ true
rises_on_after before [] last next others rising here more =
    let r = and_parts (is_before before last) true rising in
    both (is_before before last) (is_before last next && rise_after next others) r.0 (both (is_before last next) (rise_after next others) here more)
rises_on_after before (hit ∷ hits) last next others rising here more =
    let r = and_parts (is_before before hit) (rise_after hit (hits ++ last ∷ [])) rising in
    both (is_before before hit) (rise_after hit ((hits ++ last ∷ []) ++ next ∷ others)) r.0 (rises_on_after hit hits last next others r.1 here more)

-- hits that begin after the last one of others rise with them
pub rises_on : (hits : List Hit) (last next : Hit) (others : List Hit) → is_rising (hits ++ last ∷ []) ≡ true → is_before last next ≡ true → is_rising (next ∷ others) ≡ true
    → is_rising ((hits ++ last ∷ []) ++ next ∷ others) ≡ true
rises_on [] last next others rising here more = both (is_before last next) (rise_after next others) here more
rises_on (hit ∷ hits) last next others rising here more = rises_on_after hit hits last next others rising here more
