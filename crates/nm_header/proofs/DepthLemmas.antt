-- The `)` that matches is the one after which, counted from the left, no comment is open.
-- For the proof of `comment_len`.
use Rattle.std.proofs.Common.{◌≡◌, ℕ, ◌+◌, ◌-◌, ◌<◌, Bool, true, false, cond, ◌==◌, List, [], ◌∷◌, Option, Some, None, length, map, refl, sym, ap, ◌∙◌, arith, eq-eqb, length-append}
use Rattle.std.specs.Prelude.{find, count_by, unwrap_or}
use Rattle.std.specs.List.{concat}
use Rattle.std.specs.Option.{option_map}
use Rattle.std.proofs.lemmas.Bool.{eqb-true, eqb-false}
use Rattle.std.proofs.lemmas.List.Sums.{sum_by-cons}
use Rattle.nm_header.specs.Comments.{beginnings, closes, comment_pairs, depth_after}
use Rattle.nm_text.specs.QuotedStrings.{is_special}

pub neq : (a b : ℕ) → (a ≡ b → ⊥) → (a == b) ≡ false
neq a b n =
    elim (a == b) as (λ v. (a == b) ≡ v → v ≡ false) [
      | true ↦ λ e. absurd (n (eqb-true a b e))
      | false ↦ λ e. refl
    ] refl

pub neq-eqb : (a : ℕ) → (a ≡ 0 → ⊥) → (a == 0) ≡ false
neq-eqb a n = neq a 0 n

-- a special is the pair itself
pub special_is : (special : ℕ) (pair : List ℕ) → is_special special pair ≡ true → pair ≡ special ∷ []
special_is special [] e = absurd (cc)
special_is special (b ∷ []) e = ap (λ x. x ∷ []) (eqb-true b special e)
special_is special (b ∷ c ∷ more) e = absurd (cc)

-- the bytes up to the pair after which no comment is open
abbrev pub depth_through : ℕ → List (List ℕ) → ℕ
depth_through depth [] = 0
depth_through depth (u ∷ pairs) = cond (depth_after depth u == 0) (length u) (length u + depth_through (depth_after depth u) pairs)

count_cons : (p : List ℕ → Bool) (u : List ℕ) (pairs : List (List ℕ)) → count_by p (u ∷ pairs) ≡ cond (p u) 1 0 + count_by p pairs
count_cons p u pairs = sum_by-cons (λ x. cond (p x) 1 0) u pairs

same_test : (a b c d : ℕ) → (a ≡ b → c ≡ d) → (c ≡ d → a ≡ b) → (a == b) ≡ (c == d)
same_test a b c d there back =
    elim (a == b) as (λ v. (a == b) ≡ v → v ≡ (c == d)) [
      | true ↦ λ e. sym (eq-eqb c d (there (eqb-true a b e)))
      | false ↦ λ e. sym (neq c d (λ s. absurd (let yes : (a == b) ≡ true = eq-eqb a b (back s) in let no : true ≡ false = sym yes ∙ e in cc)))
    ] refl

not_both : (u : List ℕ) → is_special 41 u ≡ true → is_special 40 u ≡ false
not_both u s = ap (is_special 40) (special_is 41 u s)

-- one pair more in front
closes_cons : (depth : ℕ) (u : List ℕ) (front : List (List ℕ)) → 0 < depth → closes depth (u ∷ front) ≡ closes (depth_after depth u) front
closes_cons depth u front h =
    let shut : ℕ = count_by (is_special 41) front in
    let opened : ℕ = count_by (is_special 40) front in
    let all_shut = count_cons (is_special 41) u front in
    let all_opened = count_cons (is_special 40) u front in
    elim (is_special 41 u) as (λ v. is_special 41 u ≡ v → closes depth (u ∷ front) ≡ closes (cond v (depth - 1) (cond (is_special 40 u) (depth + 1) depth)) front) [
      | true ↦ λ s.
          let k : count_by (is_special 41) (u ∷ front) ≡ 1 + shut = all_shut ∙ ap (λ v. cond v 1 0 + shut) s in
          let o : count_by (is_special 40) (u ∷ front) ≡ 0 + opened = all_opened ∙ ap (λ v. cond v 1 0 + opened) (not_both u s) in
          same_test (count_by (is_special 41) (u ∷ front)) (count_by (is_special 40) (u ∷ front) + depth) shut (opened + (depth - 1)) (λ e. omega arith) (λ e. omega arith)
      | false ↦ λ s.
          let k : count_by (is_special 41) (u ∷ front) ≡ 0 + shut = all_shut ∙ ap (λ v. cond v 1 0 + shut) s in
          elim (is_special 40 u) as (λ w. is_special 40 u ≡ w → closes depth (u ∷ front) ≡ closes (cond w (depth + 1) depth) front) [
            | true ↦ λ t.
                let o : count_by (is_special 40) (u ∷ front) ≡ 1 + opened = all_opened ∙ ap (λ v. cond v 1 0 + opened) t in
                same_test (count_by (is_special 41) (u ∷ front)) (count_by (is_special 40) (u ∷ front) + depth) shut (opened + (depth + 1)) (λ e. omega arith) (λ e. omega arith)
            | false ↦ λ t.
                let o : count_by (is_special 40) (u ∷ front) ≡ 0 + opened = all_opened ∙ ap (λ v. cond v 1 0 + opened) t in
                same_test (count_by (is_special 41) (u ∷ front)) (count_by (is_special 40) (u ∷ front) + depth) shut (opened + depth) (λ e. omega arith) (λ e. omega arith)
          ] refl
    ] refl

find_map : (p : List (List ℕ) → Bool) (u : List ℕ) (fronts : List (List (List ℕ))) → find p (map (λ f. u ∷ f) fronts) ≡ option_map (λ f. u ∷ f) (find (λ f. p (u ∷ f)) fronts)
find_map p u [] = refl
find_map p u (front ∷ fronts) =
    elim (p (u ∷ front)) as (λ v. cond v (Some (u ∷ front)) (find p (map (λ f. u ∷ f) fronts)) ≡ option_map (λ f. u ∷ f) (cond v (Some front) (find (λ f. p (u ∷ f)) fronts))) [ true ↦ refl | false ↦ find_map p u fronts ]

find_same : (p q : List (List ℕ) → Bool) → ((x : List (List ℕ)) → p x ≡ q x) → (fronts : List (List (List ℕ))) → find p fronts ≡ find q fronts
find_same p q same [] = refl
find_same p q same (front ∷ fronts) =
    ap (λ v. cond v (Some front) (find p fronts)) (same front) ∙ ap (λ x. cond (q front) (Some front) x) (find_same p q same fronts)

kept_first : (u : List ℕ) (pairs : List (List ℕ)) (found : Option (List (List ℕ))) → unwrap_or (option_map (λ f. u ∷ f) found) (u ∷ pairs) ≡ u ∷ unwrap_or found pairs
kept_first u pairs None = refl
kept_first u pairs (Some front) = refl

comment_cons : (depth : ℕ) (u : List ℕ) (pairs : List (List ℕ)) → 0 < depth → comment_pairs depth (u ∷ pairs) ≡ u ∷ comment_pairs (depth_after depth u) pairs
comment_cons depth u pairs h =
    let next : ℕ = depth_after depth u in
    let fronts : List (List (List ℕ)) = beginnings pairs in
    let some_open : (0 == 0 + depth) ≡ false = neq 0 (0 + depth) (λ e. omega arith) in
    let rest : find (closes depth) (map (λ f. u ∷ f) fronts) ≡ option_map (λ f. u ∷ f) (find (closes next) fronts) = find_map (closes depth) u fronts ∙ ap (option_map (λ f. u ∷ f)) (find_same (λ f. closes depth (u ∷ f)) (closes next) (λ f. closes_cons depth u f h) fronts) in
    ap (λ v. unwrap_or (cond v (Some []) (find (closes depth) (map (λ f. u ∷ f) fronts))) (u ∷ pairs)) some_open ∙ ap (λ x. unwrap_or x (u ∷ pairs)) rest ∙ kept_first u pairs (find (closes next) fronts)

comment_none : (pairs : List (List ℕ)) → comment_pairs 0 pairs ≡ []
comment_none [] = refl
comment_none (u ∷ pairs) = refl

comment_last : (depth : ℕ) → comment_pairs depth [] ≡ []
comment_last depth = elim (0 == 0 + depth) as (λ v. unwrap_or {T = List (List ℕ)} (cond v (Some []) None) [] ≡ []) [ true ↦ refl | false ↦ refl ]

pub comment_is : (depth : ℕ) (pairs : List (List ℕ)) → 0 < depth → length (concat (comment_pairs depth pairs)) ≡ depth_through depth pairs
comment_is depth [] h = ap (λ x. length (concat x)) (comment_last depth)
comment_is depth (u ∷ pairs) h =
    let next : ℕ = depth_after depth u in
    ap (λ x. length (concat x)) (comment_cons depth u pairs h) ∙ length-append u (concat (comment_pairs next pairs)) ∙ elim (next == 0) as (λ v. (next == 0) ≡ v → length u + length (concat (comment_pairs next pairs)) ≡ cond v (length u) (length u + depth_through next pairs)) [
      | true ↦ λ e. let none : length (concat (comment_pairs next pairs)) ≡ 0 = ap (λ d. length (concat (comment_pairs d pairs))) (eqb-true next 0 e) ∙ ap (λ x. length (concat x)) (comment_none pairs) in omega arith
      | false ↦ λ e. ap (λ k. length u + k) (comment_is next pairs (let some : next ≡ 0 → ⊥ = eqb-false next 0 e in omega arith))
    ] refl
