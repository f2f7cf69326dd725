-- Messages with a tag that keeps them out, found among all that have tags. For the proofs of `left_out` and `all_matches`.
use Rattle.std.proofs.Common.{◌≡◌, refl, sym, ap, ◌∙◌, ℕ, Bool, true, false, cond, ◌&&◌, ◌||◌, List, [], ◌∷◌, map, Some, true≢false}
use Rattle.std.specs.Prelude.{unwrap_or}
use Rattle.std.proofs.Math.Bool.{or-false}
use Rattle.std.proofs.lemmas.Map.Text.{is_eq-slice_cmp}
use Rattle.std.proofs.lemmas.Slice.Eq.{bytes_eq-Decides}
use Rattle.std.specs.BTreeMap.{is_at}
use Rattle.std.specs.Cmp.Lexicographic.{slice_cmp}
use Rattle.std.specs.List.{AllByRecursion, list_any}
use Rattle.std.specs.List.Sorted.{IsStrictlySortedBy}
use Rattle.std.specs.Map.{lookup}
use Rattle.std.specs.Ordering.{is_eq, nat_cmp}
use Rattle.std.specs.declared.cmp.Ordering.TheVariants.{Less}
use Rattle.nm_base.specs.Order.{IsSorted, same_text}
use Rattle.nm_eval.specs.Exclusion.{is_among}
use Rattle.nm_eval.specs.declared.exclusion.Exclusion.{Exclusion}

abbrev Tagged : Type 0
Tagged = List (List ℕ × List (List ℕ))

-- the id has these tags, and one of them keeps it out
abbrev pub is_out : Exclusion → List ℕ → List ℕ × List (List ℕ) → Bool
is_out exclusion id tagged = same_text id tagged.0 && is_among exclusion tagged.1

neither : (a b : Bool) → ((a && false) || (b && false)) ≡ false
neither true true = refl
neither true false = refl
neither false true = refl
neither false false = refl

-- no id after it is the same
apart : (e : Exclusion) (id key : List ℕ) (rest : Tagged) → id ≡ key → AllByRecursion (λ y. slice_cmp nat_cmp key y ≡ Less) (map (λ tagged. tagged.0) rest) → list_any (is_out e id) rest ≡ false
apart e id key [] is above = refl
apart e id key (t ∷ rest) is above =
    let other : same_text id t.0 ≡ false = sym (is_eq-slice_cmp id t.0) ∙ ap (λ k. is_eq (slice_cmp nat_cmp k t.0)) is ∙ ap is_eq above.0 in
    rw other (apart e id key rest is above.1)

out_first : (e : Exclusion) (id : List ℕ) (tags : List (List ℕ)) (rest : Tagged) (same : Bool) → (same ≡ true → list_any (is_out e id) rest ≡ false)
    → list_any (is_out e id) rest ≡ is_among e (unwrap_or (lookup (is_at (slice_cmp nat_cmp id)) rest) [])
    → ((same && is_among e tags) || list_any (is_out e id) rest) ≡ is_among e (unwrap_or (cond same (Some tags) (lookup (is_at (slice_cmp nat_cmp id)) rest)) [])
out_first e id tags rest true none more = ap (λ b. is_among e tags || b) (none refl) ∙ or-false (is_among e tags)
out_first e id tags rest false none more = more

-- what is found among all, each with its tags, is what the tags of the id say
pub out_by_tags : (e : Exclusion) (id : List ℕ) (tagged : Tagged) → IsSorted (map (λ tagged. tagged.0) tagged)
    → list_any (is_out e id) tagged ≡ is_among e (unwrap_or (lookup (is_at (slice_cmp nat_cmp id)) tagged) [])
unfolding IsStrictlySortedBy
out_by_tags e id [] sorted = sym (neither e.deleted e.spam)
out_by_tags e id (t ∷ rest) sorted =
    out_first e id t.1 rest (same_text id t.0) (λ is. apart e id t.0 rest ((bytes_eq-Decides id t.0).0 is) sorted.0) (out_by_tags e id rest sorted.1)
    ∙ ap (λ b. is_among e (unwrap_or (cond b (Some t.1) (lookup (is_at (slice_cmp nat_cmp id)) rest)) [])) (sym (is_eq-slice_cmp id t.0))

-- one more that is out
pub one_out : (same out has more all : Bool) → (has || ((same && out) || more)) ≡ all → out ≡ true → ((same || has) || more) ≡ all
one_out true true true more all before is = before
one_out true true false more all before is = before
one_out true false has more all before is = absurd (true≢false (sym is))
one_out false out has more all before is = before

-- one more that is not
pub none_out : (same out has more all : Bool) → (has || ((same && out) || more)) ≡ all → out ≡ false → (has || more) ≡ all
none_out true true has more all before is = absurd (true≢false is)
none_out true false has more all before is = before
none_out false out has more all before is = before
