-- The two tags that exclude, one by one. For the proofs of `all_matches`, `is_match` and `passes_within`.
use Rattle.std.proofs.Common.{◌≡◌, refl, sym, ap, ap₂, ◌∙◌, ℤ, Bool, true, false, not, cond, ◌&&◌, ◌||◌, [], ◌∷◌, codes, true≢false}
use Rattle.std.proofs.Math.Bool.{or-false}
use Rattle.std.specs.List.{list_any}
use Rattle.nm_base.specs.Tags.{has_tag}
use Rattle.nm_query.specs.declared.query.Query.{Query}
use Rattle.nm_model_answer.specs.Matches.{is_excluded, is_match, names_tag}
use Rattle.nm_model_answer.specs.Test.{passes}
use Rattle.nm_model_answer.specs.View.{View}
use Rattle.nm_eval.specs.Exclusion.{exclusion_of, leaves_out}
use Rattle.nm_eval.specs.declared.exclusion.Exclusion.{Exclusion}

-- what two items pass, of those that a filter keeps
one_of_two : {X : Type 0} (asked keeps_first keeps_second : Bool) (has : X → Bool) (first second : X)
    → (((asked && keeps_first) && has first) || ((asked && keeps_second) && has second))
    ≡ (asked && list_any has (cond keeps_first (first ∷ cond keeps_second (second ∷ []) []) (cond keeps_second (second ∷ []) [])))
one_of_two true true true has first second = ap (λ b. has first || b) (sym (or-false (has second)))
one_of_two true true false has first second = refl
one_of_two true false true has first second = sym (or-false (has second))
one_of_two true false false has first second = refl
one_of_two false keeps_first keeps_second has first second = refl

pub left_out : (query : Query) (exclude : Bool) (message : View) → leaves_out (exclusion_of query exclude) message ≡ (exclude && is_excluded query message)
left_out query exclude message =
    one_of_two exclude (not (names_tag query (codes "deleted"))) (not (names_tag query (codes "spam"))) (has_tag message.tags) (codes "deleted") (codes "spam")

-- what passes as the query does, and has no tag that keeps it out, is a match
pub match_by : (query asked : Query) (moment : ℤ) (exclude : Bool) (exclusion : Exclusion) (message : View) → exclusion ≡ exclusion_of query exclude
    → passes asked message moment ≡ passes query message moment → (passes asked message moment && not (leaves_out exclusion message)) ≡ is_match query moment exclude message
match_by query asked moment exclude exclusion message is same =
    ap₂ (λ passed out. passed && not out) same (ap (λ e. leaves_out e message) is ∙ left_out query exclude message)

-- the same where it is known whether it is left out
pub match_within : (query asked : Query) (moment : ℤ) (exclude : Bool) (message : View) (out : Bool) → out ≡ leaves_out (exclusion_of query exclude) message
    → passes asked message moment ≡ passes query message moment → (passes asked message moment && not out) ≡ is_match query moment exclude message
match_within query asked moment exclude message out is same =
    ap (λ o. passes asked message moment && not o) is ∙ match_by query asked moment exclude (exclusion_of query exclude) message refl same

-- what has none of these tags is in where it passes
pub not_out : (passed out : Bool) → out ≡ false → passed ≡ (passed && not out)
not_out true true is = absurd (true≢false is)
not_out true false is = refl
not_out false out is = refl
