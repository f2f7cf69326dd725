-- How many ids changes name. For the proof of `ids_named`.
use Rattle.std.proofs.Common.{◌≡◌, sym, ap, ◌∙◌, ℕ, ◌+◌, ◌<◌, List, [], ◌∷◌, ◌++◌, length, min, take, arith}
use Rattle.std.specs.Prelude.{slice_index_or}
use Rattle.std.proofs.lemmas.List.{take_more}
use Rattle.nm_base.specs.Limits.{max_count}
use Rattle.nm_commit.specs.declared.change.Change.{Change}
use Rattle.nm_model_index.specs.Fits.{ids_named, named_ids}

named_push : (xs : List Change) (x : Change) → ids_named (xs ++ x ∷ []) ≡ ids_named xs + named_ids x
named_push [] x = omega arith
named_push (y ∷ xs) x = omega (arith, named_push xs x)

-- one change more, as far as a number can count it
pub one_more_named : (xs : List Change) (i : ℕ) (x : Change) (count names new : ℕ) → i < length xs → x ≡ slice_index_or xs i x → count ≡ min (ids_named (take i xs)) max_count → names ≡ min (named_ids x) max_count
    → new ≡ min (count + names) max_count → new ≡ min (ids_named (take (i + 1) xs)) max_count
one_more_named xs i x count names new lt item counted named more =
    let all : ids_named (take (i + 1) xs) ≡ ids_named (take i xs) + named_ids x = ap ids_named (take_more xs i x lt) ∙ named_push (take i xs) (slice_index_or xs i x) ∙ ap (λ y. ids_named (take i xs) + named_ids y) (sym item) in omega (arith, all, counted, named, more)
