-- Queries that are passed alike. For the proof of `prepared_query`.
use Rattle.std.proofs.Common.{◌≡◌, refl, sym, ap, ap₂, ◌∙◌, ℕ, ◌+◌, ◌<◌, ℤ, Bool, ◌&&◌, ◌||◌, List, [], ◌∷◌, ◌++◌, length, map, take, Option}
use Rattle.std.specs.Prelude.{slice_index_or}
use Rattle.std.specs.List.{list_all, list_any}
use Rattle.std.proofs.lemmas.List.{map-append, take_more}
use Rattle.nm_dates.specs.declared.end.End.{End}
use Rattle.nm_query.specs.declared.query.Query.TheOpen.{Query-F}
use Rattle.nm_query.specs.declared.query.Query.TheFolds.{fold-roll-Query}
use Rattle.nm_query.specs.declared.query.Query.TheVariants as tree
use Rattle.nm_query.specs.declared.query.Query.TheVariants.{rolls-Dates}
use Rattle.nm_model_answer.specs.Test.{is_from, is_to, node_passes, passes}
use Rattle.nm_model_answer.specs.View.{View, lead_date}

-- ---- dates

passes-Dates : (from to : Option End) (message : View) (moment : ℤ) → passes (tree.Dates from to) message moment ≡ (is_from from moment (lead_date message.files) && is_to to moment (lead_date message.files))
passes-Dates from to message moment =
    ap (λ query. passes query message moment) (sym (rolls-Dates from to)) ∙ fold-roll-Query Bool (node_passes message moment) (Query-F.Dates from to)

-- with ends that bound alike
pub same_dates : (from to first last : Option End) (moment : ℤ) → ((date : ℤ) → is_from first moment date ≡ is_from from moment date) → ((date : ℤ) → is_to last moment date ≡ is_to to moment date)
    → (message : View) → passes (tree.Dates first last) message moment ≡ passes (tree.Dates from to) message moment
same_dates from to first last moment begins ends message =
    passes-Dates first last message moment ∙ ap₂ (λ a b. a && b) (begins (lead_date message.files)) (ends (lead_date message.files)) ∙ sym (passes-Dates from to message moment)

-- ---- lists

-- what all items say is what their answers say
all_said : {X : Type 0} (p : X → Bool) (xs : List X) → list_all p xs ≡ list_all (λ a. a) (map p xs)
all_said p [] = refl
all_said p (x ∷ xs) = ap (λ more. p x && more) (all_said p xs)

any_said : {X : Type 0} (p : X → Bool) (xs : List X) → list_any p xs ≡ list_any (λ a. a) (map p xs)
any_said p [] = refl
any_said p (x ∷ xs) = ap (λ more. p x || more) (any_said p xs)

pub all_same : {X : Type 0} (p : X → Bool) (xs ys : List X) → map p xs ≡ map p ys → list_all p xs ≡ list_all p ys
all_same p xs ys same = all_said p xs ∙ ap (list_all (λ a. a)) same ∙ sym (all_said p ys)

pub any_same : {X : Type 0} (p : X → Bool) (xs ys : List X) → map p xs ≡ map p ys → list_any p xs ≡ list_any p ys
any_same p xs ys same = any_said p xs ∙ ap (list_any (λ a. a)) same ∙ sym (any_said p ys)

-- one item more, which says what the next one says
pub one_more : {X : Type 0} (p : X → Bool) (xs new ys : List X) (x : X) (i : ℕ) (d : X) → i < length ys → new ≡ xs ++ x ∷ [] → p x ≡ p (slice_index_or ys i d)
    → map p xs ≡ map p (take i ys) → map p new ≡ map p (take (i + 1) ys)
one_more p xs new ys x i d below put same all =
    ap (map p) put ∙ map-append p xs (x ∷ []) ∙ ap₂ (λ front last. front ++ last ∷ []) all same
    ∙ sym (map-append p (take i ys) (slice_index_or ys i d ∷ [])) ∙ ap (map p) (sym (take_more ys i d below))
