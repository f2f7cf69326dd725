-- Which queries are quick, by what they join, and what a list of queries says once its quick ones come first.
-- For the proofs of `prepared_query` and `quick`.
use Rattle.std.proofs.Common.{◌≡◌, refl, sym, ap, ◌∙◌, Bool, true, false, not, cond, ◌&&◌, ◌||◌, List, [], ◌∷◌, filter, map}
use Rattle.std.proofs.lemmas.List.Folds.{list_all-append, list_any-append}
use Rattle.std.proofs.Math.Bool.{and-false, or-true}
use Rattle.std.specs.List.{list_all, list_any}
use Rattle.nm_query.specs.declared.query.Query.{Query}
use Rattle.nm_query.specs.declared.query.Query.TheOpen.{Query-F}
use Rattle.nm_query.specs.declared.query.Query.TheFolds.{fold-roll-Query}
use Rattle.nm_query.specs.declared.query.Query.TheVariants as tree
use Rattle.nm_query.specs.declared.query.Query.TheVariants.{rolls-And, rolls-Or, rolls-Xor}
use Rattle.nm_eval.specs.Quick.{is_quick, node_is_quick, quick_first}

-- ---- by what it joins

all_answers : {X : Type 0} (f : X → Bool) (xs : List X) → list_all (λ answer. answer) (map f xs) ≡ list_all f xs
all_answers f [] = refl
all_answers f (x ∷ xs) = ap (λ more. f x && more) (all_answers f xs)

pub quick-And : (queries : List Query) → is_quick (tree.And queries) ≡ list_all is_quick queries
quick-And queries = ap is_quick (sym (rolls-And queries)) ∙ fold-roll-Query Bool node_is_quick (Query-F.And queries) ∙ all_answers is_quick queries

pub quick-Or : (queries : List Query) → is_quick (tree.Or queries) ≡ list_all is_quick queries
quick-Or queries = ap is_quick (sym (rolls-Or queries)) ∙ fold-roll-Query Bool node_is_quick (Query-F.Or queries) ∙ all_answers is_quick queries

pub quick-Xor : (queries : List Query) → is_quick (tree.Xor queries) ≡ list_all is_quick queries
quick-Xor queries = ap is_quick (sym (rolls-Xor queries)) ∙ fold-roll-Query Bool node_is_quick (Query-F.Xor queries) ∙ all_answers is_quick queries

-- ---- in two turns

all_first : (a first second all : Bool) → (first && second) ≡ all → ((a && first) && second) ≡ (a && all)
all_first true first second all is = is
all_first false first second all is = refl

all_second : (a first second all : Bool) → (first && second) ≡ all → (first && (a && second)) ≡ (a && all)
all_second true first second all is = is
all_second false first second all is = and-false first

any_first : (a first second all : Bool) → (first || second) ≡ all → ((a || first) || second) ≡ (a || all)
any_first true first second all is = refl
any_first false first second all is = is

any_second : (a first second all : Bool) → (first || second) ≡ all → (first || (a || second)) ≡ (a || all)
any_second true first second all is = or-true first
any_second false first second all is = is

-- an item more, in its turn
all_with : {X : Type 0} (p : X → Bool) (x : X) (taken : Bool) (xs ys : List X) (all : Bool) → (list_all p xs && list_all p ys) ≡ all
    → (list_all p (cond taken (x ∷ xs) xs) && list_all p (cond (not taken) (x ∷ ys) ys)) ≡ (p x && all)
all_with p x true xs ys all is = all_first (p x) (list_all p xs) (list_all p ys) all is
all_with p x false xs ys all is = all_second (p x) (list_all p xs) (list_all p ys) all is

any_with : {X : Type 0} (p : X → Bool) (x : X) (taken : Bool) (xs ys : List X) (all : Bool) → (list_any p xs || list_any p ys) ≡ all
    → (list_any p (cond taken (x ∷ xs) xs) || list_any p (cond (not taken) (x ∷ ys) ys)) ≡ (p x || all)
any_with p x true xs ys all is = any_first (p x) (list_any p xs) (list_any p ys) all is
any_with p x false xs ys all is = any_second (p x) (list_any p xs) (list_any p ys) all is

all_parts : {X : Type 0} (taken p : X → Bool) (xs : List X) → (list_all p (filter taken xs) && list_all p (filter (λ x. not (taken x)) xs)) ≡ list_all p xs
all_parts taken p [] = refl
all_parts taken p (x ∷ xs) = all_with p x (taken x) (filter taken xs) (filter (λ y. not (taken y)) xs) (list_all p xs) (all_parts taken p xs)

any_parts : {X : Type 0} (taken p : X → Bool) (xs : List X) → (list_any p (filter taken xs) || list_any p (filter (λ x. not (taken x)) xs)) ≡ list_any p xs
any_parts taken p [] = refl
any_parts taken p (x ∷ xs) = any_with p x (taken x) (filter taken xs) (filter (λ y. not (taken y)) xs) (list_any p xs) (any_parts taken p xs)

-- where the quick queries come first, all are passed where all are, and one where one is
pub all_quick_first : (p : Query → Bool) (queries : List Query) → list_all p (quick_first queries) ≡ list_all p queries
all_quick_first p queries = list_all-append p (filter is_quick queries) (filter (λ query. not (is_quick query)) queries) ∙ all_parts is_quick p queries

pub any_quick_first : (p : Query → Bool) (queries : List Query) → list_any p (quick_first queries) ≡ list_any p queries
any_quick_first p queries = list_any-append p (filter is_quick queries) (filter (λ query. not (is_quick query)) queries) ∙ any_parts is_quick p queries
