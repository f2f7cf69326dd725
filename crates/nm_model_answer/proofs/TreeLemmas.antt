-- What a tree says, by what its queries say.
-- For the proofs of `a_tree_names_the_tags_of_its_queries` and `a_tree_passes_as_its_queries_do`.
use Rattle.std.proofs.Common.{◌≡◌, refl, sym, ap, ◌∙◌, ℕ, ℤ, Bool, not, ◌&&◌, ◌||◌, List, [], ◌∷◌, map}
use Rattle.std.specs.List.{list_all, list_any}
use Rattle.nm_base.specs.Order.{same_text}
use Rattle.nm_query.specs.declared.query.Query.{Query}
use Rattle.nm_query.specs.declared.query.Query.TheOpen.{Query-F}
use Rattle.nm_query.specs.declared.query.Query.TheFolds.{fold-roll-Query}
use Rattle.nm_query.specs.declared.query.Query.TheVariants as tree
use Rattle.nm_query.specs.declared.query.Query.TheVariants.{rolls-And, rolls-Not, rolls-Or, rolls-Tag, rolls-Xor}
use Rattle.nm_model_answer.specs.Matches.{names_tag, node_names}
use Rattle.nm_model_answer.specs.Test.{is_odd, node_passes, passes}
use Rattle.nm_model_answer.specs.View.{View}

all_answers : {X : Type 0} (f : X → Bool) (xs : List X) → list_all (λ answer. answer) (map f xs) ≡ list_all f xs
all_answers f [] = refl
all_answers f (x ∷ xs) = ap (λ more. f x && more) (all_answers f xs)

any_answer : {X : Type 0} (f : X → Bool) (xs : List X) → list_any (λ answer. answer) (map f xs) ≡ list_any f xs
any_answer f [] = refl
any_answer f (x ∷ xs) = ap (λ more. f x || more) (any_answer f xs)

-- ---- passing

pub passes-Not : (query : Query) (message : View) (moment : ℤ) → passes (tree.Not query) message moment ≡ not (passes query message moment)
passes-Not query message moment = ap (λ q. passes q message moment) (sym (rolls-Not query)) ∙ fold-roll-Query Bool (node_passes message moment) (Query-F.Not query)

pub passes-And : (queries : List Query) (message : View) (moment : ℤ) → passes (tree.And queries) message moment ≡ list_all (λ query. passes query message moment) queries
passes-And queries message moment =
    ap (λ q. passes q message moment) (sym (rolls-And queries)) ∙ fold-roll-Query Bool (node_passes message moment) (Query-F.And queries)
    ∙ all_answers (λ query. passes query message moment) queries

pub passes-Or : (queries : List Query) (message : View) (moment : ℤ) → passes (tree.Or queries) message moment ≡ list_any (λ query. passes query message moment) queries
passes-Or queries message moment =
    ap (λ q. passes q message moment) (sym (rolls-Or queries)) ∙ fold-roll-Query Bool (node_passes message moment) (Query-F.Or queries)
    ∙ any_answer (λ query. passes query message moment) queries

pub passes-Xor : (queries : List Query) (message : View) (moment : ℤ) → passes (tree.Xor queries) message moment ≡ is_odd (map (λ query. passes query message moment) queries)
passes-Xor queries message moment =
    ap (λ q. passes q message moment) (sym (rolls-Xor queries)) ∙ fold-roll-Query Bool (node_passes message moment) (Query-F.Xor queries)

-- ---- naming a tag

pub names-Tag : (named tag : List ℕ) → names_tag (tree.Tag named) tag ≡ same_text tag named
names-Tag named tag = ap (λ q. names_tag q tag) (sym (rolls-Tag named)) ∙ fold-roll-Query Bool (node_names tag) (Query-F.Tag named)

pub names-Not : (query : Query) (tag : List ℕ) → names_tag (tree.Not query) tag ≡ names_tag query tag
names-Not query tag = ap (λ q. names_tag q tag) (sym (rolls-Not query)) ∙ fold-roll-Query Bool (node_names tag) (Query-F.Not query)

pub names-And : (queries : List Query) (tag : List ℕ) → names_tag (tree.And queries) tag ≡ list_any (λ query. names_tag query tag) queries
names-And queries tag =
    ap (λ q. names_tag q tag) (sym (rolls-And queries)) ∙ fold-roll-Query Bool (node_names tag) (Query-F.And queries)
    ∙ any_answer (λ query. names_tag query tag) queries

pub names-Or : (queries : List Query) (tag : List ℕ) → names_tag (tree.Or queries) tag ≡ list_any (λ query. names_tag query tag) queries
names-Or queries tag =
    ap (λ q. names_tag q tag) (sym (rolls-Or queries)) ∙ fold-roll-Query Bool (node_names tag) (Query-F.Or queries)
    ∙ any_answer (λ query. names_tag query tag) queries

pub names-Xor : (queries : List Query) (tag : List ℕ) → names_tag (tree.Xor queries) tag ≡ list_any (λ query. names_tag query tag) queries
names-Xor queries tag =
    ap (λ q. names_tag q tag) (sym (rolls-Xor queries)) ∙ fold-roll-Query Bool (node_names tag) (Query-F.Xor queries)
    ∙ any_answer (λ query. names_tag query tag) queries
