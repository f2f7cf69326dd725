-- What a query names, by what it joins, and that what passes it is named.
-- For the proofs of `all_named`, `first_named`, `id_of`, `named_ids` and `what_passes_is_named`.
use Rattle.std.proofs.Common.{◌≡◌, refl, sym, ap, subst, ◌∙◌, ℕ, ℤ, zero, suc, ◌<◌, ◌+◌, Bool, true, false, ◌&&◌, ◌||◌, cond, List, [], ◌∷◌, ◌++◌, length, map, take, Option, Some, None, is_some, true≢false, inl, inr, append_assoc, append-nil, arith}
use Rattle.std.specs.Prelude.{slice_index_or, IfOk, Ok, Err}
use Rattle.std.specs.Option.{unwrap_or}
use Rattle.std.specs.Result.{is_ok}
use Rattle.std.specs.List.{list_all, list_any}
use Rattle.std.specs.Cmp.Lexicographic.{nat_list_eq_equiv}
use Rattle.std.proofs.lemmas.Bool.{and_parts, or_cases, or_left, or_right}
use Rattle.std.proofs.lemmas.List.{map-append, take_more}
use Rattle.std.proofs.lemmas.List.Folds.{list_any-append}
use Rattle.nm_base.specs.MessageId.{is_message_id}
use Rattle.nm_base.specs.Order.{has_text, same_text}
use Rattle.nm_base.specs.declared.names.BadValue.TheVariants.{Byte, Length}
use Rattle.nm_query.specs.declared.query.Query.{Query, roll-Query}
use Rattle.nm_query.specs.declared.query.Query.TheOpen.{Query-F}
use Rattle.nm_query.specs.declared.query.Query.TheFolds.{fold-roll-Query, ind-Query, map-Query}
use Rattle.nm_query.specs.declared.query.Query.TheVariants as tree
use Rattle.nm_query.specs.declared.query.Query.TheVariants.{rolls-And, rolls-Or}
use Rattle.nm_model_answer.specs.Test.{node_passes, passes}
use Rattle.nm_model_answer.specs.View.{View}
use Rattle.nm_eval.specs.NamedIds.{all_some, both, first_some, named_ids, node_named}

abbrev Ids : Type 0
Ids = List (List ℕ)

-- ---- by what it joins

at_roll : (node : Query-F Query) → named_ids (roll-Query node) ≡ node_named (map-Query Query (Option Ids) named_ids node)
at_roll node = fold-roll-Query (Option Ids) node_named node

pub named-And : (queries : List Query) → named_ids (tree.And queries) ≡ first_some (map named_ids queries)
named-And queries = ap named_ids (sym (rolls-And queries)) ∙ at_roll (Query-F.And queries)

pub named-Or : (queries : List Query) → named_ids (tree.Or queries) ≡ all_some (map named_ids queries)
named-Or queries = ap named_ids (sym (rolls-Or queries)) ∙ at_roll (Query-F.Or queries)

-- ---- whatever passes it has one of the ids

abbrev IsNamed : Query → Type 0
IsNamed query = (ids : Ids) (message : View) (moment : ℤ) → named_ids query ≡ Some ids → passes query message moment ≡ true → has_text ids message.id ≡ true

-- nothing is named
unnamed : (P : Type 0) (named : Option Ids) (ids : Ids) → named ≡ None → named ≡ Some ids → P
unnamed P named ids none some = absurd (true≢false (sym (ap is_some (sym none ∙ some))))

-- an `or` of two lists of ids
both-by : (named more : Option Ids) (ids : Ids) (id : List ℕ) (here rest : Bool) → both named more ≡ Some ids → ((texts : Ids) → named ≡ Some texts → here ≡ true → has_text texts id ≡ true)
    → ((texts : Ids) → more ≡ Some texts → rest ≡ true → has_text texts id ≡ true) → (here || rest) ≡ true → has_text ids id ≡ true
both-by None more ids id here rest is first others passes = unnamed (has_text ids id ≡ true) None ids refl is
both-by (Some texts) None ids id here rest is first others passes = unnamed (has_text ids id ≡ true) None ids refl is
both-by (Some texts) (Some more) ids id here rest is first others passes =
    let joined : texts ++ more ≡ ids = ap (λ named. unwrap_or named []) is in
    ap (λ all. has_text all id) (sym joined) ∙ list_any-append (same_text id) texts more
    ∙ elim (or_cases here rest passes) [
      | inl it ↦ or_left (has_text texts id) (has_text more id) (first texts refl it)
      | inr it ↦ or_right (has_text texts id) (has_text more id) (others more refl it)
    ]

module _ (all : (queries : List Query) (message : View) (moment : ℤ) → passes (tree.And queries) message moment ≡ list_all (λ query. passes query message moment) queries)
    (one : (queries : List Query) (message : View) (moment : ℤ) → passes (tree.Or queries) message moment ≡ list_any (λ query. passes query message moment) queries) where
  abbrev Proved : Type 0
  Proved = (query : Query) × IsNamed query

  -- the first that names ids is passed too
  and-by : (query : Proved) (queries : List Query) (named : Option Ids) (ids : Ids) (message : View) (moment : ℤ) → named_ids query.0 ≡ named
      → first_some (named ∷ map named_ids queries) ≡ Some ids → list_all (λ q. passes q message moment) (query.0 ∷ queries) ≡ true
      → (first_some (map named_ids queries) ≡ Some ids → list_all (λ q. passes q message moment) queries ≡ true → has_text ids message.id ≡ true) → has_text ids message.id ≡ true
  and-by query queries None ids message moment named is every rest = rest is (and_parts _ _ every).1
  and-by query queries (Some texts) ids message moment named is every rest = query.1 ids message moment (named ∙ is) (and_parts _ _ every).0

  and-named : (queries : List Proved) (ids : Ids) (message : View) (moment : ℤ) → first_some (map named_ids (map (λ e. e.0) queries)) ≡ Some ids
      → list_all (λ q. passes q message moment) (map (λ e. e.0) queries) ≡ true → has_text ids message.id ≡ true
  and-named [] ids message moment is every = unnamed (has_text ids message.id ≡ true) None ids refl is
  and-named (query ∷ queries) ids message moment is every =
      and-by query (map (λ e. e.0) queries) (named_ids query.0) ids message moment refl is every (and-named queries ids message moment)

  or-named : (queries : List Proved) (ids : Ids) (message : View) (moment : ℤ) → all_some (map named_ids (map (λ e. e.0) queries)) ≡ Some ids
      → list_any (λ q. passes q message moment) (map (λ e. e.0) queries) ≡ true → has_text ids message.id ≡ true
  or-named [] ids message moment is some = absurd (true≢false (sym some))
  or-named (query ∷ queries) ids message moment is some =
      both-by (named_ids query.0) (all_some (map named_ids (map (λ e. e.0) queries))) ids message.id (passes query.0 message moment)
      (list_any (λ q. passes q message moment) (map (λ e. e.0) queries)) is (λ texts. query.1 texts message moment) (λ texts. or-named queries texts message moment) some

  id-by : (text : List ℕ) (valid : Bool) (ids : Ids) (id : List ℕ) → cond valid (Some (text ∷ [])) None ≡ Some ids → same_text text id ≡ true → has_text ids id ≡ true
  id-by text true ids id is same =
      ap (λ all. has_text all id) (sym (ap (λ named. unwrap_or named []) is)) ∙ or_left (same_text id text) false (nat_list_eq_equiv.symm id text ∙ same)
  id-by text false ids id is same = unnamed (has_text ids id ≡ true) None ids refl is

  of_others : (node : Query-F Query) → node_named (map-Query Query (Option Ids) named_ids node) ≡ None → IsNamed (roll-Query node)
  of_others node none ids message moment is passed = unnamed (has_text ids message.id ≡ true) (named_ids (roll-Query node)) ids (at_roll node ∙ none) is

  of_node : (node : Query-F Proved) → IsNamed (roll-Query (map-Query Proved Query (λ e. e.0) node))
  of_node (Query-F.Id text) ids message moment is passed =
      id-by text (is_message_id text) ids message.id (sym (at_roll (Query-F.Id text)) ∙ is) (sym (fold-roll-Query Bool (node_passes message moment) (Query-F.Id text)) ∙ passed)
  of_node (Query-F.And queries) ids message moment is passed =
      let inner : List Query = map (λ e. e.0) queries in
      and-named queries ids message moment (sym (at_roll (Query-F.And inner)) ∙ is)
      (sym (all inner message moment) ∙ ap (λ query. passes query message moment) (sym (rolls-And inner)) ∙ passed)
  of_node (Query-F.Or queries) ids message moment is passed =
      let inner : List Query = map (λ e. e.0) queries in
      or-named queries ids message moment (sym (at_roll (Query-F.Or inner)) ∙ is)
      (sym (one inner message moment) ∙ ap (λ query. passes query message moment) (sym (rolls-Or inner)) ∙ passed)
  of_node Query-F.All ids message moment is passed = of_others Query-F.All refl ids message moment is passed
  of_node (Query-F.Words field words starts) ids message moment is passed = of_others (Query-F.Words field words starts) refl ids message moment is passed
  of_node (Query-F.Tag tag) ids message moment is passed = of_others (Query-F.Tag tag) refl ids message moment is passed
  of_node (Query-F.Thread number) ids message moment is passed = of_others (Query-F.Thread number) refl ids message moment is passed
  of_node (Query-F.Folder folder) ids message moment is passed = of_others (Query-F.Folder folder) refl ids message moment is passed
  of_node (Query-F.Path folder deep) ids message moment is passed = of_others (Query-F.Path folder deep) refl ids message moment is passed
  of_node (Query-F.Mime type) ids message moment is passed = of_others (Query-F.Mime type) refl ids message moment is passed
  of_node (Query-F.Dates from to) ids message moment is passed = of_others (Query-F.Dates from to) refl ids message moment is passed
  of_node (Query-F.Not query) ids message moment is passed = of_others (Query-F.Not query.0) refl ids message moment is passed
  of_node (Query-F.Xor queries) ids message moment is passed = of_others (Query-F.Xor (map (λ e. e.0) queries)) refl ids message moment is passed

  pub named_has : (query : Query) → IsNamed query
  named_has = ind-Query IsNamed (λ node shown is. subst (λ n. IsNamed (roll-Query n)) is (of_node shown))

-- ---- lists of queries

-- the first that names ids tells them
first-by : (named : Option Ids) (more : List (Option Ids)) (ids : Ids) → named ≡ Some ids → first_some (named ∷ more) ≡ Some ids
first-by None more ids is = absurd (true≢false (sym (ap is_some is)))
first-by (Some other) more ids is = is

none-parts : (named : Option Ids) (more : List (Option Ids)) → first_some (named ∷ more) ≡ None → (named ≡ None) × (first_some more ≡ None)
none-parts None more none = (refl, none)
none-parts (Some ids) more none = absurd (true≢false (ap is_some none))

pub first_found : {X : Type 0} (f : X → Option Ids) (xs : List X) (i : ℕ) (d : X) (ids : Ids) → i < length xs → first_some (map f (take i xs)) ≡ None → f (slice_index_or xs i d) ≡ Some ids
    → first_some (map f xs) ≡ Some ids
first_found f [] i d ids below none is = absurd (omega (arith, below))
first_found f (x ∷ xs) zero d ids below none is = first-by (f x) (map f xs) ids is
first_found f (x ∷ xs) (suc i) d ids below none is =
    let parts = none-parts (f x) (map f (take i xs)) none in
    ap (λ a. first_some (a ∷ map f xs)) parts.0 ∙ first_found f xs i d ids (omega (arith, below)) parts.1 is

pub none_more : {X : Type 0} (f : X → Option Ids) (xs : List X) (i : ℕ) (d : X) → i < length xs → first_some (map f (take i xs)) ≡ None → f (slice_index_or xs i d) ≡ None
    → first_some (map f (take (i + 1) xs)) ≡ None
none_more f [] i d below none is = absurd (omega (arith, below))
none_more f (x ∷ xs) zero d below none is = ap (λ a. first_some (a ∷ [])) is
none_more f (x ∷ xs) (suc i) d below none is =
    let parts = none-parts (f x) (map f (take i xs)) none in
    let next : suc i + 1 ≡ suc (i + 1) = omega arith in
    ap (λ n. first_some (map f (take n (x ∷ xs)))) next ∙ ap (λ a. first_some (a ∷ map f (take (i + 1) xs))) parts.0 ∙ none_more f xs i d (omega (arith, below)) parts.1 is

-- all of them, with one more
both-first : (more : Option Ids) → both (Some []) more ≡ more
both-first None = refl
both-first (Some ids) = refl

both-assoc : (a b c : Option Ids) → both a (both b c) ≡ both (both a b) c
both-assoc None b c = refl
both-assoc (Some a) None c = refl
both-assoc (Some a) (Some b) None = refl
both-assoc (Some a) (Some b) (Some c) = ap Some (sym (append_assoc a b c))

all-append : (xs ys : List (Option Ids)) → all_some (xs ++ ys) ≡ both (all_some xs) (all_some ys)
all-append [] ys = sym (both-first (all_some ys))
all-append (x ∷ xs) ys = ap (both x) (all-append xs ys) ∙ both-assoc x (all_some xs) (all_some ys)

pub all_more : {X : Type 0} (f : X → Option Ids) (xs : List X) (i : ℕ) (d : X) (so_far ids all : Ids) → i < length xs → all_some (map f (take i xs)) ≡ Some so_far
    → f (slice_index_or xs i d) ≡ Some ids → all ≡ so_far ++ ids → all_some (map f (take (i + 1) xs)) ≡ Some all
all_more f xs i d so_far ids all below before is joined =
    ap (λ items. all_some (map f items)) (take_more xs i d below) ∙ ap all_some (map-append f (take i xs) (slice_index_or xs i d ∷ []))
    ∙ all-append (map f (take i xs)) (f (slice_index_or xs i d) ∷ [])
    ∙ ap (λ named. both named (both (f (slice_index_or xs i d)) (Some []))) before ∙ ap (λ named. both (Some so_far) (both named (Some []))) is
    ∙ ap (λ more. Some (so_far ++ more)) (append-nil ids) ∙ ap Some (sym joined)

both-none : (named : Option Ids) → both named None ≡ None
both-none None = refl
both-none (Some ids) = refl

pub one_unnamed : {X : Type 0} (f : X → Option Ids) (xs : List X) (i : ℕ) (d : X) → i < length xs → f (slice_index_or xs i d) ≡ None → all_some (map f xs) ≡ None
one_unnamed f [] i d below is = absurd (omega (arith, below))
one_unnamed f (x ∷ xs) zero d below is = ap (λ named. both named (all_some (map f xs))) is
one_unnamed f (x ∷ xs) (suc i) d below is = ap (both (f x)) (one_unnamed f xs i d (omega (arith, below)) is) ∙ both-none (f x)

-- ---- the id of a term

pub id_is : (fits keeps : Bool) (text id : List ℕ) → cond fits (cond keeps (Ok text) (Err Byte)) (Err Length) ≡ Ok id → Some (id ∷ []) ≡ cond (fits && keeps) (Some (text ∷ [])) None
id_is true true text id is = ap (λ t. Some (t ∷ [])) (subst (λ r. IfOk r (λ it. it ≡ text)) is refl)
id_is true false text id is = absurd (true≢false (sym (ap is_ok is)))
id_is false keeps text id is = absurd (true≢false (sym (ap is_ok is)))

pub no_id : (fits keeps : Bool) (text : List ℕ) → is_ok (cond fits (cond keeps (Ok text) (Err Byte)) (Err Length)) ≡ false → None ≡ cond (fits && keeps) (Some (text ∷ [])) None
no_id true true text none = absurd (true≢false none)
no_id true false text none = refl
no_id false keeps text none = refl
