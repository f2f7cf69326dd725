-- What the grammar reads as a query is the tree of its tokens. For the proof of `tokens_without_a_fault_are_a_query`.
use Rattle.std.proofs.Common.{◌≡◌, ℕ, zero, suc, ◌+◌, false, cond, ◌==◌, List, [], ◌∷◌, ◌++◌, refl, sym, ap, ◌∙◌, arith, append_assoc}
use Rattle.std.specs.Prelude.{fold}
use Rattle.std.proofs.lemmas.Bool.Decides.{nat_tests}
use Rattle.std.proofs.lemmas.List.Sums.{fold-append}
use Rattle.nm_query.specs.Grammar.{IsAnd, IsGroup, IsOperand, IsOr, IsQuery, IsXor, a_term, alone, an_or, enclosed, more_ands, more_groups, more_operands, more_xors, negated, nothing, one_and, one_group, one_operand, one_xor, placed}
use Rattle.nm_query.specs.Groups.{group_query, joined}
use Rattle.nm_query.specs.Levels.{after, blank, end_conjunction, end_exclusion, end_group, level_query, negated as negated_so, nothing_read, operand, tree_of, with_item}
use Rattle.nm_query.specs.declared.level.Level.{Level}
use Rattle.nm_query.specs.declared.query.Query.{Query}
use Rattle.nm_query.specs.declared.query.Query.TheVariants as tree
use Rattle.nm_query.specs.declared.tree_reader.Reading.{Reading}
use Rattle.nm_query.specs.declared.token.Item.{Item}
use Rattle.nm_query.specs.declared.token.Operator.TheVariants.{Conjunction, Disjunction, Exclusion}
use Rattle.nm_query.specs.declared.token.Placed.{Placed}
use Rattle.nm_query.specs.declared.token.Token.TheVariants.{Binary, Close}

-- what is read after these tokens
abbrev pub reads : Reading → List Placed → Reading
reads reading tokens = fold (λ reading placed. after placed.token reading) reading tokens

abbrev at_level : Level → List Level → Reading
at_level inner outer = record { inner = inner; outer = outer }

abbrev level : List Query → List Query → List Query → List Item → Level
level disjuncts exclusives conjuncts items = record { disjuncts = disjuncts; exclusives = exclusives; conjuncts = conjuncts; items = items; negations = 0 }

reads-append : (reading : Reading) (first tokens : List Placed) → reads reading (first ++ tokens) ≡ reads (reads reading first) tokens
reads-append reading first tokens = fold-append (λ reading placed. after placed.token reading) reading first tokens

not_zero : (n : ℕ) → (suc n == 0) ≡ false
not_zero n = grind (arith, nat_tests)

operand-some : (n : ℕ) (item : Item) → operand (suc n) item ≡ alone (negated_so (suc n) item.query)
operand-some n item = ap (λ v. cond v item (alone (negated_so (suc n) item.query))) (not_zero n)

operand-negated : (n : ℕ) (item : Item) → operand (n + 1) item ≡ operand n (alone (tree.Not item.query))
operand-negated zero item = refl
operand-negated (suc n) item =
    let more : suc n + 1 ≡ suc (suc n) = omega arith in
    ap (λ m. operand m item) more ∙ operand-some (suc n) item ∙ sym (operand-some n (alone (tree.Not item.query)))

-- an operand is read as one more item of its level
record ReadsOr (tokens : List Placed) (queries before : List Query) (outer : List Level) : Type 0 where
  ended : Level
  read : reads (at_level (level before [] [] []) outer) tokens ≡ at_level ended outer
  ends : end_exclusion ended ≡ level (before ++ queries) [] [] []

record ReadsXor (tokens : List Placed) (queries disjuncts before : List Query) (outer : List Level) : Type 0 where
  ended : Level
  read : reads (at_level (level disjuncts before [] []) outer) tokens ≡ at_level ended outer
  ends : end_conjunction ended ≡ level disjuncts (before ++ queries) [] []

record ReadsAnd (tokens : List Placed) (queries disjuncts exclusives before : List Query) (outer : List Level) : Type 0 where
  ended : Level
  read : reads (at_level (level disjuncts exclusives before []) outer) tokens ≡ at_level ended outer
  ends : end_group ended ≡ level disjuncts exclusives (before ++ queries) []

mutual
  reads-operand : (tokens : List Placed) (item : Item) → IsOperand tokens item → (inner : Level) (outer : List Level) → reads (at_level inner outer) tokens ≡ at_level (with_item item inner) outer
  reads-operand tokens item (a_term at item') inner outer = refl
  reads-operand tokens item (negated at rest item' is) inner outer =
      reads-operand rest item' is (record inner { negations = inner.negations + 1 }) outer
      ∙ ap (λ x. at_level (record inner { items = inner.items ++ x ∷ []; negations = 0 }) outer) (operand-negated inner.negations item')
  reads-operand tokens item (enclosed at end rest queries is) inner outer =
      let inside = reads-or rest queries is [] (inner ∷ outer) in
      reads-append (at_level blank (inner ∷ outer)) rest (placed end Close ∷ [])
      ∙ ap (after Close) inside.read
      ∙ ap (λ (ended : Level). at_level (with_item (alone (joined Disjunction ended.disjuncts)) inner) outer) inside.ends

  reads-group : (tokens : List Placed) (items : List Item) → IsGroup tokens items → (disjuncts exclusives conjuncts : List Query) (before : List Item) (outer : List Level) →
      reads (at_level (level disjuncts exclusives conjuncts before) outer) tokens ≡ at_level (level disjuncts exclusives conjuncts (before ++ items)) outer
  reads-group tokens items (one_operand tokens' item is) d e c before outer = reads-operand tokens' item is (level d e c before) outer
  reads-group tokens items (more_operands first rest some item group is) d e c before outer =
      reads-append (at_level (level d e c before) outer) first rest
      ∙ ap (λ x. reads x rest) (reads-group first some group d e c before outer)
      ∙ reads-operand rest item is (level d e c (before ++ some)) outer
      ∙ ap (λ x. at_level (level d e c x) outer) (append_assoc before some (item ∷ []))

  reads-and : (tokens : List Placed) (queries : List Query) → IsAnd tokens queries → (disjuncts exclusives before : List Query) (outer : List Level) → ReadsAnd tokens queries disjuncts exclusives before outer
  reads-and tokens queries (one_group tokens' items is) d e before outer = record {
    ended = level d e before items;
    read = reads-group tokens' items is d e before [] outer;
    ends = refl;
  }
  reads-and tokens queries (more_groups at first rest some items ands is) d e before outer =
      let front = reads-and first some ands d e before outer in record {
        ended = level d e (before ++ some) items;
        read = reads-append (at_level (level d e before []) outer) first (placed at (Binary Conjunction) ∷ rest)
            ∙ ap (λ x. reads x (placed at (Binary Conjunction) ∷ rest)) front.read
            ∙ ap (λ x. reads (at_level x outer) rest) front.ends
            ∙ reads-group rest items is d e (before ++ some) [] outer;
        ends = ap (λ x. level d e x []) (append_assoc before some (group_query items ∷ []));
      }

  reads-xor : (tokens : List Placed) (queries : List Query) → IsXor tokens queries → (disjuncts before : List Query) (outer : List Level) → ReadsXor tokens queries disjuncts before outer
  reads-xor tokens queries (one_and tokens' ands is) d before outer =
      let inside = reads-and tokens' ands is d before [] outer in record {
        ended = inside.ended;
        read = inside.read;
        ends = ap (λ (ended : Level). record ended { exclusives = ended.exclusives ++ joined Conjunction ended.conjuncts ∷ []; conjuncts = [] }) inside.ends;
      }
  reads-xor tokens queries (more_ands at first rest some ands xors is) d before outer =
      let front = reads-xor first some xors d before outer in
      let inside = reads-and rest ands is d (before ++ some) [] outer in record {
        ended = inside.ended;
        read = reads-append (at_level (level d before [] []) outer) first (placed at (Binary Exclusion) ∷ rest)
            ∙ ap (λ x. reads x (placed at (Binary Exclusion) ∷ rest)) front.read
            ∙ ap (λ x. reads (at_level x outer) rest) front.ends
            ∙ inside.read;
        ends = ap (λ (ended : Level). record ended { exclusives = ended.exclusives ++ joined Conjunction ended.conjuncts ∷ []; conjuncts = [] }) inside.ends
            ∙ ap (λ x. level d x [] []) (append_assoc before some (joined Conjunction ands ∷ []));
      }

  reads-or : (tokens : List Placed) (queries : List Query) → IsOr tokens queries → (before : List Query) (outer : List Level) → ReadsOr tokens queries before outer
  reads-or tokens queries (one_xor tokens' xors is) before outer =
      let inside = reads-xor tokens' xors is before [] outer in record {
        ended = inside.ended;
        read = inside.read;
        ends = ap (λ (ended : Level). record ended { disjuncts = ended.disjuncts ++ joined Exclusion ended.exclusives ∷ []; exclusives = [] }) inside.ends;
      }
  reads-or tokens queries (more_xors at first rest some xors ors is) before outer =
      let front = reads-or first some ors before outer in
      let inside = reads-xor rest xors is (before ++ some) [] outer in record {
        ended = inside.ended;
        read = reads-append (at_level (level before [] [] []) outer) first (placed at (Binary Disjunction) ∷ rest)
            ∙ ap (λ x. reads x (placed at (Binary Disjunction) ∷ rest)) front.read
            ∙ ap (λ x. reads (at_level x outer) rest) front.ends
            ∙ inside.read;
        ends = ap (λ (ended : Level). record ended { disjuncts = ended.disjuncts ++ joined Exclusion ended.exclusives ∷ []; exclusives = [] }) inside.ends
            ∙ ap (λ x. level x [] [] []) (append_assoc before some (joined Exclusion xors ∷ []));
      }

query-read : (tokens : List Placed) (query : Query) → IsQuery tokens query → level_query (reads nothing_read tokens).inner ≡ query
query-read tokens query nothing = refl
query-read tokens query (an_or tokens' queries is) =
    let inside = reads-or tokens' queries is [] [] in
    ap (λ (reading : Reading). level_query reading.inner) inside.read ∙ ap (λ (ended : Level). joined Disjunction ended.disjuncts) inside.ends

-- the tree of tokens is the query that the grammar reads in them
pub tree_of-query : (tokens : List Placed) (query : Query) → IsQuery tokens query → tree_of tokens ≡ query
tree_of-query tokens query is = query-read tokens query is
