use Rattle.std.proofs.Common.{◌≡◌, ◌∷◌, [], ◌++◌, ◌||◌, true, false, not, rules, ap, sym, ◌∙◌, arith, nat_eq, length, ◌+◌, ◌≤◌, Some, ℕ, List, Option}
use Rattle.std.proofs.lemmas.List.{length-append}
use Rattle.std.specs.List.{list_any}
use Rattle.nm_model_index.specs.Index.{rows_of}
use Rattle.nm_threads.specs.Name.{thread_name}
use Rattle.nm_render.proofs.OnceLemmas.{any_end, enough, is_absent, is_there, new_more, none_more, old_more, seen_again}
use Rattle.nm_render.proofs.lists.first_threads.Goals as goal
use Rattle.nm_render.proofs.lists.first_threads.Goals.{then-branch+in_ok-push, else-branch}

pub returns-then-most-len : goal.returns-then-most-len
returns-then-most-len c =
    let name_of : List ℕ → Option ℕ = thread_name (rows_of c.args.snapshot.now) c.args.snapshot.now.entries in
    enough nat_eq name_of c.args.ids.now c.ids.id-index c.args.most c.ids.names c.ids.invariant.0 c.ids.invariant.1 (search rules)

pub ids-preserved-in_default : goal.ids-preserved-in_default
ids-preserved-in_default c =
    let name_of : List ℕ → Option ℕ = thread_name (rows_of c.args.snapshot.now) c.args.snapshot.now.entries in
    (none_more nat_eq name_of c.args.ids.now c.ids.id-index c.id-item.result c.ids.names c.ids-test.true c.id-item.is c.ids.invariant.0 (search rules), c.ids.invariant.1, c.ids.invariant.2)

pub ids-preserved : goal.ids-preserved
ids-preserved c =
    let name_of : List ℕ → Option ℕ = thread_name (rows_of c.args.snapshot.now) c.args.snapshot.now.entries in
    let told : name_of c.id-item.result ≡ Some c.in-Some.name = search rules in
    let is_new : c.in_ok-insert.field-0 ≡ not (list_any (nat_eq c.in-Some.name) c.ids.seen) = search rules in
    let fewer : length c.ids.names + 1 ≤ c.args.most = search rules in
    let has : (name : ℕ) → list_any (nat_eq name) c.insert.new.self ≡ (nat_eq name c.in-Some.name || list_any (nat_eq name) c.ids.names) =
    λ name. c.in_ok-insert.ensures.has name ∙ ap (λ b. nat_eq name c.in-Some.name || b) (c.ids.invariant.2 name) in
    elim c.if-branch.branch [
      | then-branch+in_ok-push w ↦
          let pushed : c.if-branch.names ≡ c.ids.names ++ c.in-Some.name ∷ [] = search rules in
          let absent : list_any (nat_eq c.in-Some.name) c.ids.names ≡ false =
          sym (c.ids.invariant.2 c.in-Some.name) ∙ is_absent (list_any (nat_eq c.in-Some.name) c.ids.seen) c.in_ok-insert.field-0 is_new w.if-branch.true in (
            pushed ∙ new_more nat_eq name_of c.args.ids.now c.ids.id-index c.id-item.result c.ids.names c.in-Some.name c.ids-test.true c.id-item.is c.ids.invariant.0 told absent,
            omega (arith, ap length pushed, length-append c.ids.names (c.in-Some.name ∷ []), fewer),
            λ name. has name ∙ sym (ap (list_any (nat_eq name)) pushed ∙ any_end (nat_eq name) c.ids.names c.in-Some.name),
          )
      | else-branch w ↦
          let there : list_any (nat_eq c.in-Some.name) c.ids.names ≡ true =
          sym (c.ids.invariant.2 c.in-Some.name) ∙ is_there (list_any (nat_eq c.in-Some.name) c.ids.seen) c.in_ok-insert.field-0 is_new w.if-branch.false in (
            w.names-is ∙ old_more nat_eq name_of c.args.ids.now c.ids.id-index c.id-item.result c.ids.names c.in-Some.name c.ids-test.true c.id-item.is c.ids.invariant.0 told there,
            omega (arith, ap length w.names-is, c.ids.invariant.1),
            λ name. has name ∙ seen_again name c.in-Some.name c.ids.names there ∙ sym (ap (list_any (nat_eq name)) w.names-is),
          )
    ]
