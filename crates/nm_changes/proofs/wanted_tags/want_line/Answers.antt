use Rattle.std.proofs.Common.{rules, ◌≡◌, ℕ, ℤ, List, ◌++◌, sym, ap, ◌∙◌, subst, w64, to_z, of_z}
use Rattle.std.specs.Prelude.{IfOk, IsTrue}
use Rattle.std.specs.List.{AllByRecursion}
use Rattle.nm_commit.specs.Files.{has_id}
use Rattle.nm_model_answer.specs.WantedTags.{found_by, retagged}
use Rattle.nm_eval.specs.Numbers.{live_at_numbers}
use Rattle.nm_changes.proofs.WantedTagLemmas.{always, sets_are}
use Rattle.nm_changes.proofs.wanted_tags.want_line.Goals as goal

pub with_tags-requires : goal.with_tags-requires
with_tags-requires c =
    let moment : ℤ = to_z w64 (of_z w64 c.args.moment) in
    let same : moment ≡ c.args.moment = search rules in
    let sets = sets_are c.args.moment moment c.args.before c.args.line.now c.in_ok-found.found c.as_slice.result.now c.in_ok-sets.sets same c.in_ok-found.ensures c.as_slice.ensures c.in_ok-sets.ensures in
    record {
      live = subst (AllByRecursion {X = List ℕ × List (List ℕ)} (λ set. IsTrue (has_id c.args.before.files set.0))) (sym sets)
          (c.a_line_tags_what_it_finds.ensures.live c.args.moment c.args.before c.args.line.now);
    }

pub returns-clause-after : goal.returns-clause-after
returns-clause-after c =
    let moment : ℤ = to_z w64 (of_z w64 c.args.moment) in
    let same : moment ≡ c.args.moment = search rules in
    let sets = sets_are c.args.moment moment c.args.before c.args.line.now c.in_ok-found.found c.as_slice.result.now c.in_ok-sets.sets same c.in_ok-found.ensures c.as_slice.ensures c.in_ok-sets.ensures in
    subst (λ (l : List (List ℕ × List (List ℕ))). IfOk c.with_tags.result (λ after. after ≡ retagged c.args.before l)) sets c.with_tags.ensures

pub returns-clause-found : goal.returns-clause-found
returns-clause-found c =
    let moment : ℤ = to_z w64 (of_z w64 c.args.moment) in
    let same : moment ≡ c.args.moment = search rules in
    let found : c.in_ok-found.found ≡ found_by c.args.moment c.args.before c.args.line.now = c.in_ok-found.ensures ∙ ap (λ (m : ℤ). found_by m c.args.before c.args.line.now) same in
    always c.with_tags.result
    (λ ids so_far. c.in_ok-add_all_numbered.ensures ids so_far ∙ ap (λ (l : List (List ℕ)). live_at_numbers c.args.before (ids ++ l)) (c.as_slice-2.ensures ∙ found))
