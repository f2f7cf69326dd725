use Rattle.std.proofs.Common.{rules, ◌≡◌, sym, ap, ◌∙◌, subst, map, not, true, false, take_all, ℤ, to_z, of_z, w64}
use Rattle.std.proofs.lemmas.Int.{to_z-of_z}
use Rattle.std.specs.List.{list_all, list_any}
use Rattle.nm_model_answer.specs.Test.{is_odd, passes}
use Rattle.nm_eval.proofs.query_test.+passing.Goals as goal

pub passes-returns-in-Not : goal.passes-returns-in-Not
passes-returns-in-Not t c =
    let whole : not (passes c.get.result.now c.args.message.now c.args.moment) ≡ passes c.args.query.now c.args.message.now c.args.moment =
    ap (λ query. not (passes query c.args.message.now c.args.moment)) c.get.ensures
    ∙ sym (c.a_tree_passes_as_its_queries_do.ensures.negation c.in-Not.query c.args.message.now c.args.moment)
    ∙ ap (λ query. passes query c.args.message.now c.args.moment) (sym c.in-Not.is) in
    search (rules, whole)

pub passes-returns-in-And : goal.passes-returns-in-And
passes-returns-in-And t c =
    let whole : list_all (λ query. passes query c.args.message.now c.args.moment) c.as_slice.result.now ≡ passes c.args.query.now c.args.message.now c.args.moment =
    ap (λ queries. list_all (λ query. passes query c.args.message.now c.args.moment) queries) c.as_slice.ensures
    ∙ sym (c.a_tree_passes_as_its_queries_do.ensures.all c.in-And.queries c.args.message.now c.args.moment)
    ∙ ap (λ query. passes query c.args.message.now c.args.moment) (sym c.in-And.is) in
    search (rules, whole)

pub passes-returns-in-Or : goal.passes-returns-in-Or
passes-returns-in-Or t c =
    let whole : list_any (λ query. passes query c.args.message.now c.args.moment) c.as_slice-in-Or.result.now ≡ passes c.args.query.now c.args.message.now c.args.moment =
    ap (λ queries. list_any (λ query. passes query c.args.message.now c.args.moment) queries) c.as_slice-in-Or.ensures
    ∙ sym (c.a_tree_passes_as_its_queries_do.ensures.one c.in-Or.queries c.args.message.now c.args.moment)
    ∙ ap (λ query. passes query c.args.message.now c.args.moment) (sym c.in-Or.is) in
    search (rules, whole)

pub passes-returns-in-Xor : goal.passes-returns-in-Xor
passes-returns-in-Xor t c =
    let whole : is_odd (map (λ query. passes query c.args.message.now c.args.moment) c.as_slice-in-Xor.result.now) ≡ passes c.args.query.now c.args.message.now c.args.moment =
    ap (λ queries. is_odd (map (λ query. passes query c.args.message.now c.args.moment) queries)) c.as_slice-in-Xor.ensures
    ∙ sym (c.a_tree_passes_as_its_queries_do.ensures.odd c.in-Xor.queries c.args.message.now c.args.moment)
    ∙ ap (λ query. passes query c.args.message.now c.args.moment) (sym c.in-Xor.is) in
    let told : c.odd_pass.result ≡ is_odd (map (λ query. passes query c.args.message.now c.args.moment) c.as_slice-in-Xor.result.now) =
    subst (λ moment. c.odd_pass.result ≡ is_odd (map (λ query. passes query c.args.message.now moment) c.as_slice-in-Xor.result.now))
    (to_z-of_z w64 c.args.moment c.ranges.moment) c.odd_pass.ensures in
    told ∙ whole

pub all_pass-returns : goal.all_pass-returns
all_pass-returns t c =
    let moment : ℤ = to_z w64 (of_z w64 c.args.moment) in
    let all : list_all (λ query. passes query c.args.message.now moment) c.args.queries.now ≡ true =
    subst (λ queries. list_all (λ query. passes query c.args.message.now moment) queries ≡ true) (take_all c.queries.query-index c.args.queries.now c.queries-test.false) c.queries.invariant in
    sym (subst (λ moment. list_all (λ query. passes query c.args.message.now moment) c.args.queries.now ≡ true) (to_z-of_z w64 c.args.moment c.ranges.moment) all)

pub any_passes-returns : goal.any_passes-returns
any_passes-returns t c =
    let moment : ℤ = to_z w64 (of_z w64 c.args.moment) in
    let all : list_any (λ query. passes query c.args.message.now moment) c.args.queries.now ≡ false =
    subst (λ queries. list_any (λ query. passes query c.args.message.now moment) queries ≡ false) (take_all c.queries.query-index c.args.queries.now c.queries-test.false) c.queries.invariant in
    sym (subst (λ moment. list_any (λ query. passes query c.args.message.now moment) c.args.queries.now ≡ false) (to_z-of_z w64 c.args.moment c.ranges.moment) all)
