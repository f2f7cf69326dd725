use Rattle.std.proofs.Common.{◌≡◌, sym, ap, subst, ◌∙◌, not, map, take_all, ℤ, to_z, of_z, w64}
use Rattle.std.proofs.lemmas.Int.{to_z-of_z}
use Rattle.std.specs.List.{list_all, list_any}
use Rattle.nm_model_answer.specs.Test.{is_from, is_odd, is_to, passes}
use Rattle.nm_eval.proofs.PreparedLemmas.{all_same, any_same, one_more, same_dates}
use Rattle.nm_eval.proofs.QuickLemmas.{all_quick_first, any_quick_first}
use Rattle.nm_eval.proofs.prepared_query.+preparing.Goals as goal

pub each_prepared-queries-preserved : goal.each_prepared-queries-preserved
each_prepared-queries-preserved t c = λ message.
    let moment : ℤ = to_z w64 (of_z w64 c.args.moment) in
    one_more (λ query. passes query message moment) c.queries.asked c.push.new.self c.args.queries.now c.in_ok-prepared.field-0 c.queries.query-index c.query-item.result c.queries-test.true c.in_ok-push.ensures.ok
    (c.in_ok-prepared.ensures message ∙ ap (λ query. passes query message moment) c.query-item.is) (c.queries.invariant message)

pub each_prepared-returns : goal.each_prepared-returns
each_prepared-returns t c = λ message.
    let moment : ℤ = to_z w64 (of_z w64 c.args.moment) in
    subst (λ moment. map (λ query. passes query message moment) c.queries.asked ≡ map (λ query. passes query message moment) c.args.queries.now) (to_z-of_z w64 c.args.moment c.ranges.moment)
    (subst (λ queries. map (λ query. passes query message moment) c.queries.asked ≡ map (λ query. passes query message moment) queries) (take_all c.queries.query-index c.args.queries.now c.queries-test.false) (c.queries.invariant message))

pub prepared-returns-in-Dates : goal.prepared-returns-in-Dates
prepared-returns-in-Dates t c = λ message.
    same_dates c.in-Dates.from c.in-Dates.to c.first_of.result c.last_of.result c.args.moment
    (subst (λ moment. (date : ℤ) → is_from c.first_of.result moment date ≡ is_from c.in-Dates.from moment date) (to_z-of_z w64 c.args.moment c.ranges.moment) c.first_of.ensures)
    (subst (λ moment. (date : ℤ) → is_to c.last_of.result moment date ≡ is_to c.in-Dates.to moment date) (to_z-of_z w64 c.args.moment c.ranges.moment) c.last_of.ensures) message
    ∙ ap (λ query. passes query message c.args.moment) (sym c.in-Dates.is)

pub prepared-returns-in_ok-new-in-Not : goal.prepared-returns-in_ok-new-in-Not
prepared-returns-in_ok-new-in-Not t c = λ message.
    let law = c.a_tree_passes_as_its_queries_do.ensures.negation in
    let same : passes c.in_ok-asked-in-Not.asked message c.args.moment ≡ passes c.get.result.now message c.args.moment =
    subst (λ moment. passes c.in_ok-asked-in-Not.asked message moment ≡ passes c.get.result.now message moment) (to_z-of_z w64 c.args.moment c.ranges.moment) (c.in_ok-asked-in-Not.ensures message) in
    law c.in_ok-new-in-Not.field-0 message c.args.moment
    ∙ ap (λ query. not (passes query message c.args.moment)) c.in_ok-new-in-Not.ensures
    ∙ ap not same
    ∙ ap (λ query. not (passes query message c.args.moment)) c.get.ensures
    ∙ sym (law c.in-Not.query message c.args.moment)
    ∙ ap (λ query. passes query message c.args.moment) (sym c.in-Not.is)

pub prepared-returns-in_ok-quick_first-in-And : goal.prepared-returns-in_ok-quick_first-in-And
prepared-returns-in_ok-quick_first-in-And t c = λ message.
    let law = c.a_tree_passes_as_its_queries_do.ensures.all in
    let same : map (λ query. passes query message c.args.moment) c.in_ok-asked-in-And.asked ≡ map (λ query. passes query message c.args.moment) c.as_slice.result.now =
    subst (λ moment. map (λ query. passes query message moment) c.in_ok-asked-in-And.asked ≡ map (λ query. passes query message moment) c.as_slice.result.now)
    (to_z-of_z w64 c.args.moment c.ranges.moment) (c.in_ok-asked-in-And.ensures message) in
    law c.in_ok-quick_first-in-And.field-0 message c.args.moment
    ∙ ap (list_all (λ query. passes query message c.args.moment)) c.in_ok-quick_first-in-And.ensures
    ∙ all_quick_first (λ query. passes query message c.args.moment) c.in_ok-asked-in-And.asked
    ∙ all_same (λ query. passes query message c.args.moment) c.in_ok-asked-in-And.asked c.as_slice.result.now same
    ∙ ap (list_all (λ query. passes query message c.args.moment)) c.as_slice.ensures
    ∙ sym (law c.in-And.queries message c.args.moment)
    ∙ ap (λ query. passes query message c.args.moment) (sym c.in-And.is)

pub prepared-returns-in_ok-quick_first-in-Or : goal.prepared-returns-in_ok-quick_first-in-Or
prepared-returns-in_ok-quick_first-in-Or t c = λ message.
    let law = c.a_tree_passes_as_its_queries_do.ensures.one in
    let same : map (λ query. passes query message c.args.moment) c.in_ok-asked-in-Or.asked ≡ map (λ query. passes query message c.args.moment) c.as_slice-in-Or.result.now =
    subst (λ moment. map (λ query. passes query message moment) c.in_ok-asked-in-Or.asked ≡ map (λ query. passes query message moment) c.as_slice-in-Or.result.now)
    (to_z-of_z w64 c.args.moment c.ranges.moment) (c.in_ok-asked-in-Or.ensures message) in
    law c.in_ok-quick_first-in-Or.field-0 message c.args.moment
    ∙ ap (list_any (λ query. passes query message c.args.moment)) c.in_ok-quick_first-in-Or.ensures
    ∙ any_quick_first (λ query. passes query message c.args.moment) c.in_ok-asked-in-Or.asked
    ∙ any_same (λ query. passes query message c.args.moment) c.in_ok-asked-in-Or.asked c.as_slice-in-Or.result.now same
    ∙ ap (list_any (λ query. passes query message c.args.moment)) c.as_slice-in-Or.ensures
    ∙ sym (law c.in-Or.queries message c.args.moment)
    ∙ ap (λ query. passes query message c.args.moment) (sym c.in-Or.is)

pub prepared-returns-in_ok-each_prepared-in-Xor : goal.prepared-returns-in_ok-each_prepared-in-Xor
prepared-returns-in_ok-each_prepared-in-Xor t c = λ message.
    let law = c.a_tree_passes_as_its_queries_do.ensures.odd in
    let same : map (λ query. passes query message c.args.moment) c.in_ok-each_prepared-in-Xor.field-0 ≡ map (λ query. passes query message c.args.moment) c.as_slice-in-Xor.result.now =
    subst (λ moment. map (λ query. passes query message moment) c.in_ok-each_prepared-in-Xor.field-0 ≡ map (λ query. passes query message moment) c.as_slice-in-Xor.result.now)
    (to_z-of_z w64 c.args.moment c.ranges.moment) (c.in_ok-each_prepared-in-Xor.ensures message) in
    law c.in_ok-each_prepared-in-Xor.field-0 message c.args.moment
    ∙ ap is_odd same
    ∙ ap (λ queries. is_odd (map (λ query. passes query message c.args.moment) queries)) c.as_slice-in-Xor.ensures
    ∙ sym (law c.in-Xor.queries message c.args.moment)
    ∙ ap (λ query. passes query message c.args.moment) (sym c.in-Xor.is)
