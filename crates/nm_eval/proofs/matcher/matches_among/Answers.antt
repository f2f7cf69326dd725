use Rattle.std.proofs.Common.{rules, sym, ap, subst, ◌∙◌, ℤ, refl, w64, to_z, of_z, take_all, arith, ◌≡◌}
use Rattle.std.proofs.lemmas.Int.{to_z-of_z}
use Rattle.std.specs.List.{filter}
use Rattle.nm_model_answer.specs.Matches.{is_match}
use Rattle.nm_model_answer.specs.View.{view_of}
use Rattle.nm_eval.proofs.ExclusionLemmas.{match_by}
use Rattle.nm_eval.proofs.FoundLemmas.{found_more, found_same}
use Rattle.nm_eval.proofs.matcher.matches_among.Goals as goal

pub ids-preserved-then-not-is_match : goal.ids-preserved-then-not-is_match
ids-preserved-then-not-is_match c =
    let moment : ℤ = to_z w64 (of_z w64 c.args.moment) in
    found_same (λ id. is_match c.args.query.now moment c.args.exclude (view_of c.args.snapshot.now id)) c.args.live.now c.ids.id-index c.id-item.result c.ids.found c.ids-test.true
    c.id-item.is c.ids.invariant
    (ap (is_match c.args.query.now moment c.args.exclude) (sym c.of-message.ensures)
    ∙ sym (match_by c.args.query.now c.args.query.now moment c.args.exclude c.find_exclusion-excluding.result c.of-message.result c.find_exclusion-excluding.ensures refl)
    ∙ sym c.is_match.ensures ∙ c.if-not-is_match.true)

pub ids-preserved : goal.ids-preserved
ids-preserved c =
    let moment : ℤ = to_z w64 (of_z w64 c.args.moment) in
    found_more (λ id. is_match c.args.query.now moment c.args.exclude (view_of c.args.snapshot.now id)) c.args.live.now c.ids.id-index c.id-item.result c.ids.found c.add.new.found c.ids-test.true
    c.id-item.is c.ids.invariant (search rules)
    (ap (is_match c.args.query.now moment c.args.exclude) (sym c.of-message.ensures)
    ∙ sym (match_by c.args.query.now c.args.query.now moment c.args.exclude c.find_exclusion-excluding.result c.of-message.result c.find_exclusion-excluding.ensures refl)
    ∙ sym c.is_match.ensures ∙ c.if-not-is_match.false)

pub returns : goal.returns
returns c =
    let moment : ℤ = to_z w64 (of_z w64 c.args.moment) in
    let all : c.ids.found ≡ filter (λ id. is_match c.args.query.now moment c.args.exclude (view_of c.args.snapshot.now id)) c.args.live.now =
    c.ids.invariant ∙ ap (filter (λ id. is_match c.args.query.now moment c.args.exclude (view_of c.args.snapshot.now id))) (take_all c.ids.id-index c.args.live.now (omega (arith, c.ids-test.false))) in
    subst (λ moment. c.ids.found ≡ filter (λ id. is_match c.args.query.now moment c.args.exclude (view_of c.args.snapshot.now id)) c.args.live.now) (to_z-of_z w64 c.args.moment c.ranges.moment) all
