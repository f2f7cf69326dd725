use Rattle.std.proofs.Common.{ap, sym, ◌∙◌, drop}
use Rattle.std.proofs.lemmas.List.{nil_from_length}
use Rattle.nm_decode.proofs.QTexts.{q-end, q-some, q-none}
use Rattle.nm_decode.proofs.decodes.is_q_text.Goals as goal

pub returns-in_default : goal.returns-in_default
returns-in_default c =
    let after = c.split_at.ensures.back ∙ ap (λ n. drop n c.marks.rest.now) c.first_place.ensures.place in
    sym (q-end c.marks.rest.now c.split_at.result.1.now after (nil_from_length _ c.in_default.ensures.cases)) ∙ c.marks.invariant

pub returns-in_default-escape : goal.returns-in_default-escape
returns-in_default-escape c =
    let after = c.split_at.ensures.back ∙ ap (λ n. drop n c.marks.rest.now) c.first_place.ensures.place in
    sym (q-none c.marks.rest.now c.split_at.result.1.now c.in-Some.more.now _ after c.in-Some.ensures.cases.0 (sym c.in_default-escape.ensures.value))
    ∙ c.marks.invariant

pub marks-preserved : goal.marks-preserved
marks-preserved c =
    let after = c.split_at.ensures.back ∙ ap (λ n. drop n c.marks.rest.now) c.first_place.ensures.place in
    sym (q-some c.marks.rest.now c.split_at.result.1.now c.in-Some.more.now _ _ after c.in-Some.ensures.cases.0 (sym c.in-Some-escape.ensures.value))
    ∙ c.marks.invariant
