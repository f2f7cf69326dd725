use Rattle.std.proofs.Common.{ap, sym, ◌∙◌, arith, ◌∷◌, ◌++◌, take, ◌+◌}
use Rattle.std.proofs.lemmas.List.{take_rest}
use Rattle.nm_decode.specs.EncodedWords.{segments_of}
use Rattle.nm_decode.proofs.Segments.{first_segment, segment_form, whole_segment}
use Rattle.nm_decode.proofs.fields.segment.Goals as goal

pub returns-then-at-text-clause-value : goal.returns-then-at-text-clause-value
returns-then-at-text-clause-value c = whole_segment c.args.text.now (omega (arith, c.first_place-at.ensures.place))

pub returns-clause-value : goal.returns-clause-value
returns-clause-value c =
    let n = c.first_place-at.result in
    first_segment c.args.text.now n c.first_place-at.ensures.place (omega arith)
    ∙ ap (λ xs. take n c.args.text.now ∷ segments_of xs) (sym (take_rest c.args.text.now (n + 1)))

pub returns-clause-form : goal.returns-clause-form
returns-clause-form c =
    let n = c.first_place-at.result in
    segment_form c.args.text.now n c.first_place-at.ensures.place (omega arith)
    ∙ ap (λ xs. take n c.args.text.now ++ 63 ∷ xs) (sym (take_rest c.args.text.now (n + 1)))
