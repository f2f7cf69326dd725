use Rattle.std.proofs.Common.{sym, ap, ◌∙◌, ◌+◌, ◌∷◌, ◌≡◌, length, take, drop, arith}
use Rattle.std.specs.List.{slice_split}
use Rattle.nm_text.specs.Cuts.{is_byte}
use Rattle.nm_text.proofs.PlaceLemmas.{after_place, before_place, split_first, split_none}
use Rattle.nm_text.proofs.cuts.cut_at.Goals as goal

pub returns-then-at-text-clause-split : goal.returns-then-at-text-clause-split
returns-then-at-text-clause-split c =
    split_none c.args.wanted c.args.text.now c.as_bytes.result.now c.first_place-at.result c.as_bytes.ensures.value c.first_place-at.ensures.place c.if-at-text.true

pub range-requires-clause-end_boundary : goal.range-requires-clause-end_boundary
range-requires-clause-end_boundary c =
    let long = ap length c.as_bytes.ensures.value in
    let within = c.first_place-at.ensures.within in
    before_place c.args.wanted c.args.text.now c.as_bytes.result.now c.first_place-at.result c.as_bytes.ensures.value c.first_place-at.ensures.place c.requires (omega (arith, c.if-at-text.false))

pub range_from-requires : goal.range_from-requires
range_from-requires c = λ _.
    let long = ap length c.as_bytes.ensures.value in
    let within = c.first_place-at.ensures.within in
    after_place c.args.wanted c.args.text.now c.as_bytes.result.now c.first_place-at.result c.as_bytes.ensures.value c.first_place-at.ensures.place c.requires (omega (arith, c.if-at-text.false)) c.utf8.text

pub returns-clause-split : goal.returns-clause-split
returns-clause-split c =
    let at = c.first_place-at.result in
    let long = ap length c.as_bytes.ensures.value in
    let within = c.first_place-at.ensures.within in
    let front : c.range.result.now ≡ take at c.args.text.now = c.range.ensures.value ∙ ap (λ n. take n c.args.text.now) (omega arith) in
    split_first c.args.wanted c.args.text.now c.as_bytes.result.now at c.as_bytes.ensures.value c.first_place-at.ensures.place (omega (arith, c.if-at-text.false))
    ∙ ap (λ x. x ∷ slice_split (is_byte c.args.wanted) (drop (at + 1) c.args.text.now)) (sym front) ∙ ap (λ x. c.range.result.now ∷ slice_split (is_byte c.args.wanted) x) (sym c.range_from.ensures.value)

pub returns-clause-text : goal.returns-clause-text
returns-clause-text c = (c.range.utf8, c.range_from.utf8)
