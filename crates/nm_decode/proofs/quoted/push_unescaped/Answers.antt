use Rattle.std.proofs.Common.{ap, sym, ◌∙◌, ◌++◌, ◌∷◌, ◌-◌, [], take, drop, length}
use Rattle.std.proofs.lemmas.List.{nil_from_length, take_rest}
use Rattle.nm_decode.specs.QuotedPrintable.{unescaped}
use Rattle.nm_decode.proofs.Escapes.{escape-turn, equals-turn, escapes-end, equals-first}
use Rattle.nm_decode.proofs.quoted.push_unescaped.Goals as goal

pub returns-in_default : goal.returns-in_default
returns-in_default c =
    let run = c.split_at.ensures.front ∙ ap (λ n. take n c.escapes.rest.now) c.first_place.ensures.place in
    let after = c.split_at.ensures.back ∙ ap (λ n. drop n c.escapes.rest.now) c.first_place.ensures.place in
    c.in_ok-extend_from_slice.ensures.items
    ∙ escapes-end c.escapes.out.items c.escapes.rest.now c.split_at.result.0.now c.split_at.result.1.now _ run after (nil_from_length _ c.in_default.ensures.cases) c.escapes.invariant

pub escapes-preserved-in-Some-escape : goal.escapes-preserved-in-Some-escape
escapes-preserved-in-Some-escape c =
    let run = c.split_at.ensures.front ∙ ap (λ n. take n c.escapes.rest.now) c.first_place.ensures.place in
    let after = c.split_at.ensures.back ∙ ap (λ n. drop n c.escapes.rest.now) c.first_place.ensures.place in
    let first = c.in-Some.ensures.cases.0 in
    let equals = equals-first c.escapes.rest.now c.split_at.result.1.now c.in-Some.more.now c.in-Some.equals.now after first in
    ap (λ xs. xs ++ unescaped (take (length c.in-Some.more.now - 2) (drop 2 c.in-Some.more.now)))
    (c.in_ok-push-in-Some-escape.ensures.items ∙ ap (λ xs. xs ++ c.in-Some-escape.byte ∷ []) c.in_ok-extend_from_slice.ensures.items)
    ∙ escape-turn c.escapes.out.items c.escapes.rest.now c.split_at.result.0.now c.split_at.result.1.now c.in-Some.more.now _ _ c.in-Some-escape.byte c.in-Some.equals.now
    run after first equals (sym c.in-Some-escape.ensures.value) (take_rest c.in-Some.more.now 2) c.escapes.invariant

pub escapes-preserved : goal.escapes-preserved
escapes-preserved c =
    let run = c.split_at.ensures.front ∙ ap (λ n. take n c.escapes.rest.now) c.first_place.ensures.place in
    let after = c.split_at.ensures.back ∙ ap (λ n. drop n c.escapes.rest.now) c.first_place.ensures.place in
    let first = c.in-Some.ensures.cases.0 in
    let equals = equals-first c.escapes.rest.now c.split_at.result.1.now c.in-Some.more.now c.in-Some.equals.now after first in
    ap (λ xs. xs ++ unescaped c.in-Some.more.now)
    (c.in_ok-push-in-None.ensures.items ∙ ap (λ xs. xs ++ c.in-Some.equals.now ∷ []) c.in_ok-extend_from_slice.ensures.items)
    ∙ equals-turn c.escapes.out.items c.escapes.rest.now c.split_at.result.0.now c.split_at.result.1.now c.in-Some.more.now _ c.in-Some.equals.now
    run after first equals (sym c.in-None.ensures.value) c.escapes.invariant
