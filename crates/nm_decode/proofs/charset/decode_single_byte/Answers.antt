use Rattle.std.proofs.Common.{rules, ◌++◌, ◌≡◌, arith, ◌∷◌}
use Rattle.std.proofs.lemmas.List.{nil_from_length}
use Rattle.std.proofs.lemmas.Grind.{common_steps}
use Rattle.std.proofs.lemmas.Str.{IsUtf8-from_ascii}
use Rattle.std.specs.Str.{IsAscii}
use Rattle.nm_decode.proofs.SingleByteLemmas.{single_byte-turn, single_byte-end}
use Rattle.nm_decode.proofs.charset.decode_single_byte.Goals as goal

pub as_text-requires : goal.as_text-requires
as_text-requires c =
    let a : IsAscii c.split_at.result.0.now = search rules in
    IsUtf8-from_ascii c.split_at.result.0.now a

pub returns-in_default : goal.returns-in_default
returns-in_default c =
    let e : c.runs.rest.now ≡ c.split_at.result.0.now ++ c.split_at.result.1.now = search rules in
    let g = c.runs.invariant in
    let a : IsAscii c.split_at.result.0.now = search rules in
    let end = single_byte-end c.args.charset _ c.runs.rest.now c.split_at.result.0.now c.split_at.result.1.now _ a e (nil_from_length _ c.in_default.ensures.cases) g in
    grind (arith, common_steps, end)

pub runs-preserved : goal.runs-preserved
runs-preserved c =
    let e : c.runs.rest.now ≡ c.split_at.result.0.now ++ c.split_at.result.1.now = search rules in
    let g = c.runs.invariant in
    let a : IsAscii c.split_at.result.0.now = search rules in
    let f : c.split_at.result.1.now ≡ c.in-Some.byte.now ∷ c.in-Some.more.now = search rules in
    let turn = single_byte-turn c.args.charset _ c.runs.rest.now c.split_at.result.0.now c.split_at.result.1.now c.in-Some.more.now _ c.in-Some.byte.now a e f g in
    grind (arith, common_steps, turn)
