use Rattle.std.proofs.Common.{rules, ◌≡◌, refl, ap, ◌∙◌, arith, take, take_all, ℤ, w64, to_z, of_z}
use Rattle.std.specs.Map.{values_of}
use Rattle.nm_model_answer.specs.WantedTags.{wanted_by}
use Rattle.nm_changes.proofs.WantedTagLemmas.{all_touched, line_more, nothing_wanted}
use Rattle.nm_changes.proofs.wanted_tags.wanted_by.Goals as goal

pub lines-init : goal.lines-init
lines-init c =
    let moment : ℤ = to_z w64 (of_z w64 c.args.moment) in
    nothing_wanted c.the_live_ones_stand_at_their_numbers.ensures.none moment c.args.shown.now c.in_ok-after.after c.new-numbered.result.entries c.in_ok-after.ensures c.new-numbered.ensures.empty

pub lines-preserved : goal.lines-preserved
lines-preserved c =
    let law = c.a_line_tags_what_it_finds.ensures in
    let moment : ℤ = to_z w64 (of_z w64 c.args.moment) in
    line_more law.others law.rest moment moment c.args.shown.now c.args.lines.now c.lines.line-index c.lines.after c.lines.numbered.entries c.line-item.result c.in_ok-after-2.after c.want_line.new.numbered.entries
    refl c.lines-test.true c.line-item.is c.lines.invariant c.in_ok-after-2.ensures.after c.in_ok-after-2.ensures.found

pub returns-clause-after : goal.returns-clause-after
returns-clause-after c =
    let moment : ℤ = to_z w64 (of_z w64 c.args.moment) in
    let same : moment ≡ c.args.moment = search rules in
    c.lines.invariant.after_is
    ∙ (ap (wanted_by moment c.args.shown.now) (take_all c.lines.line-index c.args.lines.now (omega (arith, c.lines-test.false))) ∙ ap (λ (m : ℤ). wanted_by m c.args.shown.now c.args.lines.now) same)

pub returns-clause-ids : goal.returns-clause-ids
returns-clause-ids c =
    let moment : ℤ = to_z w64 (of_z w64 c.args.moment) in
    let collected : c.from_vec.result ≡ values_of c.lines.numbered.entries = search rules in
    all_touched c.the_live_ones_stand_at_their_numbers.ensures.live moment c.args.shown.now (take c.lines.line-index c.args.lines.now) c.lines.after c.lines.numbered.entries c.from_vec.result c.lines.invariant collected
