use Rattle.std.proofs.Common.{◌-◌, drop, length, sym, ap, ◌∙◌, arith, length-drop}
use Rattle.std.proofs.lemmas.List.{take_all}
use Rattle.nm_query.specs.Terms.{begins_with_dots}
use Rattle.nm_query.proofs.DotLemmas.{dots_further}
use Rattle.nm_query.proofs.terms.before_dots.Goals as goal

pub places-preserved : goal.places-preserved
places-preserved c =
    let whole = take_all (length c.args.text.now - c.places.at) (drop c.places.at c.args.text.now) (omega (arith, length-drop c.places.at c.args.text.now)) in
    let further = dots_further c.args.text.now c.places.at (omega arith) (sym (ap begins_with_dots whole) ∙ sym c.begins_with_dots.ensures ∙ c.if-begins_with_dots.false) in
    (omega (arith, c.places.invariant.0), omega arith)
