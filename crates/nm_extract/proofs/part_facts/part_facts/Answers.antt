-- Each turn takes one part; so far, and what is still to come, is all.
use Rattle.std.proofs.Common.{fold, length, subst, ap, ◌∙◌, arith}
use Rattle.nm_extract.specs.PartSteps.{with_part}
use Rattle.nm_mime.specs.PartReader.{parts_to_come}
use Rattle.nm_mime.specs.Parts.{IsInside, parts_of}
use Rattle.nm_extract.proofs.PartFactLemmas.{all_parts, parts-end, parts-turn}
use Rattle.nm_extract.proofs.part_facts.part_facts.Goals as goal

pub parts-init : goal.parts-init
parts-init c =
    let mail = c.args.mail.now in
    record {
      facts = parts-turn mail c.no_part_facts-facts.result c.add_part.new.facts c.in_ok-opened.opened.0 (parts_of mail) (parts_to_come c.in_ok-opened.opened.1) _ c.in_ok-opened.ensures.parts c.in_ok-add_part.ensures
          (ap (λ f. fold (with_part mail) f (parts_of mail)) c.no_part_facts-facts.ensures ∙ all_parts mail (parts_of mail));
      mail = c.in_ok-opened.ensures.mail;
      stand = c.in_ok-opened.ensures.stand;
    }

pub parts-smaller : goal.parts-smaller
parts-smaller c = let next = rw c.in-Some.is at c.in_ok-part.ensures.next in omega (arith, ap length next)

pub add_part-requires-in-Some : goal.add_part-requires-in-Some
add_part-requires-in-Some c =
    let inside = rw c.in-Some.is at c.in_ok-part.ensures.inside in
    subst (λ mail. IsInside (length mail) c.in-Some.part) c.parts.invariant.mail inside

pub parts-preserved : goal.parts-preserved
parts-preserved c =
    let next = rw c.in-Some.is at c.in_ok-part.ensures.next in
    record {
      facts = parts-turn c.args.mail.now c.parts.facts c.add_part-in-Some.new.facts c.in-Some.part (parts_to_come c.parts.reader) (parts_to_come c.next.new.self) _ next c.in_ok-add_part-2.ensures c.parts.invariant.facts;
      mail = c.in_ok-part.ensures.mail ∙ c.parts.invariant.mail;
      stand = c.in_ok-part.ensures.stand;
    }

pub returns : goal.returns
returns c =
    let none = rw c.in_default.is at c.in_ok-part.ensures.next in
    parts-end c.args.mail.now c.parts.facts _ (parts_to_come c.parts.reader) none c.parts.invariant.facts
