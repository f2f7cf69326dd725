use Rattle.std.proofs.Common.{◌≡◌, List, [], ◌∷◌, ◌++◌, sym, ap, ◌∙◌, append_assoc}
use Rattle.nm_segment.specs.Docs.{Occurrence, occurrences}
use Rattle.nm_segment.proofs.HitsInLemmas.{rising_with}
use Rattle.nm_segment.proofs.OrderLemmas.{hits_rise}
use Rattle.nm_segment.proofs.gather.index_of_docs.Goals as goal

pub words-init : goal.words-init
words-init c = ([], c.new-words.ensures, c.new-gathered.ensures)

pub add-requires : goal.add-requires
add-requires c =
    let was = c.words.invariant in
    let o : Occurrence = record { hit = c.in-Some.hit; field = c.in-Some.field; word = c.in-Some.word.now } in
    let all : was.0 ++ o ∷ c.take_first.new.self ≡ occurrences c.args.docs.now = ap (λ (found : List Occurrence). was.0 ++ found) (sym c.in-Some.ensures) ∙ was.1 in
    (was.0, was.2, rising_with was.0 o c.take_first.new.self (occurrences c.args.docs.now) all (hits_rise c.args.docs.now c.in-Some.word.now c.in-Some.field c.requires.rising))

pub words-preserved : goal.words-preserved
words-preserved c =
    let was = c.words.invariant in
    let o : Occurrence = record { hit = c.in-Some.hit; field = c.in-Some.field; word = c.in-Some.word.now } in (
      was.0 ++ o ∷ [],
      append_assoc was.0 (o ∷ []) c.take_first.new.self ∙ (ap (λ (found : List Occurrence). was.0 ++ found) (sym c.in-Some.ensures) ∙ was.1),
      c.in_ok-add.ensures was.0 was.2,
    )
