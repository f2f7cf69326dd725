use Rattle.std.proofs.Common.{rules, ◌≡◌, List, ◌∷◌, [], length, ap, arith}
use Rattle.std.proofs.lemmas.List.{nil_from_length}
use Rattle.nm_scan.proofs.NoteLemmas.{all_notes, next_note, no_notes, note_stops}
use Rattle.nm_scan.proofs.ReadLemmas.{on_err}
use Rattle.nm_scan.specs.declared.classes.Classified.{Classified}
use Rattle.nm_scan.proofs.classes.note_all.Goals as goal

pub all-init : goal.all-init
all-init c = record {
  notes = no_notes c.args.all.items c.into_iter-classified-iterator.result.rest.items c.args.given.now c.new-added.result (search rules) c.new-added.ensures;
  whole = search rules;
}

pub all-preserved : goal.all-preserved
all-preserved c =
    let rest = c.next.new.self.rest.items in
    let cut : c.all.classified-iterator.rest.items ≡ c.in-Some.classified ∷ rest = search rules in
    record {
      notes = next_note c.args.all.items c.all.classified-iterator.rest.items rest c.in-Some.classified c.args.given.now c.all.given c.note.new.given c.all.added c.note.new.added c.all.invariant.notes cut
          c.in_ok-note.ensures.ok.0 c.in_ok-note.ensures.ok.1;
      whole = omega (arith, c.all.invariant.whole, c.in-Some.ensures.steps.1, ap (λ (l : List Classified). length l) cut);
    }

pub returns-in_err-note-clause-err : goal.returns-in_err-note-clause-err
returns-in_err-note-clause-err c =
    let rest = c.next.new.self.rest.items in
    let cut : c.all.classified-iterator.rest.items ≡ c.in-Some.classified ∷ rest = search rules in
    on_err _ c.from_residual.result
    (note_stops c.args.all.items c.all.classified-iterator.rest.items rest c.in-Some.classified c.args.given.now c.all.given c.note.new.given c.all.added c.all.invariant.notes cut c.in_err-note.ensures.err)

pub returns-clause-ok : goal.returns-clause-ok
returns-clause-ok c =
    let none : c.all.classified-iterator.rest.items ≡ [] = nil_from_length c.all.classified-iterator.rest.items (omega (arith, c.all.invariant.whole, c.in-None.ensures.steps.0)) in
    all_notes c.args.all.items c.all.classified-iterator.rest.items c.args.given.now c.all.given c.all.added c.all.invariant.notes none
