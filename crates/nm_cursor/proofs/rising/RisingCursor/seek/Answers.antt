use Rattle.std.proofs.Common.{sym, subst, ℕ, List}
use Rattle.nm_cursor.specs.Place.{IsPlaceOf}
use Rattle.nm_cursor.specs.Sets.{IsRising, Takes}
use Rattle.nm_cursor.proofs.RisingLemmas.{place_reached, rising-drop}
use Rattle.nm_cursor.proofs.rising.RisingCursor.seek.Goals as goal

pub returns-clause-taken : goal.returns-clause-taken
returns-clause-taken g c = subst (λ (docs : List ℕ). Takes docs c.next.result c.next.new.self)
    (sym (place_reached _ _ c.args.doc _ _ c.self.view_is c.self.invariant.0
    (subst (λ (docs : List ℕ). IsPlaceOf docs c.self.inside.at c.args.doc c.place_from-self-inside.result) c.as_slice.ensures c.place_from-self-inside.ensures.place)))
    c.next.ensures.taken

pub returns-clause-rising : goal.returns-clause-rising
returns-clause-rising g c = subst IsRising c.self.view_is (rising-drop _ _ c.self.invariant.0)
