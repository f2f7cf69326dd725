-- A type may reach itself through `Many`: as a former `Many` is the list, taken through its vector's items.
-- Rattle finds it by its place, for `many`.
use mathlib.Core.Path.{◌≡◌, refl, sym}
use mathlib.Core.List.{List, []}
use mathlib.Core.Former.{Former, children, list, this, via}
use base.Stored.{code_map}
use denote.Hole.Carrier.{list-listed, listed}
use denote.Hole.Fix.{over}
use denote.HoleLaws.{Alike}
use denote.HolePlaces.{Recodes, laid, struct_places}
use denote.Model.Placed.{view_places}
use denote.Param.Weighed.{Weighed, w_list}
use denote.RattleType.{RattleType}
use Rattle.std.specs.contracts.alloc.Global as heap
use Rattle.std.specs.contracts.impls.GlobalAllocator.TheImpl.{ghosts}
use Rattle.std.specs.declared.alloc.Global.{Global}
use Rattle.std.specs.formers.vec.Vec as vec
use Rattle.nm_base.specs.contracts.many.Many as many
use Rattle.nm_base.specs.contracts.many.Many.TheInside as inside
use Rattle.nm_base.specs.declared.many.Many.TheInside.{Inside}
use Rattle.nm_base.specs.declared.many.Many.TheView.{invariant, view}

abbrev pub the_former : Former {0} → Former {0}
the_former item = list item

abbrev pub the_weighed : {item : Former {0}} → Weighed item → Weighed (the_former item)
the_weighed w = w_list w

abbrev pub the_empty : List ⊥
the_empty = []

abbrev pub the_items : (X : Type 0) → List X → List X
the_items X xs = xs

pub the_items_listed : (X : Type 0) (xs : List X) → listed _ (children (the_former this) X xs) ≡ the_items X xs
the_items_listed X xs = list-listed X xs

-- the one field, a vector
abbrev fields : Former {0}
fields = via (vec.the_former this Global) Inside (λ X m. m.vec) (λ X v. record { vec = v }) (λ X m. refl) (λ X v. refl)

module _ (R S : RattleType) (f : R.Denot → S.Denot) where
  pub the_places : Alike R S f → Alike (many.the_row R) (many.the_row S) ((the_former this).map R.Denot S.Denot f)
  the_places alike =
      view_places fields (list this) view (λ X Y k m. refl) (λ X m. refl) R.Denot S.Denot f (many.the_row R).coded (many.the_row S).coded
      (invariant R.Denot) (invariant S.Denot) (λ m p q. refl) (λ m p q. refl) (λ m e. tt) (λ m e. tt)
      (over (inside.the_row R)) (over (inside.the_row S))
      (struct_places (inside.the_type R) (inside.the_type S) (vec.mapped f, tt) _ (λ d. refl) refl (laid _ _ _ (vec.the_places heap.the_row ghosts R S f alike), tt))

  pub the_codes_placed : Recodes R S f → Recodes (many.the_row R) (many.the_row S) ((the_former this).map R.Denot S.Denot f)
  the_codes_placed recodes xs = sym (code_map R.coded.code S.coded.code f (λ x. sym (recodes x)) xs)
