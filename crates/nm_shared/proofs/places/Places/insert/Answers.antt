use Rattle.std.proofs.Common.{sym, ap, ◌∙◌, cond, ◌++◌, Some}
use Rattle.std.specs.BTreeMap.{is_at}
use Rattle.std.specs.Ordering.{is_eq, nat_cmp}
use Rattle.nm_shared.specs.Hashed.{at}
use Rattle.nm_shared.proofs.HashedLemmas.{lookup_both, lookup_by, or_else}
use Rattle.nm_shared.proofs.places.Places.insert.Goals as goal

pub returns-clause-found : goal.returns-clause-found
returns-clause-found c = λ other.
    c.settle.ensures other
    ∙ lookup_both (is_at (nat_cmp other)) c.insert.new.self c.self.inside.older
    ∙ ap (λ first. or_else first (at other c.self.inside.older)) (c.in_ok-insert.ensures.found other)
    ∙ sym (lookup_by c.args.slot (is_eq (nat_cmp other c.args.hash)) (at other c.self.inside.late) (at other c.self.inside.older) (at other (c.self.inside.late ++ c.self.inside.older)) (lookup_both (is_at (nat_cmp other)) c.self.inside.late c.self.inside.older))
    ∙ ap (λ all. cond (is_eq (nat_cmp other c.args.hash)) (Some c.args.slot) (at other all)) c.self.view_is
