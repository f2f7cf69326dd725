use Rattle.std.proofs.Common.{ap, ◌∙◌, ◌++◌, ◌∷◌, []}
use Rattle.std.specs.BTreeMap.{insert_entry}
use Rattle.nm_shared.proofs.PartLemmas.{one_sorted, push_flat, push_map}
use Rattle.nm_shared.proofs.shared_map.SharedMap.push_part.Goals as goal

pub of_sorted-requires : goal.of_sorted-requires
of_sorted-requires g c = one_sorted g.met.K.Ord.total c.args.key c.args.value c.push.new.self.items c.new-pairs.result.items c.in_ok-push.ensures.items c.new-pairs.ensures.items

pub invariant_of-self-2 : goal.invariant_of-self-2
invariant_of-self-2 g c =
    push_map g.met.K.Ord.total c.args.key c.args.value c.self.inside.parts.items c.push-2.new.self.items _ c.in_ok-push-2.ensures.items
    (c.in_ok-new.ensures ∙ c.in_ok-of_sorted.ensures ∙ c.in_ok-push.ensures.items ∙ ap (λ all. all ++ (c.args.key, c.args.value) ∷ []) c.new-pairs.ensures.items) (rw c.self.view_is c.requires) c.self.inside.len c.self.invariant

pub returns-clause-ok : goal.returns-clause-ok
returns-clause-ok g c =
    push_flat g.met.K.Ord.total c.args.key c.args.value c.self.inside.parts.items c.push-2.new.self.items _ c.in_ok-push-2.ensures.items
    (c.in_ok-new.ensures ∙ c.in_ok-of_sorted.ensures ∙ c.in_ok-push.ensures.items ∙ ap (λ all. all ++ (c.args.key, c.args.value) ∷ []) c.new-pairs.ensures.items) (rw c.self.view_is c.requires)
    ∙ ap (λ all. insert_entry g.K.Ord.cmp all c.args.key c.args.value) c.self.view_is
