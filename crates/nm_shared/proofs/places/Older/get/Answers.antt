use Rattle.std.proofs.Common.{sym, ap, ◌∙◌}
use Rattle.std.specs.BTreeMap.{is_at}
use Rattle.std.specs.Ordering.{nat_cmp}
use Rattle.nm_shared.specs.Hashed.{at}
use Rattle.nm_shared.proofs.HashedLemmas.{lookup_both, or_else}
use Rattle.nm_shared.proofs.places.Older.get.Goals as goal

pub returns-in-Some : goal.returns-in-Some
returns-in-Some c =
    ap (λ first. or_else first (at c.args.hash c.self.inside.early)) c.in-Some.ensures
    ∙ sym (lookup_both (is_at (nat_cmp c.args.hash)) c.self.inside.middle c.self.inside.early)
    ∙ ap (at c.args.hash) c.self.view_is

pub returns : goal.returns
returns c =
    c.get-2.ensures
    ∙ ap (λ first. or_else first (at c.args.hash c.self.inside.early)) c.in_default.ensures
    ∙ sym (lookup_both (is_at (nat_cmp c.args.hash)) c.self.inside.middle c.self.inside.early)
    ∙ ap (at c.args.hash) c.self.view_is
