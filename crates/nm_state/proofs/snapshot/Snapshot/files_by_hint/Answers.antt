use Rattle.std.proofs.Common.{◌≡◌, ap, subst, false, List, ℕ}
use Rattle.std.specs.Prelude.{MatchOption}
use Rattle.std.specs.List.{filter}
use Rattle.nm_base.specs.Order.{same_text}
use Rattle.nm_base.specs.declared.facts.Facts.{Facts}
use Rattle.nm_commit.specs.Files.{has_id}
use Rattle.nm_model_index.specs.declared.base.Base.{Base}
use Rattle.nm_state.proofs.snapshot.Snapshot.files_by_hint.Goals as goal

pub returns : goal.returns
returns c =
    subst (λ (all : List (List ℕ × Facts)). MatchOption c.files_by_hint.result (has_id all c.args.id.now ≡ false) (λ found. found.1 ≡ filter (λ file. same_text c.args.id.now file.1.id) all)) (ap (λ (b : Base). b.files) c.self.view_is)
    c.files_by_hint.ensures.files
