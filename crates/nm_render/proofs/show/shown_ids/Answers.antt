use Rattle.std.proofs.Common.{◌≡◌, ℕ, List, length, sym, subst, to_z, of_z, w64}
use Rattle.nm_model_answer.specs.Show.{lead_paths}
use Rattle.nm_render.proofs.ShowLemmas.{shown-leads}
use Rattle.nm_render.proofs.show.shown_ids.Goals as goal

pub returns-clause-lead : goal.returns-clause-lead
returns-clause-lead c =
    subst (λ (ids : List (List ℕ)). length (lead_paths c.args.snapshot.now ids) ≡ length ids) (sym c.in_ok-ids.ensures)
    (shown-leads c.args.ask.now c.args.snapshot.now (to_z w64 (of_z w64 c.args.moment)) c.args.query.now)
