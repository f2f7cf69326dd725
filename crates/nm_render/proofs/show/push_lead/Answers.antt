use Rattle.std.proofs.Common.{List, ℕ, ◌++◌, sym, ap, ◌∙◌, append-nil}
use Rattle.nm_model_answer.specs.Show.{lead_path}
use Rattle.nm_base.specs.declared.facts.Facts.{Facts}
use Rattle.nm_render.proofs.CountLemmas.{no_files}
use Rattle.nm_render.proofs.show.push_lead.Goals as goal

pub returns-in_default : goal.returns-in_default
returns-in_default c =
    let with_lead : List (List ℕ × Facts) → List (List ℕ) = λ files. c.args.paths.now ++ lead_path files in
    sym (ap with_lead (no_files c.args.id.now c.args.snapshot.now.files c.in_default.ensures) ∙ append-nil c.args.paths.now)
