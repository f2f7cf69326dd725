use Rattle.std.proofs.Common.{List, ℕ, ◌++◌, codes, map, sym, ap, ◌∙◌, append-nil}
use Rattle.nm_model_answer.specs.Search.{lines_text}
use Rattle.nm_base.specs.declared.facts.Facts.{Facts}
use Rattle.nm_render.proofs.CountLemmas.{no_files}
use Rattle.nm_render.proofs.message.push_files.Goals as goal

pub returns-in_default : goal.returns-in_default
returns-in_default c =
    let with_files : List (List ℕ × Facts) → List ℕ = λ files. c.args.text.now ++ lines_text (codes "file ") (map (λ file. file.0) files) in
    sym (ap with_files (no_files c.args.id.now c.args.snapshot.now.files c.in_default.ensures) ∙ append-nil c.args.text.now)
