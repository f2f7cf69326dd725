use Rattle.std.proofs.Common.{◌≡◌, ◌++◌, codes, map, ap, ◌∙◌, rules}
use Rattle.nm_model_answer.specs.Search.{item_line, lines_text}
use Rattle.nm_model_answer.specs.View.{files_of}
use Rattle.nm_render.proofs.ShowTextLemmas.{two_puts}
use Rattle.nm_render.proofs.message.push_names.Goals as goal

pub returns : goal.returns
returns c =
    let id = c.args.id.now in
    let named : c.as_bytes.result.now ≡ id = search rules in
    two_puts c.args.text.now (item_line (codes "message id:") id) (lines_text (codes "file ") (map (λ file. file.0) (files_of c.args.snapshot.now id))) c.push_line.new.text c.push_files.new.text
    (c.in_ok-push_line.ensures ∙ ap (λ name. c.args.text.now ++ item_line (codes "message id:") name) named) c.in_ok-push_files.ensures
