-- What was found with what is left to find is all.
use Rattle.std.proofs.Common.{sym, ◌∙◌, ap, ◌++◌}
use Rattle.std.proofs.lemmas.List.{append-nil}
use Rattle.nm_header.proofs.IdLemmas.{ids_end, ids_turn}
use Rattle.nm_header.proofs.id_list.ids.Goals as goal

pub id_texts-preserved : goal.id_texts-preserved
id_texts-preserved c = (
  c.in-Some.ensures.text.1,
  ids_turn c.id_texts.found c.add_id.new.found c.in-Some.id_text.now c.id_texts.left.now c.in-Some.more.now c.in-Some.ensures.split c.in_ok-add_id.ensures ∙ c.id_texts.invariant.1,
)

pub returns : goal.returns
returns c =
    sym (append-nil c.id_texts.found) ∙ ap (λ l. c.id_texts.found ++ l) (sym (ids_end c.id_texts.left.now c.in_default.ensures.split)) ∙ c.id_texts.invariant.1
