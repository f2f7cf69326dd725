use Rattle.std.proofs.Common.{◌≡◌, take}
use Rattle.nm_model_answer.specs.Search.{lines_text}
use Rattle.nm_render.proofs.text_lists.lines_text.Given as goal

abbrev pub invariant-texts : goal.invariant-texts
invariant-texts l = l.lines ≡ lines_text l.before (take l.text-index l.texts)
