use Rattle.std.proofs.Common.{sym, subst, ◌∙◌, arith}
use Rattle.std.specs.Prelude.{IsUtf8}
use Rattle.nm_mime.proofs.ParamLemmas.{params_begin, params_end, params_turn, some_left}
use Rattle.nm_mime.proofs.Utf8Lemmas.{param_utf8}
use Rattle.nm_mime.proofs.param_list.params.Goals as goal

pub params-init : goal.params-init
params-init c = (
  params_begin c.new-found.result c.after_first-left.result.now c.args.text.now c.new-found.ensures c.after_first-left.ensures.value,
  c.after_first-left.ensures.text (omega arith) c.requires,
)

pub params-preserved : goal.params-preserved
params-preserved c = (
  params_turn c.params.found c.add_param.new.found c.params.left.now c.in_ok-left.left.now (some_left c.params.left.now (sym c.is_empty.ensures ∙ c.params-test.true)) c.in_ok-left.ensures.found c.in_ok-left.ensures.left ∙ c.params.invariant.0,
  subst IsUtf8 (sym c.in_ok-left.ensures.left) (param_utf8 c.params.left.now c.params.invariant.1),
)

pub returns : goal.returns
returns c = params_end c.params.found c.params.left.now (sym c.is_empty.ensures ∙ c.params-test.false) ∙ c.params.invariant.0
