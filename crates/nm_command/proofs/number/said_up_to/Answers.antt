use Rattle.std.proofs.Common.{ap, sym, ◌∙◌, arith}
use Rattle.nm_command.specs.Numbers.{are_some_digits}
use Rattle.nm_command.proofs.NumberLemmas.{said-refused}
use Rattle.nm_command.proofs.number.said_up_to.Goals as goal

pub returns-in-Err-clause-said : goal.returns-in-Err-clause-said
returns-in-Err-clause-said c =
    said-refused c.args.most c.args.text.now c.in-Err.field-0 c.parse.result (omega arith) c.in-Err.is c.parse.ensures.value.0
    (ap are_some_digits (sym c.as_bytes.ensures.value) ∙ sym c.are_some_digits.ensures ∙ c.if-not-are_some_digits.false)
