use Rattle.nm_command.proofs.OptionLemmas.{setting_of-cut}
use Rattle.nm_command.proofs.options.setting.Goals as goal

pub returns-in-Some : goal.returns-in-Some
returns-in-Some c =
    setting_of-cut c.args.command c.args.word.now c.in-Some.name.now c.in-Some.value.now c.valued.result c.in-Some.ensures.place c.in-Some.ensures.front
    c.in-Some.ensures.back c.valued.ensures
