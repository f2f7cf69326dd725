-- The pieces so far are components; a piece that is none decides, and at the end they are all.
use Rattle.std.proofs.Common.{sym, ◌∙◌, ap, lit<}
use Rattle.std.specs.List.{list_all}
use Rattle.std.proofs.lemmas.Iterator.Splits.{YieldsList-from_str_split}
use Rattle.std.proofs.lemmas.Iterator.Consumers.{YieldsList-turn, YieldsList-end}
use Rattle.std.proofs.lemmas.List.Folds.{list_all_at}
use Rattle.nm_base.specs.MailPath.{is_component, components_of}
use Rattle.nm_base.proofs.mail_path.has_good_components.Goals as goal

pub returns-then-not-is_component : goal.returns-then-not-is_component
returns-then-not-is_component c =
    let t = YieldsList-turn (YieldsList-from_str_split {s = c.into_iter-part-iterator.result} 47 c.args.text.now (lit< tt) (cc) (cc) (cc)) c.parts.yielded _ c.parts.yielded_by _ _ c.in-Some.part c.in-Some.is c.next.ensures.steps in
    sym (list_all_at is_component (components_of c.args.text.now) _ c.in-Some.part.now t.0 (ap is_component (sym t.1 ∙ sym c.as_bytes.ensures.value) ∙ (sym c.is_component.ensures ∙ c.if-not-is_component.true)))

pub returns : goal.returns
returns c =
    let t = YieldsList-end (YieldsList-from_str_split {s = c.into_iter-part-iterator.result} 47 c.args.text.now (lit< tt) (cc) (cc) (cc)) c.parts.yielded _ c.parts.yielded_by _ _ c.in-None.is c.next.ensures.steps in
    sym c.parts.invariant ∙ ap (list_all is_component) t.0
