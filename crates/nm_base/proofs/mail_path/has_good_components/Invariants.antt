use Rattle.std.proofs.Common.{◌≡◌, map, true}
use Rattle.std.specs.List.{list_all}
use Rattle.nm_base.specs.MailPath.{is_component}
use Rattle.nm_base.proofs.mail_path.has_good_components.Given as goal

abbrev pub invariant-parts : goal.invariant-parts
invariant-parts l = list_all is_component (map (λ p. p.now) l.yielded) ≡ true
