use Rattle.std.proofs.Common.{rules, ◌≡◌, false, not, sym, ap, ◌∙◌}
use Rattle.std.specs.BTreeMap.{is_at}
use Rattle.std.specs.Cmp.Lexicographic.{slice_cmp}
use Rattle.std.specs.Map.{lookup}
use Rattle.std.specs.Option.{is_some}
use Rattle.std.specs.Ordering.{nat_cmp}
use Rattle.nm_dump.proofs.RestoreLineLemmas.{names_more}
use Rattle.nm_dump.proofs.restore.is_first.Goals as goal

pub returns : goal.returns
returns c = λ before names.
    let none : is_some (lookup (is_at (slice_cmp nat_cmp c.args.id.now)) c.args.named.now) ≡ false = search rules in
    (sym (ap not (sym (names c.args.id.now) ∙ none)), names_more c.args.named.now c.insert.new.self before c.args.id.now names (λ other. search rules))
