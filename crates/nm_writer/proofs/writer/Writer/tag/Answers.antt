use Rattle.std.proofs.Common.{rules, ◌≡◌, Err, refl, sym, subst}
use Rattle.nm_model_answer.specs.WantedTags.{wanted_by}
use Rattle.nm_sync.specs.Noted.{since}
use Rattle.nm_writer.specs.Tagged.{IsAfterTags}
use Rattle.nm_writer.specs.declared.write_error.WriteError.TheVariants as errors
use Rattle.nm_writer.proofs.NotedLemmas.{since-none}
use Rattle.nm_writer.proofs.TagCommandLemmas.{nothing-set}
use Rattle.nm_writer.proofs.writer.Writer.tag.Goals as goal

pub returns-in-Err-clause-after : goal.returns-in-Err-clause-after
returns-in-Err-clause-after g c =
    let faults = (g.D.Disk.observed c.args.disk.now).faults in
    let wanted = wanted_by c.args.moment c.args.self.now.shown c.args.lines.now in
    let is : c.into.result ≡ errors.NoMemory = search rules in
    subst (λ error. IsAfterTags wanted (since c.args.given.now c.args.given.now) c.args.self.now faults (Err error) c.args.self.now) (sym is) (nothing-set c.no_rename_is_noted_at_first.ensures c.args.self.now wanted (since c.args.given.now c.args.given.now) faults (since-none c.args.given.now c.args.given.now refl))
