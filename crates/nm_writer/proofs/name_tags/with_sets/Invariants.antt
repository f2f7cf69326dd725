use Rattle.std.proofs.Common.{◌≡◌, ◌++◌, map}
use Rattle.nm_writer.specs.NameTags.{set_of}
use Rattle.nm_writer.proofs.name_tags.with_sets.Given as goal

abbrev pub invariant-sets : goal.invariant-sets
invariant-sets l = l.changes ++ map set_of l.id-iterator.rest.items ≡ l.fn.files.changes ++ map set_of l.fn.sets
