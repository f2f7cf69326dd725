use Rattle.std.proofs.Common.{◌≡◌, ◌∙◌, Some, None, get_or, set, subst, sym, ap, arith}
use Rattle.nm_maildir.specs.MemoryFiles.{place_of}
use Rattle.nm_maildir.proofs.IndexLemmas.{below_length, IsIndex-moved, Puts, moved-held}
use Rattle.nm_maildir.proofs.PlaceLemmas.{File, are_distinct-moved}
use Rattle.nm_maildir.proofs.memory_files.MemoryFiles.move_file.Goals as goal

pub index_mut-requires : goal.index_mut-requires
index_mut-requires c =
    let within = below_length c.args.self.now.files.items c.args.from.now c.args.at c.requires.found in
    grind arith

pub invariant_of-self-2 : goal.invariant_of-self-2
invariant_of-self-2 c =
    let held = c.args.self.now in
    let path : c.in_ok-path.path ≡ c.args.to.now = c.in_ok-path.ensures in
    let key : c.in_ok-copy.field-0 ≡ c.args.to.now = c.in_ok-copy.ensures in
    let missing = subst (λ to. place_of held.files.items to ≡ None) (sym path) c.requires.missing in
    record {
      distinct = are_distinct-moved held.files.items c.args.at c.in_ok-path.path c.index_mut.result.now.1 held.distinct missing;
      indexed =
          λ _.
          IsIndex-moved held.places c.insert.new.self c.remove.new.self held.files.items c.args.at c.args.from.now c.in_ok-path.path c.index_mut.result.now.1
          held.distinct c.requires.found missing (held.indexed c.requires.indexed)
          (subst (λ to. Puts held.places c.insert.new.self to (Some c.args.at)) (key ∙ sym path) c.in_ok-insert.ensures.updates.0)
          c.remove.ensures.updates.0;
      listed = λ e. absurd (cc);
    }

pub returns-clause-ok : goal.returns-clause-ok
returns-clause-ok c =
    let held = c.args.self.now in
    let path : c.in_ok-path.path ≡ c.args.to.now = c.in_ok-path.ensures in
    let bytes : c.index_mut.result.now.1 ≡ (get_or held.files.items c.args.at c.index_mut.result.now).1 = ap (λ (f : File). f.1) c.index_mut.ensures.value in
    let is = moved-held held.dirs held.files.items c.args.at c.args.from.now c.args.to.now c.index_mut.result.now held.distinct c.requires.found in
    (λ i. record { dirs = held.dirs; files = set held.files.items c.args.at (path i, bytes i) }) ∙ is
