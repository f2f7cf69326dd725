use Rattle.std.proofs.Common.{◌≡◌, ◌∙◌, Some, ap, sym, get_or, subst, take}
use Rattle.nm_maildir.specs.MemoryFiles.{place_of}
use Rattle.nm_maildir.proofs.IndexLemmas.{IsIndex-push, Puts}
use Rattle.nm_maildir.proofs.PlaceLemmas.{File, are_distinct-more, are_distinct-repeated, none_from}
use Rattle.nm_maildir.proofs.memory_files.places_of.Goals as goal

pub files-preserved : goal.files-preserved
files-preserved c =
    let files = c.args.files.now in
    let at = c.files.at in
    let file = c.index-files-at.result in
    let same : c.in_ok-copy.field-0 ≡ (get_or files at file).0 = c.in_ok-copy.ensures ∙ ap (λ (f : File). f.0) c.index-files-at.is in
    let found : c.in_ok-insert.field-0 ≡ place_of (take at files) (get_or files at file).0 =
    c.in_ok-insert.ensures.old ∙ c.files.invariant.places c.in_ok-copy.field-0 ∙ ap (place_of (take at files)) same in
    let missing = sym found ∙ none_from c.in_ok-insert.field-0 c.if-is_some.ensures in
    record {
      places =
          IsIndex-push c.files.places c.insert.new.self files at file missing c.files-test.true c.files.invariant.places
          (subst (λ path. Puts c.files.places c.insert.new.self path (Some at)) same c.in_ok-insert.ensures.updates.0);
      distinct = are_distinct-more files at file c.files-test.true c.files.invariant.distinct missing;
    }

pub returns-then-is_some-clause-distinct : goal.returns-then-is_some-clause-distinct
returns-then-is_some-clause-distinct c =
    let files = c.args.files.now in
    let at = c.files.at in
    let file = c.index-files-at.result in
    let same : c.in_ok-copy.field-0 ≡ (get_or files at file).0 = c.in_ok-copy.ensures ∙ ap (λ (f : File). f.0) c.index-files-at.is in
    let found : c.in_ok-insert.field-0 ≡ place_of (take at files) (get_or files at file).0 =
    c.in_ok-insert.ensures.old ∙ c.files.invariant.places c.in_ok-copy.field-0 ∙ ap (place_of (take at files)) same in
    are_distinct-repeated files at file c.in_ok-insert.field-0 c.files-test.true found (sym c.is_some.ensures ∙ c.if-is_some.true)
