use Rattle.std.proofs.Common.{◌≡◌, ◌∙◌, ap}
use Rattle.std.specs.Cmp.Lexicographic.{slice_cmp}
use Rattle.std.specs.Ordering.{nat_cmp}
use Rattle.std.specs.BTreeSet.{insert_key}
use Rattle.nm_maildir.specs.Tree.{folder_of, name_of}
use Rattle.nm_maildir.proofs.NameLemmas.{adds_path}
use Rattle.nm_maildir.proofs.names.add_path.Goals as goal

pub returns : goal.returns
returns c =
    let folder : c.in_ok-folder.folder ≡ folder_of c.args.path.now = c.in_ok-folder.ensures ∙ c.split_path.ensures.folder in
    let name : c.in_ok-of.field-0 ≡ name_of c.args.path.now = c.in_ok-of.ensures ∙ c.split_path.ensures.name in
    adds_path c.args.names.now c.take_names-found.new.names c.insert-2.new.self c.args.path.now c.in_ok-folder.folder c.in_ok-of.field-0 c.insert.new.self folder name
    c.take_names-found.ensures.dropped
    (c.in_ok-insert.ensures.keys ∙ ap (λ names. insert_key (slice_cmp nat_cmp) names c.in_ok-of.field-0) c.take_names-found.ensures.taken)
    c.in_ok-insert-2.ensures.updates.0
