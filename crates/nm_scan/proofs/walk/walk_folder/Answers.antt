use Rattle.std.proofs.Common.{IfSome, Option, subst, ◌≡◌, ◌∙◌, ◌-◌, codes, Ok, Err, arith}
use Rattle.nm_maildir.specs.Tree.{Tree, listing_of}
use Rattle.nm_scan.specs.Walk.{Walks, part_met, walked}
use Rattle.nm_scan.proofs.WalkLemmas.{cur-stops, folder-done, folder-stops, new-stops}
use Rattle.nm_scan.proofs.walk.walk_folder.Goals as goal

pub returns-in-Err-clause-limit : goal.returns-in-Err-clause-limit
returns-in-Err-clause-limit g c =
    let mail = g.M.Maildir in
    folder-stops (mail.observed c.args.mail.now).tree c.args.walk.now c.enter.new.walk c.args.folder.now.levels c.args.folder.now.path c.in-Err.error c.in-Err.ensures.walks

pub returns-in-Err-walk_part-clause-limit : goal.returns-in-Err-walk_part-clause-limit
returns-in-Err-walk_part-clause-limit g c =
    let mail = g.M.Maildir in
    new-stops (mail.observed c.args.mail.now).tree c.args.walk.now c.enter.new.walk c.walk_part.new.walk c.args.folder.now.levels (c.args.folder.now.levels - 1) c.args.folder.now.path c.in_ok-dirs.dirs c.in-Err-walk_part.error
    (omega (arith, c.in-Ok.ensures.some)) c.in-Ok.ensures.walks c.in_ok-dirs.ensures.dirs
    (subst (λ (o : Option Tree). IfSome o (λ t. c.in_ok-dirs.dirs ≡ (listing_of t c.args.folder.now.path).dirs → Walks {T = Unit {0}} (walked c.enter.new.walk (part_met (c.args.folder.now.levels - 1) t c.args.folder.now.path (codes "new"))) (Err c.in-Err-walk_part.error) c.walk_part.new.walk))
    c.list_dirs.ensures.keeps.tree c.in-Err-walk_part.ensures.walks)

pub returns-in-Err-walk_part-2-clause-limit : goal.returns-in-Err-walk_part-2-clause-limit
returns-in-Err-walk_part-2-clause-limit g c =
    let mail = g.M.Maildir in
    cur-stops (mail.observed c.args.mail.now).tree c.args.walk.now c.enter.new.walk c.walk_part.new.walk c.walk_part-2.new.walk c.args.folder.now.levels (c.args.folder.now.levels - 1) c.args.folder.now.path c.in_ok-dirs.dirs c.in-Err-walk_part-2.error
    (omega (arith, c.in-Ok.ensures.some)) c.in-Ok.ensures.walks c.in_ok-dirs.ensures.dirs
    (subst (λ (o : Option Tree). IfSome o (λ t. c.in_ok-dirs.dirs ≡ (listing_of t c.args.folder.now.path).dirs → walked c.enter.new.walk (part_met (c.args.folder.now.levels - 1) t c.args.folder.now.path (codes "new")) ≡ Ok c.walk_part.new.walk))
    c.list_dirs.ensures.keeps.tree c.in-Ok-walk_part.ensures.walks)
    (subst (λ (o : Option Tree). IfSome o (λ t. c.in_ok-dirs.dirs ≡ (listing_of t c.args.folder.now.path).dirs → Walks {T = Unit {0}} (walked c.walk_part.new.walk (part_met (c.args.folder.now.levels - 1) t c.args.folder.now.path (codes "cur"))) (Err c.in-Err-walk_part-2.error) c.walk_part-2.new.walk))
    (c.walk_part.ensures.tree ∙ c.list_dirs.ensures.keeps.tree) c.in-Err-walk_part-2.ensures.walks)

pub returns-clause-walks : goal.returns-clause-walks
returns-clause-walks g c =
    let mail = g.M.Maildir in
    folder-done (mail.observed c.args.mail.now).tree c.args.walk.now c.enter.new.walk c.walk_part.new.walk c.walk_part-2.new.walk c.args.folder.now.levels (c.args.folder.now.levels - 1) c.args.folder.now.path c.as_str.result.now c.in_ok-dirs.dirs c.as_slice.result.now
    c.args.pending.now c.push_others.new.pending
    (omega (arith, c.in-Ok.ensures.some)) c.in-Ok.ensures.walks c.in_ok-dirs.ensures.dirs
    (subst (λ (o : Option Tree). IfSome o (λ t. c.in_ok-dirs.dirs ≡ (listing_of t c.args.folder.now.path).dirs → walked c.enter.new.walk (part_met (c.args.folder.now.levels - 1) t c.args.folder.now.path (codes "new")) ≡ Ok c.walk_part.new.walk))
    c.list_dirs.ensures.keeps.tree c.in-Ok-walk_part.ensures.walks)
    (subst (λ (o : Option Tree). IfSome o (λ t. c.in_ok-dirs.dirs ≡ (listing_of t c.args.folder.now.path).dirs → walked c.walk_part.new.walk (part_met (c.args.folder.now.levels - 1) t c.args.folder.now.path (codes "cur")) ≡ Ok c.walk_part-2.new.walk))
    (c.walk_part.ensures.tree ∙ c.list_dirs.ensures.keeps.tree) c.in-Ok-walk_part-2.ensures.walks)
    c.as_str.ensures c.as_slice.ensures c.in_ok-push_others.ensures
