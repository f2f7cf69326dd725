use Rattle.std.proofs.Common.{◌∙◌, inl, refl}
use Rattle.nm_sync.proofs.NotedLemmas.{since-none}
use Rattle.nm_sync.proofs.ScanLemmas.{asked_listing, has_listed, same_mail}
use Rattle.nm_sync.proofs.comparison.compare.Goals as goal

pub returns-in-Err-clause-asked : goal.returns-in-Err-clause-asked
returns-in-Err-clause-asked g c = inl (since-none c.args.given.now c.args.given.now refl, c.list_paths.ensures.reads)

pub returns-in_err-note_listed-clause-asked : goal.returns-in_err-note_listed-clause-asked
returns-in_err-note_listed-clause-asked g c = inl (since-none c.args.given.now c.note_listed.new.given c.in_err-note_listed.ensures.err, c.in_ok-sync.ensures.keeps.reads ∙ c.list_paths.ensures.reads)

pub returns-in_err-compared-clause-asked : goal.returns-in_err-compared-clause-asked
returns-in_err-compared-clause-asked g c = inl (since-none c.args.given.now c.args.given.now refl, c.list_paths.ensures.reads)

pub returns-clause-ok : goal.returns-clause-ok
returns-clause-ok g c =
    has_listed (g.M.Maildir.observed c.args.mail.now).tree c.args.shown.now.files c.args.given.now c.note_listed.new.given c.in-Ok.listed _ _ _
    c.in_ok-note_listed.ensures.ok c.in_ok-note_listed.ensures.rising c.in-Ok.ensures.listed c.in_ok-compared.ensures.unknown c.in_ok-compared.ensures.gone c.in_ok-compared.ensures.ids

pub returns-clause-mail : goal.returns-clause-mail
returns-clause-mail g c =
    let synced = c.in_ok-sync.ensures.keeps in
    same_mail _ _ (synced.tree ∙ c.list_paths.ensures.tree) (synced.reads ∙ c.list_paths.ensures.reads) (synced.cause ∙ c.in-Ok.ensures.cause)

pub returns-clause-asked : goal.returns-clause-asked
returns-clause-asked g c =
    let mail = g.M.Maildir in
    let synced = c.in_ok-sync.ensures.keeps in
    asked_listing _ (mail.observed c.sync.new.self) c.args.shown.now.files c.args.given.now c.note_listed.new.given c.in-Ok.listed
    (synced.tree ∙ c.list_paths.ensures.tree) (synced.reads ∙ c.list_paths.ensures.reads) c.in_ok-note_listed.ensures.ok c.in_ok-note_listed.ensures.rising c.in-Ok.ensures.listed
