use Rattle.std.proofs.Common.{rules, ℕ, ℤ, ◌≡◌, List, Ok, Err, refl, ap, ◌∙◌, subst, w64, to_z, of_z}
use Rattle.nm_model_answer.specs.Changes.{taggings_for, wanted_for}
use Rattle.nm_model_answer.specs.WantedTags.{wanted_by}
use Rattle.nm_model_answer.specs.declared.request.Request.{Request}
use Rattle.nm_model_answer.specs.declared.tag_change.TagChange.{TagChange}
use Rattle.nm_disk.specs.Observed.{ObservedDisk}
use Rattle.nm_model_index.specs.Fits.{FitInTurn}
use Rattle.nm_model_index.specs.declared.base.Base.{Base}
use Rattle.nm_maildir.specs.declared.given.Given.{Given}
use Rattle.nm_model_plan.specs.Moves.{HasTried, tag_commits}
use Rattle.nm_log.specs.declared.outcome.Outcome.TheVariants as outcomes
use Rattle.nm_scan.specs.Bodies.{left_after}
use Rattle.nm_line.specs.Line.{place_at}
use Rattle.nm_line.proofs.AnswerLemmas.{failed-ends}
use Rattle.nm_line.proofs.ChangeLemmas.{write-refused}
use Rattle.nm_line.proofs.TagLemmas.{asks-as, tag-answered, tag-ends, tag-unasked}
use Rattle.nm_sync.specs.Noted.{since}
use Rattle.nm_sync.specs.Renamed.{AsksRenames}
use Rattle.nm_writer.specs.Tagged.{IsAfterTags, SetsTagsFirst}
use Rattle.nm_line.proofs.change.change_tags.Goals as goal

pub returns-in_err-texts-clause-ends : goal.returns-in_err-texts-clause-ends
returns-in_err-texts-clause-ends g c = λ left line is asked.
    failed-ends c.args.crew.now.setting.now.moment (place_at c.args.desk.now.writer.now (g.M.Maildir.observed c.args.desk.now.mail.now) (g.D.Disk.observed c.args.desk.now.disk.now) left) line c.args.given.now c.from_residual.result c.from_residual.ensures.0 c.requires.fresh

-- what is wanted by the lines
wanted-is : (request : Request) (input : List ℕ) (lines : List TagChange) (one moment : ℤ) (index : Base) → one ≡ moment → lines ≡ taggings_for request input → wanted_by one index lines ≡ wanted_for request input moment index
wanted-is request input lines one moment index second are = ap (λ m. wanted_by m index lines) second ∙ ap (wanted_by moment index) are

pub returns-in-Ok-clause-ends : goal.returns-in-Ok-clause-ends
returns-in-Ok-clause-ends g c = λ left line is asked.
    let old = place_at c.args.desk.now.writer.now (g.M.Maildir.observed c.args.desk.now.mail.now) (g.D.Disk.observed c.args.desk.now.disk.now) left in
    let new = place_at c.tag.new.self (g.M.Maildir.observed c.tag.new.mail) (g.D.Disk.observed c.tag.new.disk) (left_after left c.tag.new.given) in
    let noted = c.tag.new.given in
    let request = c.args.changes.request in
    let moment = c.args.crew.now.setting.now.moment in
    let index = c.args.desk.now.writer.now.shown in
    let h = c.in-Ok.ensures in
    let asks = subst (λ (l : List Given). AsksRenames (g.M.Maildir.observed c.args.desk.now.mail.now) (g.M.Maildir.observed c.tag.new.mail) l noted) c.requires.fresh h.asks in
    let second : to_z w64 (of_z w64 moment) ≡ moment = search rules in
    let fits : HasTried index (wanted_for request line.input moment index) noted → FitInTurn index (tag_commits index (wanted_for request line.input moment index) noted) = λ tried. c.tag_commits_fit.ensures index (wanted_for request line.input moment index) noted c.shows_an_ordered_index.ensures.numbered c.shows_an_ordered_index.ensures.apart tried in
    let after = subst (λ (wanted : Base). IsAfterTags wanted noted c.args.desk.now.writer.now (g.D.Disk.observed c.tag.new.disk).faults (Ok c.in-Ok.report) c.tag.new.self)
    (wanted-is request line.input c.args.changes.lines _ moment index second asked.lines)
    (subst (λ (l : List Given). IsAfterTags (wanted_by (to_z w64 (of_z w64 moment)) index c.args.changes.lines) (since l noted) c.args.desk.now.writer.now (g.D.Disk.observed c.tag.new.disk).faults (Ok c.in-Ok.report) c.tag.new.self) c.requires.fresh h.after) in
    let unasked = tag-unasked _ request asked.tags line.input c.args.desk.now.writer.now.closed (wanted_for request line.input moment index) noted c.args.desk.now.writer.now c.tag.new.self (g.D.Disk.observed c.tag.new.disk).faults (Ok c.in-Ok.report)
    (g.M.Maildir.observed c.args.desk.now.mail.now) (g.M.Maildir.observed c.tag.new.mail) asked.right after h.closed in
    let renames = subst (λ (wanted : Base). SetsTagsFirst wanted noted c.args.desk.now.writer.now c.tag.new.self) (wanted-is request line.input c.args.changes.lines _ moment index second asked.lines)
    (subst (λ (l : List Given). SetsTagsFirst (wanted_by (to_z w64 (of_z w64 moment)) index c.args.changes.lines) (since l noted) c.args.desk.now.writer.now c.tag.new.self) c.requires.fresh h.renames_after) in
    tag-ends moment old new line noted request asked.tags is refl asked.right asks unasked renames fits c.in-Ok.report c.args.changes.strangers c.reply_change.result
    (tag-answered moment old new line noted request asked.tags is refl asked.right asks unasked renames fits _ _ (Ok c.in-Ok.report) after h.closed h.mail_cause h.disk_cause (λ same. ap (λ (d : ObservedDisk). d.faults) same) c.requires.ready.0)
    after.3 asked.strangers c.reply_change.ensures

pub returns-in-Err-clause-ends : goal.returns-in-Err-clause-ends
returns-in-Err-clause-ends g c = λ left line is asked.
    let old = place_at c.args.desk.now.writer.now (g.M.Maildir.observed c.args.desk.now.mail.now) (g.D.Disk.observed c.args.desk.now.disk.now) left in
    let new = place_at c.tag.new.self (g.M.Maildir.observed c.tag.new.mail) (g.D.Disk.observed c.tag.new.disk) (left_after left c.tag.new.given) in
    let noted = c.tag.new.given in
    let request = c.args.changes.request in
    let moment = c.args.crew.now.setting.now.moment in
    let index = c.args.desk.now.writer.now.shown in
    let h = c.in-Err.ensures in
    let asks = subst (λ (l : List Given). AsksRenames (g.M.Maildir.observed c.args.desk.now.mail.now) (g.M.Maildir.observed c.tag.new.mail) l noted) c.requires.fresh h.asks in
    let second : to_z w64 (of_z w64 moment) ≡ moment = search rules in
    let fits : HasTried index (wanted_for request line.input moment index) noted → FitInTurn index (tag_commits index (wanted_for request line.input moment index) noted) = λ tried. c.tag_commits_fit.ensures index (wanted_for request line.input moment index) noted c.shows_an_ordered_index.ensures.numbered c.shows_an_ordered_index.ensures.apart tried in
    let after = subst (λ (wanted : Base). IsAfterTags wanted noted c.args.desk.now.writer.now (g.D.Disk.observed c.tag.new.disk).faults (Err c.in-Err.error) c.tag.new.self)
    (wanted-is request line.input c.args.changes.lines _ moment index second asked.lines)
    (subst (λ (l : List Given). IsAfterTags (wanted_by (to_z w64 (of_z w64 moment)) index c.args.changes.lines) (since l noted) c.args.desk.now.writer.now (g.D.Disk.observed c.tag.new.disk).faults (Err c.in-Err.error) c.tag.new.self) c.requires.fresh h.after) in
    let unasked = tag-unasked _ request asked.tags line.input c.args.desk.now.writer.now.closed (wanted_for request line.input moment index) noted c.args.desk.now.writer.now c.tag.new.self (g.D.Disk.observed c.tag.new.disk).faults (Err c.in-Err.error)
    (g.M.Maildir.observed c.args.desk.now.mail.now) (g.M.Maildir.observed c.tag.new.mail) asked.right after h.closed in
    let renames = subst (λ (wanted : Base). SetsTagsFirst wanted noted c.args.desk.now.writer.now c.tag.new.self) (wanted-is request line.input c.args.changes.lines _ moment index second asked.lines)
    (subst (λ (l : List Given). SetsTagsFirst (wanted_by (to_z w64 (of_z w64 moment)) index c.args.changes.lines) (since l noted) c.args.desk.now.writer.now c.tag.new.self) c.requires.fresh h.renames_after) in
    write-refused moment old new line noted c.in-Err.error c.refuse_write.result
    (tag-answered moment old new line noted request asked.tags is refl asked.right asks unasked renames fits _ _ (Err c.in-Err.error) after h.closed h.mail_cause h.disk_cause (λ same. ap (λ (d : ObservedDisk). d.faults) same) c.requires.ready.0)
    (asks-as moment old new line noted request asked.tags is refl asked.right asks unasked renames fits outcomes.NoMemory) c.refuse_write.ensures
