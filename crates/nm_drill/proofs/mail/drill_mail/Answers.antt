use Rattle.std.proofs.Common.{ap, ◌∙◌, ◌++◌}
use Rattle.nm_drill.specs.Drill.{answered, body_of, date_line, from_line, id_line, references_line, subject_line}
use Rattle.nm_drill.proofs.LineLemmas.{six_lines}
use Rattle.nm_drill.proofs.mail.drill_mail.Goals as goal

pub returns : goal.returns
returns c = let k = c.args.number in
    six_lines (from_line k) (subject_line k) (id_line k) (date_line k) (references_line (answered k)) (body_of k)
    c.in_ok-mail.mail c.extend_from_slice.new.self c.extend_from_slice-2.new.self c.extend_from_slice-3.new.self c.extend_from_slice-4.new.self c.extend_from_slice-5.new.self
    (c.in_ok-mail.ensures ∙ (c.as_bytes.ensures.value ∙ c.in_ok-from_line.ensures))
    (c.in_ok-extend_from_slice.ensures.ok ∙ ap (λ line. c.in_ok-mail.mail ++ line) (c.as_bytes-2.ensures.value ∙ c.in_ok-subject_line.ensures))
    (c.in_ok-extend_from_slice-2.ensures.ok ∙ ap (λ line. c.extend_from_slice.new.self ++ line) (c.as_bytes-3.ensures.value ∙ c.in_ok-id_line.ensures))
    (c.in_ok-extend_from_slice-3.ensures.ok ∙ ap (λ line. c.extend_from_slice-2.new.self ++ line) (c.as_bytes-4.ensures.value ∙ c.in_ok-date_line.ensures))
    (c.in_ok-extend_from_slice-4.ensures.ok ∙ ap (λ line. c.extend_from_slice-3.new.self ++ line) (c.as_bytes-5.ensures.value ∙ (c.in_ok-references_line.ensures ∙ ap references_line c.answered.ensures)))
    (c.in_ok-extend_from_slice-5.ensures.ok ∙ ap (λ line. c.extend_from_slice-4.new.self ++ line) (c.as_bytes-6.ensures.value ∙ c.in_ok-body_of.ensures))
