use Rattle.std.proofs.Common.{rules, ◌≡◌, None, refl, subst}
use Rattle.nm_history.specs.LineAnswers.{refused_lane_read}
use Rattle.nm_line.proofs.tag.run_tag.Goals as goal
use Rattle.nm_log.specs.declared.line_parser.ParsedLine.{ParsedLine}

pub returns-clause-ends : goal.returns-clause-ends
returns-clause-ends g c = λ left line h. c.change_tags.ensures.ends left line h.asks (record {
  tags = refl;
  right = subst (λ (p : ParsedLine). refused_lane_read p line.input ≡ None) h.asks h.sound;
  lines = h.made;
  strangers = search rules;
})
