use Rattle.nm_session.proofs.laws.first_laws.Goals as goal

pub returns : goal.returns
returns c = record {
  stands = c.no_line_stands_at_the_opening.ensures;
  machine_run = c.no_step_is_a_run_of_the_machine.ensures;
  commits = c.no_line_makes_no_commit.ensures;
  answers = c.no_line_is_answered.ensures;
  given = c.nothing_is_given_to_no_line.ensures;
}
