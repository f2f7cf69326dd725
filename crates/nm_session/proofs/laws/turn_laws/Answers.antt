use Rattle.nm_session.proofs.laws.turn_laws.Goals as goal

pub returns : goal.returns
returns c = record {
  spare = c.turns_leave_the_other_places.ensures;
  even = c.a_line_keeps_the_writer_even.ensures;
  replies = c.a_line_replies_once.ensures;
  stands = c.a_line_more_keeps_where_it_stands.ensures;
  machine_run = c.a_line_more_keeps_the_machine_run.ensures;
  commits = c.a_line_more_keeps_the_commits.ensures;
  answers = c.a_line_more_keeps_the_answers.ensures;
  given = c.a_line_more_keeps_the_given.ensures;
  clocks = c.a_line_more_keeps_the_clocks.ensures;
  lane_read_run = c.a_lane_read_keeps_the_machine_run.ensures;
  lane_read_answers = c.a_lane_read_keeps_the_answers.ensures;
  lane_read_nothing = c.a_lane_read_commits_nothing.ensures;
  between_stands = c.what_stands_between_keeps_the_commits.ensures.stands;
  between_commits = c.what_stands_between_keeps_the_commits.ensures.commits;
  between_acknowledged = c.what_stands_between_keeps_the_commits.ensures.acknowledged;
  between_answers = c.what_stands_between_keeps_the_answers.ensures.first;
  between_given = c.what_stands_between_keeps_the_answers.ensures.given;
  last_barrier = c.a_barrier_keeps_the_machine_run.ensures;
  still_stands = c.what_commits_nothing_keeps_the_commits.ensures.stands;
  still_commits = c.what_commits_nothing_keeps_the_commits.ensures.commits;
  still_acknowledged = c.what_commits_nothing_keeps_the_commits.ensures.acknowledged;
  still_answers = c.later_steps_keep_the_answers.ensures.first;
  still_lane_reads = c.later_steps_keep_the_answers.ensures.others;
  still_given = c.later_steps_keep_the_answers.ensures.given;
}
