use Rattle.std.proofs.Common.{sym, ap, ℕ, ◌+◌, List, [], ◌++◌, take, arith}
use Rattle.std.proofs.lemmas.List.{drop_all}
use Rattle.nm_threads.specs.Labels.{entries_of}
use Rattle.nm_threads.specs.Maps.{labelling_of}
use Rattle.nm_threads.specs.Work.{rows_steps}
use Rattle.nm_threads.proofs.RowLemmas.{len_more, rows_room, rows_numbers, rows_labels}
use Rattle.nm_threads.proofs.StepLemmas.{exact_rows}
use Rattle.nm_threads.proofs.rows.add_all.Goals as goal

pub add-requires-clause-room : goal.add-requires-clause-room
add-requires-clause-room g c =
    rows_room c.args.maps.now c.rows.maps c.rows.maps c.args.rows.now c.rows.row-index c.rows-test.true c.row-item.result (sym c.row-item.is) 9223372036854775808 c.requires.room c.rows.invariant.numbers

pub rows-preserved : goal.rows-preserved
rows-preserved g c = record {
  maps = c.in_ok-add.ensures.maps;
  numbers = rows_numbers c.args.maps.now c.rows.maps c.add.new.maps c.args.rows.now c.rows.row-index c.rows-test.true c.row-item.result (sym c.row-item.is) c.rows.invariant.numbers c.in_ok-add.ensures.numbers;
  work = λ f doubles. omega (arith, c.rows.invariant.work f doubles, c.in_ok-add.ensures.work f doubles, len_more c.args.maps.now c.rows.maps c.add.new.maps c.args.rows.now c.rows.row-index c.rows-test.true c.row-item.result (sym c.row-item.is));
  looked = omega (arith, c.rows.invariant.looked, c.in_ok-add.ensures.looked, len_more c.args.maps.now c.rows.maps c.add.new.maps c.args.rows.now c.rows.row-index c.rows-test.true c.row-item.result (sym c.row-item.is));
  exact = λ others labels.
      exact_rows c.args.maps.now c.rows.maps c.args.rows.now c.rows.row-index c.rows-test.true c.row-item.result (sym c.row-item.is) others c.rows.invariant.numbers c.rows.steps c.add.new.steps
      (c.in_ok-add.ensures.exact (take c.rows.row-index c.args.rows.now ++ others) (c.rows.invariant.labels others labels))
      (c.args.steps.now + rows_steps others (entries_of (labelling_of c.args.maps.now).labels, c.args.maps.now.next) [] c.args.rows.now) (c.rows.invariant.exact others labels);
  labels = rows_labels c.args.maps.now c.rows.maps c.add.new.maps c.args.rows.now c.rows.row-index c.rows-test.true c.row-item.result (sym c.row-item.is) c.rows.invariant.labels c.in_ok-add.ensures.labels;
}

pub returns-clause-exact : goal.returns-clause-exact
returns-clause-exact g c = λ others labels.
    let old : List (List ℕ × ℕ) × ℕ = (entries_of (labelling_of c.args.maps.now).labels, c.args.maps.now.next) in
    omega (arith, c.rows.invariant.exact others labels, ap (rows_steps others old (take c.rows.row-index c.args.rows.now)) (drop_all c.rows.row-index c.args.rows.now (omega arith)))
