use Rattle.nm_cursor.proofs.SetLemmas.{contains_from, has-difference, has-from, has-from_contains, has-intersection, has-symmetric_difference, has-union, rising-difference, rising-intersection, rising-symmetric_difference, rising-union, same_list}
use Rattle.nm_cursor.proofs.laws.set_laws.Goals as goal

pub returns : goal.returns
returns c = record {
  membership = λ left right doc. record {
    has_is = (contains_from left doc, has-from_contains left doc);
    in_from = λ start. has-from start left doc;
    in_intersection = has-intersection left right doc;
    in_difference = has-difference left right doc;
    in_union = has-union left right doc;
    in_symmetric_difference = has-symmetric_difference left right doc;
  };
  order = λ left right rising rises. record {
    intersection_rises = rising-intersection left right rising;
    difference_rises = rising-difference left right rising;
    union_rises = rising-union left right rising;
    symmetric_difference_rises = rising-symmetric_difference left right rising;
    decides = same_list left right rising rises;
  };
}
