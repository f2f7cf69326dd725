use Rattle.std.proofs.Common.{◌≡◌, [], length}
use Rattle.nm_segment.specs.Docs.{AreLeft, fields_of, lists_from, words_left}
use Rattle.nm_segment.proofs.doc_lists.DocLists.take_first.Given as goal

-- no word was found so far, so that all that were left are in the lists that are left
abbrev pub invariant-lists : goal.invariant-lists
invariant-lists l = record {
  fields : fields_of l.self-inside.lists.now ≡ l.fn.self.fields;
  words : lists_from l.self-inside.doc l.self-inside.begun l.self-inside.rest.now ≡ l.fn.self.words;
  none : words_left l.self-inside.current ≡ [];
  few : AreLeft l.self-inside.begun l.self-inside.rest.now;
}

abbrev pub decreases-lists : goal.decreases-lists
decreases-lists l = length l.self-inside.rest.now
