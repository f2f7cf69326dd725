-- The bytes of the words and then of the new one are those of all of them.
use Rattle.std.specs.Result.{is_ok}
use Rattle.std.proofs.Common.{ℕ, List, ◌≡◌, ◌+◌, true, length, [], ◌∷◌, ◌++◌, ap, ◌∙◌, rules, arith}
use Rattle.nm_base.specs.WordList.{IsPacked, unpacked}
use Rattle.nm_base.proofs.WordListLemmas.{few, is_unpacked, pushed}
use Rattle.nm_base.proofs.word_list.WordRow.push_bytes.Goals as goal
use Rattle.nm_base.proofs.word_list.WordRow.push_bytes.Goals.{After-self-1}

pub overflow_add-self : goal.overflow_add-self
overflow_add-self c = omega (arith, few (unpacked c.self.inside.count c.self.inside.bytes.items), c.self.invariant.count_is, ap length c.self.invariant.bytes_are, ap length c.in_ok-push.ensures.items, c.push.ensures.upper_bound, c.push.new.self.ok.0)

-- the bytes now are those of the words with one more
longer : (c : After-self-1) → IsPacked (c.self.inside.count + 1) c.extend_from_slice.new.self.items (unpacked c.self.inside.count c.self.inside.bytes.items ++ c.args.word.now ∷ [])
longer c =
    let ok : is_ok c.extend_from_slice.result ≡ true = search rules in
    let front = c.in_ok-push.ensures.items in
    let all = rw ok at c.extend_from_slice.ensures.items in
    pushed c.self.inside.count c.self.inside.bytes.items _ c.args.word.now _ c.self.invariant c.requires (rw (← front) all)

pub invariant_of-self-2 : goal.invariant_of-self-2
invariant_of-self-2 c = rw (is_unpacked _ _ _ (longer c)) (longer c)

pub returns-clause-ok : goal.returns-clause-ok
returns-clause-ok c = is_unpacked _ _ _ (longer c) ∙ ap (λ (words : List (List ℕ)). words ++ c.args.word.now ∷ []) c.self.view_is
