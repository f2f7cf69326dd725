use Rattle.std.proofs.Common.{◌≡◌, ◌+◌, ◌*◌, List, [], ◌∷◌, ◌++◌, refl, ap, ◌∙◌, arith}
use Rattle.std.proofs.lemmas.Result.{on_ok_weaker}
use Rattle.std.specs.Vec.{with_item}
use Rattle.nm_blocks.specs.declared.hit.Hit.{Hit}
use Rattle.nm_segment.specs.Runs.{row_at}
use Rattle.nm_segment.proofs.PushLemmas.{pushed_at, row_there}
use Rattle.nm_segment.proofs.gather.Gathered.add.Goals as goal

pub push-requires : goal.push-requires
push-requires c =
    let found = c.requires.0 in
    let at : c.in_ok-number.number * 5 + c.from.result ≡ row_at c.in_ok-number.number c.args.field = omega (arith, c.from.ensures, c.number.ensures) in
    let row = c.index_mut-row.ensures.value ∙ row_there c.number_of.new.self found c.args.word.now c.args.field c.in_ok-number.number (c.in_ok-number.number * 5 + c.from.result) c.index_mut-row.result.now
    (c.in_ok-number.ensures.words found c.requires.1) (c.in_ok-number.ensures.number found c.requires.1) at in
    rw row c.requires.2

pub returns : goal.returns
returns c =
    let at : c.in_ok-number.number * 5 + c.from.result ≡ row_at c.in_ok-number.number c.args.field = omega (arith, c.from.ensures, c.number.ensures) in
    on_ok_weaker c.push.result (λ added found h.
    let row = c.index_mut-row.ensures.value ∙ row_there c.number_of.new.self found c.args.word.now c.args.field c.in_ok-number.number (c.in_ok-number.number * 5 + c.from.result) c.index_mut-row.result.now
    (c.in_ok-number.ensures.words found h) (c.in_ok-number.ensures.number found h) at in
    pushed_at c.number_of.new.self (record { alloc = c.number_of.new.self.alloc; numbers = c.number_of.new.self.numbers; words = c.number_of.new.self.words; order = c.number_of.new.self.order; rows = with_item c.number_of.new.self.rows (c.in_ok-number.number * 5 + c.from.result) c.push.new.self })
    found (record { hit = c.args.hit; field = c.args.field; word = c.args.word.now }) c.in_ok-number.number (c.in_ok-number.number * 5 + c.from.result) c.push.new.self
    (c.in_ok-number.ensures.words found h) (c.in_ok-number.ensures.number found h) refl refl refl refl refl at (added ∙ ap (λ (hits : List Hit). hits ++ c.args.hit ∷ []) row)) c.push.ensures.ok
