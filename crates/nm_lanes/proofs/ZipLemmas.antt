-- A relation between the items of two lists of one length, place by place. For the proof of `work_lanes`.
use Rattle.std.proofs.Common.{◌≡◌, ℕ, ◌<◌, List, [], ◌∷◌, length, get_or, arith, suc}
use Rattle.std.specs.List.{AllZip}

pub zip-each : {X : Type 0} (R : X → X → Type 0) (xs ys : List X) → length ys ≡ length xs → ((at : ℕ) (other : X) → at < length xs → R (get_or xs at other) (get_or ys at other)) → AllZip R xs ys
zip-each R [] [] long each = tt
zip-each R [] (y ∷ ys) long each = absurd (omega arith)
zip-each R (x ∷ xs) [] long each = absurd (omega arith)
zip-each R (x ∷ xs) (y ∷ ys) long each = (each 0 x (omega arith), zip-each R xs ys (omega arith) (λ at other within. each (suc at) other (omega arith)))
