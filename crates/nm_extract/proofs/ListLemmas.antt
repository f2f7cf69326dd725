-- Two lists, turned and joined and turned again, are the second before the first. For the proof of `put_before`.
use Rattle.std.proofs.Common.{◌≡◌, List, ◌++◌, reverse, ap, ◌∙◌}
use Rattle.std.proofs.lemmas.List.{reverse-append, reverse-reverse}

pub reversed_join : {A : Type 0} (front others first last all result : List A) → first ≡ reverse front → last ≡ reverse others → all ≡ last ++ first → result ≡ reverse all → result ≡ front ++ others
reversed_join front others first last all result f l a r =
    r ∙ ap reverse (a ∙ ap (λ x. x ++ first) l ∙ ap (λ x. reverse others ++ x) f) ∙ simp (reverse-append, reverse-reverse)
