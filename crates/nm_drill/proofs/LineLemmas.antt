-- Lines that are put one after the other. For the proof of `drill_mail`.
use Rattle.std.proofs.Common.{◌≡◌, ℕ, List, ◌++◌}

pub six_lines : (a b c d e f m1 m2 m3 m4 m5 m6 : List ℕ) → m1 ≡ a → m2 ≡ m1 ++ b → m3 ≡ m2 ++ c → m4 ≡ m3 ++ d → m5 ≡ m4 ++ e → m6 ≡ m5 ++ f
    → m6 ≡ a ++ b ++ c ++ d ++ e ++ f
six_lines a b c d e f m1 m2 m3 m4 m5 m6 h1 h2 h3 h4 h5 h6 = cc
