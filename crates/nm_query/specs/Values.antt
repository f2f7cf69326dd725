-- Values: a quoted text, or a run of bytes up to one that ends it. Cited by `lexeme` and `values`.
use Rattle.std.specs.Prelude.{ℕ, ◌+◌, Bool, true, false, ◌||◌, ◌&&◌, ◌==◌, List, [], ◌∷◌, length, take, drop, Result, Ok, Err, if◌then◌else◌}
use Rattle.std.specs.List.{before_first, position_or_len}
use Rattle.nm_base.specs.Bounds.{is_white_space}
use Rattle.nm_query.specs.declared.query_error.QueryError.{QueryError}
use Rattle.nm_query.specs.declared.query_error.QueryError.TheVariants.{BadQuery}
use Rattle.nm_query.specs.declared.query_error.QueryKind.TheVariants.{Quote}
use Rattle.nm_query.specs.declared.values.Ends.{Ends}
use Rattle.nm_query.specs.declared.values.Ends.TheVariants.{Name, Run}
use Rattle.nm_query.specs.declared.values.Value.{Value}

-- white space, a parenthesis or `"`: what ends a run of words
abbrev pub ends_run : ℕ → Bool
ends_run b = is_white_space b || b == 40 || b == 41 || b == 34

-- white space or `)`: what ends the value of a name
abbrev pub ends_value : ℕ → Bool
ends_value b = is_white_space b || b == 41

-- what ends a value of this sort
abbrev pub ends_of : Ends → ℕ → Bool
ends_of Run = ends_run
ends_of Name = ends_value

-- this byte is at the front
abbrev pub begins_with : ℕ → List ℕ → Bool
begins_with byte [] = false
begins_with byte (first ∷ more) = first == byte

-- how many bytes come before the `"` that ends a quoted text, which is the first that isn't doubled; all of them where none does
abbrev pub closing : List ℕ → ℕ
closing [] = 0
closing (b ∷ []) = if b == 34 then 0 else 1
closing (b ∷ c ∷ more) = if b == 34 then (if c == 34 then 2 + closing more else 0) else 1 + closing (c ∷ more)

-- each `""` is one `"`
abbrev pub undoubled : List ℕ → List ℕ
undoubled [] = []
undoubled (b ∷ []) = b ∷ []
undoubled (b ∷ c ∷ more) = if b == 34 && c == 34 then b ∷ undoubled more else b ∷ undoubled (c ∷ more)

-- the quoted text that begins at this place, by what comes after its `"`
abbrev pub quoted_value : ℕ → List ℕ → Result Value QueryError
quoted_value at text =
    if closing text == length text then Err (BadQuery at Quote)
    else Ok (record { said = undoubled (take (closing text) text); quoted = true; len = closing text + 2 })

-- all up to the first byte that ends it
abbrev pub run_value : (ℕ → Bool) → List ℕ → Value
run_value ends text = record { said = before_first ends text; quoted = false; len = position_or_len ends text }

-- the value that begins at this place
abbrev pub value_at : (ℕ → Bool) → ℕ → List ℕ → Result Value QueryError
value_at ends at text = if begins_with 34 text then quoted_value at (drop 1 text) else Ok (run_value ends text)
