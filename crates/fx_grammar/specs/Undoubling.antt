-- Doubled marks made one again.
use Rattle.std.specs.Prelude.{ℕ, Bool, List, [], ◌∷◌, Option, Some, None, option_map, ◌==◌}
use Rattle.std.specs.Prelude.{if◌then◌else◌}
use Rattle.std.specs.Borrow.{Bor}
use Rattle.fx_lexer.specs.Spelling.{is_quote, is_mark}
use Rattle.fx_grammar.specs.declared.marks.Marks.{Marks}
use Rattle.fx_grammar.specs.declared.marks.Marks.TheVariants.{Quote, Apostrophe, Weave}

abbrev pub put_char : ℕ → Option (List ℕ) → Option (List ℕ)
put_char c o = option_map (λ cs. c ∷ cs) o

-- the text whose marks were doubled, or None where a mark stands alone
abbrev pub undoubled : (ℕ → Bool) → List ℕ → Option (List ℕ)
undoubled p [] = Some []
undoubled p (c ∷ []) = if p c then None else Some (c ∷ [])
undoubled p (c ∷ d ∷ ds) = if p c then (if d == c then put_char c (undoubled p ds) else None) else
    put_char c (undoubled p (d ∷ ds))

-- what is doubled
abbrev pub test_of : Marks → ℕ → Bool
test_of Quote = is_quote 34
test_of Apostrophe = is_quote 39
test_of Weave = is_mark

-- the first character without doubled marks and what follows it: None where a mark stands alone,
-- Some None at the end
abbrev pub step_at : (ℕ → Bool) → List ℕ → Option (Option (ℕ × List ℕ))
step_at p [] = Some None
step_at p (c ∷ []) = if p c then None else Some (Some (c, []))
step_at p (c ∷ d ∷ ds) = if p c then (if d == c then Some (Some (c, ds)) else None) else Some
    (Some (c, d ∷ ds))

abbrev pub step_seen : Option (Option (ℕ × Bor (List ℕ))) → Option (Option (ℕ × List ℕ))
step_seen = option_map (option_map (λ x. (x.0, x.1.now)))
