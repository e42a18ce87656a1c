-- The names of rules and of columns.
use Rattle.std.proofs.Common.{◌≡◌, ℕ, ◌<◌, ◌≤◌, ◌-◌, ◌&&◌, Bool, true, false, List, [], ◌∷◌, length, Some, refl, ap, sym, ◌∙◌, arith}
use Rattle.std.specs.Prelude.{nat_lt, option_map, slice_get, unwrap_or}
use Rattle.std.specs.List.{AllByRecursion, list_all}
use Rattle.std.specs.Str.{chars}
use Rattle.std.proofs.lemmas.Bool.Decides.{nat_tests}
use Rattle.std.proofs.lemmas.List.Elements.{All-from_recursion}
use Rattle.std.proofs.lemmas.Option.{slice_get_past}
use Rattle.std.proofs.lemmas.Str.{chars-IsAscii}
use Rattle.std.proofs.lemmas.Str.Ascii.{IsAscii-from_all}
use Rattle.fx_core.specs.declared.schema.Column.{Column}
use Rattle.row_keeper.specs.declared.rows.RowRule.{RowRule}
use Rattle.row_keeper.specs.declared.rows.RowRule.TheVariants as rule
use Rattle.app_moves.specs.Refusals.{name_at, row_word}

small : (bs : List ℕ) → list_all (λ b. nat_lt b 128) bs ≡ true → AllByRecursion (λ b. b < 128) bs
small [] e = tt
small (b ∷ bs) e = by (nat_lt b 128) refl e (small bs)
  where
    below : nat_lt b 128 ≡ true → b < 128
    below k = grind (arith, nat_tests, k)

    by : (t : Bool) → nat_lt b 128 ≡ t → (t && list_all (λ b. nat_lt b 128) bs) ≡ true → (list_all (λ b. nat_lt b 128) bs ≡ true → AllByRecursion (λ b. b < 128) bs)
        → (b < 128) × AllByRecursion (λ b. b < 128) bs
    by true k f rest = (below k, rest f)
    by false k f rest = absurd cc

-- a text of ASCII is its characters
pub plain : (bs : List ℕ) → list_all (λ b. nat_lt b 128) bs ≡ true → chars bs ≡ bs
plain bs e = chars-IsAscii bs (IsAscii-from_all bs (All-from_recursion (λ b. b < 128) bs (small bs e)))

pub empty_is : chars [] ≡ []
empty_is = plain [] refl

-- a rule's name is ASCII
pub name_is : (r : RowRule) → chars (row_word r) ≡ row_word r
name_is rule.Required = plain (row_word rule.Required) refl
name_is rule.Unique = plain (row_word rule.Unique) refl
name_is rule.Size = plain (row_word rule.Size) refl
name_is rule.Full = plain (row_word rule.Full) refl

-- no column stands past the last one
pub no_name : (columns : List Column) (k n : ℕ) → length columns ≤ n → n ≡ k - 1 → [] ≡ name_at columns (Some k)
no_name columns k n h e = sym (ap (λ m. unwrap_or (option_map (λ (c : Column). c.name) (slice_get columns m)) []) (sym e) ∙ ap (λ o. unwrap_or (option_map (λ (c : Column). c.name) o) []) (slice_get_past columns n h))
