-- The names of rules.
use Rattle.std.proofs.Common.{◌≡◌, ℕ, ◌<◌, ◌&&◌, Bool, true, false, List, [], ◌∷◌, refl, arith}
use Rattle.std.specs.Prelude.{codes, nat_lt}
use Rattle.std.specs.List.{AllByRecursion, list_all}
use Rattle.std.specs.Str.{chars}
use Rattle.std.proofs.lemmas.Bool.Decides.{nat_tests}
use Rattle.std.proofs.lemmas.List.Elements.{All-from_recursion}
use Rattle.std.proofs.lemmas.Str.{chars-IsAscii}
use Rattle.std.proofs.lemmas.Str.Ascii.{IsAscii-from_all}
use Rattle.row_files.specs.declared.ends.ImportRule.{ImportRule}
use Rattle.row_files.specs.declared.ends.ImportRule.TheVariants as rule
use Rattle.csv_requests.specs.Refusals.{batch_rule_name}

small : (bs : List ℕ) → list_all (λ b. nat_lt b 128) bs ≡ true → AllByRecursion (λ b. b < 128) bs
small [] e = tt
small (b ∷ bs) e = by (nat_lt b 128) refl e (small bs)
  where
    below : nat_lt b 128 ≡ true → b < 128
    below k = grind (arith, nat_tests, k)

    by : (t : Bool) → nat_lt b 128 ≡ t → (t && list_all (λ b. nat_lt b 128) bs) ≡ true → (list_all (λ b. nat_lt b 128) bs ≡ true → AllByRecursion (λ b. b < 128) bs)
        → (b < 128) × AllByRecursion (λ b. b < 128) bs
    by true k f rest = (below k, rest f)
    by false k f rest = absurd cc

plain : (bs : List ℕ) → list_all (λ b. nat_lt b 128) bs ≡ true → chars bs ≡ bs
plain bs e = chars-IsAscii bs (IsAscii-from_all bs (All-from_recursion (λ b. b < 128) bs (small bs e)))

pub key_is : chars (codes "key") ≡ codes "key"
key_is = plain (codes "key") refl

-- a rule's name is ASCII
pub name_is : (r : ImportRule) → chars (batch_rule_name r) ≡ batch_rule_name r
name_is rule.Csv = plain (batch_rule_name rule.Csv) refl
name_is rule.Header = plain (batch_rule_name rule.Header) refl
name_is rule.Long = plain (batch_rule_name rule.Long) refl
name_is rule.Kind = plain (batch_rule_name rule.Kind) refl
name_is rule.Blank = plain (batch_rule_name rule.Blank) refl
name_is rule.Twice = plain (batch_rule_name rule.Twice) refl
