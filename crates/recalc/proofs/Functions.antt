-- Derived comparisons of enums of which some variants have fields.
use Rattle.std.proofs.Common.{◌≡◌, List, [], ◌∷◌, Bool, true, false, refl, sym, ap, ◌∙◌, inl, inr}
use Rattle.fx_types.specs.contracts.formats.DateFormat.{the_type as date_format}
use Rattle.fx_types.specs.contracts.formats.NumberFormat.{the_type as number_format}
use Rattle.fx_types.specs.contracts.formats.TimeUnit.{the_type as time_unit}
use Rattle.fx_core.specs.contracts.functions.Fun.{enum, the_parts}
use Rattle.fx_core.specs.contracts.functions.FunEq.TheImpl.Laws as fun_laws
use Rattle.fx_core.specs.contracts.functions.FunPartialEq.TheImpl as of_fun
use Rattle.fx_core.specs.contracts.literals.SortOrder.{the_type as sort_order}
use Rattle.fx_core.specs.declared.functions.Fun.{Fun}
use denote.Enum.Bare.{sameb, same_true}
use denote.Enum.Compared.{Each, by}
use denote.Enum.Declared.{Choice}
use denote.Struct.Field.{Field}
use denote.Struct.Values.{Values}

-- a comparison for each variant that has fields
abbrev pub Comparing : List (List Field) → Type 0
Comparing [] = Unit
Comparing ([] ∷ Fss) = Comparing Fss
Comparing ((F ∷ Fs) ∷ Fss) = (Values (F ∷ Fs) → Values (F ∷ Fs) → Bool) × Comparing Fss

-- and with these one for each variant
abbrev pub each_by : (Fss : List (List Field)) → Comparing Fss → Each Bool Fss
each_by [] g = tt
each_by ([] ∷ Fss) g = (λ x y. true, each_by Fss g)
each_by ((F ∷ Fs) ∷ Fss) g = (g.0, each_by Fss g.1)

-- they tell whether values are one
abbrev pub AreTelling : (Fss : List (List Field)) → Comparing Fss → Type 0
AreTelling [] g = Unit
AreTelling ([] ∷ Fss) g = AreTelling Fss g
AreTelling ((F ∷ Fs) ∷ Fss) g = ((x y : Values (F ∷ Fs)) → g.0 x y ≡ true → x ≡ y) × AreTelling Fss g.1

by_tells : (Fss : List (List Field)) (g : Comparing Fss) → AreTelling Fss g → (c d : Choice Fss) → by false false Fss (each_by Fss g) c d ≡ true → c ≡ d
by_tells [] g all c d e = absurd c
by_tells ([] ∷ Fss) g all (inl x) (inl y) e = refl
by_tells ((F ∷ Fs) ∷ Fss) g all (inl x) (inl y) e = ap inl (all.0 x y e)
by_tells ([] ∷ Fss) g all (inl x) (inr y) e = absurd cc
by_tells ((F ∷ Fs) ∷ Fss) g all (inl x) (inr y) e = absurd cc
by_tells ([] ∷ Fss) g all (inr x) (inl y) e = absurd cc
by_tells ((F ∷ Fs) ∷ Fss) g all (inr x) (inl y) e = absurd cc
by_tells ([] ∷ Fss) g all (inr x) (inr y) e = ap inr (by_tells Fss g all x y e)
by_tells ((F ∷ Fs) ∷ Fss) g all (inr x) (inr y) e = ap inr (by_tells Fss g.1 all.1 x y e)

-- two functions are one where they compare so
pub fun_tells : (a b : Fun) → of_fun.ghosts.eq a b ≡ true → a ≡ b
fun_tells a b e =
    sym (enum.eta a) ∙ ap enum.make (by_tells the_parts
    (λ x y. sameb number_format x.0 y.0, (λ x y. sameb date_format x.0 y.0, (λ x y. sameb time_unit x.0 y.0, (λ x y. sameb time_unit x.0 y.0, (λ x y. sameb sort_order x.0 y.0, tt)))))
    (λ x y h i. (same_true number_format tt x.0 y.0 h i, tt), (λ x y h i. (same_true date_format tt x.0 y.0 h i, tt), (λ x y h i. (same_true time_unit tt x.0 y.0 h i, tt), (λ x y h i. (same_true time_unit tt x.0 y.0 h i, tt), (λ x y h i. (same_true sort_order tt x.0 y.0 h i, tt), tt)))))
    (enum.as_values a) (enum.as_values b) e) ∙ enum.eta b

-- and a function is one with itself
pub fun_itself : (a : Fun) → of_fun.ghosts.eq a a ≡ true
fun_itself a = fun_laws.laws-law.refl a
