-- Where the first error of values stands, and the answers of calls that begin with it.
use Rattle.std.proofs.Common.{◌≡◌, List, [], ◌∷◌, Bool, true, false, Option, Some, None, Result, Ok, Err, IfOk, unwrap_or, refl, sym, ap, subst, cond}
use Rattle.std.specs.Prelude.{MatchOption}
use Rattle.std.specs.List.{find}
use Rattle.fx_number.specs.declared.memory.Memory.{Memory}
use Rattle.fx_types.specs.Values.{Data}
use Rattle.fx_types.specs.ValueView.{view}
use Rattle.fx_types.specs.declared.values.Value.{Value}
use Rattle.fx_tables.specs.RowCalls.{IsFirstErrorOr}
use Rattle.fx_tables.specs.Unions.{fault_or, is_fault}

-- what is found passes
pub found_passes : (ds : List Data) (d : Data) → find is_fault ds ≡ Some d → is_fault d ≡ true
found_passes [] d e = cc
found_passes (x ∷ ds) d e = by (is_fault x) refl (λ k. found_passes ds d k) e
  where
    by : (b : Bool) → is_fault x ≡ b → (find is_fault ds ≡ Some d → is_fault d ≡ true) → cond b (Some x) (find is_fault ds) ≡ Some d → is_fault d ≡ true
    by true q k e = let same : x ≡ d = cc in let P : Data → Type 0 = λ z. is_fault z ≡ true in subst P same q
    by false q k e = k e

-- the answer where there is an error, and where there is none
pub error_is : (ds : List Data) (d e : Data) → find is_fault ds ≡ Some e → e ≡ fault_or ds d
error_is ds d e f = sym (ap (λ o. unwrap_or o d) f)

pub none_is : (ds : List Data) (d : Data) → find is_fault ds ≡ None → d ≡ fault_or ds d
none_is ds d f = sym (ap (λ o. unwrap_or o d) f)

pub error_meets : (ds : List Data) (P : Data → Type 0) (e : Data) → find is_fault ds ≡ Some e → IsFirstErrorOr ds P e
error_meets ds P e f =
    let Q : Option Data → Type 0 = λ o. MatchOption o (P e) (λ z. e ≡ z) in
    subst Q (sym f) refl

pub none_meets : (ds : List Data) (P : Data → Type 0) (d : Data) → find is_fault ds ≡ None → P d → IsFirstErrorOr ds P d
none_meets ds P d f h =
    let Q : Option Data → Type 0 = λ o. MatchOption o (P d) (λ z. d ≡ z) in
    subst Q (sym f) h

pub call_meets : (ds : List Data) (P : Data → Type 0) (r : Result Value Memory) → find is_fault ds ≡ None → IfOk r (λ v. P (view v)) → IfOk r (λ v. IsFirstErrorOr ds P (view v))
call_meets ds P (Ok v) f h = none_meets ds P (view v) f h
call_meets ds P (Err m) f h = tt
