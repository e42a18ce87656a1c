-- A code of the typed trees, by which proofs tell them apart.
use Rattle.std.specs.Prelude.{◌≡◌, refl, ℕ, zero, suc, List, ◌⊎◌}
use Rattle.std.proofs.Common.{ap, inl, inr, subst, sym}
use Rattle.std.specs.Coded.{Coded, code_by, coded_list, coded×, coded⊎, coded_ℕ}
use base.Stored.{Gv, gnil, gcons}
use Rattle.fx_types.specs.Types.{Shape}
use Rattle.fx_types.specs.TypeCode.{shape_code}
use Rattle.fx_types.specs.Values.{Data}
use Rattle.fx_types.specs.ValueCode.{data_code}
use Rattle.fx_core.specs.declared.deeds.Deed.{Deed}
use Rattle.fx_core.specs.declared.functions.Form.{Form}
use Rattle.fx_core.specs.declared.functions.Fun.{Fun}
use Rattle.fx_core.specs.declared.sources.Source.{Source}
use Rattle.fx_core.specs.contracts.deeds.Deed.{the_row as deed_row}
use Rattle.fx_core.specs.contracts.functions.Form.{the_row as form_row}
use Rattle.fx_core.specs.contracts.functions.Fun.{the_row as fun_row}
use Rattle.fx_core.specs.contracts.sources.Source.{the_row as source_row}
use Rattle.fx_core.specs.Term.{Term, Terms, Top, of, nil, cons, const, read, row, item, caught, dot}
use Rattle.fx_core.specs.Term.{call, over, user, form, within, rec, list, coerce, chain, act}

-- what a head holds: one of twelve kinds, or nothing for the four heads that hold nothing
abbrev Held : Type 0
Held = Data ⊎ (Source ⊎ (ℕ ⊎ (List ℕ ⊎ (Fun ⊎ (Fun
    ⊎ (Form ⊎ (List (List ℕ) ⊎ (Shape ⊎ (Shape ⊎ (Deed ⊎ (ℕ ⊎ ℕ)))))))))))

abbrev held_code : Coded Held
held_code =
    coded⊎ data_code (coded⊎ source_row.coded
    (coded⊎ coded_ℕ (coded⊎ (coded_list coded_ℕ) (coded⊎ fun_row.coded (coded⊎ fun_row.coded
    (coded⊎ form_row.coded (coded⊎ (coded_list (coded_list coded_ℕ))
    (coded⊎ shape_code (coded⊎ shape_code (coded⊎ deed_row.coded (coded⊎ coded_ℕ coded_ℕ)))))))))))

abbrev held : Top → Held
held (const d) = inl d
held (read s) = inr (inl s)
held (row k) = inr (inr (inl k))
held (dot x) = inr (inr (inr (inl x)))
held (call f) = inr (inr (inr (inr (inl f))))
held (over f) = inr (inr (inr (inr (inr (inl f)))))
held (form f) = inr (inr (inr (inr (inr (inr (inl f))))))
held (rec xs) = inr (inr (inr (inr (inr (inr (inr (inl xs)))))))
held (list t) = inr (inr (inr (inr (inr (inr (inr (inr (inl t))))))))
held (coerce t) = inr (inr (inr (inr (inr (inr (inr (inr (inr (inl t)))))))))
held (act d) = inr (inr (inr (inr (inr (inr (inr (inr (inr (inr (inl d))))))))))
held (user f) = inr (inr (inr (inr (inr (inr (inr (inr (inr (inr (inr (inl f)))))))))))
held item = inr (inr (inr (inr (inr (inr (inr (inr (inr (inr (inr (inr 0)))))))))))
held caught = inr (inr (inr (inr (inr (inr (inr (inr (inr (inr (inr (inr 1)))))))))))
held within = inr (inr (inr (inr (inr (inr (inr (inr (inr (inr (inr (inr 2)))))))))))
held chain = inr (inr (inr (inr (inr (inr (inr (inr (inr (inr (inr (inr 3)))))))))))

abbrev plain : ℕ → Top
plain zero = item
plain (suc zero) = caught
plain (suc (suc zero)) = within
plain (suc (suc (suc n))) = chain

abbrev holds : Held → Top
holds (inl d) = const d
holds (inr (inl s)) = read s
holds (inr (inr (inl k))) = row k
holds (inr (inr (inr (inl x)))) = dot x
holds (inr (inr (inr (inr (inl f))))) = call f
holds (inr (inr (inr (inr (inr (inl f)))))) = over f
holds (inr (inr (inr (inr (inr (inr (inl f))))))) = form f
holds (inr (inr (inr (inr (inr (inr (inr (inl xs)))))))) = rec xs
holds (inr (inr (inr (inr (inr (inr (inr (inr (inl t))))))))) = list t
holds (inr (inr (inr (inr (inr (inr (inr (inr (inr (inl t)))))))))) = coerce t
holds (inr (inr (inr (inr (inr (inr (inr (inr (inr (inr (inl d))))))))))) = act d
holds (inr (inr (inr (inr (inr (inr (inr (inr (inr (inr (inr (inl f)))))))))))) = user f
holds (inr (inr (inr (inr (inr (inr (inr (inr (inr (inr (inr (inr n)))))))))))) = plain n

pub held_back : (h : Top) → holds (held h) ≡ h
held_back (const d) = refl
held_back (read s) = refl
held_back (row k) = refl
held_back (dot x) = refl
held_back (call f) = refl
held_back (over f) = refl
held_back (user f) = refl
held_back (form f) = refl
held_back (rec xs) = refl
held_back (list t) = refl
held_back (coerce t) = refl
held_back (act d) = refl
held_back item = refl
held_back caught = refl
held_back within = refl
held_back chain = refl

abbrev pub top_code : Coded Top
top_code = code_by Held held_code held holds held_back

abbrev mutual
  of_term : Term → Gv
  of_term (of h ts) = gcons (top_code.code h) (of_terms ts)

  of_terms : Terms → Gv
  of_terms nil = gnil
  of_terms (cons t ts) = gcons (of_term t) (of_terms ts)

abbrev pub front : Gv → Gv
front (gcons a b) = a
front g = gnil

abbrev pub back : Gv → Gv
back (gcons a b) = b
back g = gnil

abbrev IsPair : Gv → Type 0
IsPair (gcons a b) = Unit {0}
IsPair g = ⊥

mutual
  pub term_same : (s t : Term) → of_term s ≡ of_term t → s ≡ t
  term_same (of h ts) (of k us) p = λ i. of (top_code.inj h k (ap front p) i)
      (terms_same ts us (ap back p) i)

  pub terms_same : (ts us : Terms) → of_terms ts ≡ of_terms us → ts ≡ us
  terms_same nil nil p = refl
  terms_same (cons t ts) (cons u us) p = λ i. cons (term_same t u (ap front p) i)
      (terms_same ts us (ap back p) i)
  terms_same nil (cons u us) p = absurd (subst IsPair (sym p) tt)
  terms_same (cons t ts) nil p = absurd (subst IsPair p tt)

abbrev pub term_code : Coded Term
term_code = record { code = of_term; inj = term_same }

abbrev pub terms_code : Coded (List Term)
terms_code = coded_list term_code

abbrev pub term_fields_code : Coded (List (List ℕ × Term))
term_fields_code = coded_list (coded× (coded_list coded_ℕ) term_code)
