-- Formulas have one typed tree under names, one list of what they read, and one of what they stand on.
use Rattle.std.proofs.Common.{inl, inr, ◌≡◌, ℕ, List, [], ◌∷◌, false, map, Result, Ok, Err, option_map, refl, ap, sym, subst, ◌∙◌}
use Rattle.fx_types.specs.TypeView.{shape}
use Rattle.fx_types.specs.Types.{Shape}
use Rattle.fx_infer.proofs.Only.{ty_one}
use Rattle.fx_core.specs.Reads.{IsAmong, sources_in}
use Rattle.fx_core.specs.Term.{Term}
use Rattle.fx_core.specs.declared.broken.Broken.{Broken}
use Rattle.fx_core.specs.declared.names.Names.{Names}
use Rattle.app_cells.specs.declared.app.CellInfo.{CellInfo}
use Rattle.app_cells.specs.declared.cell.Cell.{Cell}
use Rattle.app_loader.specs.Admitted.{AreRefused}
use Rattle.app_loader.specs.Cells.{judged_cell}
use Rattle.app_loader.specs.Infos.{AreElaborated, IsElaborated}
use Rattle.app_loader.specs.Supports.{without_support}
use Rattle.fx_plan.specs.Sites.{sites_of}
use Rattle.fx_core.specs.declared.schema.TableShape.{TableShape}
use Rattle.fx_plan.specs.Limited.{limited}
use Rattle.app_loader.proofs.JudgedAlike.{judged_alike}
use Rattle.app_loader.proofs.Rounds.{AreAlike, functions_at}
use Rattle.app_loader.proofs.SourceOrder.{sources_one}
use Rattle.fx_core.specs.Rules as rules

-- ---- where the table of functions stands doesn't matter
module _ (m k : Names) (e : k ≡ functions_at m k.signatures) (alike : AreAlike k.signatures m.signatures) where
  pub judged_at : (c : Cell) → judged_cell k c ≡ judged_cell m c
  judged_at c = ap (λ (z : Names). judged_cell z c) e ∙ judged_alike m k.signatures m.signatures alike c.screen c.item c.acts (option_map shape c.wanted) c.expr

  same_pair : (x y : Term × Shape) (r : Result (Term × Shape) (ℕ × ℕ)) → r ≡ Ok x → r ≡ Ok y → x ≡ y
  same_pair x y r p q = let both : ◌≡◌ {A = Result (Term × Shape) (ℕ × ℕ)} (Ok x) (Ok y) = sym p ∙ q in cc

  same_tables : k.schema.tables ≡ m.schema.tables
  same_tables = ap (λ (z : Names). z.schema.tables) e

  info_one : (most : ℕ) (c : Cell) (i j : CellInfo) → IsElaborated m most c i → IsElaborated k most c j → without_support i ≡ without_support j
  info_one most c i j x y =
      let tree : ◌≡◌ {A = Term × Shape} (i.core, shape i.ty) (j.core, shape j.ty) = same_pair (i.core, shape i.ty) (j.core, shape j.ty) (judged_cell m c) x.tree (sym (judged_at c) ∙ y.tree) in
      let cells : i.cell ≡ j.cell = x.cell ∙ sym y.cell in
      let trees : i.core ≡ j.core = ap (λ (z : Term × Shape). z.0) tree in
      let types : i.ty ≡ j.ty = ty_one i.ty j.ty (ap (λ (z : Term × Shape). z.1) tree) in
      let reads : i.reads ≡ j.reads =
      sources_one i.reads j.reads x.once y.once
      (λ s a. (y.reads s).1 (subst (λ (t : Term). IsAmong s (sources_in t)) trees ((x.reads s).0 a)))
      (λ s a. (x.reads s).1 (subst (λ (t : Term). IsAmong s (sources_in t)) (sym trees) ((y.reads s).0 a))) in
      let taken : i.taken ≡ j.taken =
      x.taken ∙ ap (limited m.schema.tables most 0 false) trees ∙ ap (λ (ts : List TableShape). limited ts most 0 false j.core) (sym same_tables) ∙ sym y.taken in
      let sites : i.sites ≡ j.sites = x.sites ∙ ap (sites_of m.schema.tables) trees ∙ ap (λ (ts : List TableShape). sites_of ts j.core) (sym same_tables) ∙ sym y.sites in
      λ z. record { cell = cells z; core = trees z; ty = types z; reads = reads z; support = []; taken = taken z; sites = sites z }

  pub infos_one : (most : ℕ) (cs : List Cell) (is js : List CellInfo) → AreElaborated m most cs is → AreElaborated k most cs js → map without_support is ≡ map without_support js
  infos_one most [] [] [] x y = refl
  infos_one most [] [] (j ∷ js) x y = absurd y
  infos_one most [] (i ∷ is) js x y = absurd x
  infos_one most (c ∷ cs) [] js x y = absurd x
  infos_one most (c ∷ cs) (i ∷ is) [] x y = absurd y
  infos_one most (c ∷ cs) (i ∷ is) (j ∷ js) x y =
      let first : without_support i ≡ without_support j = info_one most c i j x.0 y.0 in
      let others : map without_support is ≡ map without_support js = infos_one most cs is js x.1 y.1 in
      λ z. first z ∷ others z

  not_admitted : (x : Term × Shape) (w : ℕ × ℕ) (r : Result (Term × Shape) (ℕ × ℕ)) → r ≡ Ok x → r ≡ Err w → ⊥
  not_admitted x w r p q = let both : ◌≡◌ {A = Result (Term × Shape) (ℕ × ℕ)} (Ok x) (Err w) = sym p ∙ q in cc

  -- of formulas that have trees none is refused
  pub none_refused : (most : ℕ) (cs : List Cell) (is : List CellInfo) (bs : List Broken) → AreElaborated m most cs is → AreRefused k cs bs → bs ≡ []
  none_refused most [] is bs x h = h
  none_refused most (c ∷ cs) [] bs x h = absurd x
  none_refused most (c ∷ cs) (i ∷ is) bs x (inl h) = none_refused most cs is bs x.1 h.1
  none_refused most (c ∷ cs) (i ∷ is) bs x (inr h) =
      absurd (not_admitted (i.core, shape i.ty) (h.3.1, rules.rule_number h.3.0) (judged_cell k c) (judged_at c ∙ x.0.tree) h.3.3)
