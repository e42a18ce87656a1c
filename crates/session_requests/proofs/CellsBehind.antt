-- The cells behind sources, one after another.
use Rattle.std.proofs.Common.{◌≡◌, ℕ, ◌+◌, ◌<◌, List, ◌++◌, true, Option, Some, None, inl, inr, sym, subst, ◌∙◌, arith}
use Rattle.std.specs.Prelude.{IfSome}
use Rattle.std.specs.List.{Contains, slice_get}
use Rattle.std.specs.Option.{option_to_list}
use Rattle.std.proofs.lemmas.Bool.{cases_eq}
use Rattle.std.proofs.lemmas.List.Elements.{Contains-append_left, Contains-push, Contains-push_cases}
use Rattle.std.proofs.lemmas.List.{append-nil}
use Rattle.fx_core.specs.declared.sources.Source.{Source}
use Rattle.recalc.specs.app_cells.Leaning.{cell_behind}
use Rattle.recalc.specs.app_cells.declared.app.App.{App}
use Rattle.recalc.specs.app_semantics.Needed.{is_alone}

-- what is behind the first sources is among these cells
abbrev pub HasBehind : App → List Source → ℕ → List ℕ → Type 0
HasBehind a reads i cells = (j d : ℕ) (s : Source) → j < i → slice_get reads j ≡ Some s → cell_behind a.names s ≡ Some d → is_alone a.cells d ≡ true → Contains cells d

-- each of these has a value by itself
abbrev pub AreAlone : App → List ℕ → Type 0
AreAlone a cells = (k : ℕ) → Contains cells k → is_alone a.cells k ≡ true

pub behind_more : (a : App) (reads : List Source) (i : ℕ) (cells : List ℕ) (s : Source) (o : Option ℕ) → slice_get reads i ≡ Some s → ((d : ℕ) → cell_behind a.names s ≡ Some d → is_alone a.cells d ≡ true → o ≡ Some d) →
    HasBehind a reads i cells → HasBehind a reads (i + 1) (cells ++ option_to_list o)
behind_more a reads i cells s o here found had j d x low there behind alone = elim (cases_eq j i) [
  | inl last ↦
      let same : s ≡ x = some_one s x (sym here ∙ subst (λ (n : ℕ). slice_get reads n ≡ Some x) last there) in
      subst (λ (z : Option ℕ). Contains (cells ++ option_to_list z) d) (sym (found d (subst (λ (z : Source). cell_behind a.names z ≡ Some d) (sym same) behind) alone)) (Contains-push cells d)
  | inr other ↦ Contains-append_left cells (option_to_list o) d (had j d x (omega (arith, low, other)) there behind alone)
]
  where
    some_one : (y z : Source) → Some y ≡ Some z → y ≡ z
    some_one y z e = cc

pub alone_more : (a : App) (cells : List ℕ) (o : Option ℕ) → IfSome o (λ d. is_alone a.cells d ≡ true) → AreAlone a cells → AreAlone a (cells ++ option_to_list o)
alone_more a cells None h had k among = had k (subst (λ (xs : List ℕ). Contains xs k) (append-nil cells) among)
alone_more a cells (Some d) h had k among = elim (Contains-push_cases cells d k among) [
  | inl old ↦ had k old
  | inr same ↦ subst (λ (n : ℕ). is_alone a.cells n ≡ true) same h
]
