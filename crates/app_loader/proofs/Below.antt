-- The numbers of cells on which formulas lean.
use Rattle.std.proofs.Common.{inl, inr, ◌⊎◌, ◌≡◌, ℕ, ◌+◌, ◌<◌, ◌≤◌, zero, suc, ◌++◌, List, [], ◌∷◌, Bool, true, false, nat_eq, All, length, Option, Some, None, option_map, refl, subst, if◌then◌else◌, slice_get, arith}
use Rattle.std.proofs.lemmas.Bool.{eqb-true}
use Rattle.std.proofs.lemmas.List.Elements.{All-nil, All-cons, All-head, All-tail, All-append}
use Rattle.std.specs.Prelude.{option_and_then}
use Rattle.std.specs.List.{find}
use Rattle.fx_types.specs.TypeView.{shape}
use Rattle.fx_types.specs.Types.{Shape}
use Rattle.depend_graph.specs.Order.{AreBelow}
use Rattle.fx_core.specs.Lawful.{IsLawful}
use Rattle.fx_core.specs.Reads.{IsAmong, read_by, sources_among, sources_in}
use Rattle.fx_core.specs.SourceTypes.{formula_cell, property_cell, property_of, sources}
use Rattle.fx_core.specs.Term.{Term, Terms, of, nil, cons, Top, read}
use Rattle.fx_core.specs.declared.names.ControlName.{ControlName}
use Rattle.fx_core.specs.declared.names.FormulaName.{FormulaName}
use Rattle.fx_core.specs.declared.names.Names.{Names}
use Rattle.fx_core.specs.declared.names.Property.{Property}
use Rattle.fx_core.specs.declared.sources.Source.{Source}
use Rattle.fx_core.specs.declared.sources.Source.TheVariants as source
use Rattle.fx_typing.specs.Laws.{AdmittedIsTyped}
use Rattle.fx_typing.specs.Rounds.{AfterRounds, AllSame, AreFinalTypes, SameFormula, SameNames}
use Rattle.fx_typing.specs.Rounds as rounds
use Rattle.fx_typing.specs.Typing.{context_of, outermost_setting}
use Rattle.fx_typing.specs.WellTyped.{AreTyped, Context, IsRuled, IsTyped, PartScope, bound, catching, context_for, inside, parts_count, plain, standing_at}
use Rattle.app_cells.specs.declared.app.CellInfo.{CellInfo}
use Rattle.app_cells.specs.declared.cell.Cell.{Cell}
use Rattle.app_cells.specs.Leaning.{cell_behind, cell_of_property, default_name, edge_to, edges_by, edges_from, edges_of, is_property}
use Rattle.app_loader.proofs.BreakLists.{same_length}
use Rattle.app_loader.specs.Cells.{AreCellsBelow, cell_place}
use Rattle.app_loader.specs.Infos.{AreElaborated, IsElaborated}

either : {A B C : Type 0} → A ⊎ B → (A → C) → (B → C) → C
either (inl a) f g = f a
either (inr b) f g = g b

-- ---- what a typed tree reads has a type
among_either : (s : Source) (xs ys : List Source) → IsAmong s (xs ++ ys) → IsAmong s xs ⊎ IsAmong s ys
among_either s [] ys a = inr a
among_either s (x ∷ xs) ys (inl e) = inl (inl e)
among_either s (x ∷ xs) ys (inr a) = either (among_either s xs ys a) (λ b. inl (inr b)) (λ b. inr b)

abbrev HasType : Context → Source → Type 0
HasType c r = (u : Shape) × (c.sources r ≡ Some u)

head_reads : (c : Context) (h : Top) (ts : Terms) (us : List Shape) (t : Shape) → IsRuled c h ts us t → (r : Source) → IsAmong r (read_by h) → HasType c r
head_reads c (read s) ts us t w r (inl e) = (t, subst (λ z. c.sources z ≡ Some t) e w)
head_reads c (read s) ts us t w r (inr a) = absurd a
head_reads c h ts us t w r a = absurd a

same_sources : (st : PartScope) (c : Context) (ts : List Shape) (r : Source) → HasType (context_for st c ts) r → HasType c r
same_sources inside c [] r h = h
same_sources inside c (t ∷ ts) r h = h
same_sources bound c [] r h = h
same_sources bound c (t ∷ ts) r h = h
same_sources catching c ts r h = h
same_sources plain c ts r h = h

mutual
  reads_typed : (c : Context) (t : Term) (s : Shape) → IsTyped c t s → (r : Source) → IsAmong r (sources_in t) → HasType c r
  reads_typed c (of h ts) s w r a =
      either (among_either r (read_by h) (sources_among ts) a) (λ x. head_reads c h ts w.0 s w.2 r x) (λ y. among_typed c h (parts_count ts) [] ts w.0 w.1 r y)

  among_typed : (c : Context) (h : Top) (n : ℕ) (done : List Shape) (ts : Terms) (us : List Shape) → AreTyped c h n done ts us → (r : Source) → IsAmong r (sources_among ts) → HasType c r
  among_typed c h n done nil us w r a = absurd a
  among_typed c h n done (cons k ks) us w r a =
      either (among_either r (sources_in k) (sources_among ks) a)
      (λ x. same_sources (standing_at h n (length done)) c done r (reads_typed (context_for (standing_at h n (length done)) c done) k w.0 w.3 r x))
      (λ y. among_typed c h n (done ++ w.0 ∷ []) ks w.1 w.4 r y)

-- ---- the numbers of cells in names
module _ (n : Names) (count : ℕ) (known : AreCellsBelow count n) where
  abbrev IsFormulaBelow : FormulaName → Type 0
  IsFormulaBelow f = f.cell < count

  abbrev IsPropertyBelow : Property → Type 0
  IsPropertyBelow p = p.cell < count

  property_there : (k : ℕ) (t : Shape) (ps : List Property) → All IsPropertyBelow ps → property_cell n.controls k ps ≡ Some t → k < count
  property_there k t [] h e = absurd cc
  property_there k t (p ∷ ps) h e = by (nat_eq p.cell k) refl (λ r. property_there k t ps (All-tail IsPropertyBelow p ps h) r) e
    where
      by : (b : Bool) → nat_eq p.cell k ≡ b → (property_cell n.controls k ps ≡ Some t → k < count) →
          (if b then option_and_then (property_of p.name) (slice_get n.controls p.control) else property_cell n.controls k ps) ≡ Some t → k < count
      by true q go r = let same : p.cell ≡ k = eqb-true p.cell k q in subst (λ z. z < count) same (All-head IsPropertyBelow p ps h)
      by false q go r = go r

  formula_there : (k : ℕ) (t : Shape) (fs : List FormulaName) → All IsFormulaBelow fs → formula_cell n k fs ≡ Some t → k < count
  formula_there k t [] h e = property_there k t n.properties known.properties e
  formula_there k t (f ∷ fs) h e = by (nat_eq f.cell k) refl (λ r. formula_there k t fs (All-tail IsFormulaBelow f fs h) r) e
    where
      by : (b : Bool) → nat_eq f.cell k ≡ b → (formula_cell n k fs ≡ Some t → k < count) → (if b then Some (shape f.ty) else formula_cell n k fs) ≡ Some t → k < count
      by true q go r = let same : f.cell ≡ k = eqb-true f.cell k q in subst (λ z. z < count) same (All-head IsFormulaBelow f fs h)
      by false q go r = go r

  found_below : (p : Property → Bool) (ps : List Property) (d : ℕ) → All IsPropertyBelow ps → option_map (λ (q : Property). q.cell) (find p ps) ≡ Some d → d < count
  found_below p [] d h e = absurd cc
  found_below p (q ∷ ps) d h e = by (p q) (λ r. found_below p ps d (All-tail IsPropertyBelow q ps h) r) e
    where
      by : (b : Bool) → (option_map (λ (z : Property). z.cell) (find p ps) ≡ Some d → d < count) → option_map (λ (z : Property). z.cell) (if b then Some q else find p ps) ≡ Some d → d < count
      by true go r = let same : q.cell ≡ d = cc in subst (λ z. z < count) same (All-head IsPropertyBelow q ps h)
      by false go r = go r

  property_below : (k : ℕ) (name : List ℕ) (d : ℕ) → cell_of_property n k name ≡ Some d → d < count
  property_below k name d e = found_below (is_property k name) n.properties d known.properties e

  named_below : (k : ℕ) (o : Option (List ℕ)) (d : ℕ) → option_and_then (cell_of_property n k) o ≡ Some d → d < count
  named_below k None d e = absurd cc
  named_below k (Some name) d e = property_below k name d e

  default_below : (k : ℕ) (o : Option ControlName) (d : ℕ) → option_and_then (λ (c : ControlName). option_and_then (cell_of_property n k) (default_name c.kind)) o ≡ Some d → d < count
  default_below k None d e = absurd cc
  default_below k (Some c) d e = named_below k (default_name c.kind) d e

  behind_below : (s : Source) (u : Shape) → sources n s ≡ Some u → (d : ℕ) → cell_behind n s ≡ Some d → d < count
  behind_below (source.Cell k) u h d e = let same : k ≡ d = cc in subst (λ z. z < count) same (formula_there k u n.formulas known.formulas h)
  behind_below (source.Input k) u h d e = default_below k (slice_get n.controls k) d e
  behind_below (source.Chosen k) u h d e = property_below k _ d e
  behind_below (source.Global k) u h d e = absurd cc
  behind_below (source.Context k) u h d e = absurd cc
  behind_below (source.Gathered k) u h d e = absurd cc
  behind_below (source.Table k) u h d e = absurd cc
  behind_below source.Today u h d e = absurd cc

  -- ---- edges
  abbrev ReadsBelow : List Source → Type 0
  ReadsBelow ss = (s : Source) → IsAmong s ss → (d : ℕ) → cell_behind n s ≡ Some d → d < count

  abbrev IsEdgeBelow : ℕ × ℕ → Type 0
  IsEdgeBelow e = (e.0 < count) × (e.1 < count)

  edge_below : (k : ℕ) (o : Option ℕ) → k < count → ((d : ℕ) → o ≡ Some d → d < count) → AreBelow count (edge_to k o)
  edge_below k None l h = All-nil IsEdgeBelow
  edge_below k (Some d) l h = All-cons IsEdgeBelow (k, d) [] (l, h d refl) (All-nil IsEdgeBelow)

  by_below : (k : ℕ) → k < count → (ss : List Source) → ReadsBelow ss → AreBelow count (edges_by n k ss)
  by_below k l [] h = All-nil IsEdgeBelow
  by_below k l (s ∷ ss) h =
      All-append IsEdgeBelow (edge_to k (cell_behind n s)) (edges_by n k ss) (edge_below k (cell_behind n s) l (λ d e. h s (inl refl) d e)) (by_below k l ss (λ r a d e. h r (inr a) d e))

  from_below : (most k : ℕ) (cs : List Cell) (is : List CellInfo) → AreElaborated n most cs is → ((c : Cell) (i : CellInfo) → IsElaborated n most c i → ReadsBelow i.reads) → k + length is ≤ count → AreBelow count (edges_from n k is)
  from_below most k [] [] h r l = All-nil IsEdgeBelow
  from_below most k [] (i ∷ is) h r l = absurd h
  from_below most k (c ∷ cs) [] h r l = absurd h
  from_below most k (c ∷ cs) (i ∷ is) h r l =
      All-append IsEdgeBelow (edges_by n k i.reads) (edges_from n (suc k) is) (by_below k (omega arith) i.reads (r c i h.0)) (from_below most (suc k) cs is h.1 r (omega arith))

  one_sources : (c : Cell) (b : Bool) (r : Source) → HasType (context_of (cell_place n c) (outermost_setting b)) r → (u : Shape) × (sources n r ≡ Some u)
  one_sources c true r h = h
  one_sources c false r h = h

  reads_below : AdmittedIsTyped → IsLawful n → (most : ℕ) (c : Cell) (i : CellInfo) → IsElaborated n most c i → ReadsBelow i.reads
  reads_below law l most c i h s a d e =
      let w = law (cell_place n c) c.acts (option_map shape c.wanted) c.expr (i.core, shape i.ty) l h.tree in
      let t = one_sources c c.acts s (reads_typed (context_of (cell_place n c) (outermost_setting c.acts)) i.core (shape i.ty) w s ((h.reads s).0 a)) in
      behind_below s t.0 t.1 d e

-- THE edges of typed formulas are between formulas
pub edges_below : AdmittedIsTyped → (n : Names) (most : ℕ) (cs : List Cell) (is : List CellInfo) → IsLawful n → AreCellsBelow (length cs) n → AreElaborated n most cs is → AreBelow (length is) (edges_of n is)
edges_below law n most cs is l known h =
    let e : length cs ≡ length is = same_length (IsElaborated n most) cs is h in
    let here : AreCellsBelow (length is) n = subst (λ k. AreCellsBelow k n) e known in
    from_below n (length is) here most 0 cs is h (reads_below n (length is) here law l most) (omega arith)

-- ---- rounds keep numbers
same_numbered : (count : ℕ) (fs gs : List FormulaName) → AllSame SameFormula fs gs → All (λ (f : FormulaName). f.cell < count) fs → All (λ (f : FormulaName). f.cell < count) gs
same_numbered count [] [] s h = h
same_numbered count [] (g ∷ gs) s h = absurd s
same_numbered count (f ∷ fs) [] s h = absurd s
same_numbered count (f ∷ fs) (g ∷ gs) s h =
    let P : FormulaName → Type 0 = λ (z : FormulaName). z.cell < count in
    All-cons P g gs (subst (λ z. z < count) s.0.1 (All-head P f fs h)) (same_numbered count fs gs s.1 (All-tail P f fs h))

after_same : (cs : List rounds.Cell) (n : Names) (k : ℕ) (m : Names) → AfterRounds cs n k m → SameNames n m
after_same cs n zero m a = a.0
after_same cs n (suc k) m a = a.0

pub final_same : (cs : List rounds.Cell) (n m : Names) → AreFinalTypes cs n m → SameNames n m
final_same cs n m f = after_same cs n f.0 m f.2

pub still_numbered : (count : ℕ) (cs : List rounds.Cell) (n m : Names) → AreFinalTypes cs n m → AreCellsBelow count n → AreCellsBelow count m
still_numbered count cs n m f h =
    let s = final_same cs n m f in
    record {
      formulas = same_numbered count n.formulas m.formulas s.formulas h.formulas;
      properties = subst (All (λ (p : Property). p.cell < count)) s.properties h.properties;
    }
