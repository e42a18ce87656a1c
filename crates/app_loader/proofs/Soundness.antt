-- An accepted app is sound.
use Rattle.std.proofs.Common.{◌≡◌, ℕ, zero, suc, ◌+◌, if◌then◌else◌, List, [], ◌∷◌, Bool, true, false, map, Option, Some, None, option_map, Result, Ok, Err, encode_utf8_all, refl, ap, sym, subst, ◌∙◌, slice_get, arith}
use Rattle.fx_types.specs.TypeView.{shape}
use Rattle.fx_types.specs.Types.{Shape, tables, no_columns}
use Rattle.fx_core.specs.Lawful.{IsLawful}
use Rattle.fx_core.specs.Controls.{is_behaviour, is_items, property_type}
use Rattle.fx_core.specs.SourceTypes.{item_columns, property_of}
use Rattle.fx_core.specs.declared.broken.Broken.{Broken}
use Rattle.fx_core.specs.declared.names.ControlName.{ControlName}
use Rattle.fx_core.specs.declared.names.FormulaName.{FormulaName}
use Rattle.fx_core.specs.declared.names.Names.{Names}
use Rattle.fx_core.specs.declared.names.Property.{Property}
use Rattle.fx_semantics.specs.Laws.{AdmittedIsPlaced}
use Rattle.fx_semantics.specs.NamedTypes.{HasLawfulTypes}
use Rattle.fx_typing.specs.Laws.{AdmittedIsTyped, AdmittedIsWanted, IsWanted, PureIsQuiet}
use Rattle.fx_typing.specs.Rounds as rounds
use Rattle.fx_typing.specs.Rounds.{AllSame, SameControl, SameNames, type_or_blank}
use Rattle.fx_typing.specs.Typing.{function_types, judge_whole}
use Rattle.fx_typing.specs.WellTyped.{IsTyped}
use Rattle.fx_core.specs.Tree.{Tree}
use Rattle.fx_core.specs.Term.{Term}
use Rattle.fx_plan.specs.Limited.{limited}
use Rattle.app_cells.specs.declared.app.App.{App}
use Rattle.app_cells.specs.declared.app.CellInfo.{CellInfo}
use Rattle.app_cells.specs.declared.cell.Cell.{Cell}
use Rattle.app_cells.specs.declared.cell.Spot.TheVariants as spot
use Rattle.app_cells.specs.declared.frame.Frame.{Frame}
use Rattle.app_cells.specs.Spots.{IsPlaced, can_act, acts_in, item_in, gallery_seen, wanted_shape, wanted_by, wanted_in}
use Rattle.app_names.specs.AppNames.{properties_from}
use Rattle.app_semantics.specs.Sound.{IsCellOf, IsSoundApp, IsSoundCell, context_at, frame_in}
use Rattle.app_loader.specs.Cells.{round_cell, judged_cell, cell_place}
use Rattle.app_loader.specs.Infos.{IsElaborated}
use Rattle.app_loader.specs.JudgedFormulas.{IsAppOf, JudgedCells, app, cyclic, refused, unsettling}
use Rattle.app_loader.specs.Types.{HaveLawfulTrees}
use Rattle.app_loader.proofs.Below.{final_same}
use Rattle.app_loader.specs.Accepted.{AcceptedIsSound, IsAcceptedApp}
use Rattle.app_loader.proofs.Contexts.{all_at, context_lawful_at}
use Rattle.app_loader.proofs.Cells.{IsCellAt, control_before, formula_at, formula_before, items_at, items_found, items_own, is_gallery_items, map_at, map_get, property_at, property_calm, property_ok, pure_item, zip_left, zip_right}
use Rattle.app_loader.proofs.Pure.{tree_lawful}
use Rattle.app_loader.proofs.Stands.{stands_too}

-- what formulas are that are judged as an app
abbrev pub IfApp : Names → ℕ → List Cell → Result App (List Broken) → Type 0
IfApp n most cells (Ok a) = IsAppOf n most cells a
IfApp n most cells (Err bs) = Unit {0}

pub app_parts : {n : Names} {most : ℕ} {cells : List Cell} {v : Result App (List Broken)} → JudgedCells n most cells v → IfApp n most cells v
app_parts (app n most cells a h) = h
app_parts (unsettling n most cells s) = tt
app_parts (refused n most cells m b bs f r) = tt
app_parts (cyclic n most cells m is b s k) = tt

types_at : (is : List CellInfo) (k : ℕ) (i : CellInfo) → HaveLawfulTrees is → slice_get is k ≡ Some i → HasLawfulTypes i.core
types_at [] k i h e = absurd cc
types_at (j ∷ is) zero i h e = let same : j ≡ i = cc in subst (λ (z : CellInfo). HasLawfulTypes z.core) same h.0
types_at (j ∷ is) (suc k) i h e = types_at is k i h.1 e

-- where a formula may act or not, it stands in the same context, and no app has functions of its own yet
typed_there : AdmittedIsTyped → (n : Names) (c : Cell) (b : Bool) (wanted : Option Shape) (e : Tree) (x : Term × Shape) → n.functions ≡ [] → IsLawful n → judge_whole (cell_place n c) b wanted e ≡ Ok x → IsTyped (context_at n c.item) x.0 x.1
typed_there typed n c true wanted e x none law h =
    subst (λ fs. IsTyped (record (context_at n c.item) { functions = map function_types fs }) x.0 x.1) none (typed (cell_place n c) true wanted e x law h)
typed_there typed n c false wanted e x none law h =
    subst (λ fs. IsTyped (record (context_at n c.item) { functions = map function_types fs }) x.0 x.1) none (typed (cell_place n c) false wanted e x law h)

module _ (typed : AdmittedIsTyped) (fits : AdmittedIsWanted) (quiet : PureIsQuiet) (placed : AdmittedIsPlaced) (f : Frame) (cells : List Cell) (most : ℕ) (a : App) (h : IsAcceptedApp f cells most a) where
  parts : IsAppOf h.first most cells a
  parts = app_parts h.judged

  same : SameNames h.first a.names
  same = final_same (map round_cell cells) h.first a.names parts.settled.final

  -- ---- each formula
  own_tree : (c : Cell) (i : CellInfo) → IsElaborated a.names most c i → judged_cell a.names i.cell ≡ Ok (i.core, shape i.ty)
  own_tree c i e = subst (λ (z : Cell). judged_cell a.names z ≡ Ok (i.core, shape i.ty)) (sym e.cell) e.tree

  pure_tree : (i : CellInfo) → i.cell.acts ≡ false → judged_cell a.names i.cell ≡ Ok (i.core, shape i.ty) → judge_whole (cell_place a.names i.cell) false (option_map shape i.cell.wanted) i.cell.expr ≡ Ok (i.core, shape i.ty)
  pure_tree i q e = subst (λ b. judge_whole (cell_place a.names i.cell) b (option_map shape i.cell.wanted) i.cell.expr ≡ Ok (i.core, shape i.ty)) q e

  sound_cell : (k : ℕ) (c : CellInfo) → slice_get a.cells k ≡ Some c → IsSoundCell a.names c
  sound_cell k c e =
      let w = zip_left (IsElaborated a.names most) cells a.cells k c parts.settled.elaborated e in
      let t = own_tree w.0 c w.2 in
      let context = context_lawful_at a.names h.lawful h.types c.cell.item in
      let types = types_at a.cells k c h.trees e in
      record {
        typed = typed_there typed a.names c.cell c.cell.acts (option_map shape c.cell.wanted) c.cell.expr (c.core, shape c.ty) (sym same.functions ∙ h.named.functions) h.lawful t;
        calm = λ no.
            let q = quiet (cell_place a.names c.cell) (option_map shape c.cell.wanted) c.cell.expr (c.core, shape c.ty) (pure_tree c no t) in
            record { context = context; lawful = tree_lawful c.core types q; quiet = q };
        acting = λ yes. record {
          context = context;
          lawful = types;
          placed = placed (cell_place a.names c.cell) c.cell.acts (option_map shape c.cell.wanted) c.cell.expr (c.core, shape c.ty) t;
        };
        reads = w.2.reads;
      }

  -- ---- the cells of names
  settled : rounds.next_types (map round_cell cells) a.names ≡ rounds.types_in a.names
  settled = parts.settled.final.3

  placed_at : (k : ℕ) (c : Cell) → slice_get cells k ≡ Some c → IsPlaced f c
  placed_at k c e = all_at (IsPlaced f) cells k c h.placed e

  screens_same : f.screens ≡ a.names.screens
  screens_same = sym h.named.screens ∙ same.screens

  controls_same : AllSame SameControl f.controls a.names.controls
  controls_same = subst (λ (cs : List ControlName). AllSame SameControl cs a.names.controls) h.named.controls same.controls

  stands : (k : ℕ) (c : CellInfo) → slice_get a.cells k ≡ Some c → IsPlaced (frame_in a) c.cell
  stands k c e =
      let w = zip_left (IsElaborated a.names most) cells a.cells k c parts.settled.elaborated e in
      subst (IsPlaced (frame_in a)) (sym w.2.cell) (stands_too f (frame_in a) screens_same controls_same w.0 (placed_at k w.0 w.1))

  formula_ok : (i : ℕ) (g : FormulaName) → slice_get a.names.formulas i ≡ Some g → IsCellOf a.cells g.cell None (shape g.ty)
  formula_ok i g e =
      let b = formula_before h.first.formulas a.names.formulas i g same.formulas e in
      let at = formula_at cells 0 i b.0 (subst (λ (fs : List FormulaName). slice_get fs i ≡ Some b.0) h.named.formulas b.1) in
      let told : g.cell ≡ 0 + at.place = sym b.2.1 ∙ at.number in
      let number : g.cell ≡ at.place = omega (arith, told) in
      let p = placed_at at.place at.cell at.there in
      let w = zip_right (IsElaborated a.names most) cells a.cells at.place at.cell parts.settled.elaborated at.there in
      let none : option_map shape at.cell.wanted ≡ None = p.wanted ∙ ap (wanted_shape f) at.spot in
      let tree : judge_whole (cell_place a.names at.cell) at.cell.acts None at.cell.expr ≡ Ok (w.0.core, shape w.0.ty) =
      subst (λ o. judge_whole (cell_place a.names at.cell) at.cell.acts o at.cell.expr ≡ Ok (w.0.core, shape w.0.ty)) none w.2.tree in
      let own : rounds.formula_type a.names (map round_cell cells) g ≡ shape g.ty =
      map_at (rounds.formula_type a.names (map round_cell cells)) (λ (z : FormulaName). shape z.ty) a.names.formulas i g (ap (λ (t : rounds.Types). t.formulas) settled) e in
      let found : slice_get (map round_cell cells) g.cell ≡ Some (round_cell at.cell) =
      ap (slice_get (map round_cell cells)) number ∙ map_get round_cell cells at.place at.cell at.there in
      record {
        cell = w.0;
        there = ap (slice_get a.cells) number ∙ w.1;
        quiet = ap (λ (z : Cell). z.acts) w.2.cell ∙ p.acts ∙ ap (can_act f) at.spot;
        item = ap (λ (z : Cell). z.item) w.2.cell ∙ p.item ∙ ap (gallery_seen f) at.spot;
        ty = ap type_or_blank (sym tree) ∙ ap (rounds.cell_type a.names) (sym found) ∙ own;
      }

  -- the kind and the gallery of a control are those of the frame
  kind_at : (k : ℕ) (c : ControlName) → slice_get a.names.controls k ≡ Some c → (d : ControlName) × (slice_get f.controls k ≡ Some d) × (d.kind ≡ c.kind) × (d.gallery ≡ c.gallery)
  kind_at k c e =
      let b = control_before h.first.controls a.names.controls k c same.controls e in
      (b.0, subst (λ (cs : List ControlName). slice_get cs k ≡ Some b.0) h.named.controls b.1, b.2.1, b.2.3)

  property_fits : (i : ℕ) (p : Property) (c : ControlName) (t : Shape) → slice_get a.names.properties i ≡ Some p → slice_get a.names.controls p.control ≡ Some c → property_of p.name c ≡ Some t →
      IsCellOf a.cells p.cell c.gallery t
  property_fits i p c t e k o =
      let from : a.names.properties ≡ properties_from 0 cells = sym same.properties ∙ h.named.properties in
      let at = property_at cells 0 i p (subst (λ (ps : List Property). slice_get ps i ≡ Some p) from e) in
      let told = at.number in
      let number : p.cell ≡ at.place = omega (arith, told) in
      let q = placed_at at.place at.cell at.there in
      let w = zip_right (IsElaborated a.names most) cells a.cells at.place at.cell parts.settled.elaborated at.there in
      let d = kind_at p.control c k in
      let calm : is_behaviour d.0.kind (encode_utf8_all p.name) ≡ false = ap (λ z. is_behaviour z (encode_utf8_all p.name)) d.2 ∙ property_calm c p.name t o in
      let still : at.cell.acts ≡ false = q.acts ∙ ap (can_act f) at.spot ∙ ap (acts_in p.name) d.1 ∙ calm in
      let want : option_map shape at.cell.wanted ≡ wanted_by c.kind (encode_utf8_all p.name) =
      q.wanted ∙ ap (wanted_shape f) at.spot ∙ ap (wanted_in p.name) d.1 ∙ ap (λ z. wanted_by z (encode_utf8_all p.name)) d.2 in
      let fit : IsWanted (wanted_by c.kind (encode_utf8_all p.name)) (shape w.0.ty) =
      subst (λ x. IsWanted x (shape w.0.ty)) want (fits (cell_place a.names at.cell) at.cell.acts (option_map shape at.cell.wanted) at.cell.expr (w.0.core, shape w.0.ty) w.2.tree) in
      record {
        cell = w.0;
        there = ap (slice_get a.cells) number ∙ w.1;
        quiet = ap (λ (z : Cell). z.acts) w.2.cell ∙ still;
        item = ap (λ (z : Cell). z.item) w.2.cell ∙ q.item ∙ ap (gallery_seen f) at.spot ∙ ap (item_in p.control p.name) d.1 ∙ pure_item p.control p.name d.0 calm ∙ d.3;
        ty = property_ok c p.name t (shape w.0.ty) o fit (λ items. items_type i p c at w.0 e k from number (want ∙ any_table c p.name items) w.2.tree items);
      }
    where
      any_table : (c : ControlName) (x : List ℕ) → is_items c.kind (encode_utf8_all x) ≡ true → wanted_by c.kind (encode_utf8_all x) ≡ Some (tables no_columns)
      any_table c x items = by (is_items c.kind (encode_utf8_all x)) items
        where
          by : (b : Bool) → b ≡ true → (if b then Some (tables no_columns) else property_type c.kind (encode_utf8_all x)) ≡ Some (tables no_columns)
          by true e = refl
          by false e = absurd cc

      items_type : (i : ℕ) (p : Property) (c : ControlName) (at : IsCellAt cells (spot.Property p.control p.name) 0 p.cell) (j : CellInfo) → slice_get a.names.properties i ≡ Some p → slice_get a.names.controls p.control ≡ Some c →
          a.names.properties ≡ properties_from 0 cells → p.cell ≡ at.place → option_map shape at.cell.wanted ≡ Some (tables no_columns) → judged_cell a.names at.cell ≡ Ok (j.core, shape j.ty) →
          is_items c.kind (encode_utf8_all p.name) ≡ true → shape j.ty ≡ tables (item_columns (shape c.items))
      items_type i p c at j e k from number want tree items =
          let as_table : judge_whole (cell_place a.names at.cell) at.cell.acts (Some (tables no_columns)) at.cell.expr ≡ Ok (j.core, shape j.ty) =
          subst (λ o. judge_whole (cell_place a.names at.cell) at.cell.acts o at.cell.expr ≡ Ok (j.core, shape j.ty)) want tree in
          let here_too : p.control ≡ 0 + p.control = omega arith in
          let own : rounds.items_type a.names (map round_cell cells) p.control ≡ shape c.items =
          ap (rounds.items_type a.names (map round_cell cells)) here_too ∙ items_at a.names (map round_cell cells) 0 a.names.controls p.control c (ap (λ (t : rounds.Types). t.items) settled) k in
          let found = items_found cells (map round_cell cells) a.names.properties i p at.place at.cell h.single from e (is_gallery_items c.kind p.name items) number at.there at.spot in
          let here : rounds.items_type a.names (map round_cell cells) p.control ≡ rounds.cell_type a.names (Some (round_cell at.cell)) =
          ap (rounds.cell_type a.names) (found ∙ map_get round_cell cells at.place at.cell at.there) in
          items_own (cell_place a.names at.cell) at.cell.acts at.cell.expr (j.core, shape j.ty) as_table ∙ ap (λ t. tables (item_columns t)) (sym here ∙ own)

  pub sound : IsSoundApp a
  sound = record {
    names = h.lawful;
    placed = stands;
    cells = sound_cell;
    formulas = formula_ok;
    properties = property_fits;
    taken = λ k c e.
        subst (λ n. c.taken ≡ limited a.names.schema.tables n 0 false c.core) (sym parts.limit)
        (zip_left (IsElaborated a.names most) cells a.cells k c parts.settled.elaborated e).2.taken;
    order = parts.order;
    supports = parts.supports;
  }

pub accepted_sound : AdmittedIsTyped → AdmittedIsWanted → PureIsQuiet → AdmittedIsPlaced → AcceptedIsSound
accepted_sound typed fits quiet placed f cells most a h = sound typed fits quiet placed f cells most a h
