-- A file is one list of formulas at most, or it is broken.
use Rattle.std.proofs.Common.{inl, inr, ◌≡◌, ℕ, ◌++◌, List, [], ◌∷◌, Option, Some, None, option_map, Result, Ok, refl, ap, sym, subst, ◌∙◌}
use Rattle.std.specs.Prelude.{encode_utf8_all}
use Rattle.std.specs.Str.{chars}
use Rattle.fx_types.specs.TypeView.{shape}
use Rattle.fx_types.specs.declared.types.Ty.{Ty}
use Rattle.fx_grammar.proofs.Meanings.{one_tree_of}
use Rattle.fx_infer.proofs.Only.{ty_one}
use Rattle.fx_lexer.proofs.Readings.{lexed_one}
use Rattle.fx_parser.specs.Texts.{AreNamedEnd, IsNamedText}
use Rattle.fx_parser.specs.declared.end.ParseEnd.{ParseEnd}
use Rattle.fx_parser.specs.declared.end.ParseEnd.TheVariants.{Lex, Syntax, TooDeep, Memory}
use Rattle.fx_parser.specs.declared.entries.Named.{Named}
use Rattle.fx_core.specs.Tree.{Tree}
use Rattle.fx_core.specs.declared.broken.Broken.{Broken}
use Rattle.app_file.specs.declared.file.AppFile.{AppFile}
use Rattle.app_cells.specs.declared.cell.Cell.{Cell}
use Rattle.app_cells.specs.declared.cell.Spot.{Spot}
use Rattle.app_cells.specs.declared.cell.Spot.TheVariants as spot
use Rattle.app_cells.specs.declared.frame.Frame.{Frame}
use Rattle.app_cells.specs.Spots.{IsCell, can_act, address, gallery_seen, screen_of, wanted_shape}
use Rattle.app_texts.specs.declared.file_texts.Text.{Text}
use Rattle.app_texts.specs.Files.{file_frame, formula_texts}
use Rattle.app_texts.specs.Texts.{AreFormulasOf, AreNamedAt, AreNamedCells, AreReadAt, IsNamedReading, IsReadAt, IsReading, IsStart, IsToldOfText, IsUnparsed, IsUnreadAt, bare_frame, broken, first_token_at, formulas, named_broken, named_formulas}
use Rattle.app_loader.proofs.OneText.{not_formula, not_memory_deep, not_memory_lex, not_memory_syntax, not_named, one_text}
use Rattle.app_loader.proofs.Singles.{both_none}

-- ---- a formula of a place, by its text and its tree
wanted_one : (o u : Option Ty) → option_map shape o ≡ option_map shape u → o ≡ u
wanted_one None None e = refl
wanted_one None (Some u) e = absurd cc
wanted_one (Some t) None e = absurd cc
wanted_one (Some t) (Some u) e = let same : shape t ≡ shape u = cc in ap Some (ty_one t u same)

cell_one : (f : Frame) (s : Spot) (at : ℕ) (text : List ℕ) (e : Tree) (c d : Cell) → IsCell f s at text e c → IsCell f s at text e d → c ≡ d
cell_one f s at text e c d x y =
    let spots : c.spot ≡ d.spot = x.spot ∙ sym y.spot in
    let names : c.name ≡ d.name = x.placed.name ∙ ap (address f) spots ∙ sym y.placed.name in
    let screens : c.screen ≡ d.screen = x.placed.screen ∙ ap (screen_of f) spots ∙ sym y.placed.screen in
    let items : c.item ≡ d.item = x.placed.item ∙ ap (gallery_seen f) spots ∙ sym y.placed.item in
    let deeds : c.acts ≡ d.acts = x.placed.acts ∙ ap (can_act f) spots ∙ sym y.placed.acts in
    let types : c.wanted ≡ d.wanted = wanted_one c.wanted d.wanted (x.placed.wanted ∙ ap (wanted_shape f) spots ∙ sym y.placed.wanted) in
    let places : c.at ≡ d.at = x.at ∙ sym y.at in
    let texts : c.text ≡ d.text = x.text ∙ sym y.text in
    let trees : c.expr ≡ d.expr = x.expr ∙ sym y.expr in
    λ i. record { name = names i; spot = spots i; screen = screens i; item = items i; acts = deeds i; wanted = types i; at = places i; text = texts i; expr = trees i }

start_one : (s : Spot) (source : List ℕ) (a b : ℕ) → IsStart s source a → IsStart s source b → a ≡ b
start_one (spot.Formula x) source a b h k = h.2 ∙ ap first_token_at (lexed_one (chars source) h.0 k.0 h.1 k.1) ∙ sym k.2
start_one spot.OnStart source a b h k = h ∙ sym k
start_one (spot.OnVisible s) source a b h k = h ∙ sym k
start_one (spot.Property n p) source a b h k = h ∙ sym k

pub read_cell_one : (f : Frame) (s : Spot) (text : List ℕ) (c d : Cell) → IsReadAt f s text c → IsReadAt f s text d → c ≡ d
read_cell_one f s text c d x y =
    let source = encode_utf8_all text in
    let starts : x.start ≡ y.start = start_one s source x.start y.start x.starts y.starts in
    let trees : x.tree ≡ y.tree = one_tree_of (chars source) 64 64 x.tree y.tree x.parsed y.parsed in
    cell_one f s y.start text y.tree c d (subst (λ (at : ℕ). IsCell f s at text y.tree c) starts (subst (λ (t : Tree). IsCell f s x.start text t c) trees x.cell)) y.cell

-- ---- a text that is a formula isn't broken
unread_end : (cell source : List ℕ) (e : ParseEnd) (b : Broken) → IsToldOfText cell source e b → e ≡ Memory → ⊥
unread_end cell source (Lex bad) b h e = not_memory_lex bad e
unread_end cell source (Syntax at) b h e = not_memory_syntax at e
unread_end cell source (TooDeep at) b h e = not_memory_deep at e
unread_end cell source Memory b h e = h

pub not_both : (f : Frame) (s : Spot) (text : List ℕ) (c : Cell) (b : Broken) → IsReadAt f s text c → IsUnreadAt f s text b → ⊥
not_both f s text c b x y = not_formula (encode_utf8_all text) x.tree y.end x.parsed y.ends (unread_end (address f s) (encode_utf8_all text) y.end b y.told)

pub not_both_named : (cell source : List ℕ) (ns : List Named) (b : Broken) → IsNamedText 64 source ns → IsUnparsed AreNamedEnd cell source b → ⊥
not_both_named cell source ns b x y = not_named source ns y.end x y.ends (unread_end cell source y.end b y.told)

-- ---- texts of which none is broken
read_one : (f : Frame) (ts : List Text) (cs ds : List Cell) (bs es : List Broken) → AreReadAt f ts cs bs → bs ≡ [] → AreReadAt f ts ds es → (cs ≡ ds) × (es ≡ [])
read_one f [] cs ds bs es h n k = (h.0 ∙ sym k.0, k.1)
read_one f (t ∷ ts) cs ds bs es (inl h) n (inl k) =
    let first = read_cell_one f t.spot t.text h.0 k.0 h.3 k.3 in
    let others = read_one f ts h.1 k.1 bs es h.4 n k.4 in
    (h.2 ∙ (λ i. first i ∷ others.0 i) ∙ sym k.2, others.1)
read_one f (t ∷ ts) cs ds bs es (inl h) n (inr k) = absurd (not_both f t.spot t.text h.0 k.0 h.3 k.3)
read_one f (t ∷ ts) cs ds bs es (inr h) n k = let past : [] ≡ h.0 ∷ h.1 = sym n ∙ h.2 in absurd cc

named_cells_one : (f : Frame) (ns : List Named) (cs ds : List Cell) → AreNamedCells f ns cs → AreNamedCells f ns ds → cs ≡ ds
named_cells_one f [] cs ds h k = h ∙ sym k
named_cells_one f (n ∷ ns) cs ds h k =
    let first = cell_one f (spot.Formula n.name) n.at n.text n.expr h.0 k.0 h.3 k.3 in
    let others = named_cells_one f ns h.1 k.1 h.4 k.4 in
    h.2 ∙ (λ i. first i ∷ others i) ∙ sym k.2

named_one : (f : Frame) (source : List ℕ) (cs ds : List Cell) (bs es : List Broken) → AreNamedAt f source cs bs → bs ≡ [] → AreNamedAt f source ds es → (cs ≡ ds) × (es ≡ [])
named_one f source cs ds bs es (inl h) n (inl k) =
    let names : h.0 ≡ k.0 = one_text source h.0 k.0 h.1 k.1 in
    (named_cells_one f k.0 cs ds (subst (λ (ns : List Named). AreNamedCells f ns cs) names h.2) k.2, k.3)
named_one f source cs ds bs es (inl h) n (inr k) = absurd (not_both_named _ source h.0 k.0 h.1 k.1)
named_one f source cs ds bs es (inr h) n k = let past : [] ≡ h.0 ∷ [] = sym n ∙ h.3 in absurd cc

formulas_one : (a : AppFile) (f : Frame) (cs ds : List Cell) (es : List Broken) → AreFormulasOf a f cs [] → AreFormulasOf a f ds es → (cs ≡ ds) × (es ≡ [])
formulas_one a f cs ds es h k =
    let none = both_none h.named_breaks h.other_breaks h.breaks in
    let named = named_one f (encode_utf8_all a.formulas) h.named_cells k.named_cells h.named_breaks k.named_breaks h.named none.0 k.named in
    let others = read_one f (formula_texts a) h.other_cells k.other_cells h.other_breaks k.other_breaks h.others none.1 k.others in
    (h.cells ∙ (λ i. named.0 i ++ others.0 i) ∙ sym k.cells, k.breaks ∙ (λ i. named.1 i ++ others.1 i))

not_filled : (b : Broken) (bs : List Broken) → b ∷ bs ≡ [] → ⊥
not_filled b bs e = cc

-- what is read of a file whose texts are these formulas
pub reading_one : {a : AppFile} {v : Result (Frame × List Cell) (List Broken)} → IsReading a v → (f : Frame) (cs : List Cell) → f ≡ file_frame a → AreFormulasOf a f cs [] → v ≡ Ok (f, cs)
reading_one {a = a} (formulas ds k) f cs e h =
    let one = formulas_one a (file_frame a) cs ds [] (subst (λ (g : Frame). AreFormulasOf a g cs []) e h) k in
    λ i. Ok (sym e i, sym one.0 i)
reading_one {a = a} (broken ds b bs k) f cs e h =
    let one = formulas_one a (file_frame a) cs ds (b ∷ bs) (subst (λ (g : Frame). AreFormulasOf a g cs []) e h) k in
    absurd (not_filled b bs one.1)

-- and of a text of named formulas
pub named_reading_one : {source : List ℕ} {v : Result (Frame × List Cell) (List Broken)} → IsNamedReading source v → (f : Frame) (cs : List Cell) → f ≡ bare_frame → AreNamedAt bare_frame source cs [] → v ≡ Ok (f, cs)
named_reading_one {source = source} (named_formulas ds k) f cs e h =
    let one = named_one bare_frame source cs ds [] [] h refl k in
    λ i. Ok (sym e i, sym one.0 i)
named_reading_one {source = source} (named_broken ds b bs k) f cs e h =
    let one = named_one bare_frame source cs ds [] (b ∷ bs) h refl k in
    absurd (not_filled b bs one.1)
