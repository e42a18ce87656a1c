-- The trees of texts are shallow.
use Rattle.std.proofs.Common.{inl, inr, ◌≡◌, ℕ, ◌≤◌, List, [], ◌∷◌, All, Ok, refl, ap, sym, subst, ◌∙◌, arith}
use Rattle.std.specs.Prelude.{encode_utf8_all}
use Rattle.std.specs.Str.{chars}
use Rattle.std.proofs.lemmas.List.Elements.{All-append, All-cons, All-head, All-map, All-nil, All-tail}
use Rattle.fx_grammar.specs.Formulas.{NamedFormula}
use Rattle.fx_infer.specs.Below.{tree_depth}
use Rattle.fx_infer.specs.Depths.{EntriesAreNoDeeper, TreesAreNoDeeper}
use Rattle.fx_parser.specs.Texts.{IsNamedText, named_of}
use Rattle.fx_parser.specs.declared.entries.Named.{Named}
use Rattle.fx_core.specs.declared.broken.Broken.{Broken}
use Rattle.app_file.specs.declared.file.AppFile.{AppFile}
use Rattle.app_cells.specs.declared.cell.Cell.{Cell}
use Rattle.app_cells.specs.declared.frame.Frame.{Frame}
use Rattle.app_texts.specs.declared.file_texts.Text.{Text}
use Rattle.app_texts.specs.Files.{formula_texts}
use Rattle.app_texts.specs.Texts.{AreNamedAt, AreNamedCells, AreReadAt, IsNamedReading, IsReading, bare_frame}
use Rattle.app_loader.specs.Cells.{AreShallow}
use Rattle.app_loader.proofs.Singles.{both_none, named_parts, reading_parts}

abbrev IsShallow : Cell → Type 0
IsShallow c = tree_depth c.expr ≤ 256

abbrev IsLow : Named → Type 0
IsLow n = tree_depth n.expr ≤ 64

read_shallow : TreesAreNoDeeper → (f : Frame) (ts : List Text) (cs : List Cell) (bs : List Broken) → AreReadAt f ts cs bs → bs ≡ [] → AreShallow cs
read_shallow law f [] cs bs h e = subst AreShallow (sym h.0) (All-nil IsShallow)
read_shallow law f (t ∷ ts) cs bs (inl h) e =
    let low : tree_depth h.3.tree ≤ 64 = law 64 (chars (encode_utf8_all t.text)) h.3.tree h.3.parsed in
    let same : tree_depth h.0.expr ≡ tree_depth h.3.tree = ap tree_depth h.3.cell.expr in
    subst AreShallow (sym h.2) (All-cons IsShallow h.0 h.1 (omega (arith, low, same)) (read_shallow law f ts h.1 bs h.4 e))
read_shallow law f (t ∷ ts) cs bs (inr h) e = let past : [] ≡ h.0 ∷ h.1 = sym e ∙ h.2 in absurd cc

cells_shallow : (f : Frame) (ns : List Named) (cs : List Cell) → All IsLow ns → AreNamedCells f ns cs → AreShallow cs
cells_shallow f [] cs l h = subst AreShallow (sym h) (All-nil IsShallow)
cells_shallow f (n ∷ ns) cs l h =
    let low : tree_depth n.expr ≤ 64 = All-head IsLow n ns l in
    let same : tree_depth h.0.expr ≡ tree_depth n.expr = ap tree_depth h.3.expr in
    subst AreShallow (sym h.2) (All-cons IsShallow h.0 h.1 (omega (arith, low, same)) (cells_shallow f ns h.1 (All-tail IsLow n ns l) h.4))

low_names : EntriesAreNoDeeper → (source : List ℕ) (ns : List Named) → IsNamedText 64 source ns → All IsLow ns
low_names law source ns named =
    let es : List NamedFormula = named.0 in
    let deep : All (λ (e : NamedFormula). tree_depth e.tree ≤ 64) es = law 64 named.1.0 es named.1.2 in
    subst (All IsLow) (sym named.2) (All-map IsLow (named_of source) es (λ k d l. let a = deep k d l in omega (arith, a)))

named_at_shallow : EntriesAreNoDeeper → (f : Frame) (source : List ℕ) (cs : List Cell) (bs : List Broken) → AreNamedAt f source cs bs → bs ≡ [] → AreShallow cs
named_at_shallow law f source cs bs (inl h) e = cells_shallow f h.0 cs (low_names law source h.0 h.1) h.2
named_at_shallow law f source cs bs (inr h) e = let past : [] ≡ h.0 ∷ [] = sym e ∙ h.3 in absurd cc

-- those of a file
pub file_shallow : TreesAreNoDeeper → EntriesAreNoDeeper → (a : AppFile) (f : Frame) (cs : List Cell) → IsReading a (Ok (f, cs)) → AreShallow cs
file_shallow trees entries a f cs h =
    let parts = (reading_parts h).1 in
    let none = both_none parts.named_breaks parts.other_breaks parts.breaks in
    subst AreShallow (sym parts.cells)
    (All-append IsShallow parts.named_cells parts.other_cells (named_at_shallow entries f (encode_utf8_all a.formulas) parts.named_cells parts.named_breaks parts.named none.0)
    (read_shallow trees f (formula_texts a) parts.other_cells parts.other_breaks parts.others none.1))

-- and those of a text of named formulas
pub named_shallow : EntriesAreNoDeeper → (source : List ℕ) (f : Frame) (cs : List Cell) → IsNamedReading source (Ok (f, cs)) → AreShallow cs
named_shallow entries source f cs h = named_at_shallow entries bare_frame source cs [] (named_parts h).1 refl
