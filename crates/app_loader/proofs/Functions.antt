-- Tables of functions with the same entries, wherever they stand in memory, tell the same.
use Rattle.std.proofs.Common.{◌≡◌, ◌++◌, ℕ, List, [], ◌∷◌, Bool, true, false, bytes_eq, encode_utf8_all, length, Option, Some, None, map, option_map, refl, ap, sym, ◌∙◌, if◌then◌else◌}
use Rattle.std.specs.List.{filter}
use Rattle.app_names.specs.Declarations as declared
use Rattle.app_names.specs.Declarations.{declared_among, declared_at, declared_in, declared_of, declared_on, given_names, is_name_among, is_declared, new_behind, own_names, frame_table_names, things_behind, things_of}
use Rattle.app_names.specs.NameRules.{app_break, breaks_behind, name_break, name_breaks, put_break}
use Rattle.app_cells.specs.declared.cell.Cell.{Cell}
use Rattle.app_cells.specs.declared.frame.Frame.{Frame}
use Rattle.app_names.specs.declared.declarations.Declared.{Declared}
use Rattle.fx_core.specs.Signatures.{signature_in}
use Rattle.fx_core.specs.declared.signatures.SigShape.{SigShape}
use Rattle.fx_core.specs.declared.signatures.Signature.{Signature}
use Rattle.fx_typing.specs.Plans.{shape_in}
use Rattle.fx_sig.specs.Entries.{Entry, entry}
use Rattle.fx_core.specs.Tree.{Tree, node, Forest, none, more, Head}
use Rattle.fx_core.specs.Tree as tree

-- a name finds the same entry in both
pub found_alike : (ss ts : List Signature) (x : List ℕ) → map entry ss ≡ map entry ts → option_map entry (signature_in ss x) ≡ option_map entry (signature_in ts x)
found_alike [] [] x e = refl
found_alike [] (t ∷ ts) x e = absurd cc
found_alike (s ∷ ss) [] x e = absurd cc
found_alike (s ∷ ss) (t ∷ ts) x e =
    let first : entry s ≡ entry t = cc in
    let rest : map entry ss ≡ map entry ts = cc in
    by (bytes_eq s.name.now x) (bytes_eq t.name.now x) (ap (λ (z : Entry). bytes_eq z.name x) first) (ap Some first) (found_alike ss ts x rest)
  where
    by : (b c : Bool) → b ≡ c → ◌≡◌ {A = Option Entry} (Some (entry s)) (Some (entry t)) → option_map entry (signature_in ss x) ≡ option_map entry (signature_in ts x) →
        option_map entry (if b then Some s else signature_in ss x) ≡ option_map entry (if c then Some t else signature_in ts x)
    by true true q first rest = first
    by true false q first rest = absurd cc
    by false true q first rest = absurd cc
    by false false q first rest = rest

pub shape_alike : (o u : Option Signature) → option_map entry o ≡ option_map entry u → shape_in o ≡ shape_in u
shape_alike None None e = refl
shape_alike None (Some t) e = absurd cc
shape_alike (Some s) None e = absurd cc
shape_alike (Some s) (Some t) e = let one : entry s ≡ entry t = cc in ap (λ (z : Entry). Some z.shape) one

-- how a name is called, in the two ways in which that is written
called_shape : (o : Option Signature) → option_map (λ (s : Signature). s.shape) o ≡ shape_in o
called_shape None = refl
called_shape (Some s) = refl

module _ (ss ts : List Signature) (same : map entry ss ≡ map entry ts) where
  called_alike : (x : List ℕ) → declared.shape_called ss x ≡ declared.shape_called ts x
  called_alike x =
      let f = encode_utf8_all x in
      called_shape (signature_in ss f) ∙ shape_alike (signature_in ss f) (signature_in ts f) (found_alike ss ts f same)
      ∙ sym (called_shape (signature_in ts f))

  -- what is declared
  here_alike : (screen : Option ℕ) (h : Head) (ks : Forest) → declared_at ss screen h ks ≡ declared_at ts screen h ks
  here_alike screen (tree.call f) ks = ap (λ (o : Option SigShape). declared_on screen o ks) (called_alike f)
  here_alike screen h ks = refl

  mutual
    in_alike : (screen : Option ℕ) (e : Tree) → declared_in ss screen e ≡ declared_in ts screen e
    in_alike screen (node at h ks) = λ i. here_alike screen h ks i ++ among_alike screen ks i

    among_alike : (screen : Option ℕ) (ks : Forest) → declared_among ss screen ks ≡ declared_among ts screen ks
    among_alike screen none = refl
    among_alike screen (more k ks) = λ i. in_alike screen k i ++ among_alike screen ks i

  of_alike : (given : List ℕ → Bool) (c : Cell) → declared_of ss given c ≡ declared_of ts given c
  of_alike given c = ap (filter (is_declared given)) (in_alike c.screen c.expr)

  behind_alike : (given : List ℕ → Bool) (before : List Declared) (cs : List Cell) → things_behind ss given before cs ≡ things_behind ts given before cs
  behind_alike given before [] = refl
  behind_alike given before (c ∷ cs) =
      ap (λ (ds : List Declared). things_behind ss given (before ++ new_behind before ds) cs) (of_alike given c)
      ∙ behind_alike given (before ++ new_behind before (declared_of ts given c)) cs

  pub things_alike : (f : Frame) (cells : List Cell) → things_of ss f cells ≡ things_of ts f cells
  things_alike f cells = behind_alike (is_name_among (given_names f cells)) [] cells

  -- what is broken among the names
  behind_broken : (given : List ℕ → Bool) (before : List (List ℕ)) (things : List Declared) (cs : List Cell) → breaks_behind ss given before things cs ≡ breaks_behind ts given before things cs
  behind_broken given before things [] = refl
  behind_broken given before things (c ∷ cs) =
      let new = new_behind things (declared_of ts given c) in
      ap (λ (ds : List Declared). put_break (name_break (is_name_among before) things (new_behind things ds) c) (breaks_behind ss given (before ++ own_names c.spot) (things ++ new_behind things ds) cs)) (of_alike given c)
      ∙ ap (put_break (name_break (is_name_among before) things new c)) (behind_broken given (before ++ own_names c.spot) (things ++ new) cs)

  pub breaks_alike : (f : Frame) (cells : List Cell) → name_breaks ss f cells ≡ name_breaks ts f cells
  breaks_alike f cells =
      λ i. put_break (app_break f cells (length (things_alike f cells i))) (behind_broken (is_name_among (given_names f cells)) (frame_table_names f) [] cells i)
