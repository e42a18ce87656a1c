-- Formulas and breaks of texts, one text after another.
use Rattle.std.proofs.Common.{◌≡◌, ℕ, arith, codes, length, List, [], ◌∷◌, ◌++◌, inl, inr, append_assoc, ap, sym, subst, refl, ◌∙◌, All}
use Rattle.std.proofs.lemmas.List.{append-nil}
use Rattle.std.proofs.lemmas.List.Elements.{All-nil, All-cons, All-append}
use Rattle.fx_base.specs.declared.or_memory.OrMemory.{OrMemory}
use Rattle.fx_base.specs.declared.or_memory.OrMemory.TheVariants as end
use Rattle.fx_core.specs.declared.broken.Broken.{Broken}
use Rattle.fx_parser.specs.declared.entries.Named.{Named}
use Rattle.app_cells.specs.declared.cell.Cell.{Cell}
use Rattle.app_cells.specs.declared.frame.Frame.{Frame}
use Rattle.app_cells.specs.Spots.{IsPlaced}
use Rattle.app_texts.specs.declared.file_texts.Text.{Text}
use Rattle.app_texts.specs.Steps.{ArePutBehind, IsPutBehind}
use Rattle.app_texts.specs.Texts.{AreNamedAt, AreNamedCells, AreReadAt, IsNamedCell, IsReadAt, IsToldOfText, IsUnreadAt, TellsBreak, in_text}
use Rattle.std.specs.Str.{chars}
use Rattle.fx_lexer.specs.declared.token.LexErr.{LexErr}
use Rattle.fx_lexer.specs.declared.token.LexWhat.{LexWhat}
use Rattle.fx_lexer.specs.declared.token.LexWhat.TheVariants as what
use Rattle.fx_lexer.specs.declared.token.Token.{Token}
use Rattle.fx_lexer.specs.Lexed.{Lexed}
use Rattle.fx_core.specs.declared.rule.Rule.TheVariants as rule
use Rattle.fx_parser.specs.Details.{bad_token_words, unexpected_words}
use Rattle.fx_parser.specs.Texts.{AreNamedEnd}
use Rattle.fx_parser.specs.declared.end.ParseEnd.{ParseEnd}
use Rattle.fx_parser.specs.declared.end.ParseEnd.TheVariants.{Lex, Syntax, TooDeep}

-- a list of no length has no items
pub no_items : {A : Type 0} (xs : List A) (n : ℕ) → n ≡ length xs → n ≡ 0 → xs ≡ []
no_items [] n e z = refl
no_items (x ∷ xs) n e z = absurd (omega (arith, e, z))

-- an end that tells of this tells of what follows from it
pub tells_weaker : (e : OrMemory Broken) (P Q : Broken → Type 0) → ((b : Broken) → P b → Q b) → TellsBreak P e → TellsBreak Q e
tells_weaker (end.Refused b) P Q f h = f b h
tells_weaker end.Memory P Q f h = tt

-- one text before others
pub one_more : (f : Frame) (t : Text) (ts : List Text) (cs ds : List Cell) (bs es : List Broken) → AreReadAt f (t ∷ []) cs bs → AreReadAt f ts ds es
    → AreReadAt f (t ∷ ts) (cs ++ ds) (bs ++ es)
one_more f t ts cs ds bs es (inl w) k =
    inl (w.0, ds, ap (λ xs. xs ++ ds) (w.2 ∙ ap (λ m. w.0 ∷ m) w.4.0), w.3, subst (λ xs. AreReadAt f ts ds (xs ++ es)) (sym w.4.1) k)
one_more f t ts cs ds bs es (inr w) k =
    inr (w.0, es, ap (λ xs. xs ++ es) (w.2 ∙ ap (λ m. w.0 ∷ m) w.4.1), w.3, subst (λ xs. AreReadAt f ts (xs ++ ds) es) (sym w.4.0) k)

-- what still has to be read of texts, where these formulas and breaks stand already
abbrev pub AreReadOnward : Frame → List Text → List Text → List Cell → List Broken → Type 0
AreReadOnward f all rest cs bs = (ds : List Cell) (es : List Broken) → AreReadAt f rest ds es → AreReadAt f all (cs ++ ds) (bs ++ es)

pub texts_begin : (f : Frame) (all : List Text) (cs : List Cell) (bs : List Broken) → IsPutBehind (AreReadOnward f all all) cs cs bs bs
texts_begin f all cs bs = record { cells = []; breaks = []; cells_behind = sym (append-nil cs); breaks_behind = sym (append-nil bs); holds = λ ds es h. h }

pub texts_step : (f : Frame) (all rest : List Text) (t : Text) (old now next : List Cell) (former here later : List Broken)
    → IsPutBehind (AreReadOnward f all (t ∷ rest)) old now former here → IsPutBehind (AreReadAt f (t ∷ [])) now next here later
    → IsPutBehind (AreReadOnward f all rest) old next former later
texts_step f all rest t old now next former here later h k = record {
  cells = h.cells ++ k.cells;
  breaks = h.breaks ++ k.breaks;
  cells_behind = k.cells_behind ∙ ap (λ xs. xs ++ k.cells) h.cells_behind ∙ append_assoc old h.cells k.cells;
  breaks_behind = k.breaks_behind ∙ ap (λ xs. xs ++ k.breaks) h.breaks_behind ∙ append_assoc former h.breaks k.breaks;
  holds = λ ds es r.
      subst (λ xs. AreReadAt f all xs ((h.breaks ++ k.breaks) ++ es)) (sym (append_assoc h.cells k.cells ds))
      (subst (λ xs. AreReadAt f all (h.cells ++ (k.cells ++ ds)) xs) (sym (append_assoc h.breaks k.breaks es))
      (h.holds (k.cells ++ ds) (k.breaks ++ es) (one_more f t rest k.cells ds k.breaks es k.holds r)));
}

pub texts_end : (f : Frame) (all : List Text) (old now : List Cell) (former here : List Broken)
    → IsPutBehind (AreReadOnward f all []) old now former here → IsPutBehind (AreReadAt f all) old now former here
texts_end f all old now former here h = record {
  cells = h.cells;
  breaks = h.breaks;
  cells_behind = h.cells_behind;
  breaks_behind = h.breaks_behind;
  holds = subst (λ xs. AreReadAt f all xs h.breaks) (append-nil h.cells) (subst (AreReadAt f all (h.cells ++ [])) (append-nil h.breaks) (h.holds [] [] (refl, refl)));
}

-- the same of named formulas
abbrev pub AreNamedOnward : Frame → List Named → List Named → List Cell → Type 0
AreNamedOnward f all rest cs = (ds : List Cell) → AreNamedCells f rest ds → AreNamedCells f all (cs ++ ds)

pub named_step : (f : Frame) (all rest : List Named) (n : Named) (old now next : List Cell) (c : Cell)
    → ArePutBehind (AreNamedOnward f all (n ∷ rest)) old now → next ≡ now ++ c ∷ [] → IsNamedCell f n c → ArePutBehind (AreNamedOnward f all rest) old next
named_step f all rest n old now next c h e k = record {
  more = h.more ++ c ∷ [];
  behind = e ∙ ap (λ xs. xs ++ c ∷ []) h.behind ∙ append_assoc old h.more (c ∷ []);
  holds = λ ds r. subst (AreNamedCells f all) (sym (append_assoc h.more (c ∷ []) ds)) (h.holds (c ∷ ds) (c, ds, refl, k, r));
}

pub named_end : (f : Frame) (all : List Named) (old now : List Cell) → ArePutBehind (AreNamedOnward f all []) old now → ArePutBehind (AreNamedCells f all) old now
named_end f all old now h = record { more = h.more; behind = h.behind; holds = subst (AreNamedCells f all) (append-nil h.more) (h.holds [] refl) }

-- all of these stand where they say
pub read_placed : (f : Frame) (ts : List Text) (cs : List Cell) (bs : List Broken) → AreReadAt f ts cs bs → All (IsPlaced f) cs
read_placed f [] cs bs h = subst (All (IsPlaced f)) (sym h.0) (All-nil (IsPlaced f))
read_placed f (t ∷ ts) cs bs (inl w) = subst (All (IsPlaced f)) (sym w.2) (All-cons (IsPlaced f) w.0 w.1 w.3.cell.placed (read_placed f ts w.1 bs w.4))
read_placed f (t ∷ ts) cs bs (inr w) = read_placed f ts cs w.1 w.4

pub named_placed : (f : Frame) (ns : List Named) (cs : List Cell) → AreNamedCells f ns cs → All (IsPlaced f) cs
named_placed f [] cs h = subst (All (IsPlaced f)) (sym h) (All-nil (IsPlaced f))
named_placed f (n ∷ ns) cs h = subst (All (IsPlaced f)) (sym h.2) (All-cons (IsPlaced f) h.0 h.1 h.3.placed (named_placed f ns h.1 h.4))

-- ---- what is told of texts that have no tree
bad_words_plain : (w : LexWhat) → chars (bad_token_words w) ≡ bad_token_words w
unfolding chars
bad_words_plain what.Number = refl
bad_words_plain what.TextNotEnded = refl
bad_words_plain what.NameNotEnded = refl
bad_words_plain what.CommentNotEnded = refl
bad_words_plain what.Character = refl

deep_words_plain : chars (codes "deeper than 64") ≡ codes "deeper than 64"
unfolding chars
deep_words_plain = refl

pub formulas_words_plain : chars (codes "App.Formulas") ≡ codes "App.Formulas"
unfolding chars
formulas_words_plain = refl

pub tells_bad : (cell source : List ℕ) (end : ParseEnd) (bad : LexErr) (words : List ℕ) → end ≡ Lex bad → words ≡ bad_token_words bad.what → (e : OrMemory Broken)
    → TellsBreak (λ b. b ≡ in_text cell rule.BadToken bad.at (chars words)) e → TellsBreak (IsToldOfText cell source end) e
tells_bad cell source end bad words is same e h =
    subst (λ x. TellsBreak (IsToldOfText cell source x) e) (sym is)
    (tells_weaker e _ (IsToldOfText cell source (Lex bad)) (λ b k. k ∙ ap (in_text cell rule.BadToken bad.at) (ap chars same ∙ bad_words_plain bad.what)) h)

pub tells_syntax : (cell source : List ℕ) (end : ParseEnd) (at : ℕ) (detail : List ℕ) → end ≡ Syntax at → ((ts : List Token) → Lexed (chars source) ts → detail ≡ unexpected_words source at ts) → (e : OrMemory Broken)
    → TellsBreak (λ b. b ≡ in_text cell rule.Syntax at detail) e → TellsBreak (IsToldOfText cell source end) e
tells_syntax cell source end at detail is says e h =
    subst (λ x. TellsBreak (IsToldOfText cell source x) e) (sym is)
    (tells_weaker e _ (IsToldOfText cell source (Syntax at)) (λ b k ts lexed. k ∙ ap (in_text cell rule.Syntax at) (says ts lexed)) h)

pub tells_deep : (cell source : List ℕ) (end : ParseEnd) (at : ℕ) → end ≡ TooDeep at → (e : OrMemory Broken)
    → TellsBreak (λ b. b ≡ in_text cell rule.TooDeep at (chars (codes "deeper than 64"))) e → TellsBreak (IsToldOfText cell source end) e
tells_deep cell source end at is e h =
    subst (λ x. TellsBreak (IsToldOfText cell source x) e) (sym is)
    (tells_weaker e _ (IsToldOfText cell source (TooDeep at)) (λ b k. k ∙ ap (in_text cell rule.TooDeep at) deep_words_plain) h)

-- what is put behind of one text
pub put_cell : (f : Frame) (t : Text) (old new : List Cell) (bs : List Broken) (c : Cell) → new ≡ old ++ c ∷ [] → IsReadAt f t.spot t.text c → IsPutBehind (AreReadAt f (t ∷ [])) old new bs bs
put_cell f t old new bs c e h = record { cells = c ∷ []; breaks = []; cells_behind = e; breaks_behind = sym (append-nil bs); holds = inl (c, [], refl, h, (refl, refl)) }

pub put_broken : (f : Frame) (t : Text) (cs : List Cell) (old new : List Broken) (b : Broken) → new ≡ old ++ b ∷ [] → IsUnreadAt f t.spot t.text b → IsPutBehind (AreReadAt f (t ∷ [])) cs cs old new
put_broken f t cs old new b e h = record { cells = []; breaks = b ∷ []; cells_behind = sym (append-nil cs); breaks_behind = e; holds = inr (b, [], refl, h, (refl, refl)) }

-- what is put behind of a text of named formulas that is none
pub put_unnamed : (f : Frame) (source : List ℕ) (end : ParseEnd) (cs : List Cell) (old new : List Broken) → AreNamedEnd source end
    → ArePutBehind (λ bs. (b : Broken) × (bs ≡ b ∷ []) × IsToldOfText (codes "App.Formulas") source end b) old new → IsPutBehind (AreNamedAt f source) cs cs old new
put_unnamed f source end cs old new ends h =
    record {
      cells = [];
      breaks = h.more;
      cells_behind = sym (append-nil cs);
      breaks_behind = h.behind;
      holds = inr (h.holds.0, record { end = end; ends = ends; told = h.holds.2 }, refl, h.holds.1);
    }
