-- The first named formula of the tokens, and the others.
use Rattle.std.proofs.Common.{◌≡◌, ℕ, suc, ◌+◌, ◌-◌, ◌<◌, ◌≤◌, max, List, [], ◌∷◌, ◌++◌, length, take, map, refl, ap, sym, ◌∙◌, subst, arith, length-append, append-nil, append_assoc, Option, Some, None, get_or, Err}
use Rattle.std.proofs.lemmas.List.{take_at, map-append}
use Rattle.fx_lexer.specs.declared.token.Symbol.TheVariants as symbol
use Rattle.fx_core.specs.Tree.{Tree}
use Rattle.fx_grammar.specs.declared.item.Item.{Item}
use Rattle.fx_grammar.specs.declared.item.Meaning.{Meaning}
use Rattle.fx_grammar.specs.declared.item.Meaning.TheVariants as m
use Rattle.fx_grammar.specs.declared.line.Join.TheVariants as join
use Rattle.fx_grammar.specs.declared.line.Line.TheVariants.{Several}
use Rattle.std.specs.Prelude.{slice_range}
use Rattle.std.specs.Str.{chars}
use Rattle.fx_grammar.specs.Grammar.{first_byte, Parses}
use Rattle.fx_grammar.specs.Formulas.{end, NamedFormula, named_formula, AreNamed, no_entries, last_entry, further_entry, AreEntriesOf, AreDeeper}
use Rattle.fx_grammar.specs.Reading.{Parsed, line_at}
use Rattle.fx_grammar.proofs.Tokens.{Below, rank}
use Rattle.fx_grammar.proofs.Complete.{complete}
use Rattle.fx_grammar.proofs.Sound.{Kept, Is, reads}
use Rattle.fx_grammar.proofs.Formula.{above}
use Rattle.fx_parser.proofs.Suffix.{Suffix, suffix}
use Rattle.fx_parser.specs.declared.entries.Named.{Named}
use Rattle.fx_parser.specs.Texts.{named_of}
use Rattle.std.specs.Borrow.{Bor}
use Rattle.fx_parser.specs.declared.descent_end.End.{End}
use Rattle.fx_parser.specs.declared.descent_end.End.TheVariants.{Refused, Memory}
use Rattle.fx_parser.specs.Answer.{ParserAnswers}
use Rattle.fx_parser.specs.Entries.{entry_head_by, entry_head, next_by, next_of, IsFirstFormula, AreThese, AreTooDeep}

-- What tokens that are named formulas begin with.
pub record Begins (ts : List Item) : Type 0 where
  pub name : List ℕ
  pub body : List Item
  pub is_head : entry_head ts ≡ Some (name, body)
  pub seen : Parsed Tree
  pub is_tree : line_at 64 (Several join.Or) body ≡ Some seen
  pub others : List Item
  pub is_next : next_of seen.2 ≡ Some others
  pub depth : ℕ
  pub entries : List NamedFormula
  pub rest : AreNamed others depth entries
  pub shallow : depth ≤ 64

pub semicolon_below : (z : Item) (us : List Item) → z.meaning ≡ m.Symbol symbol.Semicolon → Below 11 (z ∷ us)
semicolon_below z us e = subst (λ (n : ℕ). 11 < n) (sym (ap rank e)) (omega arith)

pub begins : {ts : List Item} {d : ℕ} {es : List NamedFormula} → AreNamed ts d es → d ≤ 64 → 0 < length ts → Begins ts
begins no_entries h n = absurd (omega arith)
begins (last_entry x y cs ts d t e f p) h n = record {
  name = cs;
  body = ts;
  is_head = λ i. entry_head_by (e i) (f i) ts;
  seen = (t, d, []);
  is_tree = complete p 63 h tt;
  others = [];
  is_next = refl;
  depth = 0;
  entries = [];
  rest = no_entries;
  shallow = omega arith;
}
begins (further_entry x y cs ts d t z rest e es f g p k q) h n = record {
  name = cs;
  body = ts ++ z ∷ rest;
  is_head = λ i. entry_head_by (f i) (g i) (ts ++ z ∷ rest);
  seen = (t, d, z ∷ rest);
  is_tree = complete p 63 (omega arith) (semicolon_below z rest k);
  others = rest;
  is_next = ap (λ j. next_by j rest) k;
  depth = e;
  entries = es;
  rest = q;
  shallow = omega arith;
}

-- tokens that begin otherwise are refused
pub unless : (ts : List Item) → 0 < length ts → (Begins ts → ⊥) → AreDeeper 64 ts
unless ts n f d es p = above 64 d (λ h. f (begins p h n))

same_head : (ts : List Item) (cs : List ℕ) (body : List Item) → entry_head ts ≡ Some (cs, body) → (b : Begins ts) → b.body ≡ body
same_head ts cs body e b =
    let f : ◌≡◌ {A = Option (List ℕ × List Item)} (Some (b.name, b.body)) (Some (cs, body)) = sym b.is_head ∙ e in
    let g : ◌≡◌ {A = List ℕ × List Item} (b.name, b.body) (cs, body) = cc in
    ap (λ (z : List ℕ × List Item). z.1) g

same_tree : (ts : List Item) (cs : List ℕ) (body : List Item) (o : Option (Parsed Tree)) → entry_head ts ≡ Some (cs, body) → line_at 64 (Several join.Or) body ≡ o → (b : Begins ts) → o ≡ Some b.seen
same_tree ts cs body o e f b = sym f ∙ ap (line_at 64 (Several join.Or)) (sym (same_head ts cs body e b)) ∙ b.is_tree

pub no_tree : (ts : List Item) (cs : List ℕ) (body : List Item) → 0 < length ts → entry_head ts ≡ Some (cs, body) → line_at 64 (Several join.Or) body ≡ None → AreDeeper 64 ts
no_tree ts cs body n e f = unless ts n (λ b. let g = same_tree ts cs body None e f b in cc)

same_seen : (ts : List Item) (cs : List ℕ) (body : List Item) (s : Parsed Tree) → entry_head ts ≡ Some (cs, body) → line_at 64 (Several join.Or) body ≡ Some s → (b : Begins ts) → s ≡ b.seen
same_seen ts cs body s e f b = let g = same_tree ts cs body (Some s) e f b in cc

pub no_next : (ts : List Item) (cs : List ℕ) (body : List Item) (s : Parsed Tree) → 0 < length ts → entry_head ts ≡ Some (cs, body) → line_at 64 (Several join.Or) body ≡ Some s → next_of s.2 ≡ None → AreDeeper 64 ts
no_next ts cs body s n e f g = unless ts n (λ b. let k : Some b.others ≡ None = sym b.is_next ∙ ap (λ (z : Parsed Tree). next_of z.2) (sym (same_seen ts cs body s e f b)) ∙ g in cc)

pub others_deeper : (ts : List Item) (cs : List ℕ) (body : List Item) (s : Parsed Tree) (us : List Item) → 0 < length ts → entry_head ts ≡ Some (cs, body) → line_at 64 (Several join.Or) body ≡ Some s → next_of s.2 ≡ Some us → AreDeeper 64 us → AreDeeper 64 ts
others_deeper ts cs body s us n e f g h = unless ts n (λ b.
    let k : Some us ≡ Some b.others = sym g ∙ ap (λ (z : Parsed Tree). next_of z.2) (same_seen ts cs body s e f b) ∙ b.is_next in
    let j : us ≡ b.others = cc in
    let r : 64 < b.depth = subst (AreDeeper 64) j h b.depth b.entries b.rest in
    let l = b.shallow in omega arith)

-- what the tokens are that begin so
abbrev pub HeadIs : List Item → Option (List ℕ × List Item) → Type 0
HeadIs ts None = Unit {0}
HeadIs ts (Some h) = (x : Item) × (y : Item) × (ts ≡ x ∷ y ∷ h.1) × (x.meaning ≡ m.Name h.0) × (y.meaning ≡ m.Symbol symbol.Equal)

head_is_by : (x y : Item) (us : List Item) (j k : Meaning) → x.meaning ≡ j → y.meaning ≡ k → HeadIs (x ∷ y ∷ us) (entry_head_by j k us)
head_is_by x y us (m.Name cs) (m.Symbol symbol.Equal) e f = (x, y, refl, e, f)
head_is_by x y us _ _ e f = tt

head_is : (ts : List Item) → HeadIs ts (entry_head ts)
head_is [] = tt
head_is (x ∷ []) = tt
head_is (x ∷ y ∷ us) = head_is_by x y us x.meaning y.meaning refl refl

abbrev pub NextIs : List Item → Option (List Item) → Type 0
NextIs ts None = Unit {0}
NextIs [] (Some us) = us ≡ []
NextIs (x ∷ vs) (Some us) = (x.meaning ≡ m.Symbol symbol.Semicolon) × (us ≡ vs)

next_is_by : (x : Item) (us : List Item) (k : Meaning) → x.meaning ≡ k → NextIs (x ∷ us) (next_by k us)
next_is_by x us (m.Symbol symbol.Semicolon) e = (e, refl)
next_is_by x us _ e = tt

next_is : (ts : List Item) → NextIs ts (next_of ts)
next_is [] = refl
next_is (x ∷ us) = next_is_by x us x.meaning refl

-- no tokens are no named formulas
abbrev Empty : List Item → List NamedFormula → Type 0
Empty [] es = es ≡ []
Empty (x ∷ us) es = Unit {0}

empty : {ts : List Item} {d : ℕ} {es : List NamedFormula} → AreNamed ts d es → Empty ts es
empty no_entries = refl
empty (last_entry x y cs ts d t e f p) = tt
empty (further_entry x y cs ts d t z rest e es f g p k q) = tt

-- The tokens of the formula itself.
abbrev pub front : List Item → List Item → List Item
front body rest = take (length body - length rest) body

front_is : (body rest : List Item) → Suffix body rest → body ≡ front body rest ++ rest
front_is body rest s =
    let l = ap length s.joined in
    let n : length body - length rest ≡ length s.front = omega (arith, length-append s.front rest) in
    let f : front body rest ≡ s.front = (λ i. take (n i) (s.joined i)) ∙ take_at s.front rest (length s.front) refl in
    s.joined ∙ ap (λ xs. xs ++ rest) (sym f)

onward_by : (x y : Item) (cs : List ℕ) (ts : List Item) (d : ℕ) (t : Tree) (rest us : List Item) (es : List NamedFormula) → x.meaning ≡ m.Name cs → y.meaning ≡ m.Symbol symbol.Equal → d ≤ 64 → Parses (Several join.Or) d (ts ++ rest) t rest
    → NextIs rest (Some us) → AreEntriesOf 64 us es → AreEntriesOf 64 (x ∷ y ∷ (ts ++ rest)) (named_formula cs ts t ∷ es)
onward_by x y cs ts d t [] us es e f h p n q =
    let none : es ≡ [] = empty (subst (λ (vs : List Item). AreNamed vs q.0 es) n q.2) in
    let g : ts ++ [] ≡ ts = append-nil ts in
    let r : AreNamed (x ∷ y ∷ ts) d (named_formula cs ts t ∷ []) = last_entry x y cs ts d t e f (subst (λ (vs : List Item). Parses (Several join.Or) d vs t []) g p) in
    (d, h, subst (λ (vs : List Item). AreNamed (x ∷ y ∷ vs) d (named_formula cs ts t ∷ es)) (sym g) (subst (λ (fs : List NamedFormula). AreNamed (x ∷ y ∷ ts) d (named_formula cs ts t ∷ fs)) (sym none) r))
onward_by x y cs ts d t (z ∷ vs) us es e f h p n q =
    let l = q.1 in
    (max d q.0, omega arith, further_entry x y cs ts d t z vs q.0 es e f p n.0 (subst (λ (ws : List Item). AreNamed ws q.0 es) n.1 q.2))

pub head_shape : (ts : List Item) (cs : List ℕ) (body : List Item) → entry_head ts ≡ Some (cs, body) → HeadIs ts (Some (cs, body))
head_shape ts cs body e = subst (HeadIs ts) e (head_is ts)

pub next_shape : (ts us : List Item) → next_of ts ≡ Some us → NextIs ts (Some us)
next_shape ts us e = subst (NextIs ts) e (next_is ts)

read_is : (body : List Item) (s : Parsed Tree) → line_at 64 (Several join.Or) body ≡ Some s → Is (Several join.Or) 64 body s
read_is body s e = subst (Kept (Is (Several join.Or) 64 body)) e (reads 64 (Several join.Or) body)

pub front_joins : (body : List Item) (s : Parsed Tree) → line_at 64 (Several join.Or) body ≡ Some s → body ≡ front body s.2 ++ s.2
front_joins body s e = front_is body s.2 (suffix (read_is body s e).0)

onward : (ts : List Item) (cs : List ℕ) (body : List Item) (s : Parsed Tree) (us : List Item) → entry_head ts ≡ Some (cs, body) → line_at 64 (Several join.Or) body ≡ Some s → next_of s.2 ≡ Some us
    → (es : List NamedFormula) → AreEntriesOf 64 us es → AreEntriesOf 64 ts (named_formula cs (front body s.2) s.0 ∷ es)
onward ts cs body s us e f g es q =
    let h = head_shape ts cs body e in
    let n = next_shape s.2 us g in
    let p = read_is body s f in
    let k = front_joins body s f in
    let r = onward_by h.0 h.1 cs (front body s.2) s.1 s.0 s.2 us es h.3 h.4 p.1 (subst (λ (vs : List Item). Parses (Several join.Or) s.1 vs s.0 s.2) k p.0) n q in
    subst (λ (vs : List Item). AreEntriesOf 64 vs (named_formula cs (front body s.2) s.0 ∷ es)) (ap (λ (vs : List Item). h.0 ∷ h.1 ∷ vs) (sym k) ∙ sym h.2) r

pub first_is : (source : List ℕ) (ts : List Item) (cs : List ℕ) (body : List Item) (s : Parsed Tree) (us : List Item) (n : Named) → 0 < length ts → entry_head ts ≡ Some (cs, body) → line_at 64 (Several join.Or) body ≡ Some s → next_of s.2 ≡ Some us
    → n ≡ named_of source (named_formula cs (front body s.2) s.0) → IsFirstFormula source ts n us
first_is source ts cs body s us n l e f g i = record { entry = named_formula cs (front body s.2) s.0; is_it = i; onward = onward ts cs body s us e f g; refuse = others_deeper ts cs body s us l e f g }

pub named_is : (source ds cs text : List ℕ) (at : ℕ) (t : Tree) (ts : List Item) → ds ≡ cs → at ≡ first_byte ts → text ≡ chars (slice_range source (first_byte ts) (end ts)) → ◌≡◌ {A = Named} (record { name = ds; at = at; text = text; expr = t }) (named_of source (named_formula cs ts t))
named_is source ds cs text at t ts e f g = λ i. record { name = e i; at = f i; text = g i; expr = t }

abbrev pub itself : Tree × ℕ × Bor (List Item) → Parsed Tree
itself x = (x.0, x.1, x.2.now)

pub refused_line : (ts : List Item) (cs : List ℕ) (body : List Item) (e : End) → 0 < length ts → entry_head ts ≡ Some (cs, body) → ParserAnswers itself (Err e) (line_at 64 (Several join.Or) body) → AreTooDeep ts e
refused_line ts cs body Refused n h f = no_tree ts cs body n h f
refused_line ts cs body Memory n h f = tt

shorter_by : (ts us : List Item) → NextIs ts (Some us) → length us ≤ length ts
shorter_by [] us h = let e = ap length h in omega arith
shorter_by (x ∷ vs) us h = let e = ap length h.1 in omega arith

pub next_shorter : (ts us : List Item) → next_of ts ≡ Some us → length us ≤ length ts
next_shorter ts us e = shorter_by ts us (next_shape ts us e)

pub end_last : (xs : List Item) (d : Item) → 0 < length xs → (get_or xs (length xs - 1) d).upto ≡ end xs
end_last [] d h = absurd (omega arith)
end_last (x ∷ []) d h = refl
end_last (x ∷ y ∷ us) d h =
    let e : length (x ∷ y ∷ us) - 1 ≡ suc (length (y ∷ us) - 1) = omega arith in
    ap (λ i. (get_or (x ∷ y ∷ us) i d).upto) e ∙ end_last (y ∷ us) d (omega arith)

-- What was read so far: these named formulas, behind which the rest is to be read.
pub record SoFar (source : List ℕ) (ts : List Item) (found : List Named) (rest : List Item) : Type 0 where
  pub entries : List NamedFormula
  pub seen : found ≡ map (named_of source) entries
  pub onward : (es : List NamedFormula) → AreEntriesOf 64 rest es → AreEntriesOf 64 ts (entries ++ es)
  pub refuse : AreDeeper 64 rest → AreDeeper 64 ts

pub go_on : (source : List ℕ) (ts : List Item) (found more_found : List Named) (rest others : List Item) (n : Named) → SoFar source ts found rest → IsFirstFormula source rest n others → more_found ≡ found ++ n ∷ [] → SoFar source ts more_found others
go_on source ts found more_found rest others n s f e = record {
  entries = s.entries ++ f.entry ∷ [];
  seen = e ∙ (λ i. s.seen i ++ f.is_it i ∷ []) ∙ sym (map-append (named_of source) s.entries (f.entry ∷ []));
  onward = λ es h. subst (λ (fs : List NamedFormula). AreEntriesOf 64 ts fs) (sym (append_assoc s.entries (f.entry ∷ []) es)) (s.onward (f.entry ∷ es) (f.onward es h));
  refuse = λ h. s.refuse (f.refuse h);
}

pub done : (source : List ℕ) (ts : List Item) (found : List Named) (rest : List Item) → SoFar source ts found rest → length rest ≡ 0 → AreThese source ts found
done source ts found [] s e = record { entries = s.entries; are = subst (λ (fs : List NamedFormula). AreEntriesOf 64 ts fs) (append-nil s.entries) (s.onward [] (0, omega arith, no_entries)); seen = s.seen }
done source ts found (x ∷ us) s e = absurd (omega arith)
