-- Of a file or a text that is refused the same breaks are told.
use Rattle.std.proofs.Common.{inl, inr, ◌≡◌, ℕ, suc, ◌<◌, ◌≤◌, ◌++◌, ◌==◌, List, [], ◌∷◌, codes, length, take, drop, map, option_map, Result, Ok, Err, refl, ap, sym, subst, ◌∙◌, arith, append_assoc, take-append-drop, if◌then◌else◌}
use Rattle.std.proofs.lemmas.Bool.{cases_lt}
use Rattle.std.proofs.lemmas.List.{length-take-le, take-take}
use Rattle.std.specs.Prelude.{encode_utf8_all}
use Rattle.std.specs.Str.{chars}
use Rattle.fx_types.specs.TypeView.{shape}
use Rattle.fx_types.specs.Types.{Shape}
use Rattle.fx_grammar.proofs.Meanings.{one_items}
use Rattle.fx_grammar.specs.declared.item.Item.{Item}
use Rattle.fx_lexer.proofs.Readings.{bad_one}
use Rattle.fx_lexer.specs.declared.token.LexErr.{LexErr}
use Rattle.fx_parser.specs.Details.{bad_token_words, unexpected_words}
use Rattle.fx_parser.specs.Texts.{IsEnd, IsSyntaxAt, place_or}
use Rattle.fx_parser.specs.Trees.{Stops}
use Rattle.fx_parser.specs.declared.end.ParseEnd.{ParseEnd}
use Rattle.fx_parser.specs.declared.end.ParseEnd.TheVariants.{Lex, Syntax, TooDeep, Memory}
use Rattle.fx_core.specs.Rules.{rule_number}
use Rattle.fx_core.specs.Term.{Term}
use Rattle.fx_core.specs.declared.broken.Broken.{Broken}
use Rattle.fx_core.specs.declared.names.Names.{Names}
use Rattle.fx_core.specs.declared.rule.Rule.{Rule}
use Rattle.fx_core.specs.declared.rule.Rule.TheVariants as rule
use Rattle.fx_typing.specs.Details.{IsToldBrokenWhole}
use Rattle.fx_typing.specs.Rounds.{AreFinalTypes, StillChanges}
use Rattle.serde_json.specs.Data.{Data}
use Rattle.app_file.proofs.Verdicts.{one_value, one_value_break}
use Rattle.app_file.specs.Files.{IsBadPart, IsOneBreak, IsOneReading, broken_of}
use Rattle.app_file.specs.declared.breaks.FileBreak.{FileBreak}
use Rattle.app_file.specs.declared.breaks.FileBreak.TheVariants as why
use Rattle.app_file.specs.declared.file.AppFile.{AppFile}
use Rattle.app_cells.specs.declared.app.App.{App}
use Rattle.app_cells.specs.declared.app.CellInfo.{CellInfo}
use Rattle.app_cells.specs.declared.cell.Cell.{Cell}
use Rattle.app_cells.specs.declared.frame.Frame.{Frame}
use Rattle.app_cells.specs.Spots.{address}
use Rattle.app_names.specs.AppNames.{AreNamesOf}
use Rattle.app_names.specs.NameRules.{in_app, name_breaks}
use Rattle.app_texts.specs.declared.file_texts.Text.{Text}
use Rattle.app_texts.specs.Files.{file_frame, formula_texts}
use Rattle.app_texts.specs.Texts.{AreFormulasOf, AreNamedAt, AreReadAt, IsNamedReading, IsReading, IsToldOfText, bare_frame, broken, formulas, in_text, named_broken, named_formulas}
use Rattle.app_loader.specs.Admitted.{AreRefused, Breaks, in_cell}
use Rattle.app_loader.specs.Cells.{round_cell, judged_cell, cell_place}
use Rattle.app_loader.specs.JudgedFormulas.{AreSettled, JudgedCells, app, cyclic, refused, unsettled, unsettling}
use Rattle.app_loader.specs.Judged as judge
use Rattle.app_loader.specs.Judged.{Judged, JudgedApp, JudgedFile, JudgedFormulas, JudgedText, JudgedValue, misnamed, named, no_text, text, too_long}
use Rattle.app_loader.specs.Verdicts.{AreSameBreaks, IsOneRefusalOfAFile, IsOneRefusalOfAText, IsOneRefusalOfAValue, IsSameBreak, bad_part, circle, same, too_deep}
use Rattle.app_loader.proofs.Functions.{breaks_alike}
use Rattle.app_loader.proofs.OneInfos.{judged_at, none_refused}
use Rattle.app_loader.proofs.OneReading.{named_reading_one, not_both, not_both_named, reading_one}
use Rattle.app_loader.proofs.OneText.{lexed_of}
use Rattle.app_loader.proofs.OneVerdict.{held_same, not_held, not_read, read_same, some_broken}
use Rattle.app_loader.proofs.Rounds.{AreAlike, final_names, functions_at, settles_alike}
use Rattle.app_loader.proofs.Singles.{named_parts, reading_parts}
use Rattle.app_loader.proofs.Told.{whole_once, whole_told_alike}

-- ---- breaks that are one are the same
pub from_equal : (b c : Broken) → b ≡ c → IsSameBreak b c
from_equal b c e = subst (IsSameBreak b) e (same b)

all_same : (bs : List Broken) → AreSameBreaks bs bs
all_same [] = tt
all_same (b ∷ bs) = (same b, all_same bs)

all_equal : (bs cs : List Broken) → bs ≡ cs → AreSameBreaks bs cs
all_equal bs cs e = subst (AreSameBreaks bs) e (all_same bs)

same_behind : (as_one as_other bs cs : List Broken) → AreSameBreaks as_one as_other → AreSameBreaks bs cs → AreSameBreaks (as_one ++ bs) (as_other ++ cs)
same_behind [] [] bs cs h k = k
same_behind [] (y ∷ ys) bs cs h k = absurd h
same_behind (x ∷ xs) [] bs cs h k = absurd h
same_behind (x ∷ xs) (y ∷ ys) bs cs h k = (h.0, same_behind xs ys bs cs h.1 k)

-- ---- texts that are no formulas
-- tokens stop at one place
no_later : (P : List Item → Type 0) (xs : List Item) (i j : ℕ) → Stops P xs i → Stops P xs j → i < j → ⊥
no_later P xs i j a b less =
    let w = b.within in
    let long : suc i ≤ length (take j xs) = omega (arith, length-take-le j xs w) in
    let parts : take (suc i) xs ++ drop (suc i) (take j xs) ≡ take j xs = ap (λ us. us ++ drop (suc i) (take j xs)) (sym (take-take (suc i) j xs (omega arith))) ∙ take-append-drop (suc i) (take j xs) in
    a.never (omega arith) (drop (suc i) (take j xs) ++ b.before.0)
    (subst P (ap (λ us. us ++ b.before.0) (sym parts) ∙ append_assoc (take (suc i) xs) (drop (suc i) (take j xs)) b.before.0) b.before.1)

one_stop : (P : List Item → Type 0) (xs : List Item) (i j : ℕ) → Stops P xs i → Stops P xs j → i ≡ j
one_stop P xs i j a b = elim (cases_lt i j) [
  | inl less ↦ absurd (no_later P xs i j a b less)
  | inr more ↦ elim (cases_lt j i) [
    | inl less ↦ absurd (no_later P xs j i b a less)
    | inr equal ↦ omega arith
  ]
]

syntax_one : (P : List Item → Type 0) (xs : List Item) (end at bt : ℕ) → IsSyntaxAt P xs end at → IsSyntaxAt P xs end bt → at ≡ bt
syntax_one P xs end at bt a b = a.begins ∙ ap (λ i. place_or end (drop i xs)) (one_stop P xs a.place b.place a.stops b.stops) ∙ sym b.begins

pub ends_same : (P Deeper : List Item → Type 0) (cell source : List ℕ) (e g : ParseEnd) (b c : Broken) → IsEnd P Deeper source e → IsEnd P Deeper source g → IsToldOfText cell source e b → IsToldOfText cell source g c → IsSameBreak b c
ends_same P Deeper cell source (Lex x) (Lex y) b c p q s t =
    let one = bad_one (chars source) x y p.0 q.0 in
    from_equal b c (s ∙ ap (λ (z : LexErr). in_text cell rule.BadToken z.at (bad_token_words z.what)) one ∙ sym t)
ends_same P Deeper cell source (Lex x) (Syntax bt) b c p q s t = let l = lexed_of source q.0 q.1 in absurd (p.1 l.0 l.1)
ends_same P Deeper cell source (Lex x) (TooDeep bt) b c p q s t = let l = lexed_of source q.0 q.1 in absurd (p.1 l.0 l.1)
ends_same P Deeper cell source (Syntax at) (Lex y) b c p q s t = let l = lexed_of source p.0 p.1 in absurd (q.1 l.0 l.1)
ends_same P Deeper cell source (Syntax at) (Syntax bt) b c p q s t =
    let items = one_items (chars source) p.0 q.0 p.1 q.1 in
    let places = syntax_one P q.0 (length source) at bt (subst (λ xs. IsSyntaxAt P xs (length source) at) items p.2) q.2 in
    let l = lexed_of source q.0 q.1 in
    from_equal b c (s l.0 l.1 ∙ ap (λ (i : ℕ). in_text cell rule.Syntax i (unexpected_words source i l.0)) places ∙ sym (t l.0 l.1))
ends_same P Deeper cell source (Syntax at) (TooDeep bt) b c p q s t =
    let items = one_items (chars source) p.0 q.0 p.1 q.1 in absurd (p.2.stops.none (subst P (sym items) q.2.has_tree))
ends_same P Deeper cell source (TooDeep at) (Lex y) b c p q s t = let l = lexed_of source p.0 p.1 in absurd (q.1 l.0 l.1)
ends_same P Deeper cell source (TooDeep at) (Syntax bt) b c p q s t =
    let items = one_items (chars source) p.0 q.0 p.1 q.1 in absurd (q.2.stops.none (subst P items p.2.has_tree))
ends_same P Deeper cell source (TooDeep at) (TooDeep bt) b c p q s t =
    subst (λ (z : Broken). IsSameBreak z c) (sym s) (subst (IsSameBreak (in_text cell rule.TooDeep at (codes "deeper than 64"))) (sym t) (too_deep (in_text cell rule.TooDeep at (codes "deeper than 64")) bt refl))
ends_same P Deeper cell source Memory g b c p q s t = absurd s
ends_same P Deeper cell source e Memory b c p q s t = absurd t

read_same_breaks : (f : Frame) (ts : List Text) (cs ds : List Cell) (bs es : List Broken) → AreReadAt f ts cs bs → AreReadAt f ts ds es → AreSameBreaks bs es
read_same_breaks f [] cs ds bs es h k = all_equal bs es (h.1 ∙ sym k.1)
read_same_breaks f (t ∷ ts) cs ds bs es (inl h) (inl k) = read_same_breaks f ts h.1 k.1 bs es h.4 k.4
read_same_breaks f (t ∷ ts) cs ds bs es (inl h) (inr k) = absurd (not_both f t.spot t.text h.0 k.0 h.3 k.3)
read_same_breaks f (t ∷ ts) cs ds bs es (inr h) (inl k) = absurd (not_both f t.spot t.text k.0 h.0 k.3 h.3)
read_same_breaks f (t ∷ ts) cs ds bs es (inr h) (inr k) =
    let first = ends_same _ _ (address f t.spot) (encode_utf8_all t.text) h.3.end k.3.end h.0 k.0 h.3.ends k.3.ends h.3.told k.3.told in
    let others = read_same_breaks f ts cs ds h.1 k.1 h.4 k.4 in
    subst (λ (xs : List Broken). AreSameBreaks xs es) (sym h.2) (subst (AreSameBreaks (h.0 ∷ h.1)) (sym k.2) (first, others))

named_same_breaks : (f : Frame) (source : List ℕ) (cs ds : List Cell) (bs es : List Broken) → AreNamedAt f source cs bs → AreNamedAt f source ds es → AreSameBreaks bs es
named_same_breaks f source cs ds bs es (inl h) (inl k) = all_equal bs es (h.3 ∙ sym k.3)
named_same_breaks f source cs ds bs es (inl h) (inr k) = absurd (not_both_named (codes "App.Formulas") source h.0 k.0 h.1 k.1)
named_same_breaks f source cs ds bs es (inr h) (inl k) = absurd (not_both_named (codes "App.Formulas") source k.0 h.0 k.1 h.1)
named_same_breaks f source cs ds bs es (inr h) (inr k) =
    let first = ends_same _ _ (codes "App.Formulas") source h.1.end k.1.end h.0 k.0 h.1.ends k.1.ends h.1.told k.1.told in
    subst (λ (xs : List Broken). AreSameBreaks xs es) (sym h.3) (subst (AreSameBreaks (h.0 ∷ [])) (sym k.3) (first, tt))

file_same_breaks : (a : AppFile) (f : Frame) (cs ds : List Cell) (bs es : List Broken) → AreFormulasOf a f cs bs → AreFormulasOf a f ds es → AreSameBreaks bs es
file_same_breaks a f cs ds bs es h k =
    let first = named_same_breaks f (encode_utf8_all a.formulas) h.named_cells k.named_cells h.named_breaks k.named_breaks h.named k.named in
    let others = read_same_breaks f (formula_texts a) h.other_cells k.other_cells h.other_breaks k.other_breaks h.others k.others in
    subst (λ (xs : List Broken). AreSameBreaks xs es) (sym h.breaks)
    (subst (AreSameBreaks (h.named_breaks ++ h.other_breaks)) (sym k.breaks) (same_behind h.named_breaks k.named_breaks h.other_breaks k.other_breaks first others))

-- ---- breaks of formulas
-- the rule of a number
rule_at : ℕ → Rule
rule_at k =
    if k == 1 then rule.BadToken
    else (if k == 2 then rule.Syntax
    else (if k == 3 then rule.TooDeep
    else (if k == 4 then rule.UnknownName
    else (if k == 5 then rule.NameTwice
    else (if k == 6 then rule.WrongType
    else (if k == 7 then rule.WrongCount
    else (if k == 8 then rule.NoFunction
    else (if k == 9 then rule.BehaviourInPure
    else (if k == 10 then rule.Cycle
    else (if k == 11 then rule.VariableTypes
    else (if k == 12 then rule.UnknownColumn
    else (if k == 13 then rule.LimitPassed
    else (if k == 14 then rule.BadShape
    else (if k == 15 then rule.NotAVariable
    else (if k == 16 then rule.NotBuilt else rule.Recursion)))))))))))))))

numbered : (r : Rule) → rule_at (rule_number r) ≡ r
unfolding rule_at
numbered rule.BadToken = refl
numbered rule.Syntax = refl
numbered rule.TooDeep = refl
numbered rule.UnknownName = refl
numbered rule.NameTwice = refl
numbered rule.WrongType = refl
numbered rule.WrongCount = refl
numbered rule.NoFunction = refl
numbered rule.BehaviourInPure = refl
numbered rule.Cycle = refl
numbered rule.VariableTypes = refl
numbered rule.UnknownColumn = refl
numbered rule.LimitPassed = refl
numbered rule.BadShape = refl
numbered rule.NotAVariable = refl
numbered rule.NotBuilt = refl
numbered rule.Recursion = refl

rule_one : (r q : Rule) → rule_number r ≡ rule_number q → r ≡ q
rule_one r q e = sym (numbered r) ∙ ap rule_at e ∙ numbered q

-- what is broken is broken at one place by one rule
one_break : (r q : Result (Term × Shape) (ℕ × ℕ)) (w v : ℕ × ℕ) → r ≡ q → r ≡ Err w → q ≡ Err v → w ≡ v
one_break r q w v e x y = let both : ◌≡◌ {A = Result (Term × Shape) (ℕ × ℕ)} (Err w) (Err v) = sym x ∙ e ∙ y in cc

no_break : (x : Term × Shape) (w : ℕ × ℕ) (r q : Result (Term × Shape) (ℕ × ℕ)) → r ≡ q → r ≡ Ok x → q ≡ Err w → ⊥
no_break x w r q e y z = let both : ◌≡◌ {A = Result (Term × Shape) (ℕ × ℕ)} (Ok x) (Err w) = sym y ∙ e ∙ z in cc

-- names that differ in the place of the table of functions alone
module _ (m k : Names) (e : k ≡ functions_at m k.signatures) (alike : AreAlike k.signatures m.signatures) where
  told_at : (c : Cell) (w r : ℕ) (said : List ℕ) → IsToldBrokenWhole (cell_place k c) c.acts (option_map shape c.wanted) c.expr w r said → IsToldBrokenWhole (cell_place m c) c.acts (option_map shape c.wanted) c.expr w r said
  told_at c w r said x =
      whole_told_alike m k.signatures m.signatures alike c.screen c.item c.acts (option_map shape c.wanted) c.expr w r said
      (subst (λ (z : Names). IsToldBrokenWhole (cell_place z c) c.acts (option_map shape c.wanted) c.expr w r said) e x)

  break_one : (c : Cell) (b d : Broken) → Breaks m c b → Breaks k c d → b ≡ d
  break_one c b d x y =
      let place : ◌≡◌ {A = ℕ × ℕ} (x.1, rule_number x.0) (y.1, rule_number y.0) =
      one_break (judged_cell m c) (judged_cell k c) (x.1, rule_number x.0) (y.1, rule_number y.0) (sym (judged_at m k e alike c)) x.3 y.3 in
      let at : x.1 ≡ y.1 = ap (λ (w : ℕ × ℕ). w.0) place in
      let number : rule_number x.0 ≡ rule_number y.0 = ap (λ (w : ℕ × ℕ). w.1) place in
      let told : IsToldBrokenWhole (cell_place m c) c.acts (option_map shape c.wanted) c.expr y.1 (rule_number y.0) x.2 =
      subst (λ (w : ℕ × ℕ). IsToldBrokenWhole (cell_place m c) c.acts (option_map shape c.wanted) c.expr w.0 w.1 x.2) place x.4 in
      let said : x.2 ≡ y.2 = whole_once (cell_place m c) c.acts (option_map shape c.wanted) c.expr y.1 (rule_number y.0) x.2 y.2 told (told_at c y.1 (rule_number y.0) y.2 y.4) in
      x.5 ∙ (λ i. in_cell c (rule_one x.0 y.0 number i) (at i) (said i)) ∙ sym y.5

  refused_one : (cs : List Cell) (bs ds : List Broken) → AreRefused m cs bs → AreRefused k cs ds → bs ≡ ds
  refused_one [] bs ds x y = x ∙ sym y
  refused_one (c ∷ cs) bs ds (inl x) (inl y) = refused_one cs bs ds x.1 y.1
  refused_one (c ∷ cs) bs ds (inl x) (inr y) = absurd (no_break x.0.0 (y.3.1, rule_number y.3.0) (judged_cell m c) (judged_cell k c) (sym (judged_at m k e alike c)) x.0.1 y.3.3)
  refused_one (c ∷ cs) bs ds (inr x) (inl y) = absurd (no_break y.0.0 (x.3.1, rule_number x.3.0) (judged_cell k c) (judged_cell m c) (judged_at m k e alike c) y.0.1 x.3.3)
  refused_one (c ∷ cs) bs ds (inr x) (inr y) =
      let first = break_one c x.0 y.0 x.3 y.3 in
      let others = refused_one cs x.1 y.1 x.4 y.4 in
      x.2 ∙ (λ i. first i ∷ others i) ∙ sym y.2

-- ---- stages
-- two refusals tell the same
abbrev pub SameRefusal : Result App (List Broken) → Result App (List Broken) → Type 0
SameRefusal (Ok a) w = Unit {0}
SameRefusal (Err bs) (Ok a) = Unit {0}
SameRefusal (Err bs) (Err cs) = AreSameBreaks bs cs

no_refusal : (v : Result App (List Broken)) (a : App) → SameRefusal v (Ok a)
no_refusal (Ok b) a = tt
no_refusal (Err bs) a = tt

module _ (f : Frame) (cells : List Cell) (n k : Names) (x : AreNamesOf f cells n) (y : AreNamesOf f cells k) where
  never_settles : (m : Names) → StillChanges (map round_cell cells) n → AreFinalTypes (map round_cell cells) k m → ⊥
  never_settles m still final = settles_alike f (map round_cell cells) cells k n m y x final still

  one_names : (m l : Names) → AreFinalTypes (map round_cell cells) n m → AreFinalTypes (map round_cell cells) k l → (l ≡ functions_at m l.signatures) × AreAlike l.signatures m.signatures
  one_names m l s t = final_names f (map round_cell cells) cells n k m l x y s t

  both_refused : (m l : Names) (bs ds : List Broken) → AreFinalTypes (map round_cell cells) n m → AreFinalTypes (map round_cell cells) k l → AreRefused m cells bs → AreRefused l cells ds → bs ≡ ds
  both_refused m l bs ds s t p q = let one = one_names m l s t in refused_one m l one.0 one.1 cells bs ds p q

  settled_first : (most : ℕ) (m l : Names) (is : List CellInfo) (b : Broken) (bs : List Broken) → AreSettled n most cells m is → AreFinalTypes (map round_cell cells) k l → AreRefused l cells (b ∷ bs) → ⊥
  settled_first most m l is b bs s t q =
      let one = one_names m l s.final t in some_broken b bs (b ∷ bs) refl (none_refused m l one.0 one.1 most cells is (b ∷ bs) s.elaborated q)

cells_same : {n k : Names} {limit : ℕ} {cells : List Cell} {v w : Result App (List Broken)} → JudgedCells n limit cells v → JudgedCells k limit cells w → (f : Frame) → AreNamesOf f cells n → AreNamesOf f cells k → SameRefusal v w
cells_same (app n limit cells a p) q f x y = tt
cells_same {v = v} p (app k _ _ a q) f x y = no_refusal v a
cells_same (unsettling n limit cells p) (unsettling k _ _ q) f x y = all_same (unsettled ∷ [])
cells_same (unsettling n limit cells p) (refused k _ _ l d ds t q) f x y = absurd (never_settles f cells n k x y l p t)
cells_same (unsettling n limit cells p) (cyclic k _ _ l js d t q) f x y = absurd (never_settles f cells n k x y l p t.final)
cells_same (refused n limit cells m b bs s p) (unsettling k _ _ q) f x y = absurd (never_settles f cells k n y x m q s)
cells_same (refused n limit cells m b bs s p) (refused k _ _ l d ds t q) f x y = all_equal (b ∷ bs) (d ∷ ds) (both_refused f cells n k x y m l (b ∷ bs) (d ∷ ds) s t p q)
cells_same (refused n limit cells m b bs s p) (cyclic k _ _ l js d t q) f x y = absurd (settled_first f cells k n y x limit l m js b bs t s p)
cells_same (cyclic n limit cells m is b s p) (unsettling k _ _ q) f x y = absurd (never_settles f cells k n y x m q s.final)
cells_same (cyclic n limit cells m is b s p) (refused k _ _ l d ds t q) f x y = absurd (settled_first f cells n k x y limit m l is d ds s t q)
cells_same (cyclic n limit cells m is b s p) (cyclic k _ _ l js d t q) f x y = (circle b d (ap (λ (z : Broken). z.rule) p.2) (ap (λ (z : Broken). z.rule) q.2), tt)

pub formulas_same : {f : Frame} {cells : List Cell} {v w : Result App (List Broken)} → JudgedFormulas f cells v → JudgedFormulas f cells w → SameRefusal v w
formulas_same (misnamed f cells ss b bs e p) (misnamed _ _ rs d ds g q) = all_equal (b ∷ bs) (d ∷ ds) (sym p ∙ breaks_alike ss rs (e ∙ sym g) f cells ∙ q)
formulas_same (misnamed f cells ss b bs e p) (named _ _ k w x q) =
    absurd (some_broken b bs (name_breaks ss f cells) p (breaks_alike ss k.signatures.now (e ∙ sym x.named.signatures) f cells ∙ x.unbroken))
formulas_same (named f cells n v x p) (misnamed _ _ rs d ds g q) =
    absurd (some_broken d ds (name_breaks rs f cells) q (breaks_alike rs n.signatures.now (g ∙ sym x.named.signatures) f cells ∙ x.unbroken))
formulas_same (named f cells n v x p) (named _ _ k w y q) = cells_same p q f x.named y.named

-- ---- what a file holds
abbrev IfBroken : AppFile → Result (Frame × List Cell) (List Broken) → Type 0
IfBroken a (Ok r) = Unit {0}
IfBroken a (Err bs) = (cs : List Cell) × AreFormulasOf a (file_frame a) cs bs

broken_parts : {a : AppFile} {v : Result (Frame × List Cell) (List Broken)} → IsReading a v → IfBroken a v
broken_parts (formulas cs h) = tt
broken_parts (broken cs b bs h) = (cs, h)

file_same : {a : AppFile} {v w : Result App (List Broken)} → JudgedFile a v → JudgedFile a w → SameRefusal v w
file_same (judge.unparsed a bs p) (judge.unparsed _ cs q) = let x = broken_parts p in let y = broken_parts q in file_same_breaks a (file_frame a) x.0 y.0 bs cs x.1 y.1
file_same (judge.unparsed a bs p) (judge.parsed _ f cells w q j) = let y = reading_parts q in absurd (not_read (f, cells) bs (reading_one p f cells y.0 y.1))
file_same (judge.parsed a f cells v p j) (judge.unparsed _ cs q) = let x = reading_parts p in absurd (not_read (f, cells) cs (reading_one q f cells x.0 x.1))
file_same {w = w} (judge.parsed a f cells v p j) (judge.parsed _ g others _ q k) =
    let x = reading_parts p in
    let one : ◌≡◌ {A = Frame × List Cell} (g, others) (f, cells) = read_same (g, others) (f, cells) (reading_one q f cells x.0 x.1) in
    formulas_same j (subst (λ (z : Frame × List Cell). JudgedFormulas z.0 z.1 w) one k)

-- ---- files
told_same : (b c : FileBreak) → b ≡ c → AreSameBreaks (broken_of b ∷ []) (broken_of c ∷ [])
told_same b c e = (from_equal (broken_of b) (broken_of c) (ap broken_of e), tt)

parts_same : (b c : FileBreak) → IsBadPart b → IsBadPart c → AreSameBreaks (broken_of b ∷ []) (broken_of c ∷ [])
parts_same (why.BadPart p) (why.BadPart q) h k = (bad_part (broken_of (why.BadPart p)) q refl, tt)
parts_same (why.BadPart p) c h k = absurd k
parts_same b c h k = absurd h

app_same : IsOneReading → IsOneBreak → {file : List ℕ} {v w : Result App (List Broken)} → JudgedApp file v → JudgedApp file w → SameRefusal v w
app_same law one (judge.unread file b p) (judge.unread _ c q) = elim (one file b c p q) [ inl e ↦ told_same b c e | inr h ↦ parts_same b c h.0 h.1 ]
app_same law one (judge.unread file b p) (judge.read _ a w q j) = absurd (not_held a b (law file a (Err b) q p))
app_same law one (judge.read file a v p j) (judge.unread _ c q) = absurd (not_held a c (law file a (Err c) p q))
app_same law one {w = w} (judge.read file a v p j) (judge.read _ b _ q k) =
    let e : b ≡ a = held_same b a (law file a (Ok b) p q) in
    file_same j (subst (λ (z : AppFile). JudgedFile z w) e k)

pub one_refusal_of_a_file : IsOneReading → IsOneBreak → IsOneRefusalOfAFile
one_refusal_of_a_file law one file bs cs p q = app_same law one p q

-- ---- JSON
value_same : {root : Data} {v w : Result App (List Broken)} → JudgedValue root v → JudgedValue root w → SameRefusal v w
value_same (judge.unread_value root b p) (judge.unread_value _ c q) = elim (one_value_break root b c p q) [ inl e ↦ told_same b c e | inr h ↦ parts_same b c h.0 h.1 ]
value_same (judge.unread_value root b p) (judge.read_value _ a w q j) = absurd (not_held a b (one_value root a (Err b) q p))
value_same (judge.read_value root a v p j) (judge.unread_value _ c q) = absurd (not_held a c (one_value root a (Err c) p q))
value_same {w = w} (judge.read_value root a v p j) (judge.read_value _ b _ q k) =
    let e : b ≡ a = held_same b a (one_value root a (Ok b) p q) in
    file_same j (subst (λ (z : AppFile). JudgedFile z w) e k)

pub one_refusal_of_a_value : IsOneRefusalOfAValue
one_refusal_of_a_value root bs cs p q = value_same p q

-- ---- texts of named formulas
abbrev IfUnnamed : List ℕ → Result (Frame × List Cell) (List Broken) → Type 0
IfUnnamed source (Ok r) = Unit {0}
IfUnnamed source (Err bs) = (cs : List Cell) × AreNamedAt bare_frame source cs bs

unnamed_parts : {source : List ℕ} {v : Result (Frame × List Cell) (List Broken)} → IsNamedReading source v → IfUnnamed source v
unnamed_parts (named_formulas cs h) = tt
unnamed_parts (named_broken cs b bs h) = (cs, h)

text_same : {source : List ℕ} {v w : Result App (List Broken)} → JudgedText source v → JudgedText source w → SameRefusal v w
text_same (judge.unparsed source bs p) (judge.unparsed _ cs q) = let x = unnamed_parts p in let y = unnamed_parts q in named_same_breaks bare_frame source x.0 y.0 bs cs x.1 y.1
text_same (judge.unparsed source bs p) (judge.parsed _ f cells w q j) = let y = named_parts q in absurd (not_read (f, cells) bs (named_reading_one p f cells y.0 y.1))
text_same (judge.parsed source f cells v p j) (judge.unparsed _ cs q) = let x = named_parts p in absurd (not_read (f, cells) cs (named_reading_one q f cells x.0 x.1))
text_same {w = w} (judge.parsed source f cells v p j) (judge.parsed _ g others _ q k) =
    let x = named_parts p in
    let one : ◌≡◌ {A = Frame × List Cell} (g, others) (f, cells) = read_same (g, others) (f, cells) (named_reading_one q f cells x.0 x.1) in
    formulas_same j (subst (λ (z : Frame × List Cell). JudgedFormulas z.0 z.1 w) one k)

bytes_same : {bytes : List ℕ} {v w : Result App (List Broken)} → Judged bytes v → Judged bytes w → SameRefusal v w
bytes_same (too_long bytes l) (too_long _ m) = all_same (in_app rule.LimitPassed (codes "named 262145") ∷ [])
bytes_same (too_long bytes l) (no_text _ m o) = absurd (omega (arith, l, m))
bytes_same (too_long bytes l) (text _ w m u k) = absurd (omega (arith, l, m))
bytes_same (no_text bytes l o) (too_long _ m) = absurd (omega (arith, l, m))
bytes_same (no_text bytes l o) (no_text _ m p) = all_same (in_app rule.BadShape (codes "utf-8") ∷ [])
bytes_same (no_text bytes l o) (text _ w m u k) = absurd (o u)
bytes_same (text bytes v l u j) (too_long _ m) = absurd (omega (arith, l, m))
bytes_same (text bytes v l u j) (no_text _ m o) = absurd (o u)
bytes_same (text bytes v l u j) (text _ w m t k) = text_same j k

pub one_refusal_of_a_text : IsOneRefusalOfAText
one_refusal_of_a_text bytes bs cs p q = bytes_same p q
