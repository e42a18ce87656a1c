-- Lists of breaks, thing by thing.
use Rattle.std.proofs.Common.{inl, inr, ◌≡◌, ℕ, ◌+◌, ◌<◌, ◌≤◌, zero, suc, ◌++◌, List, [], ◌∷◌, true, false, nat_eq, length, get_or, take, Result, Ok, Err, MatchResult, append_assoc, refl, ap, sym, subst, ◌∙◌, arith}
use Rattle.std.proofs.lemmas.List.{take_more, append-nil, nil_from_length}
use Rattle.std.specs.List.{AllZip}
use Rattle.fx_core.specs.declared.broken.Broken.{Broken}
use Rattle.fx_core.specs.declared.names.Names.{Names}
use Rattle.fx_typing.specs.declared.typed.Typed.{Typed}
use Rattle.fx_typing.specs.TypedView.{typed}
use Rattle.app_cells.specs.declared.app.CellInfo.{CellInfo}
use Rattle.app_cells.specs.declared.cell.Cell.{Cell}
use Rattle.app_loader.specs.Admitted.{AreBreaks, AreRefused, AreTyped, Breaks, IsAdmitted}
use Rattle.app_loader.specs.Cells.{judged_cell}
use Rattle.app_loader.specs.Infos.{AreElaborated, IsElaborated}
use Rattle.app_loader.specs.JudgedFormulas.{AreSomeBreaks}

-- one more of a list
pub one_more : {A : Type 0} (xs : List A) (i : ℕ) (x : A) → i < length xs → x ≡ get_or xs i x → take i xs ++ x ∷ [] ≡ take (i + 1) xs
one_more xs i x l e = sym (take_more xs i x l ∙ ap (λ y. take i xs ++ y ∷ []) (sym e))

-- one thing more, of which nothing is broken
fine_behind : {A : Type 0} (F : A → Type 0) (B : A → Broken → Type 0) (xs : List A) (bs : List Broken) (x : A) → AreBreaks F B xs bs → F x → AreBreaks F B (xs ++ x ∷ []) bs
fine_behind F B [] bs x h f = inl (f, h)
fine_behind F B (y ∷ xs) bs x (inl h) f = inl (h.0, fine_behind F B xs bs x h.1 f)
fine_behind F B (y ∷ xs) bs x (inr h) f = inr (h.0, h.1, h.2, h.3, fine_behind F B xs h.1 x h.4 f)

-- one more that is broken
broken_behind : {A : Type 0} (F : A → Type 0) (B : A → Broken → Type 0) (xs : List A) (bs : List Broken) (x : A) (b : Broken) → AreBreaks F B xs bs → B x b → AreBreaks F B (xs ++ x ∷ []) (bs ++ b ∷ [])
broken_behind F B [] bs x b h g = inr (b, [], ap (λ ys. ys ++ b ∷ []) h, g, refl)
broken_behind F B (y ∷ xs) bs x b (inl h) g = inl (h.0, broken_behind F B xs bs x b h.1 g)
broken_behind F B (y ∷ xs) bs x b (inr h) g = inr (h.0, h.1 ++ b ∷ [], ap (λ ys. ys ++ b ∷ []) h.2, h.3, broken_behind F B xs h.1 x b h.4 g)

typed_behind : (m : Names) (cs : List Cell) (ts : List Typed) (c : Cell) (t : Typed) → AreTyped m cs ts → judged_cell m c ≡ Ok (typed t) → AreTyped m (cs ++ c ∷ []) (ts ++ t ∷ [])
typed_behind m [] [] c t h e = (e, tt)
typed_behind m [] (u ∷ ts) c t h e = absurd h
typed_behind m (d ∷ cs) [] c t h e = absurd h
typed_behind m (d ∷ cs) (u ∷ ts) c t h e = (h.0, typed_behind m cs ts c t h.1 e)

-- ---- lists of which each belongs to one of another
pub same_length : {A B : Type 0} (R : A → B → Type 0) (xs : List A) (ys : List B) → AllZip R xs ys → length xs ≡ length ys
same_length R [] [] h = refl
same_length R [] (y ∷ ys) h = absurd h
same_length R (x ∷ xs) [] h = absurd h
same_length R (x ∷ xs) (y ∷ ys) h = ap suc (same_length R xs ys h.1)

pub as_many : (m : Names) (cs : List Cell) (ts : List Typed) → AreTyped m cs ts → length cs ≡ length ts
as_many m cs ts h = same_length (λ c t. judged_cell m c ≡ Ok (typed t)) cs ts h

pub all_elaborated : (m : Names) (most : ℕ) (cs : List Cell) (is : List CellInfo) (rest : List Cell) → length rest ≡ 0 → ((more : List CellInfo) → AreElaborated m most rest more → AreElaborated m most cs (is ++ more)) → AreElaborated m most cs is
all_elaborated m most cs is rest e go = subst (AreElaborated m most cs) (append-nil is) (go [] (subst (λ (r : List Cell). AreElaborated m most r []) (sym (nil_from_length rest e)) tt))

-- one formula more with its typed tree
pub still_typed : (m : Names) (old rest : List Cell) (trees left : List Typed) (c : Cell) (t : Typed) → old ≡ c ∷ rest → trees ≡ t ∷ left → AreTyped m old trees → AreTyped m rest left
still_typed m old rest trees left c t e k h =
    let both : AreTyped m (c ∷ rest) (t ∷ left) = subst (λ (us : List Typed). AreTyped m (c ∷ rest) us) k (subst (λ (cs : List Cell). AreTyped m cs trees) e h) in
    both.1

pub info_more : (m : Names) (most : ℕ) (cells : List Cell) (all next : List CellInfo) (old rest : List Cell) (c : Cell) (i : CellInfo) → old ≡ c ∷ rest → IsElaborated m most c i → next ≡ all ++ i ∷ [] →
    ((more : List CellInfo) → AreElaborated m most old more → AreElaborated m most cells (all ++ more)) → (more : List CellInfo) → AreElaborated m most rest more → AreElaborated m most cells (next ++ more)
info_more m most cells all next old rest c i e one k go more h =
    subst (AreElaborated m most cells) (sym (ap (λ xs. xs ++ more) k ∙ append_assoc all (i ∷ []) more))
    (go (i ∷ more) (subst (λ (cs : List Cell). AreElaborated m most cs (i ∷ more)) (sym e) (one, h)))

-- what is known behind some formulas
pub record AreJudgedSo (m : Names) (cs : List Cell) (ts : List Typed) (bs : List Broken) : Type 0 where
  pub breaks : AreRefused m cs bs
  pub typed : bs ≡ [] → AreTyped m cs ts

never : (bs : List Broken) (b : Broken) → bs ++ b ∷ [] ≡ [] → ⊥
never [] b e = cc
never (c ∷ bs) b e = cc

-- what is put to the trees, and to the breaks
abbrev pub IsPut : Result Typed Broken → List Typed → List Typed → List Broken → List Broken → Type 0
IsPut one ts us bs cs = MatchResult one (λ (t : Typed). (us ≡ ts ++ t ∷ []) × (cs ≡ bs)) (λ (b : Broken). (us ≡ ts) × (cs ≡ bs ++ b ∷ []))

step : (m : Names) (done : List Cell) (c : Cell) (ts us : List Typed) (bs ds : List Broken) (one : Result Typed Broken) → AreJudgedSo m done ts bs →
    MatchResult one (λ (t : Typed). judged_cell m c ≡ Ok (typed t)) (Breaks m c) → IsPut one ts us bs ds → AreJudgedSo m (done ++ c ∷ []) us ds
step m done c ts us bs ds (Ok t) so h put = record {
  breaks = subst (AreRefused m (done ++ c ∷ [])) (sym put.1) (fine_behind (IsAdmitted m) (Breaks m) done bs c so.breaks (typed t, h));
  typed = λ none. subst (AreTyped m (done ++ c ∷ [])) (sym put.0) (typed_behind m done ts c t (so.typed (sym put.1 ∙ none)) h);
}
step m done c ts us bs ds (Err b) so h put = record {
  breaks = subst (AreRefused m (done ++ c ∷ [])) (sym put.1) (broken_behind (IsAdmitted m) (Breaks m) done bs c b so.breaks h);
  typed = λ none. absurd (never bs b (sym put.1 ∙ none));
}

-- one formula more
pub step_more : (m : Names) (cs : List Cell) (i : ℕ) (c : Cell) (ts us : List Typed) (bs ds : List Broken) (one : Result Typed Broken) → i < length cs → c ≡ get_or cs i c → AreJudgedSo m (take i cs) ts bs →
    MatchResult one (λ (t : Typed). judged_cell m c ≡ Ok (typed t)) (Breaks m c) → IsPut one ts us bs ds → AreJudgedSo m (take (i + 1) cs) us ds
step_more m cs i c ts us bs ds one l e so h put =
    subst (λ (ks : List Cell). AreJudgedSo m ks us ds) (one_more cs i c l e) (step m (take i cs) c ts us bs ds one so h put)

-- behind all formulas
pub all_taken : {A : Type 0} (xs : List A) (i : ℕ) → length xs ≤ i → take i xs ≡ xs
all_taken [] zero l = refl
all_taken [] (suc i) l = refl
all_taken (x ∷ xs) zero l = absurd (omega (arith, l))
all_taken (x ∷ xs) (suc i) l = ap (λ us. x ∷ us) (all_taken xs i (omega (arith, l)))

pub some_breaks : (P : List Broken → Type 0) (bs : List Broken) → P bs → nat_eq (length bs) 0 ≡ false → AreSomeBreaks P bs
some_breaks P [] h e = let past : true ≡ false = e in absurd cc
some_breaks P (b ∷ bs) h e = (b, bs, refl, h)

pub are_refused : (m : Names) (cs : List Cell) (i : ℕ) (ts : List Typed) (bs : List Broken) → AreJudgedSo m (take i cs) ts bs → length cs ≤ i → nat_eq (length bs) 0 ≡ false → AreSomeBreaks (AreRefused m cs) bs
are_refused m cs i ts bs so l e = some_breaks (AreRefused m cs) bs (subst (λ (ks : List Cell). AreRefused m ks bs) (all_taken cs i l) so.breaks) e
