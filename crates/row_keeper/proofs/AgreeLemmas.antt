-- The index keeps the entries of the rows.
use Rattle.std.proofs.Common.{◌≡◌, ℕ, ◌==◌, List, [], ◌∷◌, refl, sym, ap, ap₂, ◌∙◌, Bool, true, false, cond, ◌&&◌, ◌||◌, Option, None, Some, subst}
use Rattle.std.specs.Prelude.{bytes_eq}
use Rattle.std.specs.Option.{is_some}
use Rattle.std.proofs.lemmas.Bool.{eqb-true}
use Rattle.fx_types.specs.Values.{Data}
use Rattle.row_keeper.specs.Covered.{Agrees, NoneAbove, covers, entries_of, has_entry, key_at}
use Rattle.row_keeper.specs.Entries.{IndexEntry, Entries, is_entry_among, now_in, then_in}
use Rattle.row_keeper.specs.Slots.{now_at, then_at}
use Rattle.row_keeper.specs.declared.row_slots.Slot.{Slot}

-- the entries of a row, as what is asked of one
pub of_row : (covered : List ℕ) (id : ℕ) (cells : List Data) (q : IndexEntry) → is_entry_among (entries_of covered id cells) q ≡ ((id == q.1) && (covers covered q.0.0 && has_entry q (Some cells)))
of_row [] id cells q = none (id == q.1)
  where
    none : (b : Bool) → false ≡ (b && false)
    none true = refl
    none false = refl
of_row (c ∷ cs) id cells q = by (id == q.1) refl (c == q.0.0) refl (of_row cs id cells q)
  where
    same : bytes_eq (key_at id cells c) q.0.1 ≡ bytes_eq (key_at id cells c) q.0.1
    same = refl

    right : (x : Bool) → (x && false) ≡ false
    right true = refl
    right false = refl

    either : (x y z : Bool) → x ≡ z → ((x && true) || (y && z)) ≡ z
    either true y true h = refl
    either false true z h = sym h ∙ ap (λ b. b) h
    either false false z h = h
    either true y false h = absurd cc

    by : (a : Bool) → (id == q.1) ≡ a → (b : Bool) → (c == q.0.0) ≡ b → is_entry_among (entries_of cs id cells) q ≡ ((id == q.1) && (covers cs q.0.0 && has_entry q (Some cells)))
        → (((b && bytes_eq (key_at id cells c) q.0.1) && a) || is_entry_among (entries_of cs id cells) q) ≡ (a && ((b || covers cs q.0.0) && has_entry q (Some cells)))
    by false x b y ih = ap (λ t. t || is_entry_among (entries_of cs id cells) q) (right (b && bytes_eq (key_at id cells c) q.0.1)) ∙ ih ∙ ap (λ t. t && (covers cs q.0.0 && has_entry q (Some cells))) x
    by true x false y ih = ih ∙ ap (λ t. t && (covers cs q.0.0 && has_entry q (Some cells))) x
    by true x true y ih =
        let number : id ≡ q.1 = eqb-true id q.1 x in
        let column : c ≡ q.0.0 = eqb-true c q.0.0 y in
        let here : bytes_eq (key_at id cells c) q.0.1 ≡ has_entry q (Some cells) = ap₂ (λ n k. bytes_eq (key_at n cells k) q.0.1) number column in
        ap (λ t. (bytes_eq (key_at id cells c) q.0.1 && true) || t) (ih ∙ ap (λ t. t && (covers cs q.0.0 && has_entry q (Some cells))) x)
        ∙ either (bytes_eq (key_at id cells c) q.0.1) (covers cs q.0.0) (has_entry q (Some cells)) here

-- the entry of what stands under one number
abbrev pub stands : List ℕ → IndexEntry → Option (List Data) → Bool
stands covered q o = covers covered q.0.0 && has_entry q o

stands_none : (covered : List ℕ) (q : IndexEntry) → stands covered q None ≡ false
stands_none covered q = right (covers covered q.0.0)
  where
    right : (x : Bool) → (x && false) ≡ false
    right true = refl
    right false = refl

-- the row of one number is now w, and the index has its entries alone under this number
pub set_agrees : (covered : List ℕ) (rows rows' : List (ℕ × Slot)) (es es' : Entries) (id : ℕ) (w : Option (List Data)) → Agrees covered rows es
    → ((i : ℕ) → now_at rows' i ≡ cond (id == i) w (now_at rows i)) → ((i : ℕ) → then_at rows' i ≡ then_at rows i)
    → ((q : IndexEntry) → now_in es' q ≡ cond (id == q.1) (stands covered q w) (now_in es q)) → ((q : IndexEntry) → then_in es' q ≡ then_in es q)
    → Agrees covered rows' es'
set_agrees covered rows rows' es es' id w h now then marked kept = (λ q. marked q ∙ go q (id == q.1) ∙ sym (ap (stands covered q) (now q.1)), λ q. kept q ∙ h.1 q ∙ sym (ap (stands covered q) (then q.1)))
  where
    go : (q : IndexEntry) (t : Bool) → cond t (stands covered q w) (now_in es q) ≡ stands covered q (cond t w (now_at rows q.1))
    go q true = refl
    go q false = h.0 q

-- entries more, under a number that had none
pub put_marks : (covered : List ℕ) (rows : List (ℕ × Slot)) (es es1 es' : Entries) (id : ℕ) (cells : List Data) → Agrees covered rows es → is_some (now_at rows id) ≡ false
    → ((q : IndexEntry) → now_in es1 q ≡ now_in es q) → ((q : IndexEntry) → now_in es' q ≡ cond (is_entry_among (entries_of covered id cells) q) true (now_in es1 q))
    → (q : IndexEntry) → now_in es' q ≡ cond (id == q.1) (stands covered q (Some cells)) (now_in es q)
put_marks covered rows es es1 es' id cells h absent room marked q =
    marked q ∙ ap₂ (λ b n. cond b true n) (of_row covered id cells q) (room q) ∙ go (id == q.1) refl
  where
    none_of : (o : Option (List Data)) → is_some o ≡ false → stands covered q o ≡ false
    none_of None f = stands_none covered q
    none_of (Some cs) f = absurd cc

    pick : (b c : Bool) → c ≡ false → cond b true c ≡ b
    pick true c f = refl
    pick false c f = f

    go : (t : Bool) → (id == q.1) ≡ t → cond (t && stands covered q (Some cells)) true (now_in es q) ≡ cond t (stands covered q (Some cells)) (now_in es q)
    go false f = refl
    go true f = pick (stands covered q (Some cells)) (now_in es q) (h.0 q ∙ none_of (now_at rows q.1) (subst (λ n. is_some (now_at rows n) ≡ false) (eqb-true id q.1 f) absent))

-- entries out
pub take_marks : (covered : List ℕ) (rows : List (ℕ × Slot)) (es es' : Entries) (id : ℕ) (old : List Data) → Agrees covered rows es → now_at rows id ≡ Some old
    → ((q : IndexEntry) → now_in es' q ≡ cond (is_entry_among (entries_of covered id old) q) false (now_in es q))
    → (q : IndexEntry) → now_in es' q ≡ cond (id == q.1) false (now_in es q)
take_marks covered rows es es' id old h there marked q = marked q ∙ ap (λ b. cond b false (now_in es q)) (of_row covered id old q) ∙ go (id == q.1) refl
  where
    drop_it : (b c : Bool) → c ≡ b → cond b false c ≡ false
    drop_it true c f = refl
    drop_it false c f = f

    go : (t : Bool) → (id == q.1) ≡ t → cond (t && stands covered q (Some old)) false (now_in es q) ≡ cond t false (now_in es q)
    go false f = refl
    go true f = drop_it (stands covered q (Some old)) (now_in es q) (h.0 q ∙ ap (stands covered q) (subst (λ n. now_at rows n ≡ Some old) (eqb-true id q.1 f) there))

pub none_marks : (covered : List ℕ) (es es' : Entries) (id : ℕ) → ((q : IndexEntry) → now_in es' q ≡ cond (id == q.1) false (now_in es q)) → (q : IndexEntry) → now_in es' q ≡ cond (id == q.1) (stands covered q None) (now_in es q)
none_marks covered es es' id h q = h q ∙ ap (λ b. cond (id == q.1) b (now_in es q)) (sym (stands_none covered q))

-- entries in the place of others
pub change_marks : (covered : List ℕ) (rows : List (ℕ × Slot)) (es es1 es2 es' : Entries) (id : ℕ) (old cells : List Data) → Agrees covered rows es → now_at rows id ≡ Some old
    → ((q : IndexEntry) → now_in es1 q ≡ now_in es q)
    → ((q : IndexEntry) → now_in es2 q ≡ cond (is_entry_among (entries_of covered id old) q) false (now_in es1 q))
    → ((q : IndexEntry) → now_in es' q ≡ cond (is_entry_among (entries_of covered id cells) q) true (now_in es2 q))
    → (q : IndexEntry) → now_in es' q ≡ cond (id == q.1) (stands covered q (Some cells)) (now_in es q)
change_marks covered rows es es1 es2 es' id old cells h there room out into q =
    into q ∙ ap₂ (λ b n. cond b true n) (of_row covered id cells q) (take_marks covered rows es es2 id old h there (λ p. out p ∙ ap (cond (is_entry_among (entries_of covered id old) p) false) (room p)) q) ∙ go (id == q.1)
  where
    pick : (b : Bool) → cond b true false ≡ b
    pick true = refl
    pick false = refl

    go : (t : Bool) → cond (t && stands covered q (Some cells)) true (cond t false (now_in es q)) ≡ cond t (stands covered q (Some cells)) (now_in es q)
    go true = pick (stands covered q (Some cells))
    go false = refl

-- after the end of a transaction
pub end_agrees : (covered : List ℕ) (at : ℕ → Option (List Data)) (rows' : List (ℕ × Slot)) (has : IndexEntry → Bool) (es' : Entries) → ((q : IndexEntry) → has q ≡ stands covered q (at q.1))
    → ((i : ℕ) → now_at rows' i ≡ at i) → ((i : ℕ) → then_at rows' i ≡ at i) → ((q : IndexEntry) → now_in es' q ≡ has q) → ((q : IndexEntry) → then_in es' q ≡ has q)
    → Agrees covered rows' es'
end_agrees covered at rows' has es' h now then now_has then_has =
    (λ q. now_has q ∙ h q ∙ sym (ap (stands covered q) (now q.1)), λ q. then_has q ∙ h q ∙ sym (ap (stands covered q) (then q.1)))

-- no number above the last has a row, still
pub above_stays : (last id : ℕ) (at at' : ℕ → Option (List Data)) (w : Option (List Data)) → NoneAbove last at → is_some (at id) ≡ true → ((i : ℕ) → at' i ≡ cond (id == i) w (at i)) → NoneAbove last at'
above_stays last id at at' w h there now i l = ap is_some (now i) ∙ go (id == i) refl
  where
    go : (t : Bool) → (id == i) ≡ t → is_some (cond t w (at i)) ≡ false
    go false p = h i l
    go true p = absurd (let q : is_some (at id) ≡ false = subst (λ n. is_some (at n) ≡ false) (sym (eqb-true id i p)) (h i l) in cc)
