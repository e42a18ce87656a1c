-- What the changes of a table are after each call.
use Rattle.std.proofs.Common.{◌≡◌, ◌≢◌, ◌∙◌, ℕ, suc, ◌+◌, ◌-◌, ◌<◌, ◌≤◌, ◌==◌, Bool, true, false, cond, List, [], ◌∷◌, ◌++◌, length, set, Option, None, Some, IfSome, ap, ap₂, arith, length-append, refl, subst, sym}
use Rattle.std.specs.BTreeMap.{is_at}
use Rattle.std.specs.List.{AllByRecursion}
use Rattle.std.specs.Map.{lookup}
use Rattle.std.specs.Option.{option_map}
use Rattle.std.specs.Ordering.{nat_cmp}
use Rattle.std.specs.Prelude.{Vec, nat_le, slice_get}
use Rattle.std.specs.declared.alloc.Global.{Global}
use Rattle.std.proofs.lemmas.Bool.{eqb-true}
use Rattle.std.proofs.lemmas.Bool.Decides.{nat_tests}
use Rattle.std.proofs.lemmas.List.{length-set}
use Rattle.sqlite_keyed.proofs.ListLemmas.{all_weaker}
use Rattle.sql_meanings.specs.Lines.{LinesOf}
use Rattle.row_changes.specs.Moves.{Adds, Puts, body_now, changed_to, with_now}
use Rattle.row_changes.specs.Overlay.{AreOf, LineChange, bodies_of, body_among, body_at, body_of_added, bytes_in, change_at, last_of, lines_from, made_of, made_of_kept, overlay}
use Rattle.row_changes.specs.declared.table.Change.{Change}
use Rattle.row_changes.specs.declared.table.TableChanges.{TableChanges}
use Rattle.row_changes.proofs.OverlayLemmas.{IsThere, added_changes, at_first, at_from, at_other, gone_by, kept_alike, kept_at, kept_changes, kept_now, kept_numbers, now_by, numbers_from, one_added, overlay_given, overlay_rising, with_now-append, with_now_none}

abbrev pub change_in : List (ℕ × Change) → ℕ → Option LineChange
change_in es id = option_map bodies_of (lookup (is_at (nat_cmp id)) es)

-- ---- a row is put

-- the kept lines of changes whose first number and changed rows stand are the same
same_kept : (old new : TableChanges) → new.first ≡ old.first → new.changed.entries ≡ old.changed.entries → (kept : LinesOf) → AreOf kept old → AreOf kept new
same_kept old new first same kept h = record {
  rising = h.rising;
  given = subst (λ f. AllByRecursion (λ (x : ℕ × List ℕ). x.0 ≤ f) kept) (sym first) h.given;
  had = λ q. subst (λ (es : List (ℕ × Change)). IfSome (change_in es q) (λ c. body_at q kept ≡ Some c.0)) (sym same) (h.had q);
}

pub adds : (old new : TableChanges) (body : Vec ℕ Global) → new.first ≡ old.first → new.changed.entries ≡ old.changed.entries → new.added.items ≡ old.added.items ++ Some body ∷ [] → Adds old new body.items
adds old new body first same items =
    let number : last_of new ≡ suc old.first + length old.added.items =
    ap₂ (λ f (bs : List (Option (Vec ℕ Global))). f + length bs) first items ∙ ap (λ n. old.first + n) (length-append old.added.items (Some body ∷ [])) ∙ omega arith in
    record {
      lines = λ kept.
          ap₂ ◌++◌ (kept_alike (made_of_kept old) (made_of_kept new) (λ q. ap (λ (es : List (ℕ × Change)). option_map (λ c. c.1) (change_in es q)) same) kept) (ap₂ (λ f bs. lines_from (suc f) bs) first items)
          ∙ one_added (made_of_kept old) old.first (last_of new) old.added.items body kept number;
      last = number ∙ omega arith;
      changes = same_kept old new first same;
    }

-- ---- a row gets another body, or goes

pub puts_added : (old new : TableChanges) (id : ℕ) (was : List ℕ) (now : Option (Vec ℕ Global)) → old.first < id → new.first ≡ old.first → new.changed.entries ≡ old.changed.entries
    → new.added.items ≡ set old.added.items (id - old.first - 1) now → Puts old new id was (bytes_in now)
puts_added old new id was now later first same items =
    let made = made_of_kept old in
    let added = old.added.items in
    let place : id - old.first - 1 ≡ id - suc old.first = omega arith in
    let others : (kept : LinesOf) → AreOf kept old → AllByRecursion (λ (x : ℕ × List ℕ). x.0 ≢ id) (kept_now made kept) =
    λ kept h. kept_numbers (λ n. n ≢ id) made kept (all_weaker (λ (x : ℕ × List ℕ). x.0 ≤ old.first) (λ (x : ℕ × List ℕ). x.0 ≢ id) (λ x low. omega (arith, low, later)) kept h.given) in
    record {
      lines = λ kept h there.
          ap₂ ◌++◌ (kept_alike made (made_of_kept new) (λ q. ap (λ (es : List (ℕ × Change)). option_map (λ c. c.1) (change_in es q)) same) kept)
          (ap₂ (λ f bs. lines_from (suc f) bs) first items ∙ ap (λ n. lines_from (suc old.first) (set added n now)) place
          ∙ added_changes id (suc old.first) was now added (omega (arith, later)) (sym (at_other id (kept_now made kept) (lines_from (suc old.first) added) (others kept h)) ∙ there))
          ∙ sym (with_now-append id (bytes_in now) (kept_now made kept) (lines_from (suc old.first) added) ∙ ap (λ l. l ++ with_now id (bytes_in now) (lines_from (suc old.first) added)) (with_now_none id (bytes_in now) (kept_now made kept) (others kept h)));
      changes = λ kept h there. same_kept old new first same kept h;
      last = ap₂ (λ f (bs : List (Option (Vec ℕ Global))). f + length bs) first items ∙ ap (λ n. old.first + n) (length-set added (id - old.first - 1) now);
    }

is_there : (m : Option (Option (List ℕ))) (o : Option (List ℕ)) (was : List ℕ) → now_by m o ≡ Some was → IsThere m
is_there None o was e = tt
is_there (Some None) o was e = absurd (let f : None ≡ Some was = sym (gone_by o) ∙ e in cc)
is_there (Some (Some b)) o was e = tt

now_of_changed : (was : List ℕ) (now : Option (List ℕ)) (o : Option LineChange) → (changed_to was now o).1 ≡ now
now_of_changed was now None = refl
now_of_changed was now (Some c) = refl

was_of_changed : (was : List ℕ) (now : Option (List ℕ)) (o : Option LineChange) (kept : Option (List ℕ)) → IfSome o (λ c. kept ≡ Some c.0) → now_by (option_map (λ c. c.1) o) kept ≡ Some was → kept ≡ Some (changed_to was now o).0
was_of_changed was now None kept h e = e
was_of_changed was now (Some c) kept h e = h

made_next : (b : Bool) (was : List ℕ) (now : Option (List ℕ)) (o p : Option LineChange) → option_map (λ c. c.1) (cond b (Some (changed_to was now o)) p) ≡ cond b (Some now) (option_map (λ c. c.1) p)
made_next true was now o p = ap Some (now_of_changed was now o)
made_next false was now o p = refl

pub puts_kept : (old new : TableChanges) (id : ℕ) (was : List ℕ) (now : Option (List ℕ)) → id ≤ old.first → new.first ≡ old.first → new.added.items ≡ old.added.items
    → ((q : ℕ) → change_at new q ≡ cond (q == id) (Some (changed_to was now (change_at old id))) (change_at old q)) → Puts old new id was now
puts_kept old new id was now early first items goes =
    let made = made_of_kept old in
    let added = lines_from (suc old.first) old.added.items in
    let others : AllByRecursion (λ (x : ℕ × List ℕ). x.0 ≢ id) added = numbers_from (λ n. n ≢ id) (suc old.first) old.added.items (λ n low high. omega (arith, early, low)) in
    record {
      lines = λ kept h there.
          ap₂ ◌++◌ (kept_changes id now made (made_of_kept new) (is_there (made id) (body_at id kept) was (told_at kept there)) (λ q. ap (λ (o : Option LineChange). option_map (λ (c : LineChange). c.1) o) (goes q) ∙ made_next (q == id) was now (change_at old id) (change_at old q)) kept)
          (ap₂ (λ f bs. lines_from (suc f) bs) first items)
          ∙ sym (with_now-append id now (kept_now made kept) added ∙ ap (λ l. with_now id now (kept_now made kept) ++ l) (with_now_none id now added others));
      changes = λ kept h there. record {
        rising = h.rising;
        given = subst (λ f. AllByRecursion (λ (x : ℕ × List ℕ). x.0 ≤ f) kept) (sym first) h.given;
        had = λ q. subst (λ (o : Option LineChange). IfSome o (λ (c : LineChange). body_at q kept ≡ Some c.0)) (sym (goes q)) (had_next kept h there q (q == id) refl);
      };
      last = ap₂ (λ f (bs : List (Option (Vec ℕ Global))). f + length bs) first items;
    }
  where
    told_at : (kept : LinesOf) → body_at id (overlay old kept) ≡ Some was → now_by (made_of_kept old id) (body_at id kept) ≡ Some was
    told_at kept there =
        sym (kept_at (made_of_kept old) id kept)
        ∙ sym (at_first id (kept_now (made_of_kept old) kept) (lines_from (suc old.first) old.added.items) (numbers_from (λ n. n ≢ id) (suc old.first) old.added.items (λ n low high. omega (arith, early, low))))
        ∙ there

    had_next : (kept : LinesOf) → AreOf kept old → body_at id (overlay old kept) ≡ Some was → (q : ℕ) (b : Bool) → (q == id) ≡ b → IfSome (cond b (Some (changed_to was now (change_at old id))) (change_at old q)) (λ c. body_at q kept ≡ Some c.0)
    had_next kept h there q true e =
        subst (λ n. body_at n kept ≡ Some (changed_to was now (change_at old id)).0) (sym (eqb-true q id e)) (was_of_changed was now (change_at old id) (body_at id kept) (h.had id) (told_at kept there))
    had_next kept h there q false e = h.had q

-- ---- the end of a transaction

pub settled : (old new : TableChanges) → new.first ≡ last_of old → new.changed.entries ≡ [] → (kept : LinesOf) → AreOf kept old → AreOf (overlay old kept) new
settled old new first none kept h = record {
  rising = overlay_rising old kept h;
  given = subst (λ f. AllByRecursion (λ (x : ℕ × List ℕ). x.0 ≤ f) (overlay old kept)) (sym first) (overlay_given old kept h);
  had = λ q. subst (λ (es : List (ℕ × Change)). IfSome (change_in es q) (λ c. body_at q (overlay old kept) ≡ Some c.0)) (sym none) tt;
}

-- ---- what was made of a row tells its line

was_there : (o : Option LineChange) (kept : Option (List ℕ)) → IfSome o (λ c. kept ≡ Some c.0) → now_by (option_map (λ c. c.1) o) kept ≡ body_now (option_map (λ c. c.1) o) kept
was_there None kept h = refl
was_there (Some c) kept h = ap (λ k. now_by (Some c.1) k) h

pub made_tells : (t : TableChanges) (kept : LinesOf) (id : ℕ) → AreOf kept t → body_at id (overlay t kept) ≡ body_now (made_of t id) (body_at id kept)
made_tells t kept id h = by (nat_le id t.first) refl
  where
    made : ℕ → Option (Option (List ℕ))
    made = made_of_kept t

    by : (b : Bool) → nat_le id t.first ≡ b → body_at id (overlay t kept) ≡ body_now (cond b (made_of_kept t id) (Some (body_of_added t (id - t.first - 1)))) (body_at id kept)
    by true e =
        let early : id ≤ t.first = grind (arith, nat_tests) in
        at_first id (kept_now (made_of_kept t) kept) (lines_from (suc t.first) t.added.items) (numbers_from (λ n. n ≢ id) (suc t.first) t.added.items (λ n low high. omega (arith, early, low)))
        ∙ kept_at (made_of_kept t) id kept ∙ was_there (change_at t id) (body_at id kept) (h.had id)
    by false e =
        let later : t.first < id = grind (arith, nat_tests) in
        let place : id - suc t.first ≡ id - t.first - 1 = omega arith in
        at_other id (kept_now (made_of_kept t) kept) (lines_from (suc t.first) t.added.items)
        (kept_numbers (λ n. n ≢ id) (made_of_kept t) kept (all_weaker (λ (x : ℕ × List ℕ). x.0 ≤ t.first) (λ (x : ℕ × List ℕ). x.0 ≢ id) (λ x low. omega (arith, low, later)) kept h.given))
        ∙ at_from id (suc t.first) t.added.items (omega (arith, later)) ∙ ap (λ n. body_among (slice_get t.added.items n)) place
