-- What a change of one table's book does to what is counted of all.
use Rattle.std.proofs.Common.{◌≡◌, ℕ, ◌<◌, ◌≤◌, ◌==◌, ℤ, List, [], length, map, Bool, true, false, cond, Option, Some, None, refl, sym, ap, subst, ◌∙◌}
use Rattle.std.specs.Prelude.{Result, Ok, Err, IsSomeAnd, OnErr, OnOk, option_map, slice_get, unwrap_or}
use Rattle.std.specs.Bool.{Decides}
use Rattle.std.proofs.lemmas.Bool.Decides.{Decides-eqb}
use Rattle.std.proofs.lemmas.Option.{slice_get-map, slice_get_past}
use Rattle.row_books.specs.Numbers.{ChangesAt, IsCarriedBook, IsChangedAt, IsPreparedBook, IsReadyBook, books_then, by_columns, changed, column_in, now_of, number_at, then_of}
use Rattle.row_books.specs.declared.book.Book.{Book}
use Rattle.row_books.specs.declared.numbers.Numbers.{Numbers}
use Rattle.row_books.proofs.Places.{got_other, got_same, same_by, there_at}

abbrev column_of_book : ℕ → Option Book → Option (List ℤ)
column_of_book k o = slice_get (unwrap_or (option_map now_of o) []) k

-- what is counted of a column of a table is what its book counts
column_by : (books : List Book) (t k : ℕ) → column_in (map now_of books) t k ≡ column_of_book k (slice_get books t)
column_by books t k = ap (λ o. slice_get (unwrap_or o []) k) (slice_get-map now_of books t)

pub changed_there : (table : ℕ) (out put : Numbers) (old new : List Book) → ChangesAt table (IsCarriedBook out put) old new → IsChangedAt table (by_columns out) (by_columns put) (map now_of old) (map now_of new)
changed_there table out put old new h t k = go (t == table) (Decides-eqb t table)
  where
    go : (b : Bool) → Decides b (t ≡ table) → column_in (map now_of new) t k ≡ cond b (option_map (changed (number_at (by_columns out) k) (number_at (by_columns put) k)) (column_in (map now_of old) t k)) (column_in (map now_of old) t k)
    go true d =
        let is : t ≡ table = d.0 refl in
        let was : column_in (map now_of old) t k ≡ slice_get (now_of h.before) k = column_by old t k ∙ ap (column_of_book k) (ap (λ n. slice_get old n) is ∙ h.is_there) in
        let now : column_in (map now_of new) t k ≡ slice_get (now_of h.after) k =
        column_by new t k ∙ ap (column_of_book k) (ap (λ n. slice_get new n) is ∙ ap (λ zs. slice_get zs table) h.stands ∙ got_same old table h.after h.before h.is_there) in
        now ∙ h.goes.0 k ∙ ap (option_map (changed (number_at (by_columns out) k) (number_at (by_columns put) k))) (sym was)
    go false d =
        let n : t ≡ table → ⊥ = λ e. let f = d.1 e in cc in
        column_by new t k ∙ ap (column_of_book k) (ap (λ zs. slice_get zs t) h.stands ∙ got_other old table t h.after n) ∙ sym (column_by old t k)

-- a table that isn't there
pub unchanged_past : (table : ℕ) (out put : List (Option ℤ)) (books : List Book) → length books ≤ table → IsChangedAt table out put (map now_of books) (map now_of books)
unchanged_past table out put books l t k = go (t == table) (Decides-eqb t table)
  where
    go : (b : Bool) → Decides b (t ≡ table) → column_in (map now_of books) t k ≡ cond b (option_map (changed (number_at out k) (number_at put k)) (column_in (map now_of books) t k)) (column_in (map now_of books) t k)
    go true d =
        let e : column_in (map now_of books) t k ≡ None = column_by books t k ∙ ap (column_of_book k) (slice_get_past books t (subst (λ n. length books ≤ n) (sym (d.0 refl)) l)) in
        e ∙ sym (ap (option_map (changed (number_at out k) (number_at put k))) e)
    go false d = refl

-- ---- ready for a change
some_is : (a b : Book) → Some a ≡ Some b → a ≡ b
some_is a b e = cc

pub ready_after : (table : ℕ) (out : Numbers) (old new : List Book) → ChangesAt table (IsPreparedBook out) old new → (b : Book) → slice_get new table ≡ Some b → IsReadyBook b out
ready_after table out old new h b e =
    let there : Some h.after ≡ Some b = sym (got_same old table h.after h.before h.is_there) ∙ sym (ap (λ zs. slice_get zs table) h.stands) ∙ e in
    subst (λ c. IsReadyBook c out) (some_is h.after b there) h.goes.2

pub ready_past : (table : ℕ) (out : Numbers) (books : List Book) → length books ≤ table → (b : Book) → slice_get books table ≡ Some b → IsReadyBook b out
ready_past table out books l b e = absurd (let none = slice_get_past books table l in cc)

pub ready_within : (table : ℕ) (out : Numbers) (books : List Book) → table < length books → ((b : Book) → slice_get books table ≡ Some b → IsReadyBook b out) → IsSomeAnd (slice_get books table) (λ (b : Book). IsReadyBook b out)
ready_within table out books l h = let y = there_at books table l in subst (λ o. IsSomeAnd o (λ (b : Book). IsReadyBook b out)) (sym y.1) (h y.0 y.1)

-- however a call ends
pub same_ends : {E Y : Type 0} (r : Result (Unit {0}) E) (f : Book → Y) (table : ℕ) (P Q : Book → Book → Type 0) (old new : List Book) → OnOk r (ChangesAt table P old new) → OnErr r (ChangesAt table Q old new)
    → ((b c : Book) → P b c → f c ≡ f b) → ((b c : Book) → Q b c → f c ≡ f b) → map f new ≡ map f old
same_ends (Ok x) f table P Q old new ok err p q = same_by f table P old new ok p
same_ends (Err e) f table P Q old new ok err p q = same_by f table Q old new err q

-- ---- those that were put aside stay
pub then_same : (aside : Option (List Book)) (old new : List Book) → map then_of new ≡ map then_of old → map then_of (books_then new aside) ≡ map then_of (books_then old aside)
then_same None old new e = e
then_same (Some a) old new e = refl
