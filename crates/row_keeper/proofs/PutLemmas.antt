-- The rules of rows: where none is broken there is room, and each names its column.
use Rattle.std.proofs.Common.{◌≡◌, ◌≢◌, ◌∙◌, ap, ◌⊎◌, inl, inr, ℕ, ◌+◌, ◌-◌, ◌^◌, ◌==◌, ◌<◌, ◌≤◌, List, [], ◌∷◌, length, refl, arith, Bool, true, false, cond, ◌||◌, Option, None, Some, subst}
use Rattle.std.specs.Prelude.{nat_le, nat_lt, is_none, ◌&&◌}
use Rattle.std.proofs.lemmas.Bool.Decides.{nat_tests}
use Rattle.fx_types.specs.Values.{Data}
use Rattle.fx_core.specs.declared.schema.Column.{Column}
use Rattle.row_keeper.specs.Changes.{NamesItsColumn}
use Rattle.row_keeper.specs.RowRules.{cells_weight, first_broken, first_of_two, in_column, is_table_full, lacks, others, repeats, rule_in, where_broken}
use Rattle.row_keeper.specs.Tables.{TableState}
use Rattle.row_keeper.specs.declared.rows.RowRefusal.{RowRefusal}
use Rattle.row_keeper.specs.declared.rows.RowRule.{RowRule}
use Rattle.row_keeper.specs.declared.rows.RowRule.TheVariants.{Required, Unique, Size, Full}

-- ---- where no rule is broken there is room
second_none : (a b : Option RowRefusal) → first_of_two a b ≡ None → b ≡ None
second_none None b h = h
second_none (Some r) b h = absurd cc

not_broken : (rule : RowRule) (b : Bool) → where_broken rule b ≡ None → b ≡ false
not_broken rule false h = refl
not_broken rule true h = absurd cc

first_false : (a b : Bool) → (a || b) ≡ false → a ≡ false
first_false false b h = refl
first_false true b h = absurd cc

second_false : (a b : Bool) → (a || b) ≡ false → b ≡ false
second_false false b h = h
second_false true b h = absurd cc

below_most : (n : ℕ) → nat_le 200000 n ≡ false → n < 200000
below_most n h = grind (arith, nat_tests, h)

not_last : (n : ℕ) → (n == 4294967295) ≡ false → n < 2 ^ 32 → n < 2 ^ 32 - 1
not_last n h k = grind (arith, nat_tests, h, k)

-- a table that takes a row has one number and one place left
pub has_room : (columns : List Column) (s : TableState) (all : ℕ) (cells : List Data) → rule_in columns s all None cells ≡ None → s.last < 2 ^ 32 → (s.last < 2 ^ 32 - 1) × (length s.rows < 200000)
has_room columns s all cells h k =
    let required = in_column Required (first_broken lacks 1 columns cells) in
    let unique = in_column Unique (first_broken (repeats (others None s.rows)) 1 columns cells) in
    let size = where_broken Size (nat_lt 2048 (cells_weight cells)) in
    let full = where_broken Full (is_none (let n : Option ℕ = None in n) && is_table_full s all) in
    let open_ : is_table_full s all ≡ false = not_broken Full (is_table_full s all) (second_none size full (second_none unique (first_of_two size full) (second_none required (first_of_two unique (first_of_two size full)) h))) in
    (not_last s.last (second_false (nat_le 500000 all) (s.last == 4294967295) (second_false (nat_le 200000 (length s.rows)) _ open_)) k, below_most (length s.rows) (first_false (nat_le 200000 (length s.rows)) _ open_))

-- ---- which column a rule names
below : (b : Column → ℕ → Data → Bool) (k : ℕ) (columns : List Column) (cells : List Data) (n : ℕ) → first_broken b k columns cells ≡ Some n → (k ≤ n) × (n < k + length columns)
below b k [] cells n h = absurd cc
below b k (c ∷ cs) [] n h = absurd cc
below b k (c ∷ cs) (d ∷ ds) n h = by (b c k d) (below b (k + 1) cs ds n) h
  where
    by : (t : Bool) → (first_broken b (k + 1) cs ds ≡ Some n → (k + 1 ≤ n) × (n < k + 1 + length cs)) → cond t (Some k) (first_broken b (k + 1) cs ds) ≡ Some n → (k ≤ n) × (n < k + length (c ∷ cs))
    by true ih e = let q : k ≡ n = cc in (omega (arith, q), omega (arith, q))
    by false ih e = let q = ih e in (omega (arith, q.0), omega (arith, q.1))

first_or_second : (a b : Option RowRefusal) (r : RowRefusal) → first_of_two a b ≡ Some r → (a ≡ Some r) ⊎ (b ≡ Some r)
first_or_second None b r h = inr h
first_or_second (Some x) b r h = inl h

abbrev Names : List Column → RowRefusal → Type 0
Names columns r = NamesItsColumn columns r.rule r.column

required_names : (columns : List Column) (o : Option ℕ) → ((n : ℕ) → o ≡ Some n → (1 ≤ n) × (n < 1 + length columns)) → (r : RowRefusal) → in_column Required o ≡ Some r → Names columns r
required_names columns None f r e = absurd cc
required_names columns (Some k) f r e =
    let q : (let x : RowRefusal = record { column = Some k; rule = Required } in x) ≡ r = cc in
    let g = f k refl in subst (Names columns) q (omega (arith, g.0), omega (arith, g.1))

unique_names : (columns : List Column) (o : Option ℕ) → ((n : ℕ) → o ≡ Some n → (1 ≤ n) × (n < 1 + length columns)) → (r : RowRefusal) → in_column Unique o ≡ Some r → Names columns r
unique_names columns None f r e = absurd cc
unique_names columns (Some k) f r e =
    let q : (let x : RowRefusal = record { column = Some k; rule = Unique } in x) ≡ r = cc in
    let g = f k refl in subst (Names columns) q (omega (arith, g.0), omega (arith, g.1))

size_names : (columns : List Column) (b : Bool) (r : RowRefusal) → where_broken Size b ≡ Some r → Names columns r
size_names columns false r e = absurd cc
size_names columns true r e = let q : (let x : RowRefusal = record { column = None; rule = Size } in x) ≡ r = cc in subst (Names columns) q refl

full_names : (columns : List Column) (b : Bool) (r : RowRefusal) → where_broken Full b ≡ Some r → Names columns r
full_names columns false r e = absurd cc
full_names columns true r e = let q : (let x : RowRefusal = record { column = None; rule = Full } in x) ≡ r = cc in subst (Names columns) q refl

pub names : (columns : List Column) (s : TableState) (all : ℕ) (id : Option ℕ) (cells : List Data) (r : RowRefusal) → rule_in columns s all id cells ≡ Some r → Names columns r
names columns s all id cells r h = at_required (first_or_second required (first_of_two unique (first_of_two size full)) r h)
  where
    required : Option RowRefusal
    required = in_column Required (first_broken lacks 1 columns cells)

    unique : Option RowRefusal
    unique = in_column Unique (first_broken (repeats (others id s.rows)) 1 columns cells)

    size : Option RowRefusal
    size = where_broken Size (nat_lt 2048 (cells_weight cells))

    full : Option RowRefusal
    full = where_broken Full (is_none id && is_table_full s all)

    at_size : (size ≡ Some r) ⊎ (full ≡ Some r) → Names columns r
    at_size (inl e) = size_names columns _ r e
    at_size (inr e) = full_names columns _ r e

    at_unique : (unique ≡ Some r) ⊎ (first_of_two size full ≡ Some r) → Names columns r
    at_unique (inl e) = unique_names columns _ (below (repeats (others id s.rows)) 1 columns cells) r e
    at_unique (inr e) = at_size (first_or_second size full r e)

    at_required : (required ≡ Some r) ⊎ (first_of_two unique (first_of_two size full) ≡ Some r) → Names columns r
    at_required (inl e) = required_names columns _ (below lacks 1 columns cells) r e
    at_required (inr e) = at_unique (first_or_second unique (first_of_two size full) r e)

-- ---- a row that is there never finds its table full
not_in_column : (rule : RowRule) → rule ≢ Full → (o : Option ℕ) (r : RowRefusal) → in_column rule o ≡ Some r → r.rule ≢ Full
not_in_column rule other None r e = absurd cc
not_in_column rule other (Some k) r e = λ f. other (let q : (let x : RowRefusal = record { column = Some k; rule = rule } in x) ≡ r = cc in ap (λ (x : RowRefusal). x.rule) q ∙ f)

not_size : (b : Bool) (r : RowRefusal) → where_broken Size b ≡ Some r → r.rule ≢ Full
not_size false r e = absurd cc
not_size true r e = λ f. absurd (let q : (let x : RowRefusal = record { column = None; rule = Size } in x) ≡ r = cc in let z : Size ≡ Full = ap (λ (x : RowRefusal). x.rule) q ∙ f in cc)

pub not_full : (columns : List Column) (s : TableState) (all id : ℕ) (cells : List Data) (r : RowRefusal) → rule_in columns s all (Some id) cells ≡ Some r → r.rule ≢ Full
not_full columns s all id cells r h = at_required (first_or_second required (first_of_two unique (first_of_two size full)) r h)
  where
    required : Option RowRefusal
    required = in_column Required (first_broken lacks 1 columns cells)

    unique : Option RowRefusal
    unique = in_column Unique (first_broken (repeats (others (Some id) s.rows)) 1 columns cells)

    size : Option RowRefusal
    size = where_broken Size (nat_lt 2048 (cells_weight cells))

    full : Option RowRefusal
    full = None

    at_size : (size ≡ Some r) ⊎ (full ≡ Some r) → r.rule ≢ Full
    at_size (inl e) = not_size (nat_lt 2048 (cells_weight cells)) r e
    at_size (inr e) = absurd cc

    at_unique : (unique ≡ Some r) ⊎ (first_of_two size full ≡ Some r) → r.rule ≢ Full
    at_unique (inl e) = not_in_column Unique (λ f. absurd cc) (first_broken (repeats (others (Some id) s.rows)) 1 columns cells) r e
    at_unique (inr e) = at_size (first_or_second size full r e)

    at_required : (required ≡ Some r) ⊎ (first_of_two unique (first_of_two size full) ≡ Some r) → r.rule ≢ Full
    at_required (inl e) = not_in_column Required (λ f. absurd cc) (first_broken lacks 1 columns cells) r e
    at_required (inr e) = at_unique (first_or_second unique (first_of_two size full) r e)
