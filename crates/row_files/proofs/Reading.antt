-- Records that are written and read.
use Rattle.std.proofs.Common.{◌≡◌, ◌∙◌, ℕ, List, [], ◌∷◌, Some, None, refl, sym, ap, subst}
use Rattle.std.specs.List.{AllByRecursion}
use Rattle.std.proofs.lemmas.Option.{same_Some}
use Rattle.csv.proofs.RoundTrip.{read-write}
use Rattle.csv.specs.Machine.{Read, next_record}
use Rattle.csv.specs.Reading.{AreRecords, Reached, default_config, strip_bom}
use Rattle.csv.specs.Writing.{read_back}
use Rattle.csv.specs.declared.parser.State.{State}
use Rattle.csv.specs.declared.parser.State.TheVariants as st
use Rattle.row_files.specs.Laws.{IsOneReading}
use Rattle.row_files.specs.Records.{AreRecordsOf, Fields, records_text}

-- there is a field
abbrev pub HasField : Fields → Type 0
HasField [] = ⊥
HasField (f ∷ fs) = Unit {0}

itself : (f : Fields) → HasField f → f ≡ read_back f
itself [] h = absurd h
itself (x ∷ xs) h = refl

reached : (rows : List Fields) → AllByRecursion HasField rows → Reached default_config st.StartRecord (records_text rows) rows st.StartRecord []
unfolding Reached
reached [] h = (refl, refl)
reached (r ∷ rs) h = ((read_back r, st.StartRecord, records_text rs), read-write r (records_text rs), itself r h.0, reached rs h.1)

ended : next_record default_config st.StartRecord [] [] [] ≡ None
unfolding next_record
ended = refl

-- what is written is read, where no byte order mark is left out
pub written_is_read : (rows : List Fields) → AllByRecursion HasField rows → strip_bom (records_text rows) ≡ records_text rows → AreRecordsOf (records_text rows) rows
written_is_read rows h plain =
    subst (λ bs. AreRecords default_config st.StartRecord bs rows) (sym plain) (st.StartRecord, [], reached rows h, ended)

-- where nothing more is read, and where something is
over : (s t : State) (xs ys : List ℕ) (p : Read) → s ≡ t → xs ≡ ys → next_record default_config t [] [] ys ≡ None → next_record default_config s [] [] xs ≡ Some p → ⊥
over s t xs ys p e f none some =
    let there : next_record default_config s [] [] xs ≡ None = ap (λ z. next_record default_config z [] [] xs) e ∙ ap (λ z. next_record default_config t [] [] z) f ∙ none in
    let no : None ≡ Some p = sym there ∙ some in cc

alike : (s : State) (xs : List ℕ) (rows others : List Fields) (t u : State) (ys zs : List ℕ) → Reached default_config s xs rows t ys → next_record default_config t [] [] ys ≡ None
    → Reached default_config s xs others u zs → next_record default_config u [] [] zs ≡ None → rows ≡ others
unfolding Reached
alike s xs [] [] t u ys zs a p b q = refl
alike s xs [] (r ∷ rs) t u ys zs a p b q = absurd (over s t xs ys b.0 a.0 a.1 p b.1)
alike s xs (r ∷ rs) [] t u ys zs a p b q = absurd (over s u xs zs a.0 b.0 b.1 q a.1)
alike s xs (r ∷ rs) (o ∷ os) t u ys zs a p b q =
    let same : a.0 ≡ b.0 = same_Some a.0 b.0 (sym a.1 ∙ b.1) in
    let first : r ≡ o = a.2 ∙ ap (λ (x : Read). x.0) same ∙ sym b.2 in
    let rest : rs ≡ os = alike b.0.1 b.0.2 rs os t u ys zs (subst (λ (x : Read). Reached default_config x.1 x.2 rs t ys) same a.3) p b.3 q in
    λ i. first i ∷ rest i

pub one_reading_law : IsOneReading
one_reading_law bytes records others a b = alike st.StartRecord (strip_bom bytes) records others a.0 b.0 a.1 b.1 a.2 a.3 b.2 b.3
