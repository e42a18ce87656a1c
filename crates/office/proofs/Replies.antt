-- The bodies of replies.
use Rattle.std.proofs.Common.{◌≡◌, ℕ, suc, List, [], ◌∷◌, Some, map, refl, ap, sym, ◌∙◌}
use Rattle.std.proofs.Math.Logic.{∥∥₁_elim}
use Rattle.std.proofs.Props.{props}
use Rattle.std.specs.List.{slice_get}
use Rattle.serde_json.specs.Data.{array}
use Rattle.serde_json.specs.View.{items_of}
use Rattle.serde_json.specs.Written.{compact_text}
use Rattle.app_loader.specs.app_semantics.Fresh.{AreKnown}
use Rattle.app_loader.specs.app_semantics.Holding.{HoldsFitting}
use Rattle.app_loader.specs.app_semantics.Laws.{OneFreshAt}
use Rattle.app_loader.specs.app_semantics.Present.{Present}
use Rattle.app_loader.specs.app_semantics.Sound.{IsSoundApp}
use Rattle.fx_types.specs.Values.{Data}
use Rattle.fx_core.specs.declared.names.FormulaName.{FormulaName}
use Rattle.view_text.specs.JsonText.{tagged}
use Rattle.view_text.specs.ReplyText.{named_data, named_text}
use Rattle.view_text.specs.declared.replies.Named.{Named}
use Rattle.office.specs.NamedReply.{IsNamedBody, IsNamedList, formulas_by_name, named_body, named_values, pair_data, reply_row}

words_set : (x y : List ℕ) → IsProp (x ≡ y)
words_set x y = hlevel props

by_pairs : (rows : List Named) → map named_data rows ≡ map pair_data (map reply_row rows)
by_pairs [] = refl
by_pairs (r ∷ rs) = ap (λ ds. named_data r ∷ ds) (by_pairs rs)

-- rows with these names and values are the body
pub named_is : (rows : List Named) (values : List (List ℕ × Data)) → map reply_row rows ≡ values → named_text rows ≡ named_body values
unfolding named_body
named_is rows values h = ap (λ ds. compact_text (tagged (110 ∷ 97 ∷ 109 ∷ 101 ∷ 100 ∷ []) (array (items_of ds)))) (by_pairs rows ∙ ap (map pair_data) h)

-- the values of cells that are the same are shown alike
alike : (values others : ℕ → Data) (fs : List FormulaName) → ((i : ℕ) (f : FormulaName) → slice_get fs i ≡ Some f → values f.cell ≡ others f.cell) → map (formulas_by_name values) fs ≡ map (formulas_by_name others) fs
alike values others [] h = refl
alike values others (f ∷ fs) h =
    ap (λ (d : Data). (f.name, d) ∷ map (formulas_by_name values) fs) (h 0 f refl) ∙ ap (λ ds. formulas_by_name others f ∷ ds) (alike values others fs (λ i g there. h (suc i) g there))

-- where an app and a session are accepted, named formulas have one list of values at a moment
pub one_list : OneFreshAt → (p : Present) (vs ws : List (List ℕ × Data)) → IsSoundApp p.app → HoldsFitting p.app.names p.session → AreKnown p.app p.tables → IsNamedList p vs → IsNamedList p ws → vs ≡ ws
one_list once p vs ws sound holds known h k =
    h.2 ∙ alike h.0 k.0 p.app.names.formulas (λ i f there.
    let at = sound.formulas i f there in
    once p h.0 k.0 f.cell at.cell sound holds known at.there (h.1 i f there) (k.1 i f there))
    ∙ sym k.2

-- and one body
pub one_body : OneFreshAt → (p : Present) (x y : List ℕ) → IsSoundApp p.app → HoldsFitting p.app.names p.session → AreKnown p.app p.tables → IsNamedBody p x → IsNamedBody p y → x ≡ y
one_body once p x y sound holds known h k =
    ∥∥₁_elim h.1 (words_set x y) (λ a. ∥∥₁_elim k.1 (words_set x y) (λ b. h.2 ∙ ap named_body (one_list once p h.0 k.0 sound holds known a b) ∙ sym k.2))
