-- One reply of one present.
use Rattle.std.proofs.Common.{◌≡◌, ℕ, List, Option, Some, None, refl, sym, subst, ap, ◌∙◌}
use Rattle.std.proofs.Math.Logic.{∥∥₁_elim}
use Rattle.std.proofs.Props.{props}
use Rattle.recalc.specs.app_semantics.Fresh.{AreKnown}
use Rattle.recalc.specs.app_semantics.Holding.{HoldsFitting}
use Rattle.recalc.specs.app_semantics.Present.{Present, present}
use Rattle.recalc.specs.app_semantics.Sound.{IsSoundApp}
use Rattle.session_views.specs.Galleries.{gallery_named}
use Rattle.session_views.specs.Laws.{OneItems, OneItemsReply, OneView, OneViewReply}
use Rattle.session_views.specs.Shows.{SaysItemsOf, items_reply}
use Rattle.session_views.specs.Views.{IsFreshView}
use Rattle.app_wire.specs.ReplyBytes.{reply}
use Rattle.fx_base.specs.Silence.{SilenceCause}
use Rattle.row_keeper.specs.Tables.{Tables, rows_told}
use Rattle.row_queries.specs.declared.rows.Row.{Row}
use Rattle.view_text.specs.ViewText.{view_text}
use Rattle.view_text.specs.declared.views.View.{View}

words_set : (x y : List ℕ) → IsProp (x ≡ y)
words_set x y = hlevel props

pub one_view_reply : OneView → OneViewReply
one_view_reply one k l m n app moment None a b c d said said' sound holds known same h j = h.0 ∙ sym j.0
one_view_reply one k l m n app moment (Some s) a b c d said said' sound holds known same h j =
    ∥∥₁_elim h.0.1 (words_set said said') (λ x. ∥∥₁_elim j.0.1 (words_set said said') (λ y.
    let second : IsFreshView (present app s (rows_told b) moment) j.0.0 = subst (λ (r : Option (List (List Row))). IsFreshView (present app s r moment) j.0.0) (sym same) y in
    h.0.2 ∙ ap (λ (v : View). reply 200 (view_text v)) (one (present app s (rows_told b) moment) h.0.0 j.0.0 sound (holds s refl) known x second) ∙ sym j.0.2))

says_one : OneItems → (lost lost' : Type 0) (p : Present) (from : ℕ) (o : Option ℕ) (a b c d : Option Tables) (said said' : List ℕ) → IsSoundApp p.app → HoldsFitting p.app.names p.session → AreKnown p.app p.tables →
    SaysItemsOf lost p from o a said b → SaysItemsOf lost' p from o c said' d → said ≡ said'
says_one one lost lost' p from None a b c d said said' sound holds known h k = h.0 ∙ sym k.0
says_one one lost lost' p from (Some g) a b c d said said' sound holds known h k =
    ∥∥₁_elim h.0.1 (words_set said said') (λ x. ∥∥₁_elim k.0.1 (words_set said said') (λ y. h.0.2 ∙ ap items_reply (one p g from h.0.0 k.0.0 sound holds known x y) ∙ sym k.0.2))

pub one_items_reply : OneItems → OneItemsReply
one_items_reply one k l m n app moment gallery from None a b c d said said' sound holds known same h j = h.0 ∙ sym j.0
one_items_reply one k l m n app moment gallery from (Some s) a b c d said said' sound holds known same h j =
    says_one one (SilenceCause k l) (SilenceCause m n) (present app s (rows_told b) moment) from (gallery_named gallery app.names) a b c d said said' sound (holds s refl) known h
    (subst (λ (r : Option (List (List Row))). SaysItemsOf (SilenceCause m n) (present app s r moment) from (gallery_named gallery app.names) c said' d) (sym same) j)
