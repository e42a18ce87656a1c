-- Which records tell an error.
use Rattle.std.proofs.Common.{◌≡◌, ℕ, List, Option, Some, None, Bool, true, false, refl, sym, ap, ◌∙◌, codes, option_map}
use Rattle.std.specs.Prelude.{◌&&◌, unwrap_or}
use Rattle.std.specs.Str.{chars}
use Rattle.fx_types.specs.Types.{Shape, ColumnList, texts}
use Rattle.fx_typing.specs.Columns.{has_text_coercion, is_told_or_missing, tells_error}
use Rattle.fx_core.specs.ColumnLists.{field_in}
use Rattle.fx_typing.specs.Local.{without_kind}
use Rattle.fx_typing.specs.Ways.{way, is_open}

-- whether a field has a coercion to Text, or what is said where it is missing
abbrev pub told : Bool → Option Shape → Bool
told b o = unwrap_or (option_map (λ t. is_open (way t texts)) o) b

told_kind : (o : Option Shape) → told false o ≡ has_text_coercion o
told_kind None = refl
told_kind (Some t) = refl

told_message : (o : Option Shape) → told true o ≡ is_told_or_missing o
told_message None = refl
told_message (Some t) = refl

both_by : (k m : Bool) (cs : ColumnList) → k ≡ told false (field_in (codes "Kind") cs) → m ≡ told true (field_in (codes "Message") cs) → (k && m) ≡ tells_error cs
both_by k m cs e f = rw (e ∙ told_kind (field_in (codes "Kind") cs), f ∙ told_message (field_in (codes "Message") cs)) refl

pub tells_both : (k m : Bool) (cs : ColumnList) → k ≡ true → k ≡ told false (field_in (chars (codes "Kind")) cs) → m ≡ told true (field_in (chars (codes "Message")) cs) → m ≡ tells_error cs
unfolding chars
tells_both k m cs h e f = both_by true m cs (sym h ∙ e) f

pub tells_none : (k : Bool) (cs : ColumnList) → k ≡ false → k ≡ told false (field_in (chars (codes "Kind")) cs) → k ≡ tells_error cs
unfolding chars
tells_none k cs h e = h ∙ both_by false _ cs (sym h ∙ e) refl

-- the rule by the field Kind
pub kind_by : (w : List ℕ) (o : Option Shape) (cs : ColumnList) → w ≡ chars (codes "Kind") → o ≡ field_in w cs → without_kind o ≡ without_kind (field_in (codes "Kind") cs)
unfolding chars
kind_by w o cs e h = ap without_kind (h ∙ ap (λ x. field_in x cs) e)
