-- What a keeper is shaped by after a transaction that moves no tables: what it was.
use Rattle.std.proofs.Common.{◌≡◌, ◌∙◌, Result, Ok, Err, ap, sym}
use Rattle.std.specs.Prelude.{OnErr, OnOk}
use Rattle.fx_core.specs.declared.schema.Schema.{Schema}
use Rattle.row_keeper.specs.Shaped.{Shaped, by, gone_back, steady}

pub still_steady : (x y : Shaped) (s : Schema) → x ≡ by s → y ≡ steady x → y ≡ x
still_steady x y s h e = e ∙ ap steady h ∙ sym h

pub still_back : (x y : Shaped) (s : Schema) → x ≡ by s → y ≡ gone_back x → y ≡ x
still_back x y s h e = e ∙ ap gone_back h ∙ sym h

-- whether it ends with its changes or not
pub still_ended : {T E : Type 0} (r : Result T E) (x y : Shaped) (s : Schema) → x ≡ by s → OnOk r (y ≡ steady x) → OnErr r (y ≡ gone_back x) → y ≡ x
still_ended (Ok t) x y s h ok err = still_steady x y s h ok
still_ended (Err e) x y s h ok err = still_back x y s h err
