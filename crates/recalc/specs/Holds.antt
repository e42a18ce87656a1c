-- That a session holds a source is a fact.
use Rattle.std.proofs.Props.{props}
use Rattle.fx_core.specs.declared.sources.Source.{Source}
use Rattle.fx_core.specs.declared.sources.Source.TheVariants as source
use Rattle.session_state.specs.Sessions.{Holds, SessionState}

pub holds_prop : (s : SessionState) (x : Source) → IsProp (Holds s x)
holds_prop s (source.Global k) = hlevel props
holds_prop s (source.Context k) = hlevel props
holds_prop s (source.Gathered k) = hlevel props
holds_prop s (source.Input k) = hlevel props
holds_prop s (source.Cell k) = hlevel props
holds_prop s (source.Chosen k) = hlevel props
holds_prop s (source.Table k) = hlevel props
holds_prop s source.Today = hlevel props
