-- What a run has outside, and what contracts see of it.
use Rattle.app_wire.specs.declared.clock.Clock as clock
use Rattle.app_wire.specs.declared.doors.Doors as doors
use Rattle.row_keeper.specs.declared.keeper.Keeper as keeper
use Rattle.fx_cli.specs.declared.files.Files as files
use Rattle.fx_cli.specs.declared.sink.Sink as sink

-- what a run works on up to its report: doors, a keeper of rows, files and a clock
pub record Work (D K F C : Type 0) : Type 0 where
  pub doors : D
  pub keeper : K
  pub files : F
  pub clock : C

-- and what the report is written to
pub record Outside (D K F O C : Type 0) : Type 0 where
  pub work : Work D K F C
  pub out : O

-- what is seen of each: its ghost members
pub record WorkSight (D K F C : Type 0) : Type 1 where
  pub doors : doors.Ghosts D
  pub keeper : keeper.Ghosts K
  pub files : files.Ghosts F
  pub clock : clock.Ghosts C

pub record Sight (D K F O C : Type 0) : Type 1 where
  pub work : WorkSight D K F C
  pub out : sink.Ghosts O

abbrev pub work_of : {D K F C : Type 0} → D → K → F → C → Work D K F C
work_of d k f c = record { doors = d; keeper = k; files = f; clock = c }

abbrev pub outside : {D K F O C : Type 0} → D → K → F → O → C → Outside D K F O C
outside d k f o c = record { work = work_of d k f c; out = o }

abbrev pub work_sight : {D K F C : Type 0} → doors.Ghosts D → keeper.Ghosts K → files.Ghosts F
    → clock.Ghosts C → WorkSight D K F C
work_sight d k f c = record { doors = d; keeper = k; files = f; clock = c }

abbrev pub sight : {D K F O C : Type 0} → doors.Ghosts D → keeper.Ghosts K → files.Ghosts F
    → sink.Ghosts O → clock.Ghosts C → Sight D K F O C
sight d k f o c = record { work = work_sight d k f c; out = o }
