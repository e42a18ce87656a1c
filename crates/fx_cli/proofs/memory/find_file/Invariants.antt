use Rattle.std.proofs.Common.{◌≡◌, drop}
use Rattle.fx_cli.specs.Disk.{bytes_named, files_of}
use Rattle.fx_cli.proofs.memory.find_file.Given as goal

abbrev pub invariant-loop-other : goal.invariant-loop-other
invariant-loop-other l = bytes_named (files_of (drop l.other-index l.files)) l.name ≡ bytes_named (files_of l.files) l.name
