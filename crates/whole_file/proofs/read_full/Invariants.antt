use Rattle.std.proofs.Common.{length, take, ◌-◌, ◌≤◌, IsNone, IsSome}
use Rattle.std.specs.Io.KnownBytes.{Consumes}
use Rattle.whole_file.specs.Left.{left}
use Rattle.whole_file.proofs.read_full.Given as goal

abbrev pub invariant-loop-done : goal.invariant-loop-done
invariant-loop-done g l =
    (l.done ≤ length l.buffer)
    × ((IsNone l.initial.file → IsNone l.file) × (IsSome l.initial.file → IsSome l.file))
    × Consumes (left g.R.Read.remaining l.initial.file) (left g.R.Read.remaining l.file) (take l.done l.buffer)

abbrev pub decreases-loop-done : goal.decreases-loop-done
decreases-loop-done g l = length l.initial.buffer - l.done
