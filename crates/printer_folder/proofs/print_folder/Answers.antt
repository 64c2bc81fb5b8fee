-- `print_folder` meets its contract: what is written lies within its space.
use native.Mathlib.Omega.{arith}
use Rattle.printer_folder.proofs.print_folder.Goals as goal

pub slice_bounds-write_all-end : goal.slice_bounds-write_all-end
slice_bounds-write_all-end c = omega arith
