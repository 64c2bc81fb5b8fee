-- `list_folder` meets its contract: the text that is written lies within its space.
use native.Mathlib.Omega.{arith}
use Rattle.lister_folder.proofs.list_folder.Goals as goal

pub slice_bounds-write_all-end : goal.slice_bounds-write_all-end
slice_bounds-write_all-end c = omega arith
