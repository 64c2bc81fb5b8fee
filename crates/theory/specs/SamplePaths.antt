-- The types of a document's sample, by paths.
use Rattle.std.specs.Prelude.{ℕ, List, []}
use Rattle.grammar.specs.Lists.{place}
use Rattle.grammar.specs.Names.{Name}
use Rattle.grammar.specs.Tree.{Tree}
use Rattle.grammar.specs.Sample.{visits, same_path, paths_of}

-- the type of a path in the sample of a document
abbrev pub path_type : Tree → List Name → ℕ
path_type d p = place same_path p (paths_of (visits d []))
