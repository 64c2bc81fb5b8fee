-- Names by where they stand in bytes.
use Rattle.std.specs.Prelude.{ℕ, ◌+◌, ◌≤◌, List, ◌≡◌, length, get_or}
use Rattle.std.proofs.Math.Option.{some as just}
use Rattle.std.proofs.Math.ListN.{get_elem?}
use Rattle.grammar.specs.Names.{Name}
use Rattle.reader.specs.TableIndex.{BytesStand}

-- these names stand in the bytes, in order: `places` has where each begins, and 128 numbers later where it ends
pub record NamesAt (s places : List ℕ) (number : ℕ) (list : List Name) : Type 0 where
  pub count : number ≡ length list
  pub name : (i : ℕ) (n : Name) → get_elem? list i ≡ just n → BytesStand s (get_or places i 0) (get_or places (128 + i) 0) n
  pub few : number ≤ 128
  pub room : 256 ≤ length places

-- some names do
pub record NamesStand (s places : List ℕ) (count : ℕ) : Type 0 where
  pub list : List Name
  pub at : NamesAt s places count list
