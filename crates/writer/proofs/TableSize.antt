-- Whether a table is too large for a file, of any table:
--   types_over, content_over, bytes_over : it is, by its types, by a content, by its bytes
--   all_fit                              : it is not
--   size_over, size_fits                 : what 14 looks at
use Prim.Native.Nat.{◌≤◌, ◌<◌}
use mathlib.Core.Bool.{Bool, true, false, ◌||◌}
use mathlib.Core.List.{Memᴰ}
use mathlib.Core.Path.{◌≡◌, ap}
use lib.Dec.{ltb}
use lib.ListN.{length}
use Rattle.grammar.specs.Lists.{any_pass}
use Rattle.grammar.specs.Limits.{Limits, large, input_limit}
use Rattle.grammar.specs.LimitSets.{limits_of}
use Rattle.grammar.specs.declared.SizeLimits.{SizeLimits}
use Rattle.grammar.specs.Table.{Rule, Table}
use Rattle.std.specs.Prelude.{Ok, Err}
use Rattle.grammar.specs.Outcome.{◌>>◌, turn_back}
use Rattle.grammar.specs.WriteTable.{table_bytes}
use Rattle.grammar.specs.Size.{content_too_large, too_large}
use Rattle.grammar.specs.Widen.{of_size}
use Rattle.grammar.specs.declared.Refusal.TheVariants.{ResultTooLarge}
use borrow.Author.Tests.{lt-ltb, le-ltb}
use Rattle.theory.proofs.Lists.BoolLaws.{or_left, or_right, or_none, false_of, not_both}
use Rattle.theory.proofs.Lists.ListLaws.{any_of, any_found}

module _ (l : SizeLimits) (g : Table) where
  abbrev lim : Limits
  lim = limits_of l

  abbrev over : Rule → Bool
  over r = content_too_large lim r.content

  abbrev many : Bool
  many = ltb l.rules (length g.rules)

  abbrev long : Bool
  long = ltb input_limit (length (table_bytes g))

  pub size_over : too_large lim g ≡ true → of_size lim g ≡ Err ResultTooLarge
  unfolding of_size
  size_over e = ap (λ (b : Bool). turn_back b ResultTooLarge >> Ok g) e

  pub size_fits : too_large lim g ≡ false → of_size lim g ≡ Ok g
  unfolding of_size
  size_fits e = ap (λ (b : Bool). turn_back b ResultTooLarge >> Ok g) e

  pub types_over : l.rules < length g.rules → too_large lim g ≡ true
  unfolding too_large
  types_over h = or_left (many || any_pass over g.rules) long (or_left many (any_pass over g.rules) (lt-ltb l.rules (length g.rules) h))

  -- the limits of a content are the same for all sizes
  pub content_over : {r : Rule} → Memᴰ r g.rules → content_too_large large r.content ≡ true → too_large lim g ≡ true
  unfolding too_large content_too_large large
  content_over m e = or_left (many || any_pass over g.rules) long (or_right many (any_pass over g.rules) (any_of over m e))

  pub bytes_over : input_limit < length (table_bytes g) → too_large lim g ≡ true
  unfolding too_large
  bytes_over h = or_right (many || any_pass over g.rules) long (lt-ltb input_limit (length (table_bytes g)) h)

  pub all_fit : length g.rules ≤ l.rules → ((r : Rule) → Memᴰ r g.rules → content_too_large large r.content ≡ false)
      → length (table_bytes g) ≤ input_limit → too_large lim g ≡ false
  unfolding too_large content_too_large large
  all_fit a b c =
      or_none (many || any_pass over g.rules) long
      (or_none many (any_pass over g.rules) (le-ltb l.rules (length g.rules) a)
      (false_of (any_pass over g.rules)
      (λ o.
      let (x, m, w) = any_found over g.rules o in
      not_both w (b x m))))
      (le-ltb input_limit (length (table_bytes g)) c)
