-- The answers as the calls give them, with the paper's number and value for each case.
use Rattle.std.specs.Prelude.{ℕ, Bool, true, false, List, length, Result, Ok, Err}
use Rattle.grammar.specs.Outcome.{number}
use Rattle.grammar.specs.declared.Refusal.{Refusal}

-- A refusal comes with its number and value 0; else the number is 0, and the value 1 for yes and readable, 0 for no, and the length
-- of a table or of pages written.
pub record Numbers : Type 0 where
  pub refusal : ℕ
  pub value : ℕ

unfoldable pub refused_by : Refusal → Numbers
unfolding number
refused_by r = record { refusal = number r; value = 0 }

abbrev pub says_yes : Numbers
says_yes = record { refusal = 0; value = 1 }

abbrev pub says_no : Numbers
says_no = record { refusal = 0; value = 0 }

-- the numbers of each case of an answer: that an input reads; yes or no; how many bytes were written
unfoldable pub reading_numbers : Result (Unit {0}) Refusal → Numbers
unfolding refused_by
reading_numbers (Ok done) = says_yes
reading_numbers (Err r) = refused_by r

unfoldable pub verdict_numbers : Result Bool Refusal → Numbers
unfolding refused_by
verdict_numbers (Ok true) = says_yes
verdict_numbers (Ok false) = says_no
verdict_numbers (Err r) = refused_by r

unfoldable pub written_numbers : Result ℕ Refusal → Numbers
unfolding refused_by
written_numbers (Ok n) = record { refusal = 0; value = n }
written_numbers (Err r) = refused_by r

-- the numbers of an outcome, by the value of what was given
unfoldable pub numbers_of : {A : Type 0} → (A → ℕ) → Result A Refusal → Numbers
unfolding refused_by
numbers_of value (Ok a) = record { refusal = 0; value = value a }
numbers_of value (Err r) = refused_by r

-- the value of yes or no
unfoldable pub bit : Bool → ℕ
bit true = 1
bit false = 0

-- what a call answers for an outcome
unfoldable pub reading : {A : Type 0} → Result A Refusal → Result (Unit {0}) Refusal
reading (Ok a) = Ok tt
reading (Err r) = Err r

unfoldable pub verdict : Result Bool Refusal → Result Bool Refusal
verdict o = o

unfoldable pub written : Result (List ℕ) Refusal → Result ℕ Refusal
written (Ok bytes) = Ok (length bytes)
written (Err r) = Err r

-- A lent number ends as the refusal's, else 0.
unfoldable pub number_after : {A : Type 0} → Result A Refusal → ℕ
unfolding number
number_after (Ok a) = 0
number_after (Err r) = number r
