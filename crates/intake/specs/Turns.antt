-- How the turns of a program end. They are counted, since a proved loop has to end and nothing says that the input does.
--     most_turns        the most turns that are made: the largest number that the count of them holds
--     Ends made more   a turn was made, and there is more to come only where no further turn can be counted
use Rattle.std.specs.Prelude.{◌≡◌, ℕ, ◌-◌, ◌^◌, ◌≤◌, Bool, true}

abbrev pub most_turns : ℕ
most_turns = 2 ^ 64 - 1

pub record Ends (made : ℕ) (more : Bool) : Type 0 where
  pub some : 1 ≤ made
  pub most : more ≡ true → made ≡ most_turns
