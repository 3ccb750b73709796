-- What `octets::copy` leaves where all of p has room.
--     copied_whole     all of p stands in front
use mathlib.Core.Path.{◌≡◌}
use Prim.Native.Nat.{ℕ, ◌≤◌}
use native.Mathlib.Omega.{arith}
use mathlib.Core.List.{List, ◌++◌}
use lib.ListN.{length, take, drop}
use lib.Seq.{take_all}

pub copied_whole : (p out l : List ℕ) → length p ≤ length out → l ≡ take (length out) p ++ drop (length p) out → l ≡ take (length p) p ++ drop (length p) out
copied_whole p out l h e = rw (take_all (length p) p (omega arith)) (rw (take_all (length out) p h) at e)
