-- What std writes for a number of 64 bits is `decimal`.
use mathlib.Core.Path.{◌≡◌, ap, ◌∙◌}
use Prim.Native.Nat.{ℕ, zero, suc, ◌+◌, ◌-◌, ◌/◌, ◌%◌, ◌^◌, ◌≤◌, ◌<◌}
use native.Mathlib.Omega.{arith}
use mathlib.Core.List.{List, [], ◌∷◌, ◌++◌}
use lib.ListN.{length, replicate}
use borrow.Author.Tests.{lt-ltb, le-ltb}
use Rattle.std.specs.Fmt.{decimal as digits_of}
use Rattle.std.proofs.lemmas.Fmt.{decimal_digit, decimal_step, length-decimal-le}
use Rattle.show.specs.Text.{decimal_in, decimal, wide}
use mathlib.Core.Logic.{⊎_elim}
use Rattle.bits.proofs.Tests.{le_or_lt}

-- twenty digits hold any number of 64 bits
pub few : (n : ℕ) → n < 2 ^ 64 → length (digits_of n) ≤ 20
few n h = length-decimal-le 20 n (omega arith) (omega arith) h

below : (f n : ℕ) → n < 10 → n ≤ suc f → digits_of n ≡ decimal_in (suc f) n
below f n s l = rw (lt-ltb n 10 s) (decimal_digit n s ∙ ap (λ (x : ℕ). (48 + x) ∷ []) (omega (arith, s)))

beyond : (f n : ℕ) → 10 ≤ n → n < 2 ^ 64 → digits_of (n / 10) ≡ decimal_in f (n / 10) → digits_of n ≡ decimal_in (suc f) n
beyond f n s h e = rw (le-ltb n 10 s) (decimal_step n s h ∙ ap (λ (t : List ℕ). t ++ ((48 + n % 10) ∷ [])) e)

pub decimal_in_lem : (f n : ℕ) → n ≤ f → n < 2 ^ 64 → digits_of n ≡ decimal_in f n
decimal_in_lem zero n l h = decimal_digit n (omega arith) ∙ ap (λ (x : ℕ). (48 + x) ∷ []) (omega arith)
decimal_in_lem (suc f) n l h =
    ⊎_elim (λ s. beyond f n s h (decimal_in_lem f (n / 10) (omega (arith, s, l)) (omega arith))) (λ s. below f n s l) (le_or_lt 10 n)

pub decimal-is : (n : ℕ) → n < 2 ^ 64 → digits_of n ≡ decimal n
unfolding decimal
decimal-is n h = decimal_in_lem n n (omega arith) h

-- spaces, then the digits
pub wide_is : (w n : ℕ) → n < 2 ^ 64 → replicate (w - length (digits_of n)) 32 ++ digits_of n ≡ wide w n
unfolding wide
wide_is w n h = ap (λ (t : List ℕ). replicate (w - length t) 32 ++ t) (decimal-is n h)
