-- The records of a run have room; what is filled in.
use mathlib.Core.Path.{◌≡◌, refl, sym, ap, ◌∙◌}
use Prim.Native.Nat.{ℕ, ◌*◌, ◌%◌, ◌^◌, ◌≤◌}
use native.Mathlib.Nat.{le_trans, le_of_eq, mul-le-mul_right}
use native.Mathlib.Omega.{arith}
use mathlib.Core.List.{List, ◌++◌, flatten}
use lib.ListN.{length, drop}
use lib.Pow.{pow_pos, pow_mono}
use Rattle.meaning.specs.Limits.{largest_n}
use Rattle.meaning.specs.Answers.{leaving}
use Rattle.meaning.specs.Stream.{answer_bytes, n_of, rounded_up, records, streaming}
use Rattle.meaning.specs.declared.Answer.{Answer}
use Rattle.bits.proofs.RowLaws.{length-flatten}
use Rattle.meaning.proofs.Cutting.{rounded_few}
use Rattle.stream.proofs.Streaming.{records-wide}
use Rattle.stream.proofs.Promise.{room-written}
use Rattle.stream.proofs.Counting.{counted}
use Rattle.recover.specs.Runs.{run_words, Ready, Filled}

pub run_room : (s ch : List ℕ) (run room : ℕ) → Ready s ch run room → (input : List ℕ) → length input ≤ run → length (records s ch input) * answer_bytes ≤ room
run_room s ch run room ok input h =
    let N : ℕ = 2 ^ n_of s in
    let e : rounded_up (length input) N ≡ length (records s ch input) = counted s ch input (n_of s) refl ok.small ok.two N refl _ refl in
    let l : rounded_up (length input) N ≤ run_words = rounded_few (length input) N run_words (omega (arith, pow_pos (n_of s))) (omega (arith, ok.words)) in
    le_trans (mul-le-mul_right answer_bytes (le_trans (le_of_eq (sym e)) l)) ok.roomy

module _ (s ch : List ℕ) (n : ℕ) (e : n ≡ n_of s) where
  pub ready : n ≤ largest_n → length ch ≡ 2 → (run : ℕ) → run ≡ run_words * 2 ^ n → Ready s ch run (run_words * answer_bytes)
  ready h q run er = record { small = rw (← e) h; two = q; words = er ∙ ap (λ (k : ℕ). run_words * 2 ^ k) e; roomy = omega arith }

-- the words of a run, as the code has them
pub run_is : (n : ℕ) → n ≤ largest_n → (run_words * 2 ^ n % 2 ^ 64 ≡ run_words * 2 ^ n) × (run_words * 2 ^ n ≤ run_words * 2 ^ largest_n)
unfolding largest_n run_words
run_is n h = let l = pow_mono {i = n} {j = largest_n} h in (omega (arith, l), omega (arith, l))

-- ---- what is filled in

-- what `answer` leaves, given room
pub filled_in_lem : (s ch words found out : List ℕ) (a : Answer) (k : ℕ) (lent : List ℕ) → lent ≡ words → leaving out a ≡ streaming s ch lent found
    → length (records s ch words) * answer_bytes ≤ length found → k ≡ length (records s ch words) → Filled s ch words found out (k * answer_bytes)
filled_in_lem s ch words found out a k lent same p' l e =
    let p : leaving out a ≡ streaming s ch words found = rw same at p' in
    let q : k * answer_bytes ≡ length (flatten (records s ch words)) = ap (λ (j : ℕ). j * answer_bytes) e ∙ sym (length-flatten answer_bytes (records s ch words) (records-wide s ch words)) in
    record { bytes = q; filled = room-written s ch words found out a p l ∙ ap (λ (j : ℕ). flatten (records s ch words) ++ drop j found) (sym q) }
