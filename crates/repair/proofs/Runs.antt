-- The parts and records of a run have room; what is filled in.
use mathlib.Core.Path.{◌≡◌, sym, ap, ◌∙◌}
use Prim.Native.Nat.{ℕ, ◌*◌, ◌%◌, ◌^◌, ◌≤◌}
use native.Mathlib.Nat.{le_trans, le_of_eq, mul-le-mul_right}
use native.Mathlib.Omega.{arith}
use mathlib.Core.List.{List, [], ◌++◌, flatten}
use lib.ListN.{length, drop}
use lib.Pow.{pow_mono}
use Rattle.meaning.specs.Limits.{largest_n, head_bytes}
use Rattle.meaning.specs.Stream.{n_of, rounded_up}
use Rattle.meaning.specs.declared.Answer.{Answer}
use Rattle.meaning.proofs.Cutting.{rounded_few}
use Rattle.strip_stream.specs.Strips.{strip_bytes, part_bytes, record_count, part_count, headers, parts, leaving_both, answering_strips}
use Rattle.strip_stream.proofs.Cases.{strip-pos}
use Rattle.strip_stream.proofs.Writing.{headers-bytes, parts-bytes}
use Rattle.strip_stream.proofs.Promise.{record_count_lem, part-count, room-written}
use Rattle.repair.specs.Runs.{run_strips, Room, Ready, Filled}

pub run_room : (s ch : List ℕ) (run l m : ℕ) → Ready s ch run l m → (strips : List ℕ) → length strips ≤ run → Room s ch strips l m
run_room s ch run l m ok strips h =
    let few : rounded_up (length strips) (strip_bytes (n_of s)) ≤ run_strips = rounded_few (length strips) (strip_bytes (n_of s)) run_strips (strip-pos (n_of s)) (omega (arith, ok.strips)) in
    record {
      parts_fit = le_trans (mul-le-mul_right (part_bytes (n_of s)) (le_trans (le_of_eq (part-count s ch [] ok.small ok.two strips)) few)) ok.parts_fit;
      records_fit = le_trans (mul-le-mul_right head_bytes (le_trans (le_of_eq (record_count_lem s ch [] ok.small ok.two strips)) few)) ok.records_fit;
    }

module _ (s ch : List ℕ) (n : ℕ) (e : n ≡ n_of s) where
  -- the parts of the longest run fit, so those of any run do
  pub ready : n ≤ largest_n → length ch ≡ 2 → (run l m : ℕ) → run ≡ run_strips * strip_bytes n → l ≡ run_strips * part_bytes largest_n → m ≡ run_strips * head_bytes → Ready s ch run l m
  unfolding part_bytes run_strips
  ready h q run l m er el em =
      let low = pow_mono {i = n} {j = largest_n} h in
      record {
        small = rw (← e) h;
        two = q;
        strips = er ∙ ap (λ (k : ℕ). run_strips * strip_bytes k) e;
        parts_fit = rw (← e) (omega (arith, low, el));
        records_fit = omega (arith, em);
      }

-- the strips of a run, as the code has them
pub run_is : (n : ℕ) → n ≤ largest_n → (16 * 64 * 2 ^ n % 2 ^ 64 ≡ run_strips * strip_bytes n) × (run_strips * strip_bytes n ≤ run_strips * strip_bytes largest_n)
unfolding largest_n run_strips strip_bytes
run_is n h = let l = pow_mono {i = n} {j = largest_n} h in (omega (arith, l), omega (arith, l))

-- ---- what is filled in

-- what `answer` leaves, given room
module _ (s ch lost strips found x found' y : List ℕ) (a : Answer) (k A j : ℕ) where
  pub filled_in_lem : (lent : List ℕ) → lent ≡ strips → leaving_both x y a ≡ answering_strips s ch lost lent found found' → Room s ch strips (length found) (length found')
      → k ≡ part_count s ch lent → A ≡ part_bytes (n_of s) → j ≡ record_count s ch lent → Filled s ch lost strips found x found' y (k * A) (j * head_bytes)
  filled_in_lem lent same p room ek eA ej =
      let w = room-written s ch lost strips found found' x y a (rw same at p) room.records_fit room.parts_fit in
      let eK : k * A ≡ part_count s ch strips * part_bytes (n_of s) = ap (λ (t : ℕ). t * A) (ek ∙ ap (part_count s ch) same) ∙ ap (λ (t : ℕ). part_count s ch strips * t) eA in
      let eJ : j * head_bytes ≡ record_count s ch strips * head_bytes = ap (λ (t : ℕ). t * head_bytes) (ej ∙ ap (record_count s ch) same) in
      record {
        parts_long = eK ∙ sym (parts-bytes s ch lost strips);
        parted = w.1 ∙ ap (λ (t : ℕ). flatten (parts s ch lost strips) ++ drop t found) (sym eK);
        records_long = eJ ∙ sym (headers-bytes s ch lost strips);
        headed = w.2 ∙ ap (λ (t : ℕ). flatten (headers s ch lost strips) ++ drop t found') (sym eJ);
      }
